-- A raw tree without what its types hold. A type holds what was read in it, since the rules are asked of that; the finished tree has only its place.
use Rattle.std.specs.Prelude.{Bool, true, false, List, [], take}
use Rattle.ecma_kind.specs.declared.kind.Kind.{Kind}
use Rattle.ecma_kind.specs.declared.kind.Kind.TheVariants as kind
use Rattle.ecma_tree.specs.Nodes.{node_of}
use Rattle.ecma_tree.specs.declared.node.Node.{Node, Node-F, fold-Node}

-- the children of a node of this kind that stay: none of a type, and the name of one that is declared
--   let a: (b: c) => d;   // a TsType, which holds a signature
--   type A = (b: c) => d;   // a TsTypeAliasDecl, which holds its name and a signature
abbrev pub own_children : Kind → List Node → List Node
own_children kind.TsType children = []
own_children kind.TsTypeParamDecl children = []
own_children kind.TsTypeParamInstantiation children = []
own_children (kind.TsIndexSignature readonly is_static) children = []
own_children (kind.TsInterfaceDecl declare) children = take 1 children
own_children (kind.TsTypeAliasDecl declare) children = take 1 children
own_children _ children = children

abbrev pub bared_step : Node-F Node → Node
bared_step parts = node_of parts.span parts.kind (own_children parts.kind parts.children)

-- the tree whose types hold nothing
abbrev pub bared : Node → Node
bared = fold-Node Node bared_step

-- a node of this kind holds types, which are not its own children
abbrev pub holds_types : Kind → Bool
holds_types kind.TsType = true
holds_types kind.TsTypeParamDecl = true
holds_types kind.TsTypeParamInstantiation = true
holds_types (kind.TsIndexSignature readonly is_static) = true
holds_types (kind.TsInterfaceDecl declare) = true
holds_types (kind.TsTypeAliasDecl declare) = true
holds_types _ = false
