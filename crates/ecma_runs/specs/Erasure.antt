-- The tree without types, as far as they stand in what runs: a rewriting, node by node.
use Rattle.std.specs.Prelude.{Bool, true, false, List, filter}
use Rattle.ecma_kind.specs.declared.kind.Kind.{Kind}
use Rattle.ecma_kind.specs.declared.kind.Kind.TheVariants as kind
use Rattle.ecma_tree.specs.declared.node.Node.{Node, Node-F, out-Node}
use Rattle.ecma_tree.specs.Nodes.{absent, node_of}
use Rattle.ecma_tree.specs.Rewritten.{rewritten}
use Rattle.ecma_runs.specs.Wrappers.{unwrapped_by}

-- what stays in a list: all but interfaces and type aliases
abbrev pub stays_by : Kind → Bool
stays_by (kind.TsInterfaceDecl declare) = false
stays_by (kind.TsTypeAliasDecl declare) = false
stays_by _ = true

abbrev pub stays : Node → Bool
stays n = stays_by (out-Node n).kind

-- a node whose children have no types any more: annotations, type parameters and type arguments are missing then, an expression with a type
-- round it is the expression, and interfaces and type aliases are gone from lists
abbrev pub erased_by : Kind → List Node → Node-F Node → Node
erased_by kind.TsTypeAnn children parts = absent
erased_by kind.TsTypeParamDecl children parts = absent
erased_by kind.TsTypeParamInstantiation children parts = absent
erased_by kind.List items parts = node_of parts.span kind.List (filter stays items)
erased_by k children parts = unwrapped_by k children parts

abbrev pub erased : Node-F Node → Node
erased parts = erased_by parts.kind parts.children parts

-- the tree without its types
abbrev pub without_types : Node → Node
without_types = rewritten erased
