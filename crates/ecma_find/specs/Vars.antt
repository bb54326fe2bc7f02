-- Names as what `var` declares.
use Rattle.std.specs.Prelude.{false, List, [], ◌∷◌, Option, Some, None, map}
use Rattle.ecma_kind.specs.declared.ident.Ident.{Ident}
use Rattle.ecma_kind.specs.declared.kind.Kind.TheVariants as kind
use Rattle.ecma_kind.specs.declared.operators.VarDeclKind.TheVariants.{Var}
use Rattle.ecma_tree.specs.declared.node.Node.{Node}
use Rattle.ecma_kind.specs.declared.shapes.Sort.TheVariants as sort
use Rattle.ecma_tree.specs.Sorted.{one}
use Rattle.ecma_idents.specs.Identities.{binding_of, plain_ident}
use Rattle.ecma_find.specs.declared.finder.Finder.TheVariants as finder
use Rattle.ecma_find.specs.Finders.{rules_of}
use Rattle.ecma_find.specs.Found.{place_of, taken_among}
use Rattle.ecma_find.specs.Names.{name_as}
use Rattle.ecma_tree.specs.Nodes.{absent, dummy_span, list_node, node_of}

-- the declarator of a name, without a value; it stands where the name stood
abbrev pub declarator : Ident → Node
declarator ident = node_of ident.span (kind.VarDeclarator false) (binding_of ident ∷ absent ∷ [])

-- `var` with these names; none where there are none
abbrev pub var_of : List Ident → Option Node
var_of [] = None
var_of (ident ∷ idents) = Some (node_of dummy_span (kind.VarDecl Var false) (list_node (map declarator (ident ∷ idents)) ∷ []))

-- the names that `var` and function declarations declare in statements
abbrev pub var_ids_among : List Node → List Ident
var_ids_among stmts = taken_among Ident (name_as Ident plain_ident) (rules_of finder.Vars) (place_of (one sort.Stmt) false) stmts
