-- Trees in which there are no types.
use Rattle.std.specs.Prelude.{◌≡◌, Bool, true, ◌&&◌, not, List, map, Option, Some, None, slice_get}
use Rattle.std.specs.List.{list_all}
use Rattle.ecma_kind.specs.declared.kind.Kind.{Kind}
use Rattle.ecma_kind.specs.declared.kind.Kind.TheVariants as kind
use Rattle.ecma_tree.specs.Nodes.{node_of}
use Rattle.ecma_tree.specs.Sorted.{is_absent}
use Rattle.ecma_tree.specs.declared.node.Node.{Node, Node-F, fold-Node, out-Node}
use Rattle.ecma_strip.specs.Laws.{is_type_part}
use Rattle.ecma_strip.specs.Staying.{is_empty_stmt, item_stays, stays}
use Rattle.ecma_strip.specs.Stripping.{stripped}

-- of a child that may be missing: what a test says of it where it is there
abbrev pub unless_missing : Option Node → (Node → Bool) → Bool
unless_missing None test = true
unless_missing (Some n) test = test n

-- a list without empty statements
abbrev pub has_no_empty : Node → Bool
has_no_empty list = list_all (λ n. not (is_empty_stmt (out-Node n).kind)) (out-Node list).children

-- whether the children of a node stay: all items of a list, and what its kind asks of lists of statements, of bodies and of the `this` of a setter
unfoldable pub children_stay : Kind → List Node → Bool
children_stay kind.List items = list_all stays items
children_stay (kind.Module shebang) children = unless_missing (slice_get children 0) has_no_empty
children_stay (kind.Script shebang) children = unless_missing (slice_get children 0) has_no_empty
children_stay kind.BlockStmt children = unless_missing (slice_get children 0) has_no_empty
children_stay kind.TsModuleBlock children = unless_missing (slice_get children 0) has_no_empty
children_stay kind.SwitchCase children = unless_missing (slice_get children 1) has_no_empty
children_stay kind.IfStmt children = unless_missing (slice_get children 1) item_stays && unless_missing (slice_get children 2) item_stays
children_stay kind.LabeledStmt children = unless_missing (slice_get children 1) item_stays
children_stay kind.WhileStmt children = unless_missing (slice_get children 1) item_stays
children_stay kind.DoWhileStmt children = unless_missing (slice_get children 1) item_stays
children_stay kind.ForStmt children = unless_missing (slice_get children 3) item_stays
children_stay kind.ForInStmt children = unless_missing (slice_get children 2) item_stays
children_stay (kind.ForOfStmt is_await) children = unless_missing (slice_get children 2) item_stays
children_stay kind.SetterProp children = unless_missing (slice_get children 1) (λ n. is_absent (out-Node n).kind)
children_stay _ children = true

-- a node, and whether there are no types in it
pub record Seen : Type 0 where
  pub node : Node
  pub has_none : Bool

abbrev pub seen_step : Node-F Seen → Seen
seen_step parts =
    let children = map (λ seen. seen.node) parts.children in
    record { node = node_of parts.span parts.kind children; has_none = (not (is_type_part parts.kind) && children_stay parts.kind children) && list_all (λ seen. seen.has_none) parts.children }

-- whether there are no types in a tree, all the way down
--   let a = b; function f(c) { }   // none
--   let a: T; interface A { }   // some
abbrev pub has_no_types : Node → Bool
has_no_types node = (fold-Node Seen seen_step node).has_none

-- such a tree stays as it is, spans, order and data of its nodes
abbrev pub TreesWithoutTypesStay : Type 0
TreesWithoutTypesStay = (tree : Node) → has_no_types tree ≡ true → stripped tree ≡ tree
