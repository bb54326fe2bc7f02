-- Laws of renamers.
use Rattle.std.specs.Prelude.{◌≡◌, Bool, true, false, ◌||◌, List, if◌then◌else◌}
use Rattle.std.specs.List.{list_any}
use Rattle.ecma_kind.specs.declared.ident.Ident.{Ident}
use Rattle.ecma_kind.specs.declared.kind.Kind.{Kind}
use Rattle.ecma_kind.specs.declared.kind.Kind.TheVariants as kind
use Rattle.ecma_tree.specs.declared.node.Node.{Node, Node-F, fold-Node}
use Rattle.ecma_tree.specs.Spans.{without_spans}
use Rattle.ecma_renamers.specs.Renamers.{Id, ident_id, ident_replacing, same_id}
use Rattle.ecma_renamers.specs.Renaming.{is_type, renamed}

abbrev pub has_id : Id → Kind → Bool
has_id id (kind.Ident sym ctxt optional) = same_id id (sym, ctxt)
has_id id _ = false

abbrev pub stands_here : Id → Node-F Bool → Bool
stands_here id parts = if is_type parts.kind then false else has_id id parts.kind || list_any (λ b. b) parts.children

-- whether an identifier of this id stands in a tree, outside types
abbrev pub stands_in : Id → Node → Bool
stands_in id = fold-Node Bool (stands_here id)

-- where an identifier of another id is put in the place of each of an id, none of that id stands outside types
abbrev pub ReplacingLeavesNone : Type 0
ReplacingLeavesNone = (from : Id) (to : Ident) → same_id from (ident_id to) ≡ false → (tree : Node) → stands_in from (renamed (ident_replacing from to) tree) ≡ false

-- to drop spans twice is to drop them once
abbrev pub DroppingSpansTwiceIsDroppingThemOnce : Type 0
DroppingSpansTwiceIsDroppingThemOnce = (tree : Node) → without_spans (without_spans tree) ≡ without_spans tree
