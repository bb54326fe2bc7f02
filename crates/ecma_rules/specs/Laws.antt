-- What finishing keeps.
use Rattle.std.specs.Prelude.{◌≡◌, Bool, true, false, cond, List, [], ◌∷◌}
use Rattle.ecma_kind.specs.declared.span.Span.{Span}
use Rattle.ecma_kind.specs.declared.kind.Kind.{Kind}
use Rattle.ecma_kind.specs.declared.kind.Kind.TheVariants as kind
use Rattle.ecma_tree.specs.declared.node.Node.{Node}
use Rattle.ecma_tree.specs.Gathering.{gathered}
use Rattle.ecma_rules.specs.Finishing.{finished}

-- the kinds that finishing takes for each other, and those of the nodes that it adds
abbrev pub is_turned : Kind → Bool
is_turned kind.Absent = true
is_turned kind.ArrayLit = true
is_turned (kind.ArrayPat optional) = true
is_turned kind.ObjectLit = true
is_turned (kind.ObjectPat optional) = true
is_turned kind.SpreadElement = true
is_turned kind.RestPat = true
is_turned (kind.AssignExpr op) = true
is_turned kind.AssignPat = true
is_turned kind.KeyValueProp = true
is_turned kind.KeyValuePatProp = true
is_turned kind.AssignProp = true
is_turned kind.AssignPatProp = true
is_turned kind.BindingIdent = true
is_turned _ = false

abbrev pub Placed : Type 0
Placed = Span × Kind

abbrev pub other_here : Span → Kind → List Placed
other_here span k = cond (is_turned k) [] ((span, k) ∷ [])

-- all other nodes, each with its span and its kind, in the order of the tree
abbrev pub others_of : Node → List Placed
others_of = gathered Placed other_here

-- are the same in the finished tree
abbrev pub FinishingKeepsOthers : Type 0
FinishingKeepsOthers = (raw : Node) → others_of (finished raw) ≡ others_of raw
