-- What stands in the first part of the head of a loop (ECMAScript, 14.7.4, 14.7.5).
use Rattle.std.specs.Prelude.{◌≡◌, true, false}
use Rattle.ecma_kind.specs.declared.shapes.Sort.TheVariants.{Expr}
use Rattle.ecma_tree.specs.declared.node.Node.{Node}
use Rattle.ecma_tree.specs.Sorted.{HasSort}
use Rattle.ecma_print.specs.declared.place.Spot.{Spot}
use Rattle.ecma_covers.specs.Covering.{cover}
use Rattle.ecma_print_parentheses.specs.Lacking.{complete}
use Rattle.ecma_shapes.specs.Heads.{may_hold_in}

-- in a spot where `in` is no operator an expression that lacks no parentheses has no `in` outside of brackets
abbrev pub HeadsHoldNoBareIn : Type 0
HeadsHoldNoBareIn = (e : Node) (spot : Spot) → HasSort Expr e → spot.without_in ≡ true → (complete e).at spot ≡ true → may_hold_in e ≡ false

-- so has its raw tree, in which literals stand in the place of patterns that are assigned to
abbrev pub CoversHoldNoBareIn : Type 0
CoversHoldNoBareIn = (e : Node) → may_hold_in e ≡ false → may_hold_in (cover e) ≡ false
