use Rattle.std.proofs.Common.{◌≡◌, ◌+◌, ◌*◌, map, drop}
use Rattle.ecma_tree.specs.declared.node.Node.{size-Node}
use Rattle.ecma_judge.specs.Judged.{judged, kids_of}
use Rattle.ecma_judge.specs.Judgement.{any_has_effects}
use Rattle.ecma_judge.proofs.effects.+effects.Given as goal

-- the children that are left decide
abbrev pub invariant-any_has_effects-loop-child : goal.invariant-any_has_effects-loop-child
invariant-any_has_effects-loop-child l =
    any_has_effects (map (judged l.ctx) (drop l.child-index l.child-items)) ≡ any_has_effects (kids_of l.ctx l.node)

abbrev pub decreases-has_effects : goal.decreases-has_effects
decreases-has_effects l = 6 * size-Node l.node.now + 5

abbrev pub decreases-expr_effects : goal.decreases-expr_effects
decreases-expr_effects l = 6 * size-Node l.node.now + 4

abbrev pub decreases-access_effects : goal.decreases-access_effects
decreases-access_effects l = 6 * size-Node l.node.now + 3

abbrev pub decreases-part_effects : goal.decreases-part_effects
decreases-part_effects l = 6 * size-Node l.node.now + 2

abbrev pub decreases-first_two_have_effects : goal.decreases-first_two_have_effects
decreases-first_two_have_effects l = 6 * size-Node l.node.now + 1

abbrev pub decreases-effects_at : goal.decreases-effects_at
decreases-effects_at l = 6 * size-Node l.node.now

abbrev pub decreases-any_has_effects : goal.decreases-any_has_effects
decreases-any_has_effects l = 6 * size-Node l.node.now
