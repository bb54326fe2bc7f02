use Rattle.std.proofs.Common.{◌≡◌, ◌+◌, ◌*◌}
use Rattle.ecma_scope.specs.Drawing.{HasGivenAtMost}
use Rattle.ecma_scope.specs.Frames.{children_count, plain_places, scope_places}
use Rattle.ecma_scope.proofs.Resolving.{Done}
use Rattle.ecma_tree.proofs.Weights.{weight}
use Rattle.ecma_scope.proofs.resolver.+resolving.Given as goal

-- the first i children are in their contexts
abbrev pub invariant-resolve_children-loop-i : goal.invariant-resolve_children-loop-i
invariant-resolve_children-loop-i l = record {
  done : Done l.given.unresolved l.given.top (plain_places l.role l.fn.frames l.fn.node) l.fn.node l.node l.fn.session.left l.i l.session.left;
  frames : l.frames ≡ l.fn.frames;
  given : HasGivenAtMost (children_count l.fn.node l.role) l.fn.session l.session;
}

abbrev pub invariant-resolve_scope-loop-i : goal.invariant-resolve_scope-loop-i
invariant-resolve_scope-loop-i l = record {
  done : Done l.given.unresolved l.given.top (scope_places l.role l.fn.frames l.fn.scope l.fn.node) l.fn.node l.node l.fn.session.left l.i l.session.left;
  frames : l.frames ≡ l.fn.frames;
  scope : l.scope ≡ l.fn.scope;
  given : HasGivenAtMost (children_count l.fn.node l.role) l.fn.session l.session;
}

abbrev pub decreases-resolve_in : goal.decreases-resolve_in
decreases-resolve_in l = 5 * weight l.node.now + 3

abbrev pub decreases-resolve_below : goal.decreases-resolve_below
decreases-resolve_below l = 5 * weight l.node.now + 2

abbrev pub decreases-resolve_opening : goal.decreases-resolve_opening
decreases-resolve_opening l = 5 * weight l.node.now + 1

abbrev pub decreases-resolve_children : goal.decreases-resolve_children
decreases-resolve_children l = 5 * weight l.node.now

abbrev pub decreases-resolve_scope : goal.decreases-resolve_scope
decreases-resolve_scope l = 5 * weight l.node.now

abbrev pub decreases-resolve_inside : goal.decreases-resolve_inside
decreases-resolve_inside l = 5 * weight l.node.now + 4
