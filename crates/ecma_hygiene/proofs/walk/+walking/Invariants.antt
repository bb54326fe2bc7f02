use Rattle.std.proofs.Common.{◌≡◌, ◌++◌, ◌+◌, ◌*◌, None, Some, map}
use Rattle.ecma_tree.specs.declared.node.Node.{out-Node}
use Rattle.ecma_tree.proofs.Weights.{weight}
use Rattle.ecma_hygiene.specs.declared.sight.Meeting.{Meeting}
use Rattle.ecma_hygiene.specs.declared.sight.Sight.{Sight}
use Rattle.ecma_hygiene.specs.Frames.{around_children}
use Rattle.ecma_hygiene.specs.Sights.{Around, around_child, meetings_at, meets, sight_here, sights_at}
use Rattle.ecma_hygiene.specs.Walks.{gathered_from}
use Rattle.ecma_hygiene.proofs.Walking.{rest}
use Rattle.ecma_hygiene.proofs.walk.+walking.Given as goal

-- what is there, and what the other children give
abbrev pub invariant-walk_children-loop-i : goal.invariant-walk_children-loop-i
invariant-walk_children-loop-i l = record {
  sights : l.found.sights ++ rest Around Sight sight_here around_child (around_children l.role l.soughts l.fn.frames None l.node) l.node l.i
      ≡ l.fn.found.sights ++ gathered_from Around Sight (around_children l.role l.soughts l.fn.frames None l.node) 0 (map sights_at (out-Node l.node).children);
  meetings : l.found.meetings ++ rest Around Meeting meets around_child (around_children l.role l.soughts l.fn.frames None l.node) l.node l.i
      ≡ l.fn.found.meetings ++ gathered_from Around Meeting (around_children l.role l.soughts l.fn.frames None l.node) 0 (map meetings_at (out-Node l.node).children);
  frames : l.frames ≡ l.fn.frames;
}

abbrev pub invariant-walk_scope-loop-i : goal.invariant-walk_scope-loop-i
invariant-walk_scope-loop-i l = record {
  sights : l.found.sights ++ rest Around Sight sight_here around_child (around_children l.role l.soughts l.fn.frames (Some l.fn.scope) l.node) l.node l.i
      ≡ l.fn.found.sights ++ gathered_from Around Sight (around_children l.role l.soughts l.fn.frames (Some l.fn.scope) l.node) 0 (map sights_at (out-Node l.node).children);
  meetings : l.found.meetings ++ rest Around Meeting meets around_child (around_children l.role l.soughts l.fn.frames (Some l.fn.scope) l.node) l.node l.i
      ≡ l.fn.found.meetings ++ gathered_from Around Meeting (around_children l.role l.soughts l.fn.frames (Some l.fn.scope) l.node) 0 (map meetings_at (out-Node l.node).children);
  frames : l.frames ≡ l.fn.frames;
  scope : l.scope ≡ l.fn.scope;
}

abbrev pub decreases-walk : goal.decreases-walk
decreases-walk l = 4 * weight l.node.now + 2

abbrev pub decreases-walk_opened : goal.decreases-walk_opened
decreases-walk_opened l = 4 * weight l.node.now + 1

abbrev pub decreases-walk_children : goal.decreases-walk_children
decreases-walk_children l = 4 * weight l.node.now

abbrev pub decreases-walk_within : goal.decreases-walk_within
decreases-walk_within l = 4 * weight l.child.now + 3

abbrev pub decreases-walk_scope : goal.decreases-walk_scope
decreases-walk_scope l = 4 * weight l.node.now

abbrev pub decreases-walk_covered : goal.decreases-walk_covered
decreases-walk_covered l = 4 * weight l.node.now + 3
