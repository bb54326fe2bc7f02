use Rattle.std.proofs.Common.{◌≡◌, ◌++◌}
use Rattle.ecma_tree.specs.declared.node.Node.{size-Node}
use Rattle.ecma_function_environment.specs.Hoisting.{needs}
use Rattle.ecma_function_environment.proofs.Hoisted.{needs_rest}
use Rattle.ecma_function_environment.proofs.hoisting.+push_needs.Given as goal

-- what is there, and what the other children need
abbrev pub invariant-loop-i : goal.invariant-loop-i
invariant-loop-i l = l.to ++ needs_rest l.flags l.seat l.node l.i ≡ l.fn.to ++ needs l.flags l.node l.seat

abbrev pub decreases-push_needs : goal.decreases-push_needs
decreases-push_needs l = size-Node l.node.now
