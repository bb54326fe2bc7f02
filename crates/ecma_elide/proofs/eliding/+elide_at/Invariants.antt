use Rattle.std.proofs.Common.{◌≡◌}
use Rattle.ecma_tree.specs.declared.node.Node.{size-Node}
use Rattle.ecma_elide.specs.Sets.{known_by}
use Rattle.ecma_elide.proofs.Fronted.{front}
use Rattle.ecma_elide.proofs.eliding.+elide_at.Given as goal

-- of what stays, the first i are done
abbrev pub invariant-loop-i : goal.invariant-loop-i
invariant-loop-i l = l.node ≡ front (known_by l.names) l.seat l.fn.node l.i

abbrev pub decreases-elide_at : goal.decreases-elide_at
decreases-elide_at l = size-Node l.node.now
