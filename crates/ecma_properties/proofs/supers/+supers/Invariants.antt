use Rattle.std.proofs.Common.{◌≡◌, ◌+◌, ◌*◌}
use Rattle.ecma_tree.specs.declared.node.Node.{size-Node}
use Rattle.ecma_properties.specs.Supers.{cut, supers_in}
use Rattle.ecma_properties.proofs.Counting.{rest}
use Rattle.ecma_properties.proofs.supers.+supers.Given as goal

-- those so far, and those of the other children
abbrev pub invariant-supers_in-loop-i : goal.invariant-supers_in-loop-i
invariant-supers_in-loop-i l = (cut (l.all + rest l.node l.i) ≡ cut (supers_in l.node)) × (cut l.all ≡ l.all)

abbrev pub decreases-supers_in : goal.decreases-supers_in
decreases-supers_in l = 2 * size-Node l.node.now + 1

abbrev pub decreases-supers_within : goal.decreases-supers_within
decreases-supers_within l = 2 * size-Node l.node.now
