use Rattle.std.proofs.Common.{◌≡◌}
use Rattle.ecma_tree.proofs.Changing.{front_changed, nowhere, same}
use Rattle.ecma_tree.proofs.spans.+drop_spans.Given as goal

abbrev pub invariant-loop-i : goal.invariant-loop-i
invariant-loop-i l = l.node ≡ front_changed nowhere same l.fn.node l.i
