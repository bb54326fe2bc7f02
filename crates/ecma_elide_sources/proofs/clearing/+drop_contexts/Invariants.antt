use Rattle.std.proofs.Common.{◌≡◌}
use Rattle.ecma_tree.specs.Contexts.{kind_with_context}
use Rattle.ecma_tree.proofs.Changing.{front_changed}
use Rattle.ecma_elide_sources.proofs.clearing.+drop_contexts.Given as goal

abbrev pub invariant-loop-i : goal.invariant-loop-i
invariant-loop-i l = l.node ≡ front_changed (λ span. span) (kind_with_context (λ sym ctxt. 0)) l.fn.node l.i
