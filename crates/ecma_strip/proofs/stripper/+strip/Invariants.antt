use Rattle.std.proofs.Common.{◌≡◌}
use Rattle.ecma_tree.proofs.Fronts.{front}
use Rattle.ecma_strip.specs.Stripping.{stripped}
use Rattle.ecma_strip.proofs.stripper.+strip.Given as goal

-- of what is left, the first i are stripped
abbrev pub invariant-loop-i : goal.invariant-loop-i
invariant-loop-i l = l.node ≡ front stripped (λ span. span) (λ kind. kind) l.initial.node l.i
