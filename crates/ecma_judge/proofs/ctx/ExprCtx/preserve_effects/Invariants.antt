use Rattle.std.proofs.Common.{◌≡◌}
use Rattle.ecma_judge.specs.Extraction.{extracted_all}
use Rattle.ecma_judge.proofs.ctx.ExprCtx.preserve_effects.Given as goal

-- what is extracted of those so far
abbrev pub invariant-loop-expr : goal.invariant-loop-expr
invariant-loop-expr l = l.effects ≡ extracted_all l.self l.yielded
