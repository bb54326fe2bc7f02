use Rattle.std.proofs.Common.{◌≡◌}
use Rattle.ecma_judge.specs.Extraction.{kept_items}
use Rattle.ecma_judge.proofs.extraction.kept_items.Given as goal

-- of those so far the ones with effects are kept
abbrev pub invariant-loop-item : goal.invariant-loop-item
invariant-loop-item l = l.kept ≡ kept_items l.ctx l.yielded
