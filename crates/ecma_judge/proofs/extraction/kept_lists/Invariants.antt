use Rattle.std.proofs.Common.{◌≡◌}
use Rattle.ecma_judge.specs.Extraction.{kept_lists}
use Rattle.ecma_judge.proofs.extraction.kept_lists.Given as goal

-- the lists so far are kept
abbrev pub invariant-loop-list : goal.invariant-loop-list
invariant-loop-list l = l.kept ≡ kept_lists l.ctx l.yielded
