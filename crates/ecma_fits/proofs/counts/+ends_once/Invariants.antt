use Rattle.std.proofs.Common.{ℕ, length}
use Rattle.ecma_fits.proofs.counts.+ends_once.Given as goal

abbrev pub decreases-ends_once : goal.decreases-ends_once
decreases-ends_once l = length l.parts.now
