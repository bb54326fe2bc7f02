use Rattle.ecma_strip.proofs.Sorting as sorting
use Rattle.ecma_strip.proofs.laws.sorts_are_kept.Goals as goal

pub returns : goal.returns
returns c = sorting.sorts_are_kept
