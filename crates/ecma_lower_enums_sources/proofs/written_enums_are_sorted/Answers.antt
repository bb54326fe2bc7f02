use Rattle.ecma_lower_enums_sources.proofs.SortsKept.{written_enums_are_sorted}
use Rattle.ecma_lower_enums_sources.proofs.written_enums_are_sorted.Goals as goal

pub returns : goal.returns
returns c = written_enums_are_sorted
