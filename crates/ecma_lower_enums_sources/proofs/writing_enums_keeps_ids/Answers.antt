use Rattle.ecma_lower_enums_sources.proofs.Kept.{writing_enums_keeps_ids}
use Rattle.ecma_lower_enums_sources.proofs.writing_enums_keeps_ids.Goals as goal

pub returns : goal.returns
returns c = writing_enums_keeps_ids
