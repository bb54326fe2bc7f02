use Rattle.ecma_lower_enums_sources.proofs.Kept.{writing_enums_keeps_names_short}
use Rattle.ecma_lower_enums_sources.proofs.writing_enums_keeps_names_short.Goals as goal

pub returns : goal.returns
returns c = writing_enums_keeps_names_short
