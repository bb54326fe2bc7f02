use Rattle.ecma_lower_enums_sources.proofs.Kept.{writing_enums_makes_no_names}
use Rattle.ecma_lower_enums_sources.proofs.writing_enums_makes_no_names.Goals as goal

pub returns : goal.returns
returns c = writing_enums_makes_no_names
