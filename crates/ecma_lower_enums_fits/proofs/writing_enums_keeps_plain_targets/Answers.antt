use Rattle.ecma_lower_enums_fits.proofs.Plain.{writing_enums_keeps_plain_targets}
use Rattle.ecma_lower_enums_fits.proofs.writing_enums_keeps_plain_targets.Goals as goal

pub returns : goal.returns
returns c = writing_enums_keeps_plain_targets
