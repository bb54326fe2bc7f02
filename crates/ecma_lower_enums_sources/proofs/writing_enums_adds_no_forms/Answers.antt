use Rattle.ecma_lower_enums_sources.proofs.ClausesKept.{writing_enums_adds_no_forms}
use Rattle.ecma_lower_enums_sources.proofs.writing_enums_adds_no_forms.Goals as goal

pub returns : goal.returns
returns c = writing_enums_adds_no_forms
