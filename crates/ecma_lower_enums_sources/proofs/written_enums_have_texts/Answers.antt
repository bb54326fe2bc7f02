use Rattle.ecma_lower_enums_sources.proofs.Kept.{written_enums_have_texts}
use Rattle.ecma_lower_enums_sources.proofs.written_enums_have_texts.Goals as goal

pub returns : goal.returns
returns c = written_enums_have_texts
