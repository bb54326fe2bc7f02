use Rattle.ecma_lower_enums_forms.proofs.Law.{written_enums_need_no_lowering}
use Rattle.ecma_lower_enums_forms.proofs.written_enums_need_no_lowering.Goals as goal

pub returns : goal.returns
returns c = written_enums_need_no_lowering
