use Rattle.ecma_lower_enums_strip.proofs.Law.{enums_before_or_after_alike}
use Rattle.ecma_lower_enums_strip.proofs.laws.enums_before_or_after_alike.Goals as goal

pub returns : goal.returns
returns c = enums_before_or_after_alike
