use Rattle.ecma_function_environment.proofs.Needed.{each-has-one}
use Rattle.ecma_function_environment.proofs.laws.each_need_has_one_name.Goals as goal

pub returns : goal.returns
returns c = each-has-one
