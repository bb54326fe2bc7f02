use Rattle.std.proofs.Common.{◌≡◌, drop}
use Rattle.std.specs.List.{list_all}
use Rattle.ecma_judge.specs.PureCallees.{are_plain_params, is_plain_param}
use Rattle.ecma_judge.proofs.callees.are_plain_params.Given as goal

-- the parameters that are left decide
abbrev pub invariant-loop-param : goal.invariant-loop-param
invariant-loop-param l = list_all is_plain_param (drop l.param-index l.param-items) ≡ are_plain_params l.params
