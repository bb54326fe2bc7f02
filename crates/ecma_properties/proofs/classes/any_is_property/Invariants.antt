use Rattle.std.proofs.Common.{◌≡◌, drop}
use Rattle.std.specs.List.{list_any}
use Rattle.ecma_properties.specs.Classes.{is_property}
use Rattle.ecma_properties.proofs.classes.any_is_property.Given as goal

-- the parameters that are left decide
abbrev pub invariant-loop-parameter : goal.invariant-loop-parameter
invariant-loop-parameter l = list_any is_property (drop l.parameter-index l.parameters) ≡ list_any is_property l.parameters
