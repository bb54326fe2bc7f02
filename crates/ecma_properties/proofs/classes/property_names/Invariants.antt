use Rattle.std.proofs.Common.{◌≡◌, ◌++◌, drop}
use Rattle.std.specs.List.{filter_map}
use Rattle.ecma_properties.specs.Classes.{parameters_of, property_name, property_names}
use Rattle.ecma_properties.proofs.classes.property_names.Given as goal

-- the names so far, and those of the parameters that are left
abbrev pub invariant-loop-parameter : goal.invariant-loop-parameter
invariant-loop-parameter l = l.names ++ filter_map property_name (drop l.parameter-index (parameters_of l.class)) ≡ property_names l.class
