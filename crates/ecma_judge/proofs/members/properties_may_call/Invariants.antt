use Rattle.std.proofs.Common.{◌≡◌, drop}
use Rattle.std.specs.List.{list_any}
use Rattle.ecma_judge.specs.Effects.{properties_may_call, property_may_call}
use Rattle.ecma_judge.proofs.members.properties_may_call.Given as goal

-- the properties that are left decide
abbrev pub invariant-loop-property : goal.invariant-loop-property
invariant-loop-property l = list_any property_may_call (drop l.property-index l.property-items) ≡ properties_may_call l.properties
