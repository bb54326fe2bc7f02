use Rattle.std.proofs.Common.{◌≡◌, drop}
use Rattle.std.specs.List.{list_any}
use Rattle.ecma_judge.specs.Extraction.{has_kept, is_kept}
use Rattle.ecma_judge.specs.Parts.{has_kind}
use Rattle.ecma_judge.proofs.ways.has_kept.Given as goal

-- the properties that are left decide
abbrev pub invariant-loop-property : goal.invariant-loop-property
invariant-loop-property l = list_any (has_kind is_kept) (drop l.property-index l.property-items) ≡ has_kept l.properties
