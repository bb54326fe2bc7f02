use Rattle.std.proofs.Common.{◌≡◌, drop}
use Rattle.std.specs.List.{list_all}
use Rattle.ecma_fits.specs.Counts.{is_attribute}
use Rattle.ecma_fits.proofs.counts.are_attributes.Given as goal

-- what is left to be looked at decides
abbrev pub invariant-loop-item : goal.invariant-loop-item
invariant-loop-item l = list_all is_attribute (drop l.item-index l.items) ≡ list_all is_attribute l.items
