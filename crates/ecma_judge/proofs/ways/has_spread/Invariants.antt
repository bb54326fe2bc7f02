use Rattle.std.proofs.Common.{◌≡◌, drop}
use Rattle.std.specs.List.{list_any}
use Rattle.ecma_judge.specs.Extraction.{has_spread}
use Rattle.ecma_judge.specs.Parts.{has_kind, is_spread}
use Rattle.ecma_judge.proofs.ways.has_spread.Given as goal

-- the items that are left decide
abbrev pub invariant-loop-item : goal.invariant-loop-item
invariant-loop-item l = list_any (has_kind is_spread) (drop l.item-index l.item-items) ≡ has_spread l.items
