use Rattle.std.proofs.Common.{◌≡◌, map, take}
use Rattle.ecma_forest.specs.Scanning.{scanned}
use Rattle.ecma_forest.specs.Slots.{grown}
use Rattle.ecma_forest.proofs.forest.Forest.scan.Given as goal

abbrev pub invariant-loop-slot : goal.invariant-loop-slot
invariant-loop-slot g l = l.made.items ≡ map (scanned (g.S.Scan.step l.scan)) (take l.slot-index (grown l.self-inside.kinds l.self-inside.below.items))
