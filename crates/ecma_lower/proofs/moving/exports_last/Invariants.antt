use Rattle.std.proofs.Common.{◌≡◌, not}
use Rattle.std.specs.List.{filter}
use Rattle.ecma_lower.specs.Assignments.{is_export_assignment}
use Rattle.ecma_lower.proofs.moving.exports_last.Given as goal

-- those so far, in two lists
abbrev pub invariant-loop-item : goal.invariant-loop-item
invariant-loop-item l = (l.others ≡ filter (λ item. not (is_export_assignment item)) l.yielded) × (l.exports ≡ filter is_export_assignment l.yielded)
