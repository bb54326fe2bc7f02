use Rattle.std.proofs.Common.{◌≡◌, drop, slice_get}
use Rattle.ecma_lower.specs.Assignments.{is_assignment}
use Rattle.ecma_lower.specs.Checking.{places_of}
use Rattle.ecma_lower.proofs.checking.nth_place.Given as goal

-- what is sought is sought in what is left
abbrev pub invariant-loop-i : goal.invariant-loop-i
invariant-loop-i l = slice_get (places_of (is_assignment l.form) l.items) l.n ≡ slice_get (places_of (is_assignment l.form) (drop l.i l.items)) l.left
