use Rattle.std.proofs.Common.{◌≡◌, ◌<◌, [], List, ℕ, length, take}
use Rattle.ecma_scope.specs.Indexed.{states_of}
use Rattle.ecma_scope.specs.Clashes.{clashes_among, first_clash, sooner}
use Rattle.ecma_scope.specs.Meetings.{met_in, met_of}
use Rattle.ecma_scope.proofs.Clashing.{among_from}
use Rattle.ecma_scope.proofs.conflicts.first_among.Given as goal

-- the first i are looked at, and they have met where another one is left
abbrev pub invariant-loop-i : goal.invariant-loop-i
invariant-loop-i l = record {
  same : first_clash (clashes_among l.role (states_of l.around) [] l.fn.names) ≡ sooner l.first (first_clash (among_from l.role (states_of l.around) l.fn.names l.i));
  met : l.i < length l.fn.names → (text : List ℕ) → met_in l.meetings text ≡ met_of l.role (take l.i l.fn.names) text;
}
