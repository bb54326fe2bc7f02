use Rattle.std.proofs.Common.{◌≡◌, ◌≤◌, [], drop, length}
use Rattle.ecma_hygiene.specs.Frames.{scopes_of}
use Rattle.ecma_hygiene.specs.Sights.{hidden}
use Rattle.ecma_hygiene.proofs.walk.may_hide.Given as goal

-- the scopes further in do not have the text
abbrev pub invariant-loop-count : goal.invariant-loop-count
invariant-loop-count l = record {
  within : l.count ≤ length l.frames;
  hides : hidden (scopes_of (drop l.count l.frames)) l.id [] ≡ [];
}

abbrev pub decreases-loop-count : goal.decreases-loop-count
decreases-loop-count l = l.count
