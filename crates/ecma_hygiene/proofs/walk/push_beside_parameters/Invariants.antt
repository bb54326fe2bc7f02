use Rattle.std.proofs.Common.{◌≡◌, ◌++◌, drop}
use Rattle.ecma_hygiene.specs.Frames.{contexts_in}
use Rattle.ecma_hygiene.specs.Sights.{beside_parameters}
use Rattle.ecma_hygiene.proofs.walk.push_beside_parameters.Given as goal

-- what is there, and what the others give
abbrev pub invariant-loop-id : goal.invariant-loop-id
invariant-loop-id l = l.meetings ++ beside_parameters (contexts_in l.parameters) (drop l.id-index l.id-items) ≡ l.fn.meetings ++ beside_parameters (contexts_in l.parameters) l.ids
