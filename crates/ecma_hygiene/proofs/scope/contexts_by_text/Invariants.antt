use Rattle.std.proofs.Common.{◌≡◌, ◌++◌, drop, List, ℕ}
use Rattle.ecma_hygiene.specs.Frames.{contexts_by}
use Rattle.ecma_hygiene.specs.Ids.{contexts_of}
use Rattle.ecma_hygiene.proofs.scope.contexts_by_text.Given as goal

-- what is there, and what the others give
abbrev pub invariant-loop-id : goal.invariant-loop-id
invariant-loop-id l = (text : List ℕ) → contexts_by l.contexts text ++ contexts_of (drop l.id-index l.id-items) text ≡ contexts_of l.ids text
