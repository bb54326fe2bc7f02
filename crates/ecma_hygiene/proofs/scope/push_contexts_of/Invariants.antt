use Rattle.std.proofs.Common.{◌≡◌, ◌++◌, drop}
use Rattle.ecma_hygiene.specs.Ids.{contexts_of}
use Rattle.ecma_hygiene.proofs.scope.push_contexts_of.Given as goal

-- what is there, and what the others give
abbrev pub invariant-loop-id : goal.invariant-loop-id
invariant-loop-id l = l.so_far ++ contexts_of (drop l.id-index l.id-items) l.text ≡ l.fn.so_far ++ contexts_of l.ids l.text
