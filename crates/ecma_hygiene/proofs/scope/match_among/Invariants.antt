use Rattle.std.proofs.Common.{◌≡◌, drop, false}
use Rattle.ecma_hygiene.specs.Ids.{contexts_of, has_context}
use Rattle.ecma_hygiene.proofs.scope.match_among.Given as goal

-- the others decide
abbrev pub invariant-loop-other : goal.invariant-loop-other
invariant-loop-other l = record {
  text : l.text ≡ false → contexts_of l.ids l.id.0 ≡ contexts_of (drop l.other-index l.other-items) l.id.0;
  id : has_context l.id.1 (contexts_of l.ids l.id.0) ≡ has_context l.id.1 (contexts_of (drop l.other-index l.other-items) l.id.0);
}
