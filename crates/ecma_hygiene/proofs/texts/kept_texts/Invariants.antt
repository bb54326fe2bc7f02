use Rattle.std.proofs.Common.{◌≡◌, ◌||◌, ◌&&◌, not, bytes_eq, drop, List, ℕ}
use Rattle.std.specs.List.{list_any}
use Rattle.ecma_hygiene.specs.declared.sight.Sight.{Sight}
use Rattle.ecma_hygiene.specs.Sets.{has_new, has_text}
use Rattle.ecma_hygiene.proofs.texts.kept_texts.Given as goal

-- one that is there, or one of the others
abbrev pub invariant-loop-sight : goal.invariant-loop-sight
invariant-loop-sight l = (text : List ℕ) → (has_text l.texts text || list_any (λ (x : Sight). bytes_eq x.id.0 text && not (has_new l.new x.id)) (drop l.sight-index l.sight-items)) ≡ list_any (λ (x : Sight). bytes_eq x.id.0 text && not (has_new l.new x.id)) l.seen
