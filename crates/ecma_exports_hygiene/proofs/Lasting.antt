-- What lasts where types go is there before, and is not `this`.
use Rattle.std.proofs.Common.{◌≡◌, refl, sym, ap, ◌∙◌, subst, List, [], ◌∷◌, filter, Bool, true, false, cond, not, ◌||◌, bytes_eq, codes}
use Rattle.std.specs.List.{list_any}
use Rattle.ecma_hygiene.specs.Ids.{Id, same_id}
use Rattle.ecma_hygiene.proofs.Telling.{and-left, or-second, true-false}
use Rattle.ecma_hygiene_scopes.specs.DeclaredIds.{DeclaredId}
use Rattle.ecma_hygiene_scopes.proofs.Membership.{id-same, is_kept}
use Rattle.ecma_strip_scopes.specs.Standing.{lasts}

module _ (id : Id) where
  abbrev kept : List DeclaredId → Bool
  kept ds = list_any (is_kept id) ds

  pub record Lasting (ds : List DeclaredId) : Type 0 where
    pub there : kept ds ≡ true
    pub apart : bytes_eq id.0 (codes "this") ≡ false

  not-true : (b : Bool) → not b ≡ true → b ≡ false
  not-true true h = absurd (true-false h refl)
  not-true false h = refl

  lasting-step : (d : DeclaredId) (ds rest : List DeclaredId) (b s : Bool) → lasts true d ≡ b → is_kept id d ≡ s → (kept rest ≡ true → Lasting ds) → kept (cond b (d ∷ rest) rest) ≡ true → Lasting (d ∷ ds)
  lasting-step d ds rest true true e f rec h =
      let same : d.id ≡ id = id-same d.id id (and-left (same_id d.id id) d.stays f) in
      record {
        there = ap (λ b. b || kept ds) f;
        apart = subst (λ (z : Id). bytes_eq z.0 (codes "this") ≡ false) same (not-true (bytes_eq d.id.0 (codes "this")) (and-left (not (bytes_eq d.id.0 (codes "this"))) d.stays e));
      }
  lasting-step d ds rest true false e f rec h =
      let l = rec (ap (λ b. b || kept rest) (sym f) ∙ h) in record { there = or-second (is_kept id d) (kept ds) l.there; apart = l.apart }
  lasting-step d ds rest false s e f rec h = let l = rec h in record { there = or-second (is_kept id d) (kept ds) l.there; apart = l.apart }

  pub lasting-of : (ds : List DeclaredId) → kept (filter (lasts true) ds) ≡ true → Lasting ds
  lasting-of [] h = absurd (true-false h refl)
  lasting-of (d ∷ ds) h = lasting-step d ds (filter (lasts true) ds) (lasts true d) (is_kept id d) refl refl (lasting-of ds) h
