-- Declared ids that stay.
use Rattle.std.proofs.Common.{◌≡◌, inl, inr, Bool, true, false, ◌&&◌, cond, filter, List, [], ◌∷◌, map, refl, ap}
use Rattle.std.specs.List.{All}
use Rattle.std.proofs.lemmas.List.Elements.{All-cons, All-head, All-nil, All-tail}
use Rattle.ecma_scope.specs.declared.form.Declaration.{Declaration}
use Rattle.ecma_hygiene.specs.declared.sight.Sight.{Sight}
use Rattle.ecma_hygiene.specs.Ids.{Id, same_id}
use Rattle.ecma_hygiene.specs.Laws.{is_seen}
use Rattle.ecma_hygiene.specs.Renamed.{Texts}
use Rattle.ecma_hygiene.specs.Texts.{is_bound}
use Rattle.ecma_hygiene.proofs.Telling.{and-left, or-first, or-second}
use Rattle.ecma_hygiene_scopes.specs.DeclaredIds.{DeclaredId, with_text}
use Rattle.ecma_hygiene_conflicts.proofs.Marks.{or-either}

pub kept-all : (test own : Declaration → Bool) (f : DeclaredId → Declaration) (ds : List DeclaredId) → ((d : DeclaredId) → d.stays ≡ true → test (f d) ≡ true) → All (λ (d : DeclaredId). d.stays ≡ true) ds
    → filter test (filter own (map f ds)) ≡ filter own (map f ds)
kept-all test own f [] passes stay = refl
kept-all test own f (d ∷ ds) passes stay = by (own (f d)) (kept-all test own f ds passes (All-tail (λ (d : DeclaredId). d.stays ≡ true) d ds stay))
  where
    by : (b : Bool) → filter test (filter own (map f ds)) ≡ filter own (map f ds) → filter test (cond b (f d ∷ filter own (map f ds)) (filter own (map f ds))) ≡ cond b (f d ∷ filter own (map f ds)) (filter own (map f ds))
    by false rec = rec
    by true rec = (λ j. cond (passes d (All-head (λ (d : DeclaredId). d.stays ≡ true) d ds stay) j) (f d ∷ rec j) (rec j))

pub staying-map : (texts : Texts) (ds : List DeclaredId) → filter (λ d. d.stays) (map (with_text texts) ds) ≡ map (with_text texts) (filter (λ d. d.stays) ds)
staying-map texts [] = refl
staying-map texts (d ∷ ds) = by d.stays (staying-map texts ds)
  where
    by : (b : Bool) → filter (λ d. d.stays) (map (with_text texts) ds) ≡ map (with_text texts) (filter (λ d. d.stays) ds)
        → cond b (with_text texts d ∷ filter (λ d. d.stays) (map (with_text texts) ds)) (filter (λ d. d.stays) (map (with_text texts) ds)) ≡ map (with_text texts) (cond b (d ∷ filter (λ d. d.stays) ds) (filter (λ d. d.stays) ds))
    by true rec = ap (λ (zs : List Declaration). with_text texts d ∷ zs) rec
    by false rec = rec

pub map-cond : (f : DeclaredId → Declaration) (b : Bool) (ds : List DeclaredId) → cond b [] (map f ds) ≡ map f (cond b [] ds)
map-cond f true ds = refl
map-cond f false ds = refl

pub all-cond : (P : DeclaredId → Type 0) (b : Bool) (ds : List DeclaredId) → All P ds → All P (cond b ds [])
all-cond P true ds all = all
all-cond P false ds all = All-nil P

pub all-other : (P : DeclaredId → Type 0) (b : Bool) (ds : List DeclaredId) → All P ds → All P (cond b [] ds)
all-other P true ds all = All-nil P
all-other P false ds all = all

pub all-staying : (P : DeclaredId → Type 0) (ds : List DeclaredId) → All P ds → All P (filter (λ d. d.stays) ds)
all-staying P [] all = All-nil P
all-staying P (d ∷ ds) all = by d.stays (all-staying P ds (All-tail P d ds all))
  where
    by : (b : Bool) → All P (filter (λ d. d.stays) ds) → All P (cond b (d ∷ filter (λ d. d.stays) ds) (filter (λ d. d.stays) ds))
    by true rec = All-cons P d (filter (λ d. d.stays) ds) (All-head P d ds all) rec
    by false rec = rec

pub bound-seen : (xs : List Sight) (id : Id) → is_bound xs id ≡ true → is_seen xs id ≡ true
bound-seen [] id h = h
bound-seen (x ∷ xs) id h = elim (or-either (same_id x.id id && x.declares) (is_bound xs id) h) [
  | inl here ↦ or-first (same_id x.id id) (is_seen xs id) (and-left (same_id x.id id) x.declares here)
  | inr later ↦ or-second (same_id x.id id) (is_seen xs id) (bound-seen xs id later)
]
