-- Scopes that declare the same ids.
use Rattle.std.proofs.Common.{◌≡◌, ℕ, Bool, true, false, ◌||◌, not, cond, List, [], ◌∷◌, ◌++◌, map, bytes_eq, codes, refl, sym, ap, ◌∙◌, nat_eq, eq-eqb, ◌&&◌}
use Rattle.std.proofs.lemmas.Bool.{eqb-true}
use Rattle.std.specs.List.{All, list_any}
use Rattle.std.proofs.lemmas.List.Elements.{All-cons, All-head, All-nil, All-tail}
use Rattle.ecma_hygiene.specs.Capture.{NoneDeclares}
use Rattle.ecma_hygiene.specs.Ids.{Id, Scope, has_context, innermost, same_id}
use Rattle.ecma_hygiene.proofs.Telling.{and-both, and-left, and-right, has-id, id-refl, or-first, or-second, true-false}
use Rattle.ecma_hygiene_scopes.specs.DeclaredIds.{DeclaredId}
use Rattle.ecma_hygiene_scopes.proofs.Membership.{id-same, is_kept}
use Rattle.ecma_strip_scopes.specs.Standing.{lasts}
use Rattle.ecma_strip_scopes.proofs.Lasting.{lasting}

-- with `t` a text that names parameters which may go
abbrev pub goes : Bool → List ℕ → Bool
goes t text = t && bytes_eq text (codes "this")

module _ (t : Bool) where
  abbrev pub IsSame : Scope → Scope → Type 0
  IsSame one other = (id : Id) → goes t id.0 ≡ false → has_context id.1 (other id.0) ≡ has_context id.1 (one id.0)

  -- scopes, and as many others that declare the same
  abbrev pub AreSame : List Scope → List Scope → Type 0
  AreSame [] [] = Unit {0}
  AreSame (x ∷ xs) (y ∷ ys) = IsSame x y × AreSame xs ys
  AreSame _ _ = ⊥

  pub same-last : (xs ys : List Scope) (x y : Scope) → AreSame xs ys → IsSame x y → AreSame (xs ++ x ∷ []) (ys ++ y ∷ [])
  same-last [] [] x y h last = (last, tt)
  same-last (z ∷ zs) (w ∷ ws) x y h last = (h.0, same-last zs ws x y h.1 last)
  same-last [] (w ∷ ws) x y h last = absurd h
  same-last (z ∷ zs) [] x y h last = absurd h

  pub same-innermost : (xs ys : List Scope) → AreSame xs ys → IsSame (innermost xs) (innermost ys)
  same-innermost [] [] h id other = refl
  same-innermost (x ∷ []) (y ∷ []) h id other = h.0 id other
  same-innermost (x ∷ z ∷ xs) (y ∷ w ∷ ys) h id other = same-innermost (z ∷ xs) (w ∷ ys) h.1 id other
  same-innermost [] (y ∷ ys) h id other = absurd h
  same-innermost (x ∷ xs) [] h id other = absurd h
  same-innermost (x ∷ []) (y ∷ w ∷ ys) h id other = absurd h.1
  same-innermost (x ∷ z ∷ xs) (y ∷ []) h id other = absurd h.1

  pub same-none : (xs ys : List Scope) (id : Id) → goes t id.0 ≡ false → AreSame xs ys → NoneDeclares ys id → NoneDeclares xs id
  same-none [] [] id other h none = tt
  same-none (x ∷ xs) (y ∷ ys) id other h none = (sym (h.0 id other) ∙ none.0, same-none xs ys id other h.1 none.1)
  same-none [] (y ∷ ys) id other h none = absurd h
  same-none (x ∷ xs) [] id other h none = absurd h

-- ---- ids and contexts

pub context-id : (c : ℕ) (ids : List Id) → has_context c (map (λ id. id.1) ids) ≡ true → (id : Id) × (id.1 ≡ c) × (has-id id ids ≡ true)
context-id c [] h = absurd (true-false h refl)
context-id c (x ∷ xs) h = by (nat_eq c x.1) refl h (context-id c xs)
  where
    by : (b : Bool) → nat_eq c x.1 ≡ b → (b || has_context c (map (λ id. id.1) xs)) ≡ true → (has_context c (map (λ id. id.1) xs) ≡ true → (id : Id) × (id.1 ≡ c) × (has-id id xs ≡ true)) → (id : Id) × (id.1 ≡ c) × (has-id id (x ∷ xs) ≡ true)
    by true is h rec = (x, sym (eqb-true c x.1 is), or-first (same_id x x) (has-id x xs) (id-refl x))
    by false is h rec = (let r = rec h in (r.0, r.1, or-second (same_id x r.0) (has-id r.0 xs) r.2))

nat-refl : (c : ℕ) → nat_eq c c ≡ true
nat-refl c = eq-eqb c c refl

pub id-context : (id : Id) (ids : List Id) → has-id id ids ≡ true → has_context id.1 (map (λ other. other.1) ids) ≡ true
id-context id [] h = absurd (true-false h refl)
id-context id (x ∷ xs) h = by (same_id x id) refl h (id-context id xs)
  where
    by : (b : Bool) → same_id x id ≡ b → (b || has-id id xs) ≡ true → (has-id id xs ≡ true → has_context id.1 (map (λ other. other.1) xs) ≡ true) → has_context id.1 (map (λ other. other.1) (x ∷ xs)) ≡ true
    by true is h rec = or-first (nat_eq id.1 x.1) (has_context id.1 (map (λ other. other.1) xs)) (ap (λ (z : Id). nat_eq id.1 z.1) (id-same x id is) ∙ nat-refl id.1)
    by false is h rec = or-second (nat_eq id.1 x.1) (has_context id.1 (map (λ other. other.1) xs)) (rec h)

-- ---- ids that last

abbrev Stays : DeclaredId → Type 0
Stays d = d.stays ≡ true

module _ (t : Bool) where
  abbrev pub Stay : DeclaredId → Type 0
  Stay d = goes t d.id.0 ≡ false

  lasts-other : (g s : Bool) → (not g && s) ≡ true → g ≡ false
  lasts-other true s h = absurd (true-false h refl)
  lasts-other false s h = refl

  unkept : (id : Id) (d : DeclaredId) → goes t id.0 ≡ false → lasts t d ≡ false → is_kept id d ≡ false
  unkept id d other gone = by (is_kept id d) refl
    where
      by : (b : Bool) → is_kept id d ≡ b → b ≡ false
      by false is = refl
      by true is =
          let is_it : d.id ≡ id = id-same d.id id (and-left (same_id d.id id) d.stays is) in
          absurd (true-false (and-both (not (goes t d.id.0)) d.stays (ap not (ap (λ (z : Id). goes t z.0) is_it ∙ other)) (and-right (same_id d.id id) d.stays is)) gone)

  pub any-kept : (id : Id) (ds : List DeclaredId) → goes t id.0 ≡ false → list_any (is_kept id) (lasting t ds) ≡ list_any (is_kept id) ds
  any-kept id [] other = refl
  any-kept id (d ∷ ds) other = by (lasts t d) refl (any-kept id ds other)
    where
      by : (b : Bool) → lasts t d ≡ b → list_any (is_kept id) (lasting t ds) ≡ list_any (is_kept id) ds → list_any (is_kept id) (cond b (d ∷ lasting t ds) (lasting t ds)) ≡ (is_kept id d || list_any (is_kept id) ds)
      by true is rec = ap (λ (b : Bool). is_kept id d || b) rec
      by false is rec = rec ∙ sym (ap (λ (b : Bool). b || list_any (is_kept id) ds) (unkept id d other is))

  module _ (P : DeclaredId → Type 0) where
    pub all-kept : (ds : List DeclaredId) → All P ds → All P (lasting t ds)
    all-kept [] h = All-nil P
    all-kept (d ∷ ds) h = by (lasts t d) (all-kept ds (All-tail P d ds h))
      where
        by : (b : Bool) → All P (lasting t ds) → All P (cond b (d ∷ lasting t ds) (lasting t ds))
        by true rest = All-cons P d (lasting t ds) (All-head P d ds h) rest
        by false rest = rest

    -- what a test says of each that lasts
    pub all-last : ((d : DeclaredId) → lasts t d ≡ true → P d) → (ds : List DeclaredId) → All P (lasting t ds)
    all-last each [] = All-nil P
    all-last each (d ∷ ds) = by (lasts t d) refl (all-last each ds)
      where
        by : (b : Bool) → lasts t d ≡ b → All P (lasting t ds) → All P (cond b (d ∷ lasting t ds) (lasting t ds))
        by true is rest = All-cons P d (lasting t ds) (each d is) rest
        by false is rest = rest

  pub kept-stays : (ds : List DeclaredId) → All Stays (lasting t ds)
  kept-stays = all-last Stays (λ d is. and-right (not (goes t d.id.0)) d.stays is)

  pub kept-other : (ds : List DeclaredId) → All Stay (lasting t ds)
  kept-other = all-last Stay (λ d is. lasts-other (goes t d.id.0) d.stays is)

  -- none of them has a text that goes
  pub none-kept : (id : Id) (ds : List DeclaredId) → goes t id.0 ≡ true → All Stay ds → list_any (is_kept id) ds ≡ false
  none-kept id [] gone all = refl
  none-kept id (d ∷ ds) gone all = by (is_kept id d) refl (none-kept id ds gone (All-tail Stay d ds all))
    where
      by : (b : Bool) → is_kept id d ≡ b → list_any (is_kept id) ds ≡ false → (b || list_any (is_kept id) ds) ≡ false
      by false is rest = rest
      by true is rest =
          absurd (true-false gone (sym (ap (λ (z : Id). goes t z.0) (id-same d.id id (and-left (same_id d.id id) d.stays is))) ∙ All-head Stay d ds all))
