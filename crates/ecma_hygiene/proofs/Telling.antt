-- The texts that bindings get tell them apart.
use Rattle.std.proofs.Common.{◌≡◌, ◌⊎◌, inl, inr, ℕ, zero, suc, Bool, true, false, ◌&&◌, ◌||◌, not, cond, List, [], ◌∷◌, ◌++◌, map, filter, Option, Some, None, refl, sym, ap, ◌∙◌, subst, slice_get, bytes_eq, nat_eq, eq-eqb, unwrap_or}
use Rattle.std.specs.List.{list_any}
use Rattle.std.proofs.lemmas.Bool.{eqb-true}
use Rattle.std.proofs.lemmas.Slice.Eq.{bytes_eq-Decides}
use Rattle.ecma_hygiene.specs.declared.naming.Named.{Named}
use Rattle.ecma_hygiene.specs.declared.sight.Meeting.{Meeting}
use Rattle.ecma_hygiene.specs.declared.sight.Sight.{Sight}
use Rattle.ecma_hygiene.specs.Ids.{Id, same_id}
use Rattle.ecma_hygiene.specs.Laws.{TextsTellApart, is_seen, meets_binding}
use Rattle.ecma_hygiene.specs.Renamed.{text_of}
use Rattle.ecma_hygiene.specs.Texts.{AreTexts, GetTexts, Had, IsNumbered, bindings, changes, changing_bindings, declared_in, distinct, had_with, is_bound, is_met, is_new, last_text, new_bindings, none, rule, source_has, text_in, with_text}

-- ---- tests

pub true-false : {b : Bool} → b ≡ true → b ≡ false → ⊥
true-false h k = cc

pub and-left : (a b : Bool) → (a && b) ≡ true → a ≡ true
and-left true b h = refl
and-left false b h = h

pub and-right : (a b : Bool) → (a && b) ≡ true → b ≡ true
and-right true b h = h
and-right false b h = cc

pub and-both : (a b : Bool) → a ≡ true → b ≡ true → (a && b) ≡ true
and-both true b h k = k
and-both false b h k = h

pub or-left : (a b : Bool) → (a || b) ≡ false → a ≡ false
or-left true b h = h
or-left false b h = refl

pub or-right : (a b : Bool) → (a || b) ≡ false → b ≡ false
or-right true b h = cc
or-right false b h = h

pub or-first : (a b : Bool) → a ≡ true → (a || b) ≡ true
or-first true b h = refl
or-first false b h = cc

pub or-second : (a b : Bool) → b ≡ true → (a || b) ≡ true
or-second true b h = refl
or-second false b h = h

-- a test that holds of one item holds of any
any-from : {X : Type 0} (f g : X → Bool) (xs : List X) → ((x : X) → f x ≡ true → g x ≡ true) → list_any f xs ≡ true → list_any g xs ≡ true
any-from f g [] each h = h
any-from f g (x ∷ xs) each h = go (any-from f g xs each) (f x) refl
  where
    go : (list_any f xs ≡ true → list_any g xs ≡ true) → (b : Bool) → f x ≡ b → list_any g (x ∷ xs) ≡ true
    go rec true e = or-first (g x) (list_any g xs) (each x e)
    go rec false e = or-second (g x) (list_any g xs) (rec (ap (λ b. b || list_any f xs) (sym e) ∙ h))

pub id-same : (a b : Id) → same_id a b ≡ true → a ≡ b
id-same a b h =
    let texts : a.0 ≡ b.0 = (bytes_eq-Decides a.0 b.0).0 (and-left (bytes_eq a.0 b.0) (nat_eq a.1 b.1) h) in
    let ctxts : a.1 ≡ b.1 = eqb-true a.1 b.1 (and-right (bytes_eq a.0 b.0) (nat_eq a.1 b.1) h) in
    (λ j. (texts j, ctxts j))

pub text-refl : (t : List ℕ) → bytes_eq t t ≡ true
text-refl t = (bytes_eq-Decides t t).1 refl

pub id-refl : (a : Id) → same_id a a ≡ true
id-refl a = and-both (bytes_eq a.0 a.0) (nat_eq a.1 a.1) (text-refl a.0) (eq-eqb a.1 a.1 refl)

-- ---- the ids that are bound are among the bindings

abbrev pub has-id : Id → List Id → Bool
has-id id ids = list_any (λ (other : Id). same_id other id) ids

distinct-has : (id : Id) (met : Id → Bool) (ids : List Id) → has-id id ids ≡ true → (has-id id (distinct met ids) ≡ true) ⊎ (met id ≡ true)
distinct-has id met [] h = absurd (true-false h refl)
distinct-has id met (x ∷ xs) h = go (λ m there. distinct-has id m xs there) (same_id x id) (met x) refl refl
  where
    go : ((m : Id → Bool) → has-id id xs ≡ true → (has-id id (distinct m xs) ≡ true) ⊎ (m id ≡ true)) → (b m : Bool) → same_id x id ≡ b → met x ≡ m → (has-id id (distinct met (x ∷ xs)) ≡ true) ⊎ (met id ≡ true)
    go rec true true e k = inr (ap met (sym (id-same x id e)) ∙ k)
    go rec true false e k = inl (ap (λ (m : Bool). has-id id (cond m (distinct met xs) (x ∷ distinct (λ other. same_id x other || met other) xs))) k
        ∙ or-first (same_id x id) (has-id id (distinct (λ other. same_id x other || met other) xs)) e)
    go rec false true e k =
        elim (rec met (ap (λ (b : Bool). b || has-id id xs) (sym e) ∙ h)) [
          | inl there ↦ inl (ap (λ (m : Bool). has-id id (cond m (distinct met xs) (x ∷ distinct (λ other. same_id x other || met other) xs))) k ∙ there)
          | inr was ↦ inr was
        ]
    go rec false false e k =
        elim (rec (λ other. same_id x other || met other) (ap (λ (b : Bool). b || has-id id xs) (sym e) ∙ h)) [
          | inl there ↦ inl (ap (λ (m : Bool). has-id id (cond m (distinct met xs) (x ∷ distinct (λ other. same_id x other || met other) xs))) k
              ∙ or-second (same_id x id) (has-id id (distinct (λ other. same_id x other || met other) xs)) there)
          | inr was ↦ inr (ap (λ (b : Bool). b || met id) (sym e) ∙ was)
        ]

declared-has : (id : Id) (seen : List Sight) → is_bound seen id ≡ true → has-id id (declared_in seen) ≡ true
declared-has id [] h = h
declared-has id (x ∷ xs) h = go (declared-has id xs) (same_id x.id id) x.declares refl refl
  where
    go : (is_bound xs id ≡ true → has-id id (declared_in xs) ≡ true) → (b d : Bool) → same_id x.id id ≡ b → x.declares ≡ d → has-id id (declared_in (x ∷ xs)) ≡ true
    go rec true true e k = ap (λ (d : Bool). has-id id (map (λ (y : Sight). y.id) (cond d (x ∷ filter (λ (y : Sight). y.declares) xs) (filter (λ (y : Sight). y.declares) xs)))) k
        ∙ or-first (same_id x.id id) (has-id id (declared_in xs)) e
    go rec true false e k = ap (λ (d : Bool). has-id id (map (λ (y : Sight). y.id) (cond d (x ∷ filter (λ (y : Sight). y.declares) xs) (filter (λ (y : Sight). y.declares) xs)))) k
        ∙ rec ((λ j. (sym e j && sym k j) || is_bound xs id) ∙ h)
    go rec false true e k = ap (λ (d : Bool). has-id id (map (λ (y : Sight). y.id) (cond d (x ∷ filter (λ (y : Sight). y.declares) xs) (filter (λ (y : Sight). y.declares) xs)))) k
        ∙ or-second (same_id x.id id) (has-id id (declared_in xs)) (rec (ap (λ (b : Bool). (b && x.declares) || is_bound xs id) (sym e) ∙ h))
    go rec false false e k = ap (λ (d : Bool). has-id id (map (λ (y : Sight). y.id) (cond d (x ∷ filter (λ (y : Sight). y.declares) xs) (filter (λ (y : Sight). y.declares) xs)))) k
        ∙ rec (ap (λ (b : Bool). (b && x.declares) || is_bound xs id) (sym e) ∙ h)

bindings-has : (id : Id) (seen : List Sight) → is_bound seen id ≡ true → has-id id (bindings seen) ≡ true
bindings-has id seen h = elim (distinct-has id none (declared_in seen) (declared-has id seen h)) [ inl there ↦ there | inr was ↦ absurd (true-false was refl) ]

filter-has : (id : Id) (f : Id → Bool) (ids : List Id) → f id ≡ true → has-id id ids ≡ true → has-id id (filter f ids) ≡ true
filter-has id f [] passes h = h
filter-has id f (x ∷ xs) passes h = go (filter-has id f xs passes) (same_id x id) (f x) refl refl
  where
    go : (has-id id xs ≡ true → has-id id (filter f xs) ≡ true) → (b p : Bool) → same_id x id ≡ b → f x ≡ p → has-id id (filter f (x ∷ xs)) ≡ true
    go rec true true e k = ap (λ (p : Bool). has-id id (cond p (x ∷ filter f xs) (filter f xs))) k ∙ or-first (same_id x id) (has-id id (filter f xs)) e
    go rec true false e k = absurd (true-false (ap f (id-same x id e) ∙ passes) k)
    go rec false true e k = ap (λ (p : Bool). has-id id (cond p (x ∷ filter f xs) (filter f xs))) k
        ∙ or-second (same_id x id) (has-id id (filter f xs)) (rec (ap (λ (b : Bool). b || has-id id xs) (sym e) ∙ h))
    go rec false false e k = ap (λ (p : Bool). has-id id (cond p (x ∷ filter f xs) (filter f xs))) k ∙ rec (ap (λ (b : Bool). b || has-id id xs) (sym e) ∙ h)

-- ---- entries

record Entry (names : List Named) (id : Id) (text : List ℕ) : Type 0 where
  pub place : ℕ
  pub named : Named
  pub at : slice_get names place ≡ Some named
  pub is : named.id ≡ id
  pub writes : named.text ≡ text

entry-later : (n : Named) (names : List Named) (id : Id) (text : List ℕ) → Entry names id text → Entry (n ∷ names) id text
entry-later n names id text e = record { place = suc e.place; named = e.named; at = e.at; is = e.is; writes = e.writes }

some-is : (s t : List ℕ) → ◌≡◌ {A = Option (List ℕ)} (Some s) (Some t) → s ≡ t
some-is s t e = cc

entry-of : (names : List Named) (id : Id) (text : List ℕ) (before : Option (List ℕ)) → last_text names id before ≡ Some text → Entry names id text ⊎ (before ≡ Some text)
entry-of [] id text before h = inr h
entry-of (n ∷ names) id text before h =
    elim (entry-of names id text (cond (same_id n.id id) (Some n.text) before) h) [ inl e ↦ inl (entry-later n names id text e) | inr was ↦ go (same_id n.id id) refl was ]
  where
    go : (b : Bool) → same_id n.id id ≡ b → cond (same_id n.id id) (Some n.text) before ≡ Some text → Entry (n ∷ names) id text ⊎ (before ≡ Some text)
    go true e was = inl (record { place = 0; named = n; at = refl; is = id-same n.id id e; writes = some-is n.text text (ap (λ (b : Bool). cond b (Some n.text) before) (sym e) ∙ was) })
    go false e was = inr (ap (λ (b : Bool). cond b (Some n.text) before) (sym e) ∙ was)

none-some : (t : List ℕ) → ◌≡◌ {A = Option (List ℕ)} (Some t) None → ⊥
none-some t e = cc

-- a text that is there stays, or gives way to another
last-some : (names : List Named) (id : Id) (text : List ℕ) → last_text names id (Some text) ≡ None → ⊥
last-some [] id text h = none-some text h
last-some (n ∷ names) id text h = go (λ u there. last-some names id u there) (same_id n.id id) refl
  where
    go : ((u : List ℕ) → last_text names id (Some u) ≡ None → ⊥) → (b : Bool) → same_id n.id id ≡ b → ⊥
    go rec true e = rec n.text (ap (λ (b : Bool). last_text names id (cond b (Some n.text) (Some text))) (sym e) ∙ h)
    go rec false e = rec text (ap (λ (b : Bool). last_text names id (cond b (Some n.text) (Some text))) (sym e) ∙ h)

last-append : (names others : List Named) (id : Id) (before : Option (List ℕ)) → last_text (names ++ others) id before ≡ last_text others id (last_text names id before)
last-append [] others id before = refl
last-append (n ∷ names) others id before = last-append names others id (cond (same_id n.id id) (Some n.text) before)

-- ---- what is got

rule-free : (may_keep : Bool) (had : Had) (text result : List ℕ) → rule may_keep had text result → had result ≡ false
rule-free false had text result r = r.none_has
rule-free true had text result r = go (had text) refl
  where
    go : (b : Bool) → had text ≡ b → had result ≡ false
    go true e = (let n : IsNumbered had text result = subst (λ (b : Bool). cond b (IsNumbered had text result) (result ≡ text)) e r in n.none_has)
    go false e = (let same : result ≡ text = subst (λ (b : Bool). cond b (IsNumbered had text result) (result ≡ text)) e r in ap had same ∙ e)

some-named : (m n : Named) → ◌≡◌ {A = Option Named} (Some m) (Some n) → m ≡ n
some-named m n e = cc

module _ (may_keep : Bool) where
  entry-free : (had : Had) (ids : List Id) (names : List Named) → GetTexts may_keep had ids names → (id : Id) (text : List ℕ) → (place : ℕ) (n : Named) → slice_get names place ≡ Some n → n.text ≡ text → had text ≡ false
  entry-free had [] [] gets id text place n at writes = cc
  entry-free had [] (m ∷ ms) gets id text place n at writes = absurd gets
  entry-free had (x ∷ xs) [] gets id text place n at writes = absurd gets
  entry-free had (x ∷ xs) (m ∷ ms) gets id text zero n at writes =
      let same : m ≡ n = some-named m n at in
      subst (λ (t : List ℕ). had t ≡ false) (ap (λ (z : Named). z.text) same ∙ writes) (rule-free may_keep had x.0 m.text gets.1)
  entry-free had (x ∷ xs) (m ∷ ms) gets id text (suc place) n at writes =
      or-right (bytes_eq m.text text) (had text) (entry-free (with_text m.text had) xs ms gets.2 id text place n at writes)

  -- no text is had by two
  entry-one : (had : Had) (ids : List Id) (names : List Named) → GetTexts may_keep had ids names → (text : List ℕ) (p q : ℕ) (m n : Named) → slice_get names p ≡ Some m → slice_get names q ≡ Some n
      → m.text ≡ text → n.text ≡ text → m ≡ n
  entry-one had [] [] gets text p q m n at other writes also = cc
  entry-one had [] (k ∷ ks) gets text p q m n at other writes also = absurd gets
  entry-one had (x ∷ xs) [] gets text p q m n at other writes also = absurd gets
  entry-one had (x ∷ xs) (k ∷ ks) gets text zero zero m n at other writes also = some-named m n (sym at ∙ other)
  entry-one had (x ∷ xs) (k ∷ ks) gets text zero (suc q) m n at other writes also =
      let free = entry-free (with_text k.text had) xs ks gets.2 x text q n other also in
      let same : k.text ≡ text = ap (λ (z : Named). z.text) (some-named k m at) ∙ writes in
      absurd (true-false (subst (λ (t : List ℕ). bytes_eq k.text t ≡ true) same (text-refl k.text)) (or-left (bytes_eq k.text text) (had text) free))
  entry-one had (x ∷ xs) (k ∷ ks) gets text (suc p) zero m n at other writes also =
      let free = entry-free (with_text k.text had) xs ks gets.2 x text p m at writes in
      let same : k.text ≡ text = ap (λ (z : Named). z.text) (some-named k n other) ∙ also in
      absurd (true-false (subst (λ (t : List ℕ). bytes_eq k.text t ≡ true) same (text-refl k.text)) (or-left (bytes_eq k.text text) (had text) free))
  entry-one had (x ∷ xs) (k ∷ ks) gets text (suc p) (suc q) m n at other writes also = entry-one (with_text k.text had) xs ks gets.2 text p q m n at other writes also

  -- each id has one
  gets-some : (had : Had) (ids : List Id) (names : List Named) → GetTexts may_keep had ids names → (id : Id) (before : Option (List ℕ)) → has-id id ids ≡ true → last_text names id before ≡ None → ⊥
  gets-some had [] [] gets id before h is = true-false h refl
  gets-some had [] (m ∷ ms) gets id before h is = gets
  gets-some had (x ∷ xs) [] gets id before h is = gets
  gets-some had (x ∷ xs) (m ∷ ms) gets id before h is = go (λ o there none. gets-some (with_text m.text had) xs ms gets.2 id o there none) (same_id x id) refl
    where
      go : ((o : Option (List ℕ)) → has-id id xs ≡ true → last_text ms id o ≡ None → ⊥) → (b : Bool) → same_id x id ≡ b → ⊥
      go rec true e =
          (let there : same_id m.id id ≡ true = ap (λ (i : Id). same_id i id) gets.0 ∙ e in
          last-some ms id m.text (ap (λ (b : Bool). last_text ms id (cond b (Some m.text) before)) (sym there) ∙ is))
      go rec false e = rec (cond (same_id m.id id) (Some m.text) before) (ap (λ (b : Bool). b || has-id id xs) (sym e) ∙ h) is

-- what nothing has behind these texts, nothing had before, nor one of these
had-before : (names : List Named) (had : Had) (text : List ℕ) → had_with names had text ≡ false → had text ≡ false
had-before [] had text h = h
had-before (n ∷ names) had text h = or-right (bytes_eq n.text text) (had text) (had-before names (with_text n.text had) text h)

had-entry : (names : List Named) (had : Had) (text : List ℕ) (place : ℕ) (n : Named) → slice_get names place ≡ Some n → n.text ≡ text → had_with names had text ≡ false → ⊥
had-entry [] had text place n at writes h = cc
had-entry (m ∷ ms) had text zero n at writes h =
    let same : m.text ≡ text = ap (λ (z : Named). z.text) (some-named m n at) ∙ writes in
    true-false (subst (λ (t : List ℕ). bytes_eq m.text t ≡ true) same (text-refl m.text)) (or-left (bytes_eq m.text text) (had text) (had-before ms (with_text m.text had) text h))
had-entry (m ∷ ms) had text (suc place) n at writes h = had-entry ms (with_text m.text had) text place n at writes h

-- ---- together

seen-has : (seen all : List Sight) (id : Id) → is_seen seen id ≡ true → is_new all id ≡ false → list_any (λ (x : Sight). bytes_eq x.id.0 id.0 && not (is_new all x.id)) seen ≡ true
seen-has seen all id h old = any-from (λ (x : Sight). same_id x.id id) (λ (x : Sight). bytes_eq x.id.0 id.0 && not (is_new all x.id)) seen
    (λ x is. (let same = id-same x.id id is in
    and-both (bytes_eq x.id.0 id.0) (not (is_new all x.id)) (ap (λ (i : Id). bytes_eq i.0 id.0) same ∙ text-refl id.0) (ap (λ (i : Id). not (is_new all i)) same ∙ ap not old))) h

bound-seen : (seen : List Sight) (id : Id) → is_bound seen id ≡ true → is_seen seen id ≡ true
bound-seen seen id h = any-from (λ (x : Sight). same_id x.id id && x.declares) (λ (x : Sight). same_id x.id id) seen (λ x is. and-left (same_id x.id id) x.declares is) h

module _ (seen : List Sight) (met : List Meeting) (names : List Named) (are : AreTexts seen met names) where
  text-split : (id : Id) → text_in names id ≡ last_text are.changed id (last_text are.new id None)
  text-split id = ap (λ (ns : List Named). last_text ns id None) are.are ∙ last-append are.new are.changed id None

  new-some : (id : Id) (o : Option (List ℕ)) → is_new seen id ≡ true → text_in names id ≡ None → last_text are.new id None ≡ o → ⊥
  new-some id (Some t) e h is = last-some are.changed id t (ap (λ (o : Option (List ℕ)). last_text are.changed id o) (sym is) ∙ (sym (text-split id) ∙ h))
  new-some id None e h is = gets-some true (source_has seen) (new_bindings seen) are.new are.of_new id None
      (filter-has id (is_new seen) (bindings seen) e (bindings-has id seen (and-left (is_bound seen id) (not (list_any (λ (x : Sight). same_id x.id id && x.in_source) seen)) e))) is

  by-test : (b : Bool) → (b ≡ true → ⊥) → b ≡ false
  by-test false h = refl
  by-test true h = absurd (h refl)

  -- what gets no text is not new, and does not change
  none-old : (id : Id) → text_in names id ≡ None → is_new seen id ≡ false
  none-old id h = by-test (is_new seen id) (λ e. new-some id (last_text are.new id None) e h refl)

  none-stays : (id : Id) → text_in names id ≡ None → is_bound seen id ≡ true → changes seen met id ≡ false
  none-stays id h bound = by-test (changes seen met id) (λ e.
      gets-some false (had_with are.new (source_has seen)) (changing_bindings seen met) are.changed are.of_changed id (last_text are.new id None)
      (filter-has id (changes seen met) (bindings seen) e (bindings-has id seen bound)) (sym (text-split id) ∙ h))

  -- where a text that something gets stands
  data Source (id : Id) (text : List ℕ) : Type 0 where
    of_new : Entry are.new id text → Source id text
    of_changed : Entry are.changed id text → Source id text

  source-of : (id : Id) (text : List ℕ) → text_in names id ≡ Some text → Source id text
  source-of id text h =
      elim (entry-of are.changed id text (last_text are.new id None) (sym (text-split id) ∙ h)) [
        | inl e ↦ of_changed e
        | inr was ↦ elim (entry-of are.new id text None was) [ inl e ↦ of_new e | inr nothing ↦ absurd (none-some text (sym nothing)) ]
      ]

  abbrev free-after : (text : List ℕ) (place : ℕ) (n : Named) → slice_get are.changed place ≡ Some n → n.text ≡ text → had_with are.new (source_has seen) text ≡ false
  free-after text place n at writes = entry-free false (had_with are.new (source_has seen)) (changing_bindings seen met) are.changed are.of_changed n.id text place n at writes

  -- what is got no name of the source has
  got-free : (id : Id) (text : List ℕ) → Source id text → source_has seen text ≡ false
  got-free id text (of_new e) = entry-free true (source_has seen) (new_bindings seen) are.new are.of_new id text e.place e.named e.at e.writes
  got-free id text (of_changed e) = had-before are.new (source_has seen) text (free-after text e.place e.named e.at e.writes)

  -- and no two get one
  got-one : (a b : Id) (text : List ℕ) → Source a text → Source b text → a ≡ b
  got-one a b text (of_new e) (of_new f) =
      sym e.is ∙ ap (λ (n : Named). n.id) (entry-one true (source_has seen) (new_bindings seen) are.new are.of_new text e.place f.place e.named f.named e.at f.at e.writes f.writes) ∙ f.is
  got-one a b text (of_changed e) (of_changed f) =
      sym e.is ∙ ap (λ (n : Named). n.id) (entry-one false (had_with are.new (source_has seen)) (changing_bindings seen met) are.changed are.of_changed text e.place f.place e.named f.named e.at f.at e.writes f.writes) ∙ f.is
  got-one a b text (of_new e) (of_changed f) = absurd (had-entry are.new (source_has seen) text e.place e.named e.at e.writes (free-after text f.place f.named f.at f.writes))
  got-one a b text (of_changed e) (of_new f) = absurd (had-entry are.new (source_has seen) text f.place f.named f.at f.writes (free-after text e.place e.named e.at e.writes))

  module _ (name binding : Id) (is_there : is_seen seen name ≡ true) (bound : is_bound seen binding ≡ true) (apart : name ≡ binding → ⊥)
      (meet : is_new seen name ≡ false → is_new seen binding ≡ false → name.0 ≡ binding.0 → meets_binding met name binding ≡ true) where
    met-by : is_new seen name ≡ false → is_new seen binding ≡ false → name.0 ≡ binding.0 → is_met seen met binding ≡ true
    met-by old also same =
        any-from (λ (m : Meeting). same_id m.name name && same_id m.binding binding) (λ (m : Meeting). same_id m.binding binding && not (is_new seen m.name)) met
        (λ m is. and-both (same_id m.binding binding) (not (is_new seen m.name)) (and-right (same_id m.name name) (same_id m.binding binding) is)
        (ap (λ (i : Id). not (is_new seen i)) (id-same m.name name (and-left (same_id m.name name) (same_id m.binding binding) is)) ∙ ap not old))
        (meet old also same)

    pub told-apart : (a b : Option (List ℕ)) → text_in names name ≡ a → text_in names binding ≡ b → text_of (text_in names) name ≡ text_of (text_in names) binding → ⊥
    told-apart (Some t) (Some u) is also same =
        let texts : t ≡ u = sym (ap (λ o. unwrap_or o name.0) is) ∙ same ∙ ap (λ o. unwrap_or o binding.0) also in
        apart (got-one name binding u (subst (λ (z : List ℕ). Source name z) texts (source-of name t is)) (source-of binding u also))
    told-apart (Some t) None is also same =
        let texts : t ≡ binding.0 = sym (ap (λ o. unwrap_or o name.0) is) ∙ same ∙ ap (λ o. unwrap_or o binding.0) also in
        true-false (seen-has seen seen binding (bound-seen seen binding bound) (none-old binding also)) (subst (λ (z : List ℕ). source_has seen z ≡ false) texts (got-free name t (source-of name t is)))
    told-apart None (Some u) is also same =
        let texts : name.0 ≡ u = sym (ap (λ o. unwrap_or o name.0) is) ∙ same ∙ ap (λ o. unwrap_or o binding.0) also in
        true-false (seen-has seen seen name is_there (none-old name is)) (subst (λ (z : List ℕ). source_has seen z ≡ false) (sym texts) (got-free binding u (source-of binding u also)))
    told-apart None None is also same =
        let texts : name.0 ≡ binding.0 = sym (ap (λ o. unwrap_or o name.0) is) ∙ same ∙ ap (λ o. unwrap_or o binding.0) also in
        let old = none-old binding also in
        true-false (and-both (not (is_new seen binding)) (is_met seen met binding) (ap not old) (met-by (none-old name is) old texts)) (none-stays binding also bound)

pub texts-tell-apart : TextsTellApart
texts-tell-apart seen met names name binding are is_there bound apart meet =
    told-apart seen met names are name binding is_there bound apart meet (text_in names name) (text_in names binding) refl refl
