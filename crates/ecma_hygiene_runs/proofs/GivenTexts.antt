-- What is known of the texts that ids get: only what is declared gets one, and none is `this`.
use Rattle.std.proofs.Common.{◌≡◌, ◌⊎◌, inl, inr, refl, sym, ap, ◌∙◌, subst, ℕ, zero, suc, ◌+◌, ◌<◌, ◌==◌, ◌%◌, ◌/◌, List, [], ◌∷◌, ◌++◌, map, filter, Option, Some, None, Bool, true, false, cond, ◌&&◌, ◌||◌, bytes_eq, codes, append_assoc, arith, if◌then◌else◌}
use Rattle.std.specs.List.{list_any}
use Rattle.std.specs.Fmt.{decimal, digit_glyph, digits, digits_onto}
use Rattle.std.proofs.Math.Nat.{mod-lt}
use Rattle.std.proofs.lemmas.Bool.{lt-ltb}
use Rattle.std.proofs.lemmas.Slice.Eq.{bytes_eq-Decides}
use Rattle.ecma_hygiene.specs.declared.naming.Named.{Named}
use Rattle.ecma_hygiene.specs.declared.sight.Meeting.{Meeting}
use Rattle.ecma_hygiene.specs.declared.sight.Sight.{Sight}
use Rattle.ecma_hygiene.specs.Ids.{Id, same_id}
use Rattle.ecma_hygiene.specs.Texts.{AreTexts, GetTexts, Had, IsNumbered, bindings, changing_bindings, changes, declared_in, distinct, had_with, is_bound, is_new, last_text, new_bindings, none, rule, source_has, text_in, with_text}
use Rattle.ecma_hygiene.proofs.Telling.{and-both, id-refl, or-first, or-second}
use Rattle.ecma_hygiene_scopes.proofs.Membership.{id-same}

-- texts that end in a digit

last : List ℕ → ℕ → ℕ
last [] before = before
last (x ∷ xs) before = last xs x

last-append : (xs : List ℕ) (x before : ℕ) → last (xs ++ x ∷ []) before ≡ x
unfolding last
last-append [] x before = refl
last-append (y ∷ xs) x before = last-append xs x y

if-ends : (b : Bool) (acc rest : List ℕ) (d : ℕ) → ((front : List ℕ) × (rest ≡ front ++ d ∷ acc)) → (front : List ℕ) × ((if b then d ∷ acc else rest) ≡ front ++ d ∷ acc)
if-ends true acc rest d h = ([], refl)
if-ends false acc rest d h = h

onto-ends : (k n : ℕ) (acc : List ℕ) → (front : List ℕ) × (digits_onto k 10 false n acc ≡ front ++ acc)
onto-ends zero n acc = ([], refl)
onto-ends (suc k) n acc =
    let d = digit_glyph false (n % 10) in
    let rest = onto-ends k (n / 10) (d ∷ acc) in
    let ends = if-ends (n / 10 == 0) acc (digits_onto k 10 false (n / 10) (d ∷ acc)) d rest in
    (ends.0 ++ d ∷ [], ends.1 ∙ sym (append_assoc ends.0 (d ∷ []) acc))

decimal-ends : (n : ℕ) → (front : List ℕ) × (decimal n ≡ front ++ digit_glyph false (n % 10) ∷ [])
unfolding digits
decimal-ends n =
    let d = digit_glyph false (n % 10) in
    if-ends (n / 10 == 0) [] (digits_onto 63 10 false (n / 10) (d ∷ [])) d (onto-ends 63 (n / 10) (d ∷ []))

abbrev this' : List ℕ
this' = codes "this"

digit-apart : (n : ℕ) → digit_glyph false (n % 10) ≡ 115 → ⊥
digit-apart n e =
    let less : n % 10 < 10 = mod-lt n (omega arith) in
    let is : 48 + n % 10 ≡ 115 = ap (λ b. if b then 48 + n % 10 else 87 + n % 10) (sym (lt-ltb (n % 10) 10 less)) ∙ e in
    omega (arith, less, is)

by-test : (b : Bool) → (b ≡ true → ⊥) → b ≡ false
by-test false h = refl
by-test true h = absurd (h refl)

numbered-apart : (had : Had) (text result : List ℕ) → IsNumbered had text result → bytes_eq result this' ≡ false
unfolding last
numbered-apart had text result r = by-test (bytes_eq result this') (λ e.
    let ends = decimal-ends r.number in
    let d = digit_glyph false (r.number % 10) in
    let is : this' ≡ (text ++ ends.0) ++ d ∷ [] = sym ((bytes_eq-Decides result this').0 e) ∙ r.is ∙ ap (λ z. text ++ z) ends.1 ∙ sym (append_assoc text ends.0 (d ∷ [])) in
    digit-apart r.number (sym (ap (λ z. last z 0) is ∙ last-append (text ++ ends.0) d 0)))

rule-apart : (may_keep : Bool) (had : Had) (text result : List ℕ) → rule may_keep had text result → bytes_eq text this' ≡ false → bytes_eq result this' ≡ false
rule-apart false had text result r h = numbered-apart had text result r
rule-apart true had text result r h = go (had text) refl
  where
    go : (b : Bool) → had text ≡ b → bytes_eq result this' ≡ false
    go true e = numbered-apart had text result (subst (λ (b : Bool). cond b (IsNumbered had text result) (result ≡ text)) e r)
    go false e = (let same : result ≡ text = subst (λ (b : Bool). cond b (IsNumbered had text result) (result ≡ text)) e r in ap (λ z. bytes_eq z this') same ∙ h)

-- what is declared

module _ (seen : List Sight) where
  abbrev Bound : List Id → Type 0
  Bound [] = Unit {0}
  Bound (id ∷ ids) = (is_bound seen id ≡ true) × Bound ids

  bound-filter : (f : Id → Bool) (ids : List Id) → Bound ids → Bound (filter f ids)
  bound-filter f [] h = tt
  bound-filter f (id ∷ ids) h = go (bound-filter f ids h.1) (f id) refl
    where
      go : Bound (filter f ids) → (b : Bool) → f id ≡ b → Bound (filter f (id ∷ ids))
      go rest true e = subst (λ b. Bound (cond b (id ∷ filter f ids) (filter f ids))) (sym e) (h.0, rest)
      go rest false e = subst (λ b. Bound (cond b (id ∷ filter f ids) (filter f ids))) (sym e) rest

  bound-cond : (b : Bool) (id : Id) (ids others : List Id) → is_bound seen id ≡ true → Bound ids → Bound others → Bound (cond b ids (id ∷ others))
  bound-cond true id ids others h p q = p
  bound-cond false id ids others h p q = (h, q)

  bound-distinct : (met : Id → Bool) (ids : List Id) → Bound ids → Bound (distinct met ids)
  bound-distinct met [] h = tt
  bound-distinct met (id ∷ ids) h =
      bound-cond (met id) id (distinct met ids) (distinct (λ other. same_id id other || met other) ids) h.0 (bound-distinct met ids h.1) (bound-distinct (λ other. same_id id other || met other) ids h.1)

  bound-declared : (xs : List Sight) → ((f : Sight → Bool) → list_any f xs ≡ true → list_any f seen ≡ true) → Bound (declared_in xs)
  bound-declared [] h = tt
  bound-declared (x ∷ xs) h = go (bound-declared xs (λ f is. h f (or-second (f x) (list_any f xs) is))) x.declares refl
    where
      own : x.declares ≡ true → is_bound seen x.id ≡ true
      own e =
          h (λ y. same_id y.id x.id && y.declares) (or-first (same_id x.id x.id && x.declares) (list_any (λ y. same_id y.id x.id && y.declares) xs) (and-both (same_id x.id x.id) x.declares (id-refl x.id) e))

      go : Bound (declared_in xs) → (b : Bool) → x.declares ≡ b → Bound (declared_in (x ∷ xs))
      go rest true e = subst (λ b. Bound (map (λ y. y.id) (cond b (x ∷ filter (λ y. y.declares) xs) (filter (λ y. y.declares) xs)))) (sym e) (own e, rest)
      go rest false e = subst (λ b. Bound (map (λ y. y.id) (cond b (x ∷ filter (λ y. y.declares) xs) (filter (λ y. y.declares) xs)))) (sym e) rest

  bound-bindings : Bound (bindings seen)
  bound-bindings = bound-distinct none (declared_in seen) (bound-declared seen (λ f is. is))

  -- an id that gets a text is declared, and its text is not `this`
  pub record IsGiven (id : Id) (text : List ℕ) : Type 0 where
    pub bound : is_bound seen id ≡ true
    pub apart : bytes_eq text this' ≡ false

  module _ (others : (id : Id) → is_bound seen id ≡ true → bytes_eq id.0 this' ≡ false) (id : Id) (text : List ℕ) where
    some-is : (s : List ℕ) → ◌≡◌ {A = Option (List ℕ)} (Some s) (Some text) → s ≡ text
    some-is s e = cc

    given-by : (may_keep : Bool) (had : Had) (ids : List Id) (names : List Named) → GetTexts may_keep had ids names → Bound ids → (before : Option (List ℕ)) → last_text names id before ≡ Some text → IsGiven id text ⊎ (before ≡ Some text)
    given-by may_keep had [] [] g bound before h = inr h
    given-by may_keep had [] (n ∷ names) g bound before h = absurd g
    given-by may_keep had (i ∷ ids) [] g bound before h = absurd g
    given-by may_keep had (i ∷ ids) (n ∷ names) g bound before h =
        elim (given-by may_keep (with_text n.text had) ids names g.2 bound.1 (cond (same_id n.id id) (Some n.text) before) h) [ inl given ↦ inl given | inr was ↦ go (same_id n.id id) refl was ]
      where
        go : (b : Bool) → same_id n.id id ≡ b → cond (same_id n.id id) (Some n.text) before ≡ Some text → IsGiven id text ⊎ (before ≡ Some text)
        go false e was = inr (ap (λ b. cond b (Some n.text) before) (sym e) ∙ was)
        go true e was =
            let same : i ≡ id = sym g.0 ∙ id-same n.id id e in
            let its : n.text ≡ text = some-is n.text (ap (λ b. cond b (Some n.text) before) (sym e) ∙ was) in
            inl (record {
              bound = subst (λ z. is_bound seen z ≡ true) same bound.0;
              apart = ap (λ z. bytes_eq z this') (sym its) ∙ rule-apart may_keep had i.0 n.text g.1 (others i bound.0);
            })

    pub given-text : (met : List Meeting) (names : List Named) → AreTexts seen met names → text_in names id ≡ Some text → IsGiven id text
    given-text met names are h =
        let split : last_text are.changed id (last_text are.new id None) ≡ Some text = sym (ap (λ ns. last_text ns id None) are.are ∙ appended are.new are.changed None) ∙ h in
        elim (given-by false (had_with are.new (source_has seen)) (changing_bindings seen met) are.changed are.of_changed (bound-filter (changes seen met) (bindings seen) bound-bindings) (last_text are.new id None) split) [
          | inl given ↦ given
          | inr was ↦ elim (given-by true (source_has seen) (new_bindings seen) are.new are.of_new (bound-filter (is_new seen) (bindings seen) bound-bindings) None was) [ inl given ↦ given | inr nothing ↦ absurd (no-text nothing) ]
        ]
      where
        appended : (names others : List Named) (before : Option (List ℕ)) → last_text (names ++ others) id before ≡ last_text others id (last_text names id before)
        appended [] others before = refl
        appended (n ∷ names) others before = appended names others (cond (same_id n.id id) (Some n.text) before)

        no-text : ◌≡◌ {A = Option (List ℕ)} None (Some text) → ⊥
        no-text e = cc
