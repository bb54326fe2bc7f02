-- Where finitely many texts are had, there is a number behind each text that makes it one that none has.
use Rattle.std.proofs.Common.{◌≡◌, inl, inr, ℕ, zero, suc, ◌+◌, ◌^◌, ◌<◌, ◌≤◌, Bool, true, false, ◌||◌, not, cond, List, [], ◌∷◌, ◌++◌, filter, length, bytes_eq, refl, sym, ap, ◌∙◌, arith}
use Rattle.std.specs.Fmt.{decimal}
use Rattle.std.specs.List.{list_any}
use Rattle.std.specs.Str.Parse.{digits_value}
use Rattle.std.proofs.lemmas.Bool.{cases_order}
use Rattle.std.proofs.lemmas.Fmt.{decimal_is_IsNumeral_wide}
use Rattle.std.proofs.lemmas.List.{append_cancel_left}
use Rattle.std.proofs.lemmas.List.Sums.{count_by-le-length, length-filter}
use Rattle.std.proofs.lemmas.Slice.Eq.{bytes_eq-Decides}
use Rattle.ecma_hygiene.specs.Texts.{Had, IsNumbered}
use Rattle.ecma_hygiene.proofs.Telling.{true-false, or-first, or-second}

-- ---- numerals

abbrev pub limit : ℕ
limit = 10 ^ 64

decimal-apart : (m n : ℕ) → m < limit → n < limit → decimal m ≡ decimal n → m ≡ n
decimal-apart m n p q e = sym (decimal_is_IsNumeral_wide m p).1 ∙ ap (digits_value 10) e ∙ (decimal_is_IsNumeral_wide n q).1

-- ---- texts in a list

abbrev pub is_in : List ℕ → List (List ℕ) → Bool
is_in text texts = list_any (λ (other : List ℕ). bytes_eq other text) texts

-- texts that are had are in this list
abbrev pub AreIn : Had → List (List ℕ) → Type 0
AreIn had texts = (text : List ℕ) → had text ≡ true → is_in text texts ≡ true

abbrev differs : List ℕ → List ℕ → Bool
differs text other = not (bytes_eq other text)

abbrev without : List ℕ → List (List ℕ) → List (List ℕ)
without text texts = filter (differs text) texts

pub filter-le : {X : Type 0} (f : X → Bool) (xs : List X) → length (filter f xs) ≤ length xs
filter-le f xs = omega (arith, length-filter f xs, count_by-le-length f xs)

-- one less, where the text is in it
without-less : (text : List ℕ) (texts : List (List ℕ)) → is_in text texts ≡ true → length (without text texts) < length texts
without-less text [] h = absurd (true-false h refl)
without-less text (x ∷ xs) h = go (without-less text xs) (filter-le (differs text) xs) (bytes_eq x text) refl
  where
    go : (is_in text xs ≡ true → length (without text xs) < length xs) → length (without text xs) ≤ length xs → (b : Bool) → bytes_eq x text ≡ b → length (without text (x ∷ xs)) < length (x ∷ xs)
    go rec le true e = (let is : without text (x ∷ xs) ≡ without text xs = ap (λ (b : Bool). cond (not b) (x ∷ without text xs) (without text xs)) e in omega (arith, ap length is))
    go rec le false e =
        (let is : without text (x ∷ xs) ≡ x ∷ without text xs = ap (λ (b : Bool). cond (not b) (x ∷ without text xs) (without text xs)) e in
        omega (arith, ap length is, rec (ap (λ (b : Bool). b || is_in text xs) (sym e) ∙ h)))

-- the others stay
without-others : (text other : List ℕ) (texts : List (List ℕ)) → (text ≡ other → ⊥) → is_in other texts ≡ true → is_in other (without text texts) ≡ true
without-others text other [] apart h = h
without-others text other (x ∷ xs) apart h = go (without-others text other xs apart) (bytes_eq x other) (bytes_eq x text) refl refl
  where
    rest : List (List ℕ)
    rest = without text xs

    is : (b : Bool) → bytes_eq x text ≡ b → is_in other (without text (x ∷ xs)) ≡ is_in other (cond (not b) (x ∷ rest) rest)
    is b e = ap (λ (b : Bool). is_in other (cond (not b) (x ∷ rest) rest)) e

    go : (is_in other xs ≡ true → is_in other rest ≡ true) → (b c : Bool) → bytes_eq x other ≡ b → bytes_eq x text ≡ c → is_in other (without text (x ∷ xs)) ≡ true
    go rec true true e k = absurd (apart (sym ((bytes_eq-Decides x text).0 k) ∙ (bytes_eq-Decides x other).0 e))
    go rec true false e k = is false k ∙ or-first (bytes_eq x other) (is_in other rest) e
    go rec false true e k = is true k ∙ rec (ap (λ (b : Bool). b || is_in other xs) (sym e) ∙ h)
    go rec false false e k = is false k ∙ or-second (bytes_eq x other) (is_in other rest) (rec (ap (λ (b : Bool). b || is_in other xs) (sym e) ∙ h))

-- ---- the least number

module _ (had : Had) (text : List ℕ) where
  abbrev at_number : ℕ → List ℕ
  at_number k = text ++ decimal k

  numbers-apart : (j k : ℕ) → j < limit → k < limit → at_number j ≡ at_number k → j ≡ k
  numbers-apart j k p q e = decimal-apart j k p q (append_cancel_left text (decimal j) (decimal k) e)

  -- texts with a number from here on that are had are in this list
  abbrev AreInFrom : ℕ → List (List ℕ) → Type 0
  AreInFrom k texts = (j : ℕ) → k ≤ j → j < limit → had (at_number j) ≡ true → is_in (at_number j) texts ≡ true

  abbrev AllHadBelow : ℕ → Type 0
  AllHadBelow k = (j : ℕ) → 1 ≤ j → j < k → had (at_number j) ≡ true

  one-more : (k : ℕ) → AllHadBelow k → had (at_number k) ≡ true → AllHadBelow (suc k)
  one-more k below here j from less = elim (cases_order j k) [
    | inl same ↦ ap (λ (i : ℕ). had (at_number i)) same ∙ here
    | inr other ↦ elim other [ inl lt ↦ below j from lt | inr gt ↦ absurd (omega arith) ]
  ]

  one-less : (k : ℕ) (texts : List (List ℕ)) → k < limit → AreInFrom k texts → AreInFrom (suc k) (without (at_number k) texts)
  one-less k texts small are j from less h =
      without-others (at_number k) (at_number j) texts (λ same. (let e = numbers-apart k j small less same in omega arith)) (are j (omega arith) less h)

  abbrev Found : Type 0
  Found = (result : List ℕ) × IsNumbered had text result

  choose : (k : ℕ) (b : Bool) → had (at_number k) ≡ b → 1 ≤ k → AllHadBelow k → (had (at_number k) ≡ true → Found) → Found
  choose k true e from below other = other e
  choose k false e from below other = (at_number k, record { number = k; positive = from; is = refl; none_has = e; least = below })

  seek : (fuel k : ℕ) (texts : List (List ℕ)) → length texts ≤ fuel → k + fuel < limit → 1 ≤ k → AreInFrom k texts → AllHadBelow k → Found
  seek zero k texts few small from are below =
      choose k (had (at_number k)) refl from below (λ e. (let less = without-less (at_number k) texts (are k (omega arith) (omega arith) e) in absurd (omega arith)))
  seek (suc fuel) k texts few small from are below =
      choose k (had (at_number k)) refl from below
      (λ e. (let less = without-less (at_number k) texts (are k (omega arith) (omega arith) e) in
      seek fuel (suc k) (without (at_number k) texts) (omega arith) (omega arith) (omega arith) (one-less k texts (omega arith) are) (one-more k below e)))

  pub numbered-exists : (texts : List (List ℕ)) → AreIn had texts → 1 + length texts < limit → (result : List ℕ) × IsNumbered had text result
  numbered-exists texts are small =
      seek (length texts) 1 texts (omega arith) small (omega arith) (λ j from less h. are (at_number j) h) (λ j from less. absurd (omega arith))
