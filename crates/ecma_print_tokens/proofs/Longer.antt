-- Signs that nothing behind them makes longer.
use Rattle.std.proofs.Common.{◌≡◌, ℕ, ◌<◌, ◌≤◌, ◌⊎◌, List, [], ◌∷◌, ◌++◌, length, drop, refl, sym, ◌∙◌, subst, arith, Bool, true, false, not, ◌&&◌, ◌||◌, nat_eq, nat_lt, nat_le, codes, inl, inr}
use Rattle.std.specs.List.{list_all, list_any, starts_with}
use Rattle.std.specs.Str.{bytes_eq, chars}
use Rattle.std.specs.Char.{is_ascii_digit}
use Rattle.std.proofs.lemmas.Bool.{and_parts, or_parts, false≢true, eqb-true, not-true, cases_lt, false_from_ne_true}
use Rattle.std.proofs.lemmas.Bool.Decides.{nat_tests}
use Rattle.std.proofs.lemmas.Slice.Eq.{bytes_eq-Decides}
use Rattle.ecma_number.specs.Numeral.{begins}
use Rattle.ecma_lex.specs.Punctuators.{punctuators, begins_with, begins_with_digit, is_longest}
use Rattle.ecma_lex.proofs.Pieces.{among_passes}
use Rattle.ecma_lex.proofs.Suffixes.{chars_ascii}
use Rattle.ecma_lex.proofs.Spelled.{stops}
use Rattle.ecma_print_tokens.specs.Joins.{is_longer_with}
use Rattle.ecma_print_tokens.proofs.Fronts.{one_of, digits, numeral_starts}

-- what a text with a longer start has behind a word
record Longer (w v x : List ℕ) : Type 0 where
  next : ℕ
  others : List ℕ
  is : v ≡ next ∷ others
  starts : starts_with nat_eq x (w ++ next ∷ []) ≡ true

longer : (w v x : List ℕ) → starts_with nat_eq (w ++ v) x ≡ true → length w < length x → Longer w v x
longer w v [] h l = absurd (omega arith)
longer [] [] (y ∷ x) h l = absurd (false≢true h)
longer [] (c ∷ v) (y ∷ x) h l =
    let e : nat_eq y c ≡ true = (and_parts (nat_eq y c) (starts_with nat_eq v x) h).0 in
    let f : nat_eq c y ≡ true = grind (arith, nat_tests) in
    record { next = c; others = v; is = refl; starts = rw f refl }
longer (a ∷ w) v (y ∷ x) h l =
    let p = and_parts (nat_eq y a) (starts_with nat_eq (w ++ v) x) h in
    let r = longer w v x p.1 (omega arith) in
    let e = p.0 in
    let f : nat_eq a y ≡ true = grind (arith, nat_tests) in
    record { next = r.next; others = r.others; is = r.is; starts = rw (f, r.starts) refl }

abbrev Unlengthened : List (List ℕ) → List ℕ → List ℕ → Type 0
Unlengthened words w v = (c : ℕ) (vs : List ℕ) → v ≡ c ∷ vs → list_any (λ p. starts_with nat_eq p (w ++ c ∷ [])) words ≡ false

shorter : (words : List (List ℕ)) (w v : List ℕ) → Unlengthened words w v → list_all (λ x. nat_le (length x) (length w) || not (begins_with (w ++ v) x)) words ≡ true
unfolding begins_with
shorter [] w v h = refl
shorter (x ∷ words) w v h = both (cases_lt (length w) (length x)) (shorter words w v (λ c vs e. (or_parts (starts_with nat_eq x (w ++ c ∷ [])) (list_any (λ p. starts_with nat_eq p (w ++ c ∷ [])) words) (h c vs e)).1))
  where
    none : length w < length x → starts_with nat_eq (w ++ v) x ≡ false
    none l = false_from_ne_true (starts_with nat_eq (w ++ v) x) (λ k.
        let r = longer w v x k l in
        let e = (or_parts (starts_with nat_eq x (w ++ r.next ∷ [])) (list_any (λ p. starts_with nat_eq p (w ++ r.next ∷ [])) words) (h r.next r.others r.is)).0 in
        false≢true (sym e ∙ r.starts))

    both : (length w < length x) ⊎ (length x ≤ length w) → list_all (λ x. nat_le (length x) (length w) || not (begins_with (w ++ v) x)) words ≡ true → list_all (λ x. nat_le (length x) (length w) || not (begins_with (w ++ v) x)) (x ∷ words) ≡ true
    both (inl l) t = let n = none l in let m : nat_le (length x) (length w) ≡ false = grind (arith, nat_tests) in rw (m, n, t) refl
    both (inr l) t = let m : nat_le (length x) (length w) ≡ true = grind (arith, nat_tests) in rw (m, t) refl

starts_itself : (w v : List ℕ) → starts_with nat_eq (w ++ v) w ≡ true
starts_itself [] [] = refl
starts_itself [] (c ∷ v) = refl
starts_itself (c ∷ w) v = let e : nat_eq c c ≡ true = grind (arith, nat_tests) in rw (e, starts_itself w v) refl

no_digit_byte : (v : List ℕ) → stops is_ascii_digit (chars v) ≡ true → begins_with_digit v ≡ false
no_digit_byte [] h = refl
no_digit_byte (c ∷ v) h = elim (cases_lt c 128) [
  | inl small ↦ not-true (is_ascii_digit c) (rw (chars_ascii c v small) at h)
  | inr wide ↦ grind (arith, nat_tests)
]

no_question : (w v : List ℕ) → (bytes_eq w (codes "?.") ≡ true → stops is_ascii_digit (chars v) ≡ true) → (bytes_eq w (codes "?.") && begins_with_digit (drop 2 (w ++ v))) ≡ false
no_question w v f = go (bytes_eq w (codes "?.")) refl
  where
    go : (b : Bool) → bytes_eq w (codes "?.") ≡ b → (b && begins_with_digit (drop 2 (w ++ v))) ≡ false
    go true e = let z : w ≡ codes "?." = (bytes_eq-Decides w (codes "?.")).0 e in rw z (no_digit_byte v (f e))
    go false e = refl

-- a sign that nothing makes longer is the longest
pub longest_before : (w v : List ℕ) → list_any (λ p. bytes_eq p w) punctuators ≡ true → Unlengthened punctuators w v → (bytes_eq w (codes "?.") ≡ true → stops is_ascii_digit (chars v) ≡ true) → is_longest w (w ++ v) ≡ true
unfolding is_longest begins_with
longest_before w v known h f = rw (starts_itself w v, no_question w v f, known) (shorter punctuators w v h)

-- characters that stand in no sign behind its first

abbrev rest_of : List ℕ → List ℕ
rest_of [] = []
rest_of (c ∷ cs) = cs

abbrev pub Apart : (ℕ → Bool) → Type 0
Apart q = list_all (λ p. list_all (λ c. not (q c)) (rest_of p)) punctuators ≡ true

lacks : (q : ℕ → Bool) (c : ℕ) → q c ≡ true → (w p : List ℕ) → list_all (λ d. not (q d)) p ≡ true → starts_with nat_eq p (w ++ c ∷ []) ≡ false
lacks q c h [] [] n = refl
lacks q c h [] (y ∷ p) n = go (nat_eq c y) refl
  where
    go : (b : Bool) → nat_eq c y ≡ b → (b && starts_with nat_eq p []) ≡ false
    go false e = refl
    go true e =
        let z : c ≡ y = eqb-true c y e in
        let m : q y ≡ true = rw z at h in
        absurd (false≢true (sym (not-true (q y) (and_parts (not (q y)) (list_all (λ d. not (q d)) p) n).0) ∙ m))
lacks q c h (a ∷ w) [] n = refl
lacks q c h (a ∷ w) (y ∷ p) n = let t = lacks q c h w p (and_parts (not (q y)) (list_all (λ d. not (q d)) p) n).1 in rw t (go (nat_eq a y))
  where
    go : (b : Bool) → (b && false) ≡ false
    go true = refl
    go false = refl

lack_all : (q : ℕ → Bool) (c : ℕ) → q c ≡ true → (a : ℕ) (w : List ℕ) (words : List (List ℕ)) → list_all (λ p. list_all (λ d. not (q d)) (rest_of p)) words ≡ true → list_any (λ p. starts_with nat_eq p (a ∷ w ++ c ∷ [])) words ≡ false
lack_all q c h a w [] n = refl
lack_all q c h a w ([] ∷ words) n = lack_all q c h a w words n
lack_all q c h a w ((y ∷ p) ∷ words) n =
    let m = and_parts (list_all (λ d. not (q d)) p) (list_all (λ p. list_all (λ d. not (q d)) (rest_of p)) words) n in
    rw (lacks q c h w p m.0, lack_all q c h a w words m.1) (go (nat_eq a y))
  where
    go : (b : Bool) → ((b && false) || false) ≡ false
    go true = refl
    go false = refl

not_longer : (q : ℕ → Bool) → Apart q → (w : List ℕ) → 1 ≤ length w → (c : ℕ) → q c ≡ true → is_longer_with w c ≡ false
not_longer q n [] l c h = absurd (omega arith)
not_longer q n (a ∷ w) l c h = lack_all q c h a w punctuators n

wide_apart : Apart (λ c. not (nat_lt c 128))
unfolding punctuators
wide_apart = refl

-- where a text begins with such a character, no sign in front of it is longer
pub unlengthened : (q : ℕ → Bool) → Apart q → (w : List ℕ) → 1 ≤ length w → (v : List ℕ) → begins q (chars v) ≡ true → Unlengthened punctuators w v
unlengthened q n w l v h c vs e =
    let k : begins q (chars (c ∷ vs)) ≡ true = subst (λ x. begins q (chars x) ≡ true) e h in
    elim (cases_lt c 128) [
      | inl small ↦ not_longer q n w l c (rw (chars_ascii c vs small) at k)
      | inr wide ↦ not_longer (λ c. not (nat_lt c 128)) wide_apart w l c (grind (arith, nat_tests))
    ]

-- a point lengthens `.` and `?`
points_lengthen : list_all (λ w. (bytes_eq w (codes ".") || bytes_eq w (codes "?")) || not (is_longer_with w 46)) punctuators ≡ true
unfolding punctuators
points_lengthen = refl

digits_apart : Apart (one_of digits)
unfolding punctuators
digits_apart = refl

pub numeral_unlengthened : (w : List ℕ) → list_any (λ p. bytes_eq p w) punctuators ≡ true → bytes_eq w (codes ".") ≡ false → bytes_eq w (codes "?") ≡ false → 1 ≤ length w → (v : List ℕ) → begins (one_of numeral_starts) (chars v) ≡ true → Unlengthened punctuators w v
numeral_unlengthened w known a b l v h c vs e =
    let k : begins (one_of numeral_starts) (chars (c ∷ vs)) ≡ true = subst (λ x. begins (one_of numeral_starts) (chars x) ≡ true) e h in
    elim (cases_lt c 128) [
      | inl small ↦ go (nat_eq c 46) refl (rw (chars_ascii c vs small) at k)
      | inr wide ↦ not_longer (λ c. not (nat_lt c 128)) wide_apart w l c (grind (arith, nat_tests))
    ]
  where
    point : is_longer_with w 46 ≡ false
    point = let p : ((bytes_eq w (codes ".") || bytes_eq w (codes "?")) || not (is_longer_with w 46)) ≡ true = among_passes (λ w. (bytes_eq w (codes ".") || bytes_eq w (codes "?")) || not (is_longer_with w 46)) punctuators w points_lengthen known in not-true (is_longer_with w 46) (rw (a, b) at p)

    go : (t : Bool) → nat_eq c 46 ≡ t → (t || one_of digits c) ≡ true → is_longer_with w c ≡ false
    go true x y = let z : c ≡ 46 = eqb-true c 46 x in rw z point
    go false x y = not_longer (one_of digits) digits_apart w l c y
