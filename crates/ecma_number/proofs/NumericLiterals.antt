-- A production takes the same characters of every text in which they stand in front of something that does not go on with it.
use Rattle.std.proofs.Common.{◌≡◌, ◌≢◌, ◌∙◌, sym, ap, refl, ℕ, ◌≤◌, ◌<◌, Bool, true, false, cond, not, ◌&&◌, ◌||◌, eqb, nat_lt, subst, List, [], ◌∷◌, ◌++◌, append_assoc, append-nil, Option, Some, None, is_some, ◌⊎◌, inl, inr, arith}
use Rattle.std.specs.Prelude.{ℤ, pos}
use Rattle.std.specs.List.{list_all}
use Rattle.std.specs.Char.{is_digit, eq_ignore_ascii_case}
use Rattle.std.proofs.lemmas.Bool.{and_parts, eqb-true, false≢true}
use Rattle.std.proofs.lemmas.Bool.Decides.{nat_tests}
use Rattle.ecma_number.specs.declared.numerals.NumeralForm.{NumeralForm}
use Rattle.ecma_number.specs.declared.numerals.NumeralForm.TheVariants.{Literal}
use Rattle.ecma_number.specs.Numeral.{Reading, Digits, MathematicalValue, begins, big_int_literal, code_point, decimal_integer, decimal_literal, digits, exponent_part, fraction_behind, has_separators, integer, integer_literal, letter, mantissa, maybe, more_digits, no_digits, non_decimal_integer_literal, numeric_literal, or_read, point_and_digits, pure, radix_and_digits, sign, signed, signed_integer, then_read, times_power, with_digit, with_fraction, ◌>>◌, ◌>>=◌, ◌//◌}

abbrev pub is_plain : ℕ → Bool
is_plain character = nat_lt character 128

pub plain_append : (v w : List ℕ) → list_all is_plain v ≡ true → list_all is_plain w ≡ true → list_all is_plain (v ++ w) ≡ true
plain_append [] w h k = k
plain_append (c ∷ v) w h k = let p = and_parts (is_plain c) (list_all is_plain v) h in let q = p.0 in rw q (plain_append v w p.1 k)

-- ---- what a production takes

-- a test of what follows
abbrev pub Test : Type 0
Test = List ℕ → Bool

-- The word that was taken is taken again in front of each text that does not go on with it, by the test `goes_on`; and with such a text behind it
-- it does not begin as the test `other` says.
pub record Taken {A : Type 0} (read : Reading A) (goes_on other : Test) (text : List ℕ) (value : A) (rest : List ℕ) : Type 0 where
  pub word : List ℕ
  pub parts : text ≡ word ++ rest
  pub plain : list_all is_plain word ≡ true
  pub again : (next : List ℕ) → goes_on next ≡ false → read (word ++ next) ≡ Some (value, next)
  pub begun : (next : List ℕ) → goes_on next ≡ false → other (word ++ next) ≡ false

abbrev pub Takes : {A : Type 0} → Reading A → Test → Test → Type 0
Takes {A} read goes_on other = (text : List ℕ) (value : A) (rest : List ℕ) → read text ≡ Some (value, rest) → Taken read goes_on other text value rest

abbrev pub never : Test
never text = false

none_some : {A B : Type 0} {x : B} → ◌≡◌ {A = Option B} None (Some x) → A
none_some h = cc

some_is : {B : Type 0} {x y : B} → ◌≡◌ {A = Option B} (Some x) (Some y) → x ≡ y
some_is h = cc

pure_takes : {A : Type 0} (value : A) (goes_on : Test) → Takes (pure value) goes_on goes_on
pure_takes value goes_on text v rest h =
    let e = some_is h in
    record { word = []; parts = ap (λ r. r.1) e; plain = refl; again = λ next k. ap (λ r. Some (r.0, next)) e; begun = λ next k. k }

then_takes : {A B : Type 0} (first : Reading A) (next : A → Reading B) (within goes_on other : Test) → Takes first within other → ((value : A) → Takes (next value) goes_on within) → Takes (first >>= next) goes_on other
then_takes {A} {B} first next within goes_on other f g text value rest h = at (first text) refl h
  where
    at : (o : Option (A × List ℕ)) → first text ≡ o → then_read next o ≡ Some (value, rest) → Taken (first >>= next) goes_on other text value rest
    at None e k = none_some k
    at (Some read) e k =
        let s = f text read.0 read.1 e in
        let t = g read.0 read.1 value rest k in
        record {
          word = s.word ++ t.word;
          parts = s.parts ∙ ap (λ l. s.word ++ l) t.parts ∙ sym (append_assoc s.word t.word rest);
          plain = plain_append s.word t.word s.plain t.plain;
          again = λ u c. (let a = s.again (t.word ++ u) (t.begun u c) in rw (append_assoc s.word t.word u, a) (t.again u c));
          begun = λ u c. rw (append_assoc s.word t.word u) (s.begun (t.word ++ u) (t.begun u c));
        }

or_takes : {A : Type 0} (first second : Reading A) (goes_on other : Test) → Takes first goes_on other → ((text : List ℕ) (value : A) (rest : List ℕ) → first text ≡ None → second text ≡ Some (value, rest) → Taken second goes_on (λ text. is_some (first text) || other text) text value rest) → Takes (first // second) goes_on other
or_takes {A} first second goes_on other f g text value rest h = at (first text) refl h
  where
    none : (o : Option (A × List ℕ)) (b : Bool) → (is_some o || b) ≡ false → o ≡ None
    none None b e = refl
    none (Some x) b e = absurd (false≢true (sym e))

    off : (a b : Bool) → (a || b) ≡ false → b ≡ false
    off true b e = absurd (false≢true (sym e))
    off false b e = e

    at : (o : Option (A × List ℕ)) → first text ≡ o → or_read second text o ≡ Some (value, rest) → Taken (first // second) goes_on other text value rest
    at (Some read) e k = let t = f text value rest (e ∙ k) in
        record { word = t.word; parts = t.parts; plain = t.plain; again = λ u c. (let a = t.again u c in rw a refl); begun = t.begun }
    at None e k = let t = g text value rest e k in
        record {
          word = t.word;
          parts = t.parts;
          plain = t.plain;
          again = λ u c. (let n = none (first (t.word ++ u)) (other (t.word ++ u)) (t.begun u c) in rw n (t.again u c));
          begun = λ u c. off (is_some (first (t.word ++ u))) (other (t.word ++ u)) (t.begun u c);
        }

maybe_takes : {A : Type 0} (missing : A) (read : Reading A) (goes_on other : Test) → Takes read goes_on other → ((next : List ℕ) → goes_on next ≡ false → (read next ≡ None) × (other next ≡ false)) → Takes (maybe missing read) goes_on other
maybe_takes {A} missing read goes_on other f none text value rest h = at (read text) refl h
  where
    at : (o : Option (A × List ℕ)) → read text ≡ o → or_read (pure missing) text o ≡ Some (value, rest) → Taken (maybe missing read) goes_on other text value rest
    at (Some r) e k = let t = f text value rest (e ∙ k) in
        record { word = t.word; parts = t.parts; plain = t.plain; again = λ u c. (let a = t.again u c in rw a refl); begun = t.begun }
    at None e k = let t = pure_takes missing goes_on text value rest k in
        record { word = []; parts = ap (λ r. r.1) (some_is k); plain = refl; again = λ u c. (let n = (none u c).0 in rw n (ap (λ r. Some (r.0, u)) (some_is k))); begun = λ u c. (none u c).1 }

behind_takes : {A : Type 0} (passes : ℕ → Bool) (read : Reading A) (goes_on within other : Test) → ((c : ℕ) → passes c ≡ true → is_plain c ≡ true) → ((c : ℕ) (text : List ℕ) → passes c ≡ true → within text ≡ false → other (c ∷ text) ≡ false) → Takes read goes_on within → Takes (passes >> read) goes_on other
behind_takes passes read goes_on within other plain apart f [] value rest h = none_some h
behind_takes {A} passes read goes_on within other plain apart f (c ∷ text) value rest h = at (passes c) refl h
  where
    at : (b : Bool) → passes c ≡ b → cond b (read text) None ≡ Some (value, rest) → Taken (passes >> read) goes_on other (c ∷ text) value rest
    at false e k = none_some k
    at true e k = let t = f text value rest k in let p = plain c e in
        record {
          word = c ∷ t.word;
          parts = ap (λ l. c ∷ l) t.parts;
          plain = rw p t.plain;
          again = λ u n. rw e (t.again u n);
          begun = λ u n. apart c (t.word ++ u) e (t.begun u n);
        }

-- ---- digits

-- a text that begins with no digit of the radix and no separator
abbrev Stops : ℕ → Test → Type 0
Stops radix goes_on = (c : ℕ) (text : List ℕ) → goes_on (c ∷ text) ≡ false → (is_digit c radix ≡ false) × (eqb c 95 ≡ false)

record More (form : NumeralForm) (radix : ℕ) (goes_on : Test) (before : Digits) (text : List ℕ) (read : Digits × List ℕ) : Type 0 where
  word : List ℕ
  parts : text ≡ word ++ read.1
  plain : list_all is_plain word ≡ true
  again : (next : List ℕ) → goes_on next ≡ false → more_digits form radix before (word ++ next) ≡ (read.0, next)
  begun : (passes : ℕ → Bool) → ((c : ℕ) → passes c ≡ true → is_digit c radix ≡ true) → begins passes text ≡ true → (next : List ℕ) → begins passes (word ++ next) ≡ true

digit_plain : (c radix : ℕ) → radix ≤ 36 → is_digit c radix ≡ true → is_plain c ≡ true
digit_plain c radix most h = grind (arith, nat_tests)

separator_plain : (c : ℕ) → eqb c 95 ≡ true → is_plain c ≡ true
separator_plain c h = grind (arith, nat_tests)

no_and : (a b : Bool) → a ≡ false → (a && b) ≡ false
no_and a b h = rw h refl

module _ (form : NumeralForm) (radix : ℕ) (most : radix ≤ 36) (goes_on : Test) (stops : Stops radix goes_on) where
  none_more : (before : Digits) (next : List ℕ) → goes_on next ≡ false → more_digits form radix before next ≡ (before, next)
  none_more before [] h = refl
  none_more before (c ∷ next) h =
      let s = stops c next h in
      let d = s.0 in
      let e = s.1 in
      rw (d, e) (at (has_separators form))
    where
      at : (b : Bool) → cond (b && false) (more_digits form radix before next) (before, c ∷ next) ≡ (before, c ∷ next)
      at true = refl
      at false = refl

  more_takes : (before : Digits) (text : List ℕ) → More form radix goes_on before text (more_digits form radix before text)
  more_takes before [] = record { word = []; parts = refl; plain = refl; again = none_more before; begun = λ p sub h. absurd (false≢true h) }
  more_takes before (c ∷ text) = at (is_digit c radix) (has_separators form && (eqb c 95 && begins (λ d. is_digit d radix) text)) refl refl (more_takes (with_digit radix before c) text) (more_takes before text)
    where
      at : (a b : Bool) → is_digit c radix ≡ a → (has_separators form && (eqb c 95 && begins (λ d. is_digit d radix) text)) ≡ b → More form radix goes_on (with_digit radix before c) text (more_digits form radix (with_digit radix before c) text) → More form radix goes_on before text (more_digits form radix before text)
          → More form radix goes_on before (c ∷ text) (cond a (more_digits form radix (with_digit radix before c) text) (cond b (more_digits form radix before text) (before, c ∷ text)))
      at true b d s t v = let p = digit_plain c radix most d in
          record { word = c ∷ t.word; parts = ap (λ l. c ∷ l) t.parts; plain = rw p t.plain; again = λ u n. rw d (t.again u n); begun = λ p sub h u. h }
      at false true d s t v =
          let q = and_parts (has_separators form) (eqb c 95 && begins (λ d. is_digit d radix) text) s in
          let r = and_parts (eqb c 95) (begins (λ d. is_digit d radix) text) q.1 in
          let p = separator_plain c r.0 in
          let x = q.0 in
          let y = r.0 in
          record { word = c ∷ v.word; parts = ap (λ l. c ∷ l) v.parts; plain = rw p v.plain; again = λ u n. (let z = v.begun (λ c. is_digit c radix) (λ c h. h) r.1 u in rw (d, x, y, z) (v.again u n)); begun = λ p sub h. absurd (false≢true (sym d ∙ sub c h)) }
      at false false d s t v = record { word = []; parts = refl; plain = refl; again = none_more before; begun = λ p sub h. absurd (false≢true (sym d ∙ sub c h)) }

  -- digits of which the first passes a test
  digits_taken : (passes : ℕ → Bool) → ((c : ℕ) → passes c ≡ true → is_digit c radix ≡ true) → (other : Test) → ((c : ℕ) (text : List ℕ) → passes c ≡ true → other (c ∷ text) ≡ false) → (text : List ℕ) (value : Digits) (rest : List ℕ) → (begins (λ c. is_digit c radix) text ≡ true → begins passes text ≡ true) → digits form radix text ≡ Some (value, rest) → Taken (digits form radix) goes_on other text value rest
  unfolding digits
  digits_taken passes sub other apart text value rest start h = at (begins (λ c. is_digit c radix) text) refl h
    where
      begun_apart : (l : List ℕ) → begins passes l ≡ true → other l ≡ false
      begun_apart [] e = absurd (false≢true e)
      begun_apart (c ∷ l) e = apart c l e

      at : (b : Bool) → begins (λ c. is_digit c radix) text ≡ b → cond b (Some (more_digits form radix no_digits text)) None ≡ Some (value, rest) → Taken (digits form radix) goes_on other text value rest
      at false e k = none_some k
      at true e k =
          let t = more_takes no_digits text in
          let s = some_is k in
          record {
            word = t.word;
            parts = t.parts ∙ ap (λ r. t.word ++ r.1) s;
            plain = t.plain;
            again = λ u n. (let b = t.begun (λ c. is_digit c radix) (λ c d. d) e u in rw b (ap Some (t.again u n ∙ ap (λ r. (r.0, u)) s)));
            begun = λ u n. begun_apart (t.word ++ u) (t.begun passes sub (start e) u);
          }

  digits_takes : (other : Test) → ((c : ℕ) (text : List ℕ) → is_digit c radix ≡ true → other (c ∷ text) ≡ false) → Takes (digits form radix) goes_on other
  digits_takes other apart text value rest h = digits_taken (λ c. is_digit c radix) (λ c d. d) other apart text value rest (λ e. e) h

  no_digits_there : (next : List ℕ) → goes_on next ≡ false → digits form radix next ≡ None
  unfolding digits
  no_digits_there [] h = refl
  no_digits_there (c ∷ next) h = let d = (stops c next h).0 in rw d refl

-- ---- the productions of numeric literals

-- a character that a NumericLiteral may have: a digit of any radix, so also the letters `e`, `x`, `o`, `b` and `n`, a separator, a point
abbrev pub is_part : ℕ → Bool
is_part c = is_digit c 36 || (eqb c 95 || eqb c 46)

abbrev pub goes_on : Test
goes_on = begins is_part

-- the same but for the letter of an exponent, but for that and the point, but for the point alone, and but for the letter of a BigInt
abbrev in_mantissa : ℕ → Bool
in_mantissa c = is_part c && not (eq_ignore_ascii_case c 101)

abbrev in_integer : ℕ → Bool
in_integer c = in_mantissa c && not (eqb c 46)

abbrev in_pointed : ℕ → Bool
in_pointed c = is_part c && not (eqb c 46)

abbrev in_big_int : ℕ → Bool
in_big_int c = is_part c && not (eqb c 110)

is_sign : ℕ → Bool
is_sign c = eqb c 43 || eqb c 45

stops_all : (radix : ℕ) → radix ≤ 36 → Stops radix goes_on
stops_all radix most c text h = (grind (arith, nat_tests), grind (arith, nat_tests))

stops_mantissa : Stops 10 (begins in_mantissa)
stops_mantissa c text h = (grind (arith, nat_tests), grind (arith, nat_tests))

stops_integer : Stops 10 (begins in_integer)
stops_integer c text h = (grind (arith, nat_tests), grind (arith, nat_tests))

stops_pointed : (radix : ℕ) → radix ≤ 36 → Stops radix (begins in_pointed)
stops_pointed radix most c text h = (grind (arith, nat_tests), grind (arith, nat_tests))

stops_big_int : (radix : ℕ) → radix ≤ 16 → Stops radix (begins in_big_int)
stops_big_int radix most c text h = (grind (arith, nat_tests), grind (arith, nat_tests))

fewer : (p q : ℕ → Bool) (next : List ℕ) → begins p next ≡ false → begins (λ c. p c && q c) next ≡ false
fewer p q [] h = refl
fewer p q (c ∷ next) h = no_and (p c) (q c) h

letter_plain : (l : ℕ) → 97 ≤ l → l ≤ 122 → (c : ℕ) → letter l c ≡ true → is_plain c ≡ true
letter_plain l low high c h = grind (arith, nat_tests)

letters_apart : (l m : ℕ) → 97 ≤ l → l ≤ 122 → 97 ≤ m → m ≤ 122 → l ≢ m → (c : ℕ) → letter l c ≡ true → letter m c ≡ false
letters_apart l m a b d e n c h = grind (arith, nat_tests)

point_plain : (m : ℕ) → m < 128 → (c : ℕ) → code_point m c ≡ true → is_plain c ≡ true
point_plain m small c h = grind (arith, nat_tests)

-- at a character that is known
known : (m : ℕ) (P : ℕ → Type 0) → P m → (c : ℕ) → code_point m c ≡ true → P c
known m P p c h = subst P (sym (eqb-true c m h)) p

-- a text in which no letter of a radix stands
abbrev NoRadix : Test → Type 0
NoRadix test = (c : ℕ) (text : List ℕ) → test (c ∷ text) ≡ false → (letter 120 c ≡ false) × (letter 111 c ≡ false) × (letter 98 c ≡ false)

no_radix : (test : Test) → NoRadix test → (text : List ℕ) → test text ≡ false → radix_and_digits Literal text ≡ None
no_radix test none [] h = refl
no_radix test none (c ∷ text) h = let n = none c text h in let x = n.0 in let y = n.1 in let z = n.2 in rw (x, y, z) refl

integer_no_radix : NoRadix (begins in_integer)
integer_no_radix c text h = (grind (arith, nat_tests), grind (arith, nat_tests), grind (arith, nat_tests))

big_int_no_radix : NoRadix (begins in_big_int)
big_int_no_radix c text h = (grind (arith, nat_tests), grind (arith, nat_tests), grind (arith, nat_tests))

-- a digit other than 0
abbrev is_nonzero : ℕ → Bool
is_nonzero c = is_digit c 10 && not (eqb c 48)

abbrev zero_alone : Reading Digits
zero_alone = code_point 48 >> pure no_digits

nonzero_digit : (c : ℕ) → is_nonzero c ≡ true → is_digit c 10 ≡ true
nonzero_digit c h = (and_parts (is_digit c 10) (not (eqb c 48)) h).0

nonzero_apart : (c : ℕ) → is_nonzero c ≡ true → eqb c 48 ≡ false
nonzero_apart c h = grind (arith, nat_tests)

nonzero_begins : (text : List ℕ) → zero_alone text ≡ None → begins (λ c. is_digit c 10) text ≡ true → begins is_nonzero text ≡ true
nonzero_begins [] none h = h
nonzero_begins (c ∷ text) none h = at (eqb c 48) none
  where
    at : (b : Bool) → ◌≡◌ {A = Option (Digits × List ℕ)} (cond b (Some (no_digits, text)) None) None → (is_digit c 10 && not b) ≡ true
    at true k = none_some (sym k)
    at false k = rw h refl

-- a fraction with no integer before its point
abbrev fraction_alone : Reading MathematicalValue
fraction_alone = code_point 46 >> (digits Literal 10 >>= λ fraction. pure (with_fraction no_digits fraction))

module _ (other : Test) (apart : (c : ℕ) (text : List ℕ) → eqb c 48 ≡ false → other (c ∷ text) ≡ false) where
  integer_takes : (test : Test) → Stops 10 test → ((text : List ℕ) → test text ≡ false → other (48 ∷ text) ≡ false) → Takes (decimal_integer Literal) test other
  unfolding decimal_integer
  integer_takes test stops zero =
      or_takes zero_alone (digits Literal 10) test other
      (behind_takes (code_point 48) (pure no_digits) test test other (point_plain 48 (omega arith)) (λ c text h n. known 48 (λ d. other (d ∷ text) ≡ false) (zero text n) c h) (pure_takes no_digits test))
      (λ text value rest none h. digits_taken Literal 10 (omega arith) test stops is_nonzero nonzero_digit (λ l. is_some (zero_alone l) || other l) (λ c l k. (let z = nonzero_apart c k in rw z (apart c l z))) text value rest (nonzero_begins text none) h)

  point_takes : (test : Test) → Stops 10 test → Takes (point_and_digits Literal) test (begins in_integer)
  unfolding point_and_digits
  point_takes test stops =
      behind_takes (code_point 46) (maybe no_digits (digits Literal 10)) test never (begins in_integer) (point_plain 46 (omega arith)) (λ c text h n. known 46 (λ d. in_integer d ≡ false) refl c h)
      (maybe_takes no_digits (digits Literal 10) test never (digits_takes Literal 10 (omega arith) test stops never (λ c text h. refl)) (λ next h. (no_digits_there Literal 10 (omega arith) test stops next h, refl)))

  no_point : (next : List ℕ) → begins in_mantissa next ≡ false → point_and_digits Literal next ≡ None
  unfolding point_and_digits
  no_point [] h = refl
  no_point (c ∷ next) h = let n : eqb c 46 ≡ false = grind (arith, nat_tests) in rw n refl

  fraction_takes : (whole : Digits) → Takes (fraction_behind Literal whole) (begins in_mantissa) (begins in_integer)
  fraction_takes whole =
      then_takes (maybe no_digits (point_and_digits Literal)) (λ fraction. pure (with_fraction whole fraction)) (begins in_mantissa) (begins in_mantissa) (begins in_integer)
      (maybe_takes no_digits (point_and_digits Literal) (begins in_mantissa) (begins in_integer) (point_takes (begins in_mantissa) stops_mantissa) (λ next h. (no_point next h, fewer in_mantissa (λ c. not (eqb c 46)) next h)))
      (λ fraction. pure_takes (with_fraction whole fraction) (begins in_mantissa))

  no_integer : (text : List ℕ) → is_some ((decimal_integer Literal >>= fraction_behind Literal) (46 ∷ text)) ≡ false
  unfolding decimal_integer digits
  no_integer text = refl

  -- digits behind a point, which no integer begins with
  fraction_alone_takes : (test : Test) → Stops 10 test → Takes fraction_alone test (λ l. is_some ((decimal_integer Literal >>= fraction_behind Literal) l) || other l)
  fraction_alone_takes test stops =
      behind_takes (code_point 46) (digits Literal 10 >>= λ fraction. pure (with_fraction no_digits fraction)) test never (λ l. is_some ((decimal_integer Literal >>= fraction_behind Literal) l) || other l) (point_plain 46 (omega arith))
      (λ c l k n. known 46 (λ d. (is_some ((decimal_integer Literal >>= fraction_behind Literal) (d ∷ l)) || other (d ∷ l)) ≡ false) (let i = no_integer l in rw i (apart 46 l refl)) c k)
      (then_takes (digits Literal 10) (λ fraction. pure (with_fraction no_digits fraction)) test test never (digits_takes Literal 10 (omega arith) test stops never (λ c l k. refl)) (λ fraction. pure_takes (with_fraction no_digits fraction) test))

  mantissa_takes : ((text : List ℕ) → begins in_integer text ≡ false → other (48 ∷ text) ≡ false) → Takes (mantissa Literal) (begins in_mantissa) other
  unfolding mantissa
  mantissa_takes zero =
      or_takes (decimal_integer Literal >>= fraction_behind Literal) fraction_alone (begins in_mantissa) other
      (then_takes (decimal_integer Literal) (fraction_behind Literal) (begins in_integer) (begins in_mantissa) other (integer_takes (begins in_integer) stops_integer zero) fraction_takes)
      (λ text value rest none h. fraction_alone_takes (begins in_mantissa) stops_mantissa text value rest h)

  sign_takes : Takes sign (begins is_sign) never
  sign_takes =
      or_takes (code_point 43 >> pure false) (code_point 45 >> pure true) (begins is_sign) never
      (behind_takes (code_point 43) (pure false) (begins is_sign) (begins is_sign) never (point_plain 43 (omega arith)) (λ c l k n. refl) (pure_takes false (begins is_sign)))
      (λ text value rest none h. behind_takes (code_point 45) (pure true) (begins is_sign) (begins is_sign) (λ l. is_some ((code_point 43 >> pure false) l) || never l) (point_plain 45 (omega arith)) (λ c l k n. known 45 (λ d. (is_some ((code_point 43 >> pure false) (d ∷ l)) || false) ≡ false) refl c k) (pure_takes true (begins is_sign)) text value rest h)

  no_sign : (next : List ℕ) → begins is_sign next ≡ false → sign next ≡ None
  unfolding is_sign
  no_sign [] h = refl
  no_sign (c ∷ next) h = let p : eqb c 43 ≡ false = grind (arith, nat_tests) in let m : eqb c 45 ≡ false = grind (arith, nat_tests) in rw (p, m) refl

  digit_no_sign : (c : ℕ) → is_digit c 10 ≡ true → is_sign c ≡ false
  unfolding is_sign
  digit_no_sign c h = grind (arith, nat_tests)

  signed_takes : (test : Test) → Stops 10 test → Takes (signed_integer Literal) test never
  unfolding signed_integer
  signed_takes test stops =
      then_takes (maybe false sign) (λ negative. digits Literal 10 >>= λ size. pure (signed negative size.mv)) (begins is_sign) test never
      (maybe_takes false sign (begins is_sign) never sign_takes (λ next h. (no_sign next h, refl)))
      (λ negative. then_takes (digits Literal 10) (λ size. pure (signed negative size.mv)) test test (begins is_sign) (digits_takes Literal 10 (omega arith) test stops (begins is_sign) (λ c l k. digit_no_sign c k)) (λ size. pure_takes (signed negative size.mv) test))

  exponent_takes : (test : Test) → Stops 10 test → Takes (exponent_part Literal) test (begins in_mantissa)
  unfolding exponent_part
  exponent_takes test stops = behind_takes (letter 101) (signed_integer Literal) test never (begins in_mantissa) (letter_plain 101 (omega arith) (omega arith)) (λ c l k n. rw k (off (is_part c))) (signed_takes test stops)
    where
      off : (b : Bool) → (b && false) ≡ false
      off true = refl
      off false = refl

  no_exponent : (next : List ℕ) → goes_on next ≡ false → exponent_part Literal next ≡ None
  unfolding exponent_part
  no_exponent [] h = refl
  no_exponent (c ∷ next) h = let n : letter 101 c ≡ false = grind (arith, nat_tests) in rw n refl

  decimal_takes : ((text : List ℕ) → begins in_integer text ≡ false → other (48 ∷ text) ≡ false) → Takes (decimal_literal Literal) goes_on other
  unfolding decimal_literal
  decimal_takes zero =
      then_takes (mantissa Literal) (λ value. maybe (pos 0) (exponent_part Literal) >>= λ power. pure (times_power value power)) (begins in_mantissa) goes_on other (mantissa_takes zero)
      (λ value. then_takes (maybe (pos 0) (exponent_part Literal)) (λ power. pure (times_power value power)) goes_on goes_on (begins in_mantissa)
      (maybe_takes (pos 0) (exponent_part Literal) goes_on (begins in_mantissa) (exponent_takes goes_on (stops_all 10 (omega arith))) (λ next h. (no_exponent next h, fewer is_part (λ c. not (eq_ignore_ascii_case c 101)) next h)))
      (λ power. pure_takes (times_power value power) goes_on))

module _ (test : Test) (stops : (radix : ℕ) → radix ≤ 16 → Stops radix test) where
  radix_takes : Takes (radix_and_digits Literal) test never
  radix_takes =
      or_takes (letter 120 >> digits Literal 16) (letter 111 >> digits Literal 8 // letter 98 >> digits Literal 2) test never
      (behind_takes (letter 120) (digits Literal 16) test never never (letter_plain 120 (omega arith) (omega arith)) (λ c l k n. refl) (of_radix 16 (omega arith)))
      (λ text value rest none h. or_takes (letter 111 >> digits Literal 8) (letter 98 >> digits Literal 2) test no_hex
      (behind_takes (letter 111) (digits Literal 8) test never no_hex (letter_plain 111 (omega arith) (omega arith)) (λ c l k n. (let x = letters_apart 111 120 (omega arith) (omega arith) (omega arith) (omega arith) (omega arith) c k in rw x refl)) (of_radix 8 (omega arith)))
      (λ text value rest none h. behind_takes (letter 98) (digits Literal 2) test never (λ l. is_some ((letter 111 >> digits Literal 8) l) || no_hex l) (letter_plain 98 (omega arith) (omega arith)) (λ c l k n. (let x = letters_apart 98 120 (omega arith) (omega arith) (omega arith) (omega arith) (omega arith) c k in let y = letters_apart 98 111 (omega arith) (omega arith) (omega arith) (omega arith) (omega arith) c k in rw (x, y) refl)) (of_radix 2 (omega arith)) text value rest h)
      text value rest h)
    where
      of_radix : (radix : ℕ) → radix ≤ 16 → Takes (digits Literal radix) test never
      of_radix radix most = digits_takes Literal radix (omega arith) test (stops radix most) never (λ c l k. refl)

      no_hex : Test
      no_hex l = is_some ((letter 120 >> digits Literal 16) l) || never l

  non_decimal_takes : Takes (non_decimal_integer_literal Literal) test never
  unfolding non_decimal_integer_literal
  non_decimal_takes = behind_takes (code_point 48) (radix_and_digits Literal) test never never (point_plain 48 (omega arith)) (λ c l k n. refl) radix_takes

-- a literal with a prefix
abbrev prefixed : Reading MathematicalValue
prefixed = non_decimal_integer_literal Literal >>= λ value. pure (integer value)

prefixed_apart : (c : ℕ) (text : List ℕ) → eqb c 48 ≡ false → (is_some (prefixed (c ∷ text)) || never (c ∷ text)) ≡ false
unfolding non_decimal_integer_literal
prefixed_apart c text h = rw h refl

prefixed_zero : (text : List ℕ) → begins in_integer text ≡ false → (is_some (prefixed (48 ∷ text)) || never (48 ∷ text)) ≡ false
unfolding non_decimal_integer_literal
prefixed_zero text h = let n = no_radix (begins in_integer) integer_no_radix text h in rw n refl

pub numeric_literal_takes : Takes numeric_literal goes_on never
unfolding numeric_literal
numeric_literal_takes =
    or_takes prefixed (decimal_literal Literal) goes_on never
    (then_takes (non_decimal_integer_literal Literal) (λ value. pure (integer value)) goes_on goes_on never (non_decimal_takes goes_on (λ radix most. stops_all radix (omega arith))) (λ value. pure_takes (integer value) goes_on))
    (λ text value rest none h. decimal_takes (λ l. is_some (prefixed l) || never l) prefixed_apart prefixed_zero text value rest h)

non_decimal_apart : (c : ℕ) (text : List ℕ) → eqb c 48 ≡ false → (is_some (non_decimal_integer_literal Literal (c ∷ text)) || never (c ∷ text)) ≡ false
unfolding non_decimal_integer_literal
non_decimal_apart c text h = rw h refl

non_decimal_zero : (text : List ℕ) → begins in_big_int text ≡ false → (is_some (non_decimal_integer_literal Literal (48 ∷ text)) || never (48 ∷ text)) ≡ false
unfolding non_decimal_integer_literal
non_decimal_zero text h = let n = no_radix (begins in_big_int) big_int_no_radix text h in rw n refl

-- a BigInt ends with its letter, whatever follows
pub big_int_literal_takes : Takes big_int_literal never never
unfolding big_int_literal integer_literal
big_int_literal_takes =
    then_takes integer_literal (λ value. code_point 110 >> pure value) (begins in_big_int) never never
    (or_takes (non_decimal_integer_literal Literal) (decimal_integer Literal) (begins in_big_int) never (non_decimal_takes (begins in_big_int) stops_big_int)
    (λ text value rest none h. integer_takes (λ l. is_some (non_decimal_integer_literal Literal l) || never l) non_decimal_apart (begins in_big_int) (stops_big_int 10 (omega arith)) non_decimal_zero text value rest h))
    (λ value. behind_takes (code_point 110) (pure value) never never (begins in_big_int) (point_plain 110 (omega arith)) (λ c l k n. known 110 (λ d. in_big_int d ≡ false) refl c k) (pure_takes value never))

-- ---- a point behind a literal: it goes on with a decimal integer alone

-- whether a literal with a prefix stands there
abbrev is_prefixed : Test
is_prefixed text = is_some (prefixed text) || never text

is_none : {A : Type 0} (o : Option A) (b : Bool) → (is_some o || b) ≡ false → o ≡ None
is_none None b e = refl
is_none (Some x) b e = absurd (false≢true (sym e))

is_off : (a b : Bool) → (a || b) ≡ false → b ≡ false
is_off true b e = absurd (false≢true (sym e))
is_off false b e = e

-- what is taken of a whole word is taken in front of a point too
record Pointed {A : Type 0} (read : Reading A) (other : Test) (word : List ℕ) (value : A) (next : List ℕ) : Type 0 where
  again : read (word ++ 46 ∷ next) ≡ Some (value, 46 ∷ next)
  begun : other (word ++ 46 ∷ next) ≡ false

pointed : {A : Type 0} (read : Reading A) (test other : Test) (word : List ℕ) (value : A) → Taken read test other word value [] → (next : List ℕ) → test (46 ∷ next) ≡ false → Pointed read other word value next
pointed read test other word value t next closed =
    let same : t.word ≡ word = sym (t.parts ∙ append-nil t.word) in
    record {
      again = subst (λ l. read (l ++ 46 ∷ next) ≡ Some (value, 46 ∷ next)) same (t.again (46 ∷ next) closed);
      begun = subst (λ l. other (l ++ 46 ∷ next) ≡ false) same (t.begun (46 ∷ next) closed);
    }

-- a literal with an exponent, and one with a point behind its integer
abbrev with_exponent : Reading MathematicalValue
with_exponent = mantissa Literal >>= λ value. exponent_part Literal >>= λ power. pure (times_power value power)

abbrev with_point : Reading MathematicalValue
with_point = decimal_integer Literal >>= λ whole. point_and_digits Literal >>= λ fraction. pure (with_fraction whole fraction)

with_exponent_takes : Takes with_exponent (begins in_pointed) is_prefixed
with_exponent_takes =
    then_takes (mantissa Literal) (λ value. exponent_part Literal >>= λ power. pure (times_power value power)) (begins in_mantissa) (begins in_pointed) is_prefixed (mantissa_takes is_prefixed prefixed_apart prefixed_zero)
    (λ value. then_takes (exponent_part Literal) (λ power. pure (times_power value power)) (begins in_pointed) (begins in_pointed) (begins in_mantissa) (exponent_takes is_prefixed prefixed_apart (begins in_pointed) (stops_pointed 10 (omega arith))) (λ power. pure_takes (times_power value power) (begins in_pointed)))

integer_taken : Takes (decimal_integer Literal) (begins in_integer) is_prefixed
integer_taken = integer_takes is_prefixed prefixed_apart (begins in_integer) stops_integer prefixed_zero

with_point_takes : Takes with_point (begins in_integer) is_prefixed
with_point_takes =
    then_takes (decimal_integer Literal) (λ whole. point_and_digits Literal >>= λ fraction. pure (with_fraction whole fraction)) (begins in_integer) (begins in_integer) is_prefixed integer_taken
    (λ whole. then_takes (point_and_digits Literal) (λ fraction. pure (with_fraction whole fraction)) (begins in_integer) (begins in_integer) (begins in_integer) (point_takes is_prefixed prefixed_apart (begins in_integer) stops_integer) (λ fraction. pure_takes (with_fraction whole fraction) (begins in_integer)))

prefixed_takes : Takes prefixed (begins in_pointed) never
prefixed_takes = then_takes (non_decimal_integer_literal Literal) (λ value. pure (integer value)) (begins in_pointed) (begins in_pointed) never (non_decimal_takes (begins in_pointed) (λ radix most. stops_pointed radix (omega arith))) (λ value. pure_takes (integer value) (begins in_pointed))

-- so reads the whole production
numeric_of : (text : List ℕ) (read : Option (MathematicalValue × List ℕ)) → is_prefixed text ≡ false → decimal_literal Literal text ≡ read → numeric_literal text ≡ read
unfolding numeric_literal
numeric_of text read other h = let none = is_none (prefixed text) false other in rw none h

decimal_of_exponent : (text : List ℕ) (read : MathematicalValue × List ℕ) → with_exponent text ≡ Some read → decimal_literal Literal text ≡ Some read
unfolding decimal_literal
decimal_of_exponent text read h = at (mantissa Literal text) h
  where
    by : (m : MathematicalValue × List ℕ) (o : Option (ℤ × List ℕ)) → then_read (λ power. pure (times_power m.0 power)) o ≡ Some read → then_read (λ power. pure (times_power m.0 power)) (or_read (pure (pos 0)) m.1 o) ≡ Some read
    by m None k = none_some k
    by m (Some e) k = k

    at : (o : Option (MathematicalValue × List ℕ)) → then_read (λ value. exponent_part Literal >>= λ power. pure (times_power value power)) o ≡ Some read → then_read (λ value. maybe (pos 0) (exponent_part Literal) >>= λ power. pure (times_power value power)) o ≡ Some read
    at None k = none_some k
    at (Some m) k = by m (exponent_part Literal m.1) k

decimal_of_mantissa : (text : List ℕ) (value : MathematicalValue) (rest : List ℕ) → mantissa Literal text ≡ Some (value, rest) → exponent_part Literal rest ≡ None → decimal_literal Literal text ≡ Some (times_power value (pos 0), rest)
unfolding decimal_literal
decimal_of_mantissa text value rest h none = rw (h, none) refl

mantissa_of_point : (text : List ℕ) (read : MathematicalValue × List ℕ) → with_point text ≡ Some read → mantissa Literal text ≡ Some read
unfolding mantissa
mantissa_of_point text read h = at (decimal_integer Literal text) h
  where
    by : (d : Digits × List ℕ) (o : Option (Digits × List ℕ)) → then_read (λ fraction. pure (with_fraction d.0 fraction)) o ≡ Some read → or_read fraction_alone text (then_read (λ fraction. pure (with_fraction d.0 fraction)) (or_read (pure no_digits) d.1 o)) ≡ Some read
    by d None k = none_some k
    by d (Some f) k = k

    at : (o : Option (Digits × List ℕ)) → then_read (λ whole. point_and_digits Literal >>= λ fraction. pure (with_fraction whole fraction)) o ≡ Some read → or_read fraction_alone text (then_read (fraction_behind Literal) o) ≡ Some read
    at None k = none_some k
    at (Some d) k = by d (point_and_digits Literal d.1) k

mantissa_alone : (text : List ℕ) (read : Option (MathematicalValue × List ℕ)) → (decimal_integer Literal >>= fraction_behind Literal) text ≡ None → fraction_alone text ≡ read → mantissa Literal text ≡ read
unfolding mantissa
mantissa_alone text read none h = rw none h

exponent_at_end : exponent_part Literal [] ≡ None
unfolding exponent_part
exponent_at_end = refl

exponent_at_point : (next : List ℕ) → exponent_part Literal (46 ∷ next) ≡ None
unfolding exponent_part
exponent_at_point next = refl

mantissa_to_point : (text : List ℕ) (whole : Digits) → decimal_integer Literal text ≡ Some (whole, 46 ∷ []) → mantissa Literal text ≡ Some (with_fraction whole no_digits, [])
unfolding mantissa point_and_digits digits
mantissa_to_point text whole h = rw h refl

-- either the literal with the point is a literal, or the literal is taken in front of each point
abbrev pub StopsAtPoint : List ℕ → MathematicalValue → Type 0
StopsAtPoint word value = ((longer : MathematicalValue) × (numeric_literal (word ++ 46 ∷ []) ≡ Some (longer, []))) ⊎ ((next : List ℕ) → numeric_literal (word ++ 46 ∷ next) ≡ Some (value, 46 ∷ next))

module _ (word : List ℕ) where
  by_mantissa : (value : MathematicalValue) (other : Test) (read : Reading MathematicalValue) → ((next : List ℕ) → Pointed read other word value next) → ((text : List ℕ) → other text ≡ false → is_prefixed text ≡ false) → ((text : List ℕ) (rest : List ℕ) → other text ≡ false → read text ≡ Some (value, rest) → mantissa Literal text ≡ Some (value, rest)) → StopsAtPoint word (times_power value (pos 0))
  by_mantissa value other read p apart reads = inr (λ next.
      let here = p next in
      let mantissa = reads (word ++ 46 ∷ next) (46 ∷ next) here.begun here.again in
      numeric_of (word ++ 46 ∷ next) (Some (times_power value (pos 0), 46 ∷ next)) (apart (word ++ 46 ∷ next) here.begun) (decimal_of_mantissa (word ++ 46 ∷ next) value (46 ∷ next) mantissa (exponent_at_point next)))

  by_integer : (whole : Digits) (value : MathematicalValue) → decimal_integer Literal word ≡ Some (whole, []) → StopsAtPoint word value
  by_integer whole value h = inl (
    times_power (with_fraction whole no_digits) (pos 0),
    let here = pointed (decimal_integer Literal) (begins in_integer) is_prefixed word whole (integer_taken word whole [] h) [] refl in
        numeric_of (word ++ 46 ∷ []) (Some (times_power (with_fraction whole no_digits) (pos 0), [])) here.begun (decimal_of_mantissa (word ++ 46 ∷ []) (with_fraction whole no_digits) [] (mantissa_to_point (word ++ 46 ∷ []) whole here.again) exponent_at_end),
  )

  integer_or_alone : Test
  integer_or_alone l = is_some ((decimal_integer Literal >>= fraction_behind Literal) l) || is_prefixed l

  by_alone : (value : MathematicalValue) → fraction_alone word ≡ Some (value, []) → StopsAtPoint word (times_power value (pos 0))
  unfolding integer_or_alone
  by_alone value h = by_mantissa value integer_or_alone fraction_alone
      (λ next. pointed fraction_alone (begins in_integer) integer_or_alone word value (fraction_alone_takes is_prefixed prefixed_apart (begins in_integer) stops_integer word value [] h) next refl)
      (λ text other. is_off (is_some ((decimal_integer Literal >>= fraction_behind Literal) text)) (is_prefixed text) other)
      (λ text rest other k. mantissa_alone text (Some (value, rest)) (is_none ((decimal_integer Literal >>= fraction_behind Literal) text) (is_prefixed text) other) k)

  by_point : (value : MathematicalValue) → with_point word ≡ Some (value, []) → StopsAtPoint word (times_power value (pos 0))
  by_point value h = by_mantissa value is_prefixed with_point
      (λ next. pointed with_point (begins in_integer) is_prefixed word value (with_point_takes word value [] h) next refl)
      (λ text other. other)
      (λ text rest other k. mantissa_of_point text (value, rest) k)

  of_mantissa : (value : MathematicalValue) → mantissa Literal word ≡ Some (value, []) → StopsAtPoint word (times_power value (pos 0))
  unfolding mantissa
  of_mantissa value h = at (decimal_integer Literal word) refl h
    where
      by : (d : Digits × List ℕ) → decimal_integer Literal word ≡ Some d → (o : Option (Digits × List ℕ)) → point_and_digits Literal d.1 ≡ o → or_read fraction_alone word (then_read (λ fraction. pure (with_fraction d.0 fraction)) (or_read (pure no_digits) d.1 o)) ≡ Some (value, []) → StopsAtPoint word (times_power value (pos 0))
      by d e None f k = let end : d.1 ≡ [] = ap (λ r. r.1) (some_is k) in by_integer d.0 (times_power value (pos 0)) (e ∙ ap (λ l. Some (d.0, l)) end)
      by d e (Some g) f k = by_point value (rw (e, f) k)

      at : (o : Option (Digits × List ℕ)) → decimal_integer Literal word ≡ o → or_read fraction_alone word (then_read (fraction_behind Literal) o) ≡ Some (value, []) → StopsAtPoint word (times_power value (pos 0))
      at None e k = by_alone value k
      at (Some d) e k = by d e (point_and_digits Literal d.1) refl k

  by_exponent : (value : MathematicalValue) → with_exponent word ≡ Some (value, []) → StopsAtPoint word value
  by_exponent value h = inr (λ next.
      let here = pointed with_exponent (begins in_pointed) is_prefixed word value (with_exponent_takes word value [] h) next refl in
      numeric_of (word ++ 46 ∷ next) (Some (value, 46 ∷ next)) here.begun (decimal_of_exponent (word ++ 46 ∷ next) (value, 46 ∷ next) here.again))

  of_decimal : (value : MathematicalValue) → decimal_literal Literal word ≡ Some (value, []) → StopsAtPoint word value
  unfolding decimal_literal
  of_decimal value h = at (mantissa Literal word) refl h
    where
      by : (m : MathematicalValue × List ℕ) → mantissa Literal word ≡ Some m → (o : Option (ℤ × List ℕ)) → exponent_part Literal m.1 ≡ o → then_read (λ power. pure (times_power m.0 power)) (or_read (pure (pos 0)) m.1 o) ≡ Some (value, []) → StopsAtPoint word value
      by m e None f k =
          let end : m.1 ≡ [] = ap (λ r. r.1) (some_is k) in
          let same : times_power m.0 (pos 0) ≡ value = ap (λ r. r.0) (some_is k) in
          subst (StopsAtPoint word) same (of_mantissa m.0 (e ∙ ap (λ l. Some (m.0, l)) end))
      by m e (Some g) f k = by_exponent value (rw (e, f) k)

      at : (o : Option (MathematicalValue × List ℕ)) → mantissa Literal word ≡ o → then_read (λ value. maybe (pos 0) (exponent_part Literal) >>= λ power. pure (times_power value power)) o ≡ Some (value, []) → StopsAtPoint word value
      at None e k = none_some k
      at (Some m) e k = by m e (exponent_part Literal m.1) refl k

  pub point_behind : (value : MathematicalValue) → numeric_literal word ≡ Some (value, []) → StopsAtPoint word value
  unfolding numeric_literal
  point_behind value h = at (prefixed word) refl h
    where
      at : (o : Option (MathematicalValue × List ℕ)) → prefixed word ≡ o → or_read (decimal_literal Literal) word o ≡ Some (value, []) → StopsAtPoint word value
      at None e k = of_decimal value k
      at (Some read) e k = inr (λ next.
          let here = pointed prefixed (begins in_pointed) never word value (prefixed_takes word value [] (e ∙ k)) next refl in
          let first = here.again in
          rw first refl)

-- ---- what a literal begins with: a digit or a point

abbrev pub begins_numeric : ℕ → Bool
begins_numeric c = is_digit c 10 || eqb c 46

no_digit_first : (c : ℕ) (cs : List ℕ) → is_digit c 10 ≡ false → digits Literal 10 (c ∷ cs) ≡ None
unfolding digits
no_digit_first c cs d = rw d refl

no_integer_first : (c : ℕ) (cs : List ℕ) → eqb c 48 ≡ false → is_digit c 10 ≡ false → decimal_integer Literal (c ∷ cs) ≡ None
unfolding decimal_integer
no_integer_first c cs z d = let n = no_digit_first c cs d in rw (z, n) refl

no_mantissa_first : (c : ℕ) (cs : List ℕ) → begins_numeric c ≡ false → eqb c 48 ≡ false → mantissa Literal (c ∷ cs) ≡ None
unfolding mantissa
no_mantissa_first c cs h z =
    let d : is_digit c 10 ≡ false = grind (arith, nat_tests) in
    let p : eqb c 46 ≡ false = grind (arith, nat_tests) in
    let n = no_integer_first c cs z d in
    rw (n, p) refl

no_prefix_first : (c : ℕ) (cs : List ℕ) → eqb c 48 ≡ false → non_decimal_integer_literal Literal (c ∷ cs) ≡ None
unfolding non_decimal_integer_literal
no_prefix_first c cs z = rw z refl

no_literal_first : (c : ℕ) (cs : List ℕ) → begins_numeric c ≡ false → numeric_literal (c ∷ cs) ≡ None
unfolding numeric_literal decimal_literal
no_literal_first c cs h =
    let z : eqb c 48 ≡ false = grind (arith, nat_tests) in
    let p = no_prefix_first c cs z in
    let m = no_mantissa_first c cs h z in
    rw (p, m) refl

pub numeric_begins : (c : ℕ) (cs : List ℕ) (value : MathematicalValue) (rest : List ℕ) → numeric_literal (c ∷ cs) ≡ Some (value, rest) → begins_numeric c ≡ true
numeric_begins c cs value rest h = at (begins_numeric c) refl
  where
    at : (b : Bool) → begins_numeric c ≡ b → b ≡ true
    at true e = refl
    at false e = none_some (sym (no_literal_first c cs e) ∙ h)
