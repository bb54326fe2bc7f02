-- Literals are read the same of two texts in which the same characters stand, from one place on in the one and from another in the other, up to the
-- end of the literal.
use Rattle.std.proofs.Common.{◌≡◌, ℕ, zero, suc, ◌+◌, ◌-◌, ◌<◌, ◌≤◌, List, refl, ap, sym, ◌∙◌, subst, arith, Option, Some, None, Bool, true, false, cond, not, ◌||◌, nat_le, nat_eq, is_some}
use Rattle.std.specs.Char.{len_utf8, is_ascii_digit}
use Rattle.std.specs.Str.{chars}
use Rattle.std.proofs.lemmas.Str.{len_utf8_ascii}
use Rattle.std.proofs.lemmas.Bool.{false≢true, eqb-true, eq-eqb}
use Rattle.ecma_lex.specs.Text.{piece}
use Rattle.ecma_number.specs.Blanks.{is_line_terminator}
use Rattle.ecma_lex.specs.Parts.{Part, char_at, passes, passing, code_point, then_at, or_at, ◌>>◌, ◌//◌, many, unless, nothing}
use Rattle.ecma_lex.specs.Escapes.{is_hex_digit, is_character_escape, hex_digit, hex4_digits, hex_digits, hex_value, hex_escape_sequence, braced_digits, unicode_escape_sequence, hex_or_unicode, if_code_point, numeric_escape, character_escape_sequence, decimal_digit, null_escape, escape_sequence, cr_lf, line_terminator_sequence, escape}
use Rattle.ecma_lex.specs.Values.{string_part, literal_part}
use Rattle.ecma_lex.proofs.Repeats.{none_some, Moves, forward_many, moves_forward, many_none, many_some}
use Rattle.ecma_lex.proofs.Literals.{passing_here, moves_hex_digit, moves_hex_or_unicode}

-- what ends a literal begins with: `"`, `$`, `'` and the backtick
abbrev pub is_end : ℕ → Bool
is_end c = nat_eq c 34 || (nat_eq c 36 || (nat_eq c 39 || nat_eq c 96))

-- a test that only characters of ASCII pass, and none of these
abbrev IsInner : (ℕ → Bool) → Type 0
IsInner p = (c : ℕ) → p c ≡ true → (c < 128) × (is_end c ≡ false)

-- what a test tells apart is not the same
pub apart : (p : ℕ → Bool) (c d : ℕ) → p d ≡ false → p c ≡ true → nat_eq c d ≡ false
apart p c d h k = go (nat_eq c d) refl
  where
    go : (t : Bool) → nat_eq c d ≡ t → nat_eq c d ≡ false
    go true e = absurd (false≢true (sym h ∙ subst (λ x. p x ≡ true) (eqb-true c d e) k))
    go false e = e

is_inner : (p : ℕ → Bool) → ((c : ℕ) → p c ≡ true → c < 128) → p 34 ≡ false → p 36 ≡ false → p 39 ≡ false → p 96 ≡ false → IsInner p
is_inner p small h k l m = λ c e. (small c e, rw (apart p c 34 h e, apart p c 36 k e, apart p c 39 l e, apart p c 96 m e) refl)

digit_small : (c : ℕ) → is_hex_digit c ≡ true → c < 128
digit_small c h = grind arith

decimal_small : (c : ℕ) → is_ascii_digit c ≡ true → c < 128
decimal_small c h = grind arith

code_inner : (d : ℕ) → d < 128 → is_end d ≡ false → IsInner (λ c. nat_eq c d)
code_inner d h k = λ c e. (let z : c ≡ d = eqb-true c d e in (omega arith, ap is_end z ∙ k))

digit_inner : IsInner is_hex_digit
digit_inner = is_inner is_hex_digit digit_small refl refl refl refl

decimal_inner : IsInner is_ascii_digit
decimal_inner = is_inner is_ascii_digit decimal_small refl refl refl refl

module _ (text : List ℕ) where
  -- a character of ASCII stands there where its part does
  pub code_here : (d i j : ℕ) → d < 128 → code_point d text i ≡ Some j → (char_at text i ≡ Some d) × (j ≡ i + 1)
  code_here d i j small h = go (char_at text i) refl h
    where
      go : (o : Option ℕ) → char_at text i ≡ o → passes (λ c. nat_eq c d) i o ≡ Some j → (char_at text i ≡ Some d) × (j ≡ i + 1)
      go None e k = none_some k
      go (Some c) e k = test (nat_eq c d) refl k
        where
          test : (t : Bool) → nat_eq c d ≡ t → cond t (Some (i + len_utf8 c)) None ≡ Some j → (char_at text i ≡ Some d) × (j ≡ i + 1)
          test true x m =
              let z : c ≡ d = eqb-true c d x in
              let one : len_utf8 c ≡ 1 = ap len_utf8 z ∙ len_utf8_ascii d small in
              let n : i + len_utf8 c ≡ j = cc in
              (e ∙ ap Some z, omega arith)
          test false x m = none_some m

  pub code_stands : (d i : ℕ) → d < 128 → char_at text i ≡ Some d → code_point d text i ≡ Some (i + 1)
  code_stands d i small h = let t : nat_eq d d ≡ true = eq-eqb d d refl in let one : len_utf8 d ≡ 1 = len_utf8_ascii d small in passing_here text (λ c. nat_eq c d) i d h ∙ rw (t, one) refl

module _ (first second : List ℕ) (a b n : ℕ) where
  -- the same characters stand from a on and from b on; what ends the literal is the last of them
  pub record Alike : Type 0 where
    pub same : (k : ℕ) → k < n → char_at first (a + k) ≡ char_at second (b + k)
    pub pieces : (k m : ℕ) → k ≤ m → m < n → piece first (a + k) (a + m) ≡ piece second (b + k) (b + m)
    pub fits : (k c : ℕ) → k < n → char_at first (a + k) ≡ Some c → k + len_utf8 c ≤ n
    pub last : ℕ
    pub ends : char_at first (a + (n - 1)) ≡ Some last
    pub stops : is_end last ≡ true

  -- a part ends at the same place of both, before place m behind the first, or stands in neither
  abbrev pub Same : ℕ → Option ℕ → Option ℕ → Type 0
  Same m None None = Unit {0}
  Same m None (Some j) = ⊥
  Same m (Some i) None = ⊥
  Same m (Some i) (Some j) = (k : ℕ) × (k < m) × (i ≡ a + k) × (j ≡ b + k)

  -- a part that does not take the last character, and one that may
  abbrev pub Inside : Part → Type 0
  Inside p = (k : ℕ) → k < n → Same n (p first (a + k)) (p second (b + k))

  abbrev pub Within : Part → Type 0
  Within p = (k : ℕ) → k < n → Same (suc n) (p first (a + k)) (p second (b + k))

  same_more : (o q : Option ℕ) → Same n o q → Same (suc n) o q
  same_more None None h = tt
  same_more None (Some j) h = h
  same_more (Some i) None h = h
  same_more (Some i) (Some j) h = (h.0, omega (arith, h.1), h.2, h.3)

  within : (p : Part) → Inside p → Within p
  within p h = λ k l. same_more (p first (a + k)) (p second (b + k)) (h k l)

  then_same : (m : ℕ) (q : Part) (o r : Option ℕ) → Same n o r → ((k : ℕ) → k < n → Same m (q first (a + k)) (q second (b + k))) → Same m (then_at q first o) (then_at q second r)
  then_same m q None None h f = tt
  then_same m q None (Some j) h f = absurd h
  then_same m q (Some i) None h f = absurd h
  then_same m q (Some i) (Some j) h f = subst (λ x. Same m (q first x) (q second j)) (sym h.2) (subst (λ y. Same m (q first (a + h.0)) (q second y)) (sym h.3) (f h.0 h.1))

  or_same : (m : ℕ) (q : Part) (k : ℕ) (o r : Option ℕ) → Same m o r → Same m (q first (a + k)) (q second (b + k)) → Same m (or_at q first (a + k) o) (or_at q second (b + k) r)
  or_same m q k None None h f = f
  or_same m q k None (Some j) h f = absurd h
  or_same m q k (Some i) None h f = absurd h
  or_same m q k (Some i) (Some j) h f = h

  unless_same : (m l : ℕ) (o r s t : Option ℕ) → Same m o r → Same l s t → Same l (cond (is_some o) None s) (cond (is_some r) None t)
  unless_same m l None None s t h f = f
  unless_same m l None (Some j) s t h f = absurd h
  unless_same m l (Some i) None s t h f = absurd h
  unless_same m l (Some i) (Some j) s t h f = tt

  then_inside : (p q : Part) → Inside p → Inside q → Inside (p >> q)
  then_inside p q h f = λ k l. then_same n q (p first (a + k)) (p second (b + k)) (h k l) f

  pub then_within : (p q : Part) → Inside p → Within q → Within (p >> q)
  then_within p q h f = λ k l. then_same (suc n) q (p first (a + k)) (p second (b + k)) (h k l) f

  or_inside : (p q : Part) → Inside p → Inside q → Inside (p // q)
  or_inside p q h f = λ k l. or_same n q k (p first (a + k)) (p second (b + k)) (h k l) (f k l)

  pub or_within : (p q : Part) → Within p → Within q → Within (p // q)
  or_within p q h f = λ k l. or_same (suc n) q k (p first (a + k)) (p second (b + k)) (h k l) (f k l)

  pub unless_within : (p q : Part) → Within p → Within q → Within (unless p q)
  unless_within p q h f = λ k l. unless_same (suc n) (suc n) (p first (a + k)) (p second (b + k)) (q first (a + k)) (q second (b + k)) (h k l) (f k l)

  nothing_inside : Inside nothing
  nothing_inside k l = (k, l, refl, refl)

  module _ (alike : Alike) where
    passing_same : (m : ℕ) (p : ℕ → Bool) (k : ℕ) → k < n → ((c : ℕ) → char_at first (a + k) ≡ Some c → p c ≡ true → k + len_utf8 c < m) → Same m (passing p first (a + k)) (passing p second (b + k))
    passing_same m p k l f = subst (λ o. Same m (passing p first (a + k)) (passes p (b + k) o)) (alike.same k l) (go (char_at first (a + k)) refl)
      where
        go : (o : Option ℕ) → char_at first (a + k) ≡ o → Same m (passes p (a + k) o) (passes p (b + k) o)
        go None e = tt
        go (Some c) e = test (p c) refl
          where
            test : (t : Bool) → p c ≡ t → Same m (cond t (Some (a + k + len_utf8 c)) None) (cond t (Some (b + k + len_utf8 c)) None)
            test true x = (k + len_utf8 c, f c e x, omega arith, omega arith)
            test false x = tt

    pub passing_within : (p : ℕ → Bool) → Within (passing p)
    passing_within p k l = passing_same (suc n) p k l (λ c e x. (let h = alike.fits k c l e in omega arith))

    pub passing_inside : (p : ℕ → Bool) → IsInner p → Inside (passing p)
    passing_inside p inner k l = passing_same n p k l (λ c e x. before c e (inner c x))
      where
        before : (c : ℕ) → char_at first (a + k) ≡ Some c → (c < 128) × (is_end c ≡ false) → k + len_utf8 c < n
        before c e h = go (nat_eq (k + 1) n) refl
          where
            one : len_utf8 c ≡ 1
            one = len_utf8_ascii c h.0

            go : (t : Bool) → nat_eq (k + 1) n ≡ t → k + len_utf8 c < n
            go true x =
                let at : a + k ≡ a + (n - 1) = grind arith in
                let is : Some c ≡ Some alike.last = sym e ∙ ap (char_at first) at ∙ alike.ends in
                let here : c ≡ alike.last = cc in
                absurd (false≢true (sym h.1 ∙ ap is_end here ∙ alike.stops))
            go false x = let o = one in let d : k + 1 ≡ n → ⊥ = λ q. (let y : nat_eq (k + 1) n ≡ true = grind arith in false≢true (sym x ∙ y)) in grind arith

    pub code_inside : (d : ℕ) → d < 128 → is_end d ≡ false → Inside (code_point d)
    code_inside d h k = passing_inside (λ c. nat_eq c d) (code_inner d h k)

    many_same : (p : Part) → Moves first p → Moves second p → Inside p → (d k : ℕ) → k < n → n ≤ d + k → Same n (many p first (a + k)) (many p second (b + k))
    many_same p v w h zero k l f = absurd (omega arith)
    many_same p v w h (suc d) k l f = go (p first (a + k)) (p second (b + k)) refl refl (h k l) (λ m. many_same p v w h d m)
      where
        go : (o r : Option ℕ) → p first (a + k) ≡ o → p second (b + k) ≡ r → Same n o r → ((m : ℕ) → m < n → n ≤ d + m → Same n (many p first (a + m)) (many p second (b + m))) → Same n (many p first (a + k)) (many p second (b + k))
        go None None e g s more = rw (many_none first p (a + k) e, many_none second p (b + k) g) (k, l, refl, refl)
        go None (Some j) e g s more = absurd s
        go (Some i) None e g s more = absurd s
        go (Some i) (Some j) e g s more =
            let m = s.0 in
            let x : p first (a + k) ≡ Some (a + m) = e ∙ ap Some s.2 in
            let y : p second (b + k) ≡ Some (b + m) = g ∙ ap Some s.3 in
            let on = v.on (a + k) (a + m) x in
            rw (many_some first p v (a + k) (a + m) x, many_some second p w (b + k) (b + m) y) (more m s.1 (omega arith))

    many_inside : (p : Part) → Moves first p → Moves second p → Inside p → Inside (many p)
    many_inside p v w h k l = many_same p v w h n k l (omega arith)

    -- where many parts end before the last character in the first, they end there in the second
    pub many_again : (p : Part) → Moves first p → Moves second p → Within p → (d k m : ℕ) → k < n → n ≤ d + k → m < n → many p first (a + k) ≡ Some (a + m) → many p second (b + k) ≡ Some (b + m)
    many_again p v w h zero k m l f t z = absurd (omega arith)
    many_again p v w h (suc d) k m l f t z = go (p first (a + k)) (p second (b + k)) refl refl (h k l) (λ q. many_again p v w h d q m)
      where
        go : (o r : Option ℕ) → p first (a + k) ≡ o → p second (b + k) ≡ r → Same (suc n) o r → ((q : ℕ) → q < n → n ≤ d + q → m < n → many p first (a + q) ≡ Some (a + m) → many p second (b + q) ≡ Some (b + m)) → many p second (b + k) ≡ Some (b + m)
        go None None e g s more =
            let x : Some (a + k) ≡ Some (a + m) = sym (many_none first p (a + k) e) ∙ z in
            let y : a + k ≡ a + m = cc in
            many_none second p (b + k) g ∙ ap Some (omega arith)
        go None (Some j) e g s more = absurd s
        go (Some i) None e g s more = absurd s
        go (Some i) (Some j) e g s more =
            let q = s.0 in
            let below = s.1 in
            let x : p first (a + k) ≡ Some (a + q) = e ∙ ap Some s.2 in
            let y : p second (b + k) ≡ Some (b + q) = g ∙ ap Some s.3 in
            let on = v.on (a + k) (a + q) x in
            let rest : many p first (a + q) ≡ Some (a + m) = sym (many_some first p v (a + k) (a + q) x) ∙ z in
            let forward = forward_many first (moves_forward first v) in
            let ahead = forward.on (a + q) (a + m) rest in
            many_some second p w (b + k) (b + q) y ∙ more q (omega arith) (omega arith) t rest

    -- the parts of the lexical grammar

    hex_digit_inside : Inside hex_digit
    unfolding hex_digit
    hex_digit_inside = passing_inside is_hex_digit digit_inner

    hex4_inside : Inside hex4_digits
    unfolding hex4_digits
    hex4_inside = let h = hex_digit_inside in then_inside hex_digit (hex_digit >> hex_digit >> hex_digit) h (then_inside hex_digit (hex_digit >> hex_digit) h (then_inside hex_digit hex_digit h h))

    hex_digits_inside : Inside hex_digits
    unfolding hex_digits
    hex_digits_inside = then_inside hex_digit (many hex_digit) hex_digit_inside (many_inside hex_digit (moves_hex_digit first) (moves_hex_digit second) hex_digit_inside)

    braced_inside : Inside braced_digits
    unfolding braced_digits
    braced_inside = then_inside (code_point 123) (hex_digits >> code_point 125) (code_inside 123 (omega arith) refl) (then_inside hex_digits (code_point 125) hex_digits_inside (code_inside 125 (omega arith) refl))

    hex_or_unicode_inside : Inside hex_or_unicode
    unfolding hex_or_unicode hex_escape_sequence unicode_escape_sequence
    hex_or_unicode_inside =
        or_inside
        hex_escape_sequence
        unicode_escape_sequence
        (then_inside (code_point 120) (hex_digit >> hex_digit) (code_inside 120 (omega arith) refl) (then_inside hex_digit hex_digit hex_digit_inside hex_digit_inside))
        (then_inside (code_point 117) (hex4_digits // braced_digits) (code_inside 117 (omega arith) refl) (or_inside hex4_digits braced_digits hex4_inside braced_inside))

    numeric_inside : Inside numeric_escape
    unfolding numeric_escape
    numeric_inside k l = go (hex_or_unicode first (a + k)) (hex_or_unicode second (b + k)) refl (hex_or_unicode_inside k l)
      where
        go : (o r : Option ℕ) → hex_or_unicode first (a + k) ≡ o → Same n o r → Same n (if_code_point first (a + k) o) (if_code_point second (b + k) r)
        go None None e s = tt
        go None (Some j) e s = absurd s
        go (Some i) None e s = absurd s
        go (Some i) (Some j) e s =
            let m = s.0 in
            let v = moves_hex_or_unicode first in
            let on = v.on (a + k) (a + m) (e ∙ ap Some s.2) in
            let here : piece first (a + k) i ≡ piece second (b + k) j = ap (piece first (a + k)) s.2 ∙ alike.pieces k m (omega arith) s.1 ∙ sym (ap (piece second (b + k)) s.3) in
            rw here (test (nat_le (hex_value (chars (piece second (b + k) j))) 0x10FFFF))
          where
            test : (t : Bool) → Same n (cond t (Some i) None) (cond t (Some j) None)
            test true = s
            test false = tt

    null_inside : Inside null_escape
    unfolding null_escape decimal_digit
    null_inside =
        then_inside
        (code_point 48)
        (unless decimal_digit nothing)
        (code_inside 48 (omega arith) refl)
        (λ k l. unless_same n n (decimal_digit first (a + k)) (decimal_digit second (b + k)) (nothing first (a + k)) (nothing second (b + k)) (passing_inside is_ascii_digit decimal_inner k l) (nothing_inside k l))

    terminator_within : Within line_terminator_sequence
    unfolding line_terminator_sequence cr_lf
    terminator_within =
        or_within
        (code_point 13 >> code_point 10)
        (passing is_line_terminator)
        (within (code_point 13 >> code_point 10) (then_inside (code_point 13) (code_point 10) (code_inside 13 (omega arith) refl) (code_inside 10 (omega arith) refl)))
        (passing_within is_line_terminator)

    escape_within : Within escape
    unfolding escape escape_sequence character_escape_sequence
    escape_within =
        or_within
        line_terminator_sequence
        escape_sequence
        terminator_within
        (or_within (passing is_character_escape) (null_escape // numeric_escape) (passing_within is_character_escape) (or_within null_escape numeric_escape (within null_escape null_inside) (within numeric_escape numeric_inside)))

    string_part_within : Within string_part
    unfolding string_part
    string_part_within =
        or_within
        (passing (λ c. not (nat_eq c 92)))
        (code_point 92 >> escape)
        (passing_within (λ c. not (nat_eq c 92)))
        (then_within (code_point 92) escape (code_inside 92 (omega arith) refl) escape_within)

    pub part_within : (in_template : Bool) → Within (literal_part in_template)
    unfolding literal_part
    part_within true = or_within line_terminator_sequence string_part terminator_within string_part_within
    part_within false = string_part_within
