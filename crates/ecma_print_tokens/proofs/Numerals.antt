-- Numerals and BigInts: neither is read where the other stands.
use Rattle.std.proofs.Common.{◌≡◌, ℕ, ◌+◌, ◌-◌, List, [], ◌∷◌, ◌++◌, length, drop, refl, ap, sym, ◌∙◌, subst, arith, Option, Some, None, Bool, true, false, cond, ◌||◌, eqb, length-append, append-nil, option_map, option_and_then, inl, inr}
use Rattle.std.specs.Prelude.{pos}
use Rattle.std.specs.Char.{is_digit, is_ascii_digit, is_ascii_alphanumeric}
use Rattle.std.specs.Str.{IsUtf8, chars}
use Rattle.std.proofs.lemmas.Bool.{false≢true, not-true, cases_lt, eqb-true}
use Rattle.std.proofs.lemmas.Bool.Decides.{nat_tests}
use Rattle.unicode_ident.specs.Ident.{is_xid_start, is_xid_continue}
use Rattle.unicode_ident.proofs.IdentLemmas.{is_xid_continue-ascii}
use Rattle.ucd_table.specs.Rows.{in_ranges}
use Rattle.ucd_derived.specs.XidStartRanges.{xid_start_ranges}
use Rattle.ecma_number.specs.Numeral.{Reading, Digits, no_digits, with_fraction, MathematicalValue, IsBigIntLiteral, IsNumericLiteral, begins, big_int_literal, integer_literal, non_decimal_integer_literal, decimal_integer, decimal_literal, mantissa, digits, point_and_digits, exponent_part, numeric_literal, or_read, then_read, pure, code_point, integer, times_power, value_if_all, ◌>>◌}
use Rattle.ecma_number.proofs.NumericLiterals.{is_part, numeric_literal_takes, big_int_literal_takes}
use Rattle.ecma_lex.specs.Text.{after, piece}
use Rattle.ecma_lex.specs.Keys.{is_valid_start, is_valid_continue}
use Rattle.ecma_lex.specs.Parts.{then_at}
use Rattle.ecma_lex.specs.Numerals.{touches, is_untouched, untouched, num_end, big_end}
use Rattle.ecma_lex.proofs.Suffixes.{Cut, cut_ascii, chars_ascii, Stands, past, cut_here, after_here}
use Rattle.ecma_lex.proofs.Spelled.{stops, piece_all}
use Rattle.ecma_lex.proofs.Repeats.{passing_stands}
use Rattle.ecma_lex.proofs.Literals.{after_start}
use Rattle.ecma_lex.proofs.NumeralTokens.{literal_begins, literal_whole, num_numeric, big_end_literal, big_longest, bytes_end, literal_in_front, literal_reads}
use Rattle.ecma_lex.proofs.NumeralReading.{closes}
use Rattle.ecma_print_tokens.specs.Good.{continues_numeral}
use Rattle.ecma_print_tokens.proofs.Fronts.{one_of, digits as digit_codes, digit_one, no_touch}

none_some : {A B : Type 0} {x : B} → ◌≡◌ {A = Option B} None (Some x) → A
none_some h = cc

some_is : {B : Type 0} {x y : B} → ◌≡◌ {A = Option B} (Some x) (Some y) → x ≡ y
some_is h = cc

-- what closes a numeral

no_part : (c : ℕ) → touches c ≡ false → eqb c 46 ≡ false → is_part c ≡ false
no_part c free point = elim (cases_lt c 128) [
  | inl small ↦
      let continues = second_off (is_valid_start c) (is_valid_continue c) (second_off (is_ascii_digit c) (is_valid_start c || is_valid_continue c) free) in
      let in_unicode : is_xid_continue c ≡ false = second_off (eqb c 36 || eqb c 0x200C || eqb c 0x200D) (is_xid_continue c) continues in
      let letter : (is_ascii_alphanumeric c || eqb c 95) ≡ false = sym (is_xid_continue-ascii c small) ∙ in_unicode in
      grind (arith, nat_tests)
  | inr wide ↦ grind (arith, nat_tests)
]
  where
    second_off : (a b : Bool) → (a || b) ≡ false → b ≡ false
    second_off true b e = absurd (false≢true (sym e))
    second_off false b e = e

no_point : (c : ℕ) → continues_numeral c ≡ false → eqb c 46 ≡ false
no_point c h = go (touches c) (eqb c 46) h
  where
    go : (a b : Bool) → (a || b) ≡ false → b ≡ false
    go true b h = absurd (false≢true (sym h))
    go false b h = h

pub closes_by : (cs : List ℕ) → stops continues_numeral cs ≡ true → closes cs ≡ true
closes_by [] h = refl
closes_by (c ∷ cs) h =
    let k = not-true (continues_numeral c) h in
    let t = no_touch c k in
    let p = no_part c t (no_point c k) in
    rw (p, t) refl

-- a BigInt is a numeral in front of its `n` (110)

mantissa_of : (form : _) (text : List ℕ) (d : Digits) (rest : List ℕ) → decimal_integer form text ≡ Some (d, 110 ∷ rest) → (value : MathematicalValue) × (mantissa form text ≡ Some (value, 110 ∷ rest))
unfolding mantissa point_and_digits
mantissa_of form text d rest h = (with_fraction d no_digits, rw h refl)

decimal_of : (form : _) (text : List ℕ) (d : Digits) (rest : List ℕ) → decimal_integer form text ≡ Some (d, 110 ∷ rest) → (value : MathematicalValue) × (decimal_literal form text ≡ Some (value, 110 ∷ rest))
unfolding decimal_literal exponent_part
decimal_of form text d rest h = let m = mantissa_of form text d rest h in let e = m.1 in (times_power m.0 (pos 0), rw e refl)

either_reads : (first whole : Reading Digits) (decimal : Reading MathematicalValue) (text : List ℕ) (d : Digits) (rest : List ℕ) → or_read whole text (first text) ≡ Some (d, rest) → (whole text ≡ Some (d, rest) → (value : MathematicalValue) × (decimal text ≡ Some (value, rest)))
    → (value : MathematicalValue) × (or_read decimal text (then_read (λ value. pure (integer value)) (first text)) ≡ Some (value, rest))
either_reads first whole decimal text d rest h f = go (first text) h
  where
    go : (o : Option (Digits × List ℕ)) → or_read whole text o ≡ Some (d, rest) → (value : MathematicalValue) × (or_read decimal text (then_read (λ value. pure (integer value)) o) ≡ Some (value, rest))
    go (Some x) k = (integer x.0, ap (λ r. Some (integer x.0, r)) (ap (λ r. r.1) (some_is k)))
    go None k = f k

numeric_of : (form : _) (text : List ℕ) (d : Digits) (rest : List ℕ) → or_read (decimal_integer form) text (non_decimal_integer_literal form text) ≡ Some (d, 110 ∷ rest)
    → (value : MathematicalValue) × (or_read (decimal_literal form) text (then_read (λ value. pure (integer value)) (non_decimal_integer_literal form text)) ≡ Some (value, 110 ∷ rest))
numeric_of form text d rest h = either_reads (non_decimal_integer_literal form) (decimal_integer form) (decimal_literal form) text d (110 ∷ rest) h (λ k. decimal_of form text d rest k)

numeric_of_integer : (text : List ℕ) (d : Digits) (rest : List ℕ) → integer_literal text ≡ Some (d, 110 ∷ rest) → (value : MathematicalValue) × (numeric_literal text ≡ Some (value, 110 ∷ rest))
unfolding integer_literal numeric_literal
numeric_of_integer text d rest h = numeric_of _ text d rest h

big_is_numeric : (text : List ℕ) (d : Digits) (rest : List ℕ) → big_int_literal text ≡ Some (d, rest) → (value : MathematicalValue) × (numeric_literal text ≡ Some (value, 110 ∷ rest))
unfolding big_int_literal
big_is_numeric text d rest h = go (integer_literal text) refl h
  where
    test : (x : Digits) (c : ℕ) (cs : List ℕ) (b : Bool) → eqb c 110 ≡ b → cond b (pure x cs) None ≡ Some (d, rest) → (c ∷ cs ≡ 110 ∷ rest)
    test x c cs true e k = let y : c ≡ 110 = eqb-true c 110 e in let z : cs ≡ rest = ap (λ r. r.1) (some_is k) in rw (y, z) refl
    test x c cs false e k = none_some k

    go : (o : Option (Digits × List ℕ)) → integer_literal text ≡ o → then_read (λ value. code_point 110 >> pure value) o ≡ Some (d, rest) → (value : MathematicalValue) × (numeric_literal text ≡ Some (value, 110 ∷ rest))
    go None e k = none_some k
    go (Some (x, [])) e k = none_some k
    go (Some (x, c ∷ cs)) e k = numeric_of_integer text x rest (e ∙ ap (λ l. Some (x, l)) (test x c cs (eqb c 110) refl k))

touched : touches 110 ≡ true
unfolding is_xid_start xid_start_ranges in_ranges
touched = refl

-- where a numeral stands in front of what closes it, no BigInt does
pub no_big_here : (text : List ℕ) (i : ℕ) (w v : List ℕ) → IsNumericLiteral w → Stands text i (w ++ v) → stops continues_numeral (chars v) ≡ true → big_end text i ≡ None
unfolding big_end
no_big_here text i w v n st h =
    let r = st.rest in
    rw r (go (big_int_literal (w ++ v)) refl)
  where
    front : (value : MathematicalValue) × (numeric_literal (w ++ v) ≡ Some (value, v))
    front = literal_in_front w v n (bytes_end v (closes_by (chars v) h))

    none : (x : Digits × List ℕ) → big_int_literal (w ++ v) ≡ Some x → ⊥
    none x e =
        let a = big_is_numeric (w ++ v) x.0 x.1 e in
        let same : v ≡ 110 ∷ x.1 = ap (λ r. r.1) (some_is (sym front.1 ∙ a.1)) in
        let stopped : stops continues_numeral (110 ∷ chars x.1) ≡ true = subst (λ l. stops continues_numeral l ≡ true) (ap chars same ∙ chars_ascii 110 x.1 (omega arith)) h in
        let t = touched in
        false≢true (rw t at stopped)

    go : (o : Option (Digits × List ℕ)) → big_int_literal (w ++ v) ≡ o → then_at untouched text (option_map (λ count. i + count) (option_map (λ done. length (w ++ v) - length done.1) o)) ≡ None
    go None e = refl
    go (Some x) e = absurd (none x e)

all_read : {A : Type 0} (o : Option (A × List ℕ)) (value : A) → option_and_then value_if_all o ≡ Some value → o ≡ Some (value, [])
all_read None value h = none_some h
all_read (Some (v, [])) value h = ap (λ x. Some (x, [])) (some_is h)
all_read (Some (v, c ∷ rest)) value h = let n : eqb (length (c ∷ rest)) 0 ≡ false = grind (arith, nat_tests) in none_some (rw n at h)

big_in_front : (w v : List ℕ) → IsBigIntLiteral w → (d : Digits) × (big_int_literal (w ++ v) ≡ Some (d, v))
big_in_front w v literal =
    let t = big_int_literal_takes w literal.value [] (all_read (big_int_literal w) literal.value literal.all) in
    let same : w ≡ t.word = t.parts ∙ append-nil t.word in
    (literal.value, ap (λ l. big_int_literal (l ++ v)) same ∙ t.again v refl)

-- where a BigInt stands, no numeral does
pub no_num_here : (text : List ℕ) (i : ℕ) (w v : List ℕ) → IsBigIntLiteral w → Stands text i (w ++ v) → Cut v → num_end text i ≡ None
unfolding num_end
no_num_here text i w v n st cut =
    let b = big_in_front w v n in
    let a = big_is_numeric (w ++ v) b.0 v b.1 in
    let e = a.1 in
    let r = st.rest in
    let t = numeric_literal_takes (w ++ v) a.0 (110 ∷ v) a.1 in
    let there : Stands text (i + length t.word) (110 ∷ v) = past text t.word (subst (Stands text i) t.parts st) in
    let size : length (w ++ v) - length (110 ∷ v) ≡ length t.word = ap (λ l. length l - length (110 ∷ v)) t.parts ∙ omega (arith, length-append t.word (110 ∷ v)) in
    let at : after text (i + length t.word) ≡ 110 ∷ chars v = after_here text (i + length t.word) (110 ∷ v) there (cut_ascii 110 v (omega arith)) ∙ chars_ascii 110 v (omega arith) in
    let some = passing_stands text touches (i + length t.word) 110 (chars v) at touched in
    rw (r, e, size, some) refl

-- a BigInt is read where it stands

stops_untouched : (cs : List ℕ) → stops touches cs ≡ true → is_untouched cs ≡ true
stops_untouched [] h = refl
stops_untouched (c ∷ cs) h = h

pub big_literal_of : (w : List ℕ) → IsUtf8 w → big_end w 0 ≡ Some (length w) → IsBigIntLiteral w
big_literal_of w u h =
    let l = big_end_literal w 0 (length w) h in
    let is = literal_whole w u 0 (length w) l in
    let whole : IsBigIntLiteral (piece w 0 (length w)) = record { value = l.value; all = rw is refl } in
    subst IsBigIntLiteral (piece_all w u) whole

pub num_literal_of : (w : List ℕ) → IsUtf8 w → num_end w 0 ≡ Some (length w) → IsNumericLiteral w
num_literal_of w u h = subst IsNumericLiteral (piece_all w u) (num_numeric w 0 (length w) u h)

pub big_again : (text : List ℕ) (i : ℕ) (w v : List ℕ) → IsBigIntLiteral w → Stands text i (w ++ v) → Cut (w ++ v) → Cut v → piece text i (i + length w) ≡ w → stops touches (chars v) ≡ true → big_end text i ≡ Some (i + length w)
big_again text i w v n st c d p h =
    let within = st.within in
    big_longest text i (i + length w) (record {
      within = (omega arith, omega (arith, length-append w v), cut_here text i (w ++ v) st c, cut_here text (i + length w) v (past text w st) d);
      literal = subst IsBigIntLiteral (sym p) n;
      ends = rw (after_here text (i + length w) v (past text w st) d) (stops_untouched (chars v) h);
    })

-- what they begin with

no_integer_first : (c : ℕ) (cs : List ℕ) → is_digit c 10 ≡ false → integer_literal (c ∷ cs) ≡ None
unfolding integer_literal non_decimal_integer_literal decimal_integer digits
no_integer_first c cs d = let z : eqb c 48 ≡ false = grind (arith, nat_tests) in simp (z, d)

no_big_first : (c : ℕ) (cs : List ℕ) → is_digit c 10 ≡ false → big_int_literal (c ∷ cs) ≡ None
unfolding big_int_literal
no_big_first c cs d = let n = no_integer_first c cs d in rw n refl

big_digit : (c : ℕ) (cs : List ℕ) (x : Digits × List ℕ) → big_int_literal (c ∷ cs) ≡ Some x → is_digit c 10 ≡ true
big_digit c cs x h = go (is_digit c 10) refl
  where
    go : (b : Bool) → is_digit c 10 ≡ b → b ≡ true
    go true e = refl
    go false e = none_some (sym (no_big_first c cs e) ∙ h)

pub no_big : (text : List ℕ) (i : ℕ) → stops (one_of digit_codes) (after text i) ≡ true → big_end text i ≡ None
no_big text i h = at (big_end text i) refl
  where
    at : (o : Option ℕ) → big_end text i ≡ o → o ≡ None
    at None e = refl
    at (Some j) e =
        let l = big_end_literal text i j e in
        let s : stops (one_of digit_codes) (l.first ∷ chars (l.others ++ drop j text)) ≡ true = rw (literal_begins text i j l) at h in
        let d = digit_one l.first (big_digit l.first l.others (l.value, []) l.whole) in
        absurd (false≢true (sym (not-true (one_of digit_codes l.first) s) ∙ d))

pub big_begins : (w : List ℕ) → IsUtf8 w → big_end w 0 ≡ Some (length w) → begins (one_of digit_codes) (chars w) ≡ true
big_begins w u h =
    let l = big_end_literal w 0 (length w) h in
    let e : chars w ≡ l.first ∷ chars (l.others ++ drop (length w) w) = sym (after_start w u) ∙ literal_begins w 0 (length w) l in
    rw e (digit_one l.first (big_digit l.first l.others (l.value, []) l.whole))

-- a point begins a numeral only before a digit

no_point_literal : (u : List ℕ) → begins (λ c. is_digit c 10) u ≡ false → numeric_literal (46 ∷ u) ≡ None
unfolding numeric_literal non_decimal_integer_literal decimal_literal mantissa decimal_integer digits
no_point_literal u h = rw h refl

no_byte_digit : (u : List ℕ) → stops is_ascii_digit (chars u) ≡ true → begins (λ c. is_digit c 10) u ≡ false
no_byte_digit [] h = refl
no_byte_digit (c ∷ u) h = elim (cases_lt c 128) [
  | inl small ↦ let k = not-true (is_ascii_digit c) (rw (chars_ascii c u small) at h) in grind (arith, nat_tests)
  | inr wide ↦ grind (arith, nat_tests)
]

pub no_num_point : (text : List ℕ) (i : ℕ) (u : List ℕ) → drop i text ≡ 46 ∷ u → stops is_ascii_digit (chars u) ≡ true → num_end text i ≡ None
unfolding num_end
no_num_point text i u r h = let e = no_point_literal u (no_byte_digit u h) in rw (r, e) refl

-- so behind the point of a numeral a digit stands
pub point_digit : (u : List ℕ) → IsNumericLiteral (46 ∷ u) → begins (λ c. is_digit c 10) u ≡ true
point_digit u n = go (begins (λ c. is_digit c 10) u) refl
  where
    go : (b : Bool) → begins (λ c. is_digit c 10) u ≡ b → b ≡ true
    go true e = refl
    go false e = none_some (sym (no_point_literal u e) ∙ literal_reads (46 ∷ u) n)
