-- The texts of BigInts and of whole Numbers that are not negative are numerals, which say what they do.
use Rattle.std.proofs.Common.{◌≡◌, ◌∙◌, ℕ, zero, suc, ◌+◌, ◌-◌, ◌*◌, ◌^◌, ◌<◌, true, false, not, ◌||◌, eqb, nat_lt, List, [], ◌∷◌, filter, take, length, length-append, get_or, Some, bytes_eq, refl, sym, ap, subst, arith}
use Rattle.std.specs.Prelude.{pos, negsuc}
use Rattle.std.specs.Char.{is_ascii_digit}
use Rattle.std.specs.Fmt.{decimal}
use Rattle.std.specs.Int.RustNames.{int_lt}
use Rattle.std.specs.List.{list_all}
use Rattle.std.specs.Str.{IsAscii, IsUtf8, chars}
use Rattle.std.proofs.Math.Seq.{take-append_seam}
use Rattle.std.proofs.lemmas.Bool.{and_parts, false≢true, and_from}
use Rattle.std.proofs.lemmas.Bool.Decides.{nat_tests}
use Rattle.std.proofs.lemmas.Fmt.{decimal_digit, decimal_is_IsNumeral, first_decimal, length-decimal-le}
use Rattle.std.proofs.lemmas.Slice.Eq.{bytes_eq-Decides}
use Rattle.std.proofs.lemmas.Str.{IsUtf8-from_ascii, chars-IsAscii}
use Rattle.ecma_number.specs.declared.js_number.JsNumber.{JsNumber}
use Rattle.ecma_number.specs.declared.js_number.JsNumber.TheVariants.{Whole, NegZero, NaN, Infinity, NegInfinity}
use Rattle.ecma_number.specs.JsNumber.{value_of}
use Rattle.ecma_number.specs.Numeral.{IsBigIntLiteral, MathematicalValue, big_int_literal, numeral_of, numeric_literal, number_of, signed_number_of}
use Rattle.ecma_number.specs.SafeInt.{IsSafe, is_safe}
use Rattle.ecma_number.specs.Text.{text_of}
use Rattle.ecma_number.proofs.NumericLiterals.{is_plain, plain_append}
use Rattle.ecma_lex.specs.Numerals.{big_end, num_end}
use Rattle.ecma_lex.specs.Tokens as lex
use Rattle.ecma_lex.specs.Tokens.{term}
use Rattle.ecma_lex.proofs.NumeralReading.{IsNumeral, num_alone}
use Rattle.ecma_lex.proofs.NumeralTokens.{whole_numeric}
use Rattle.ecma_lex.proofs.Spelled.{alone, zero_add}
use Rattle.ecma_lex.proofs.Suffixes.{cut_utf8, piece_here}
use Rattle.ecma_print_tokens.specs.Good.{IsToken}
use Rattle.ecma_print_tokens.specs.Items.{big_int as big_token, number as number_token}
use Rattle.ecma_print_tokens.proofs.Numerals.{big_again}
use Rattle.ecma_leaves.specs.Words.{digits_of, is_decimal, is_empty, is_natural, is_no_separator, is_number, is_one, is_readable, is_value, is_whole}
use Rattle.ecma_round_trip_literals.specs.Laws.{WrittenBigIntsAreSpelled, WrittenNumbersAreSpelled}
use Rattle.ecma_plain.specs.Writable.{big_text}
use Rattle.ecma_round_trip_literals.proofs.Digits.{are_digits, digit_in_range, integer_before_mark, number_alone, whole_number}
use Rattle.ecma_round_trip_literals.proofs.Plain.{plain_ascii}
use Rattle.ecma_round_trip_literals.proofs.Tokens.{by_itself}

digits_ascii : (ds : List ℕ) → list_all is_ascii_digit ds ≡ true → list_all is_plain ds ≡ true
digits_ascii [] h = refl
digits_ascii (c ∷ ds) h =
    let p = and_parts (is_ascii_digit c) (list_all is_ascii_digit ds) h in
    let r = digit_in_range c p.0 in
    let small = r.1 in
    let plain : is_plain c ≡ true = grind (arith, nat_tests) in
    rw plain (digits_ascii ds p.1)

all_of_decimal : (value : List ℕ) → is_decimal value ≡ true → list_all is_ascii_digit value ≡ true
all_of_decimal [] h = refl
all_of_decimal (c ∷ cs) h = (and_parts (list_all is_ascii_digit (c ∷ cs)) (not (eqb c 48) || is_empty cs) h).0

-- ---- BigInts

no_separators : (ds : List ℕ) → list_all is_ascii_digit ds ≡ true → filter is_no_separator ds ≡ ds
no_separators [] h = refl
no_separators (c ∷ ds) h =
    let p = and_parts (is_ascii_digit c) (list_all is_ascii_digit ds) h in
    let r = digit_in_range c p.0 in
    let small = r.1 in
    let kept : is_no_separator c ≡ true = grind (arith, nat_tests) in
    rw kept (ap (λ (l : List ℕ). c ∷ l) (no_separators ds p.1))

module _ (value : List ℕ) (is : is_decimal value ≡ true) where
  big_ascii : IsAscii (big_text value)
  big_ascii = plain_ascii (big_text value) (plain_append value (110 ∷ []) (digits_ascii value (all_of_decimal value is)) refl)

  big_literal : IsBigIntLiteral (big_text value)
  unfolding big_int_literal
  big_literal = let i = integer_before_mark value is in let e = i.1 in record { value = i.0; all = rw e refl }

  big_is_token : IsToken big_end (big_text value)
  unfolding chars
  big_is_token =
      let w = big_text value in
      let utf8 = IsUtf8-from_ascii w big_ascii in
      let cut = cut_utf8 w [] utf8 refl in
      record { utf8 = utf8; whole = big_again w 0 w [] big_literal (alone w) cut refl (piece_here w 0 w [] (alone w) cut refl) refl ∙ ap Some (zero_add w) }

  big_digits : digits_of (big_text value) ≡ value
  big_digits =
      let size : length (big_text value) - 1 ≡ length value = omega (arith, length-append value (110 ∷ [])) in
      ap (λ n. filter is_no_separator (take n (big_text value))) size ∙ ap (filter is_no_separator) (take-append_seam value (110 ∷ [])) ∙ no_separators value (all_of_decimal value is)

pub written_big_ints_are_spelled : WrittenBigIntsAreSpelled
unfolding lex.big chars
written_big_ints_are_spelled value short is =
    let w = big_text value in
    let token = big_is_token value is in
    and_from (is_one lex.big w) (bytes_eq value (digits_of w))
    (and_from (is_readable w) (is_whole w (term big_end w 0)) short (by_itself (big_token w) big_end token refl token.whole))
    ((bytes_eq-Decides value (digits_of w)).1 (sym (big_digits value is)))

-- ---- Numbers

no_less : (a : ℕ) → not (int_lt (pos a) (pos a)) ≡ true
no_less n = let e : nat_lt n n ≡ false = grind (arith, nat_tests) in rw e refl

same_value : (n : ℕ) → is_value (Some (Whole (pos n))) (Some (Whole (pos n))) ≡ true
same_value n = and_from (not (int_lt (pos n) (pos n))) (not (int_lt (pos n) (pos n))) (no_less n) (no_less n)

above_zero : (ds : List ℕ) → list_all is_ascii_digit ds ≡ true → 0 < length ds → (eqb (length ds) 0 ≡ false → 48 < get_or ds 0 0) → is_decimal ds ≡ true
above_zero [] all some first = absurd (omega arith)
above_zero (c ∷ cs) all some first =
    let n : eqb (length (c ∷ cs)) 0 ≡ false = grind (arith, nat_tests) in
    let above : 48 < c = first n in
    let e : eqb c 48 ≡ false = grind (arith, nat_tests) in
    and_from (list_all is_ascii_digit (c ∷ cs)) (not (eqb c 48) || is_empty cs) all (rw e refl)

module _ (n : ℕ) (safe : n < 2 ^ 64) where
  is_decimal_text : is_decimal (decimal n) ≡ true
  is_decimal_text = go n safe
    where
      go : (m : ℕ) → m < 2 ^ 64 → is_decimal (decimal m) ≡ true
      go zero low = let d = decimal_digit 0 (omega arith) in rw d refl
      go (suc m) low = let d = (decimal_is_IsNumeral (suc m) low).0 in above_zero (decimal (suc m)) (are_digits (decimal (suc m)) d.1) d.0 (λ k. first_decimal (suc m) (omega arith) low)

  -- what the text of a Number reads as: its digits, and nothing behind them
  numeral_value : (value : MathematicalValue) × (numeric_literal (decimal n) ≡ Some (value, [])) × (number_of false value ≡ number_of false (record { significand = n; power = pos 0 }))
  numeral_value =
      let r = number_alone (decimal n) is_decimal_text in
      let says : r.0.mv ≡ n = r.2 ∙ (decimal_is_IsNumeral n safe).1 in
      let one : n * 10 ^ 0 + 0 ≡ n = omega arith in
      (whole_number r.0, r.1, ap (λ m. number_of false (whole_number (record { mv = m; count = r.0.count }))) says ∙ ap (λ m. number_of false (record { significand = m; power = pos 0 })) one)

  numeral_is : numeral_of (decimal n) ≡ number_of false numeral_value.0
  unfolding numeral_of
  numeral_is = let e = numeral_value.1 in rw e refl

  number_ascii : list_all is_plain (decimal n) ≡ true
  number_ascii = digits_ascii (decimal n) (are_digits (decimal n) (decimal_is_IsNumeral n safe).0.1)

  number_is_token : IsToken num_end (decimal n)
  number_is_token =
      let ascii = plain_ascii (decimal n) number_ascii in
      let utf8 = IsUtf8-from_ascii (decimal n) ascii in
      let literal = whole_numeric (decimal n) numeral_value.0 numeral_value.1 in
      record { utf8 = utf8; whole = num_alone (decimal n) (utf8, subst IsNumeral (sym (chars-IsAscii (decimal n) ascii)) (number_ascii, literal)) }

  number_is_readable : is_readable (decimal n) ≡ true
  number_is_readable = let most = length-decimal-le 20 n (omega arith) (omega arith) safe in grind (arith, nat_tests)

whole_of_size : (n : ℕ) → is_safe (pos n) ≡ true → number_of false (record { significand = n; power = pos 0 }) ≡ Some (Whole (pos n))
whole_of_size n safe = ap (signed_number_of false) one ∙ go n safe
  where
    one : n * 10 ^ 0 ≡ n
    one = omega arith

    go : (m : ℕ) → is_safe (pos m) ≡ true → signed_number_of false m ≡ Some (Whole (pos m))
    go zero low = refl
    go (suc m) low = let e : eqb (suc m) 0 ≡ false = grind (arith, nat_tests) in rw (e, low) refl

number_spelled : (n : ℕ) → IsSafe (pos n) → is_number (Some (Whole (pos n))) (Some (decimal n)) ≡ true
unfolding lex.num chars
number_spelled n safe =
    let w = decimal n in
    let small : n < 2 ^ 64 = omega arith in
    let token = number_is_token n small in
    let value = numeral_value n small in
    let in_domain : is_safe (pos n) ≡ true = grind (arith, nat_tests) in
    let says : numeral_of w ≡ Some (Whole (pos n)) = numeral_is n small ∙ value.2 ∙ whole_of_size n in_domain in
    and_from (is_one lex.num w) (is_value (Some (Whole (pos n))) (numeral_of w))
    (and_from (is_readable w) (is_whole w (term num_end w 0)) (number_is_readable n small) (by_itself (number_token w) num_end token refl token.whole))
    (ap (is_value (Some (Whole (pos n)))) says ∙ same_value n)

pub written_numbers_are_spelled : WrittenNumbersAreSpelled
written_numbers_are_spelled (Whole (pos n)) safe is = number_spelled n safe
written_numbers_are_spelled (Whole (negsuc n)) safe is = absurd (false≢true is)
written_numbers_are_spelled NegZero safe is = absurd (false≢true is)
written_numbers_are_spelled NaN safe is = absurd (false≢true is)
written_numbers_are_spelled Infinity safe is = absurd (false≢true is)
written_numbers_are_spelled NegInfinity safe is = absurd (false≢true is)

-- ---- and UTF-8

pub big_utf8 : (value : List ℕ) → is_decimal value ≡ true → IsUtf8 (big_text value)
big_utf8 value is = IsUtf8-from_ascii (big_text value) (big_ascii value is)

decimal_utf8 : (n : ℕ) → IsSafe (pos n) → IsUtf8 (decimal n)
decimal_utf8 n safe = IsUtf8-from_ascii (decimal n) (plain_ascii (decimal n) (number_ascii n (omega arith)))

pub number_utf8 : (value : JsNumber) → IsSafe (value_of value) → is_natural value ≡ true → IsUtf8 (text_of value)
number_utf8 (Whole (pos n)) safe is = decimal_utf8 n safe
number_utf8 (Whole (negsuc n)) safe is = absurd (false≢true is)
number_utf8 NegZero safe is = absurd (false≢true is)
number_utf8 NaN safe is = absurd (false≢true is)
number_utf8 Infinity safe is = absurd (false≢true is)
number_utf8 NegInfinity safe is = absurd (false≢true is)
