-- Decimal digits are read as the number that they write.
use Rattle.std.proofs.Common.{◌≡◌, ◌∙◌, ℕ, Bool, true, false, not, ◌&&◌, ◌||◌, eqb, List, [], ◌∷◌, ◌++◌, Some, None, append-nil, refl, sym, ap, subst, arith}
use Rattle.std.specs.Prelude.{pos, if◌then◌else◌}
use Rattle.std.specs.Char.{is_ascii_digit, is_digit}
use Rattle.std.specs.Int.{IsInRange}
use Rattle.std.specs.List.{list_all}
use Rattle.std.specs.Str.Parse.{AllDigits, digits_value, digits_value_after}
use Rattle.std.proofs.lemmas.Bool.{and_parts, eqb-true, false≢true}
use Rattle.std.proofs.lemmas.Bool.Decides.{nat_tests}
use Rattle.std.proofs.lemmas.Str.{digit_value_digit}
use Rattle.std.proofs.lemmas.Str.Parse.{digit_from_value}
use Rattle.ecma_number.specs.Numeral.{Digits, MathematicalValue, code_point, decimal_integer, decimal_literal, digits, exponent_part, fraction_behind, has_separators, integer, integer_literal, mantissa, maybe, more_digits, no_digits, non_decimal_integer_literal, numeric_literal, or_read, point_and_digits, pure, then_read, times_power, with_digit, with_fraction, ◌>>◌, ◌>>=◌, ◌//◌}
use Rattle.ecma_leaves.specs.Words.{is_decimal, is_empty}

pub digit_in_range : (c : ℕ) → is_ascii_digit c ≡ true → IsInRange 48 57 c
digit_in_range c h = (grind (arith, nat_tests), grind (arith, nat_tests))

is_digit_ten : (c : ℕ) → is_ascii_digit c ≡ true → is_digit c 10 ≡ true
is_digit_ten c h = let r = digit_in_range c h in let v = digit_value_digit c r in let u = r.1 in grind (arith, nat_tests)

-- the digits that follow others
abbrev pub digits_after : Digits → List ℕ → Digits
digits_after before [] = before
digits_after before (c ∷ cs) = digits_after (with_digit 10 before c) cs

after_says : (before : Digits) (ds : List ℕ) → (digits_after before ds).mv ≡ digits_value_after 10 before.mv ds
after_says before [] = refl
after_says before (c ∷ cs) = after_says (with_digit 10 before c) cs

more_all : (form : _) (ds rest : List ℕ) (before : Digits) → list_all is_ascii_digit ds ≡ true → ((b : Digits) → more_digits form 10 b rest ≡ (b, rest)) → more_digits form 10 before (ds ++ rest) ≡ (digits_after before ds, rest)
more_all form [] rest before h ends = ends before
more_all form (c ∷ ds) rest before h ends =
    let p = and_parts (is_ascii_digit c) (list_all is_ascii_digit ds) h in
    let d = is_digit_ten c p.0 in
    rw d (more_all form ds rest (with_digit 10 before c) p.1 ends)

no_empty : (c : ℕ) (cs : List ℕ) → (not (eqb c 48) || is_empty cs) ≡ true → eqb c 48 ≡ true → c ∷ cs ≡ 48 ∷ []
no_empty c [] h e = ap (λ x. x ∷ []) (eqb-true c 48 e)
no_empty c (x ∷ xs) h e = let k = rw e at h in absurd (false≢true k)

other_reads : (form : _) (rest : List ℕ) (c : ℕ) (cs : List ℕ) → ((b : Digits) → more_digits form 10 b rest ≡ (b, rest)) → list_all is_ascii_digit (c ∷ cs) ≡ true → eqb c 48 ≡ false
    → (d : Digits) × ((code_point 48 >> pure no_digits // digits form 10) (c ∷ cs ++ rest) ≡ Some (d, rest)) × (non_decimal_integer_literal form (c ∷ cs ++ rest) ≡ None) × (d.mv ≡ digits_value 10 (c ∷ cs))
unfolding digits non_decimal_integer_literal
other_reads form rest c cs ends all e =
    let p = and_parts (is_ascii_digit c) (list_all is_ascii_digit cs) all in
    let d = is_digit_ten c p.0 in
    let more = more_all form cs rest (with_digit 10 no_digits c) p.1 ends in
    (digits_after no_digits (c ∷ cs), rw (e, d) (ap Some more), rw e refl, after_says no_digits (c ∷ cs))

-- a decimal integer stands in front of what follows, and no integer of another radix
decimal_reads : (form : _) (rest value : List ℕ) → ((b : Digits) → more_digits form 10 b rest ≡ (b, rest)) → non_decimal_integer_literal form (48 ∷ rest) ≡ None → is_decimal value ≡ true
    → (d : Digits) × ((code_point 48 >> pure no_digits // digits form 10) (value ++ rest) ≡ Some (d, rest)) × (non_decimal_integer_literal form (value ++ rest) ≡ None) × (d.mv ≡ digits_value 10 value)
decimal_reads form rest [] ends no_prefix h = absurd (false≢true h)
decimal_reads form rest (c ∷ cs) ends no_prefix h = go (eqb c 48) refl
  where
    parts : (list_all is_ascii_digit (c ∷ cs) ≡ true) × ((not (eqb c 48) || is_empty cs) ≡ true)
    parts = and_parts (list_all is_ascii_digit (c ∷ cs)) (not (eqb c 48) || is_empty cs) h

    go : (b : Bool) → eqb c 48 ≡ b → (d : Digits) × ((code_point 48 >> pure no_digits // digits form 10) (c ∷ cs ++ rest) ≡ Some (d, rest)) × (non_decimal_integer_literal form (c ∷ cs ++ rest) ≡ None) × (d.mv ≡ digits_value 10 (c ∷ cs))
    go true e =
        subst (λ v. (d : Digits) × ((code_point 48 >> pure no_digits // digits form 10) (v ++ rest) ≡ Some (d, rest)) × (non_decimal_integer_literal form (v ++ rest) ≡ None) × (d.mv ≡ digits_value 10 v)) (sym (no_empty c cs parts.1 e))
        (no_digits, refl, no_prefix, refl)
    go false e = other_reads form rest c cs ends parts.0 e

-- ---- before the `n` (110) of a BigInt

mark_ends : (form : _) (b : Digits) → more_digits form 10 b (110 ∷ []) ≡ (b, 110 ∷ [])
mark_ends form b = go (has_separators form)
  where
    go : (separated : Bool) → ◌≡◌ {A = Digits × List ℕ} (if separated && false then more_digits form 10 b [] else (b, 110 ∷ [])) (b, 110 ∷ [])
    go true = refl
    go false = refl

no_prefix_at_mark : (form : _) → non_decimal_integer_literal form (48 ∷ 110 ∷ []) ≡ None
unfolding non_decimal_integer_literal digits
no_prefix_at_mark form = refl

big_by : (form : _) (value : List ℕ) → is_decimal value ≡ true
    → (d : Digits) × (or_read (code_point 48 >> pure no_digits // digits form 10) (value ++ 110 ∷ []) (non_decimal_integer_literal form (value ++ 110 ∷ [])) ≡ Some (d, 110 ∷ []))
big_by form value h =
    let r = decimal_reads form (110 ∷ []) value (mark_ends form) (no_prefix_at_mark form) h in
    (r.0, ap (or_read (code_point 48 >> pure no_digits // digits form 10) (value ++ 110 ∷ [])) r.2 ∙ r.1)

pub integer_before_mark : (value : List ℕ) → is_decimal value ≡ true → (d : Digits) × (integer_literal (value ++ 110 ∷ []) ≡ Some (d, 110 ∷ []))
unfolding integer_literal decimal_integer
integer_before_mark value h = big_by _ value h

-- ---- alone

no_prefix_at_end : (form : _) → non_decimal_integer_literal form (48 ∷ []) ≡ None
unfolding non_decimal_integer_literal digits
no_prefix_at_end form = refl

-- what digits alone say
abbrev pub whole_number : Digits → MathematicalValue
whole_number d = times_power (with_fraction d no_digits) (pos 0)

literal_by : (form : _) (text : List ℕ) (d : Digits) → (code_point 48 >> pure no_digits // digits form 10) text ≡ Some (d, []) → non_decimal_integer_literal form text ≡ None
    → or_read ((((code_point 48 >> pure no_digits // digits form 10) >>= fraction_behind form) // (code_point 46 >> (digits form 10 >>= λ fraction. pure (with_fraction no_digits fraction)))) >>= λ value. maybe (pos 0) (exponent_part form) >>= λ power. pure (times_power value power)) text (then_read (λ value. pure (integer value)) (non_decimal_integer_literal form text)) ≡ Some (whole_number d, [])
unfolding point_and_digits exponent_part
literal_by form text d h none = rw (none, h) refl

numeric_by : (form : _) (value : List ℕ) → is_decimal value ≡ true
    → (d : Digits) × (or_read ((((code_point 48 >> pure no_digits // digits form 10) >>= fraction_behind form) // (code_point 46 >> (digits form 10 >>= λ fraction. pure (with_fraction no_digits fraction)))) >>= λ value. maybe (pos 0) (exponent_part form) >>= λ power. pure (times_power value power)) value (then_read (λ value. pure (integer value)) (non_decimal_integer_literal form value)) ≡ Some (whole_number d, [])) × (d.mv ≡ digits_value 10 value)
numeric_by form value h =
    let r = decimal_reads form [] value (λ b. refl) (no_prefix_at_end form) h in
    let all = append-nil value in
    let there : (code_point 48 >> pure no_digits // digits form 10) value ≡ Some (r.0, []) = ap (code_point 48 >> pure no_digits // digits form 10) (sym all) ∙ r.1 in
    let none : non_decimal_integer_literal form value ≡ None = ap (non_decimal_integer_literal form) (sym all) ∙ r.2 in
    (r.0, literal_by form value r.0 there none, r.3)

pub number_alone : (value : List ℕ) → is_decimal value ≡ true → (d : Digits) × (numeric_literal value ≡ Some (whole_number d, [])) × (d.mv ≡ digits_value 10 value)
unfolding numeric_literal decimal_literal mantissa decimal_integer
number_alone value h = numeric_by _ value h

-- the other way round: digits of a number are such digits
pub are_digits : (ds : List ℕ) → AllDigits 10 ds → list_all is_ascii_digit ds ≡ true
are_digits [] h = refl
are_digits (c ∷ cs) h =
    let r = digit_from_value c h.0 in
    let a = r.0 in
    let b = r.1 in
    let d : is_ascii_digit c ≡ true = grind (arith, nat_tests) in
    rw d (are_digits cs h.1)
