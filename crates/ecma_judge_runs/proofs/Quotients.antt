-- When a quotient is zero or NaN.
use Rattle.std.proofs.Common.{◌≡◌, refl, sym, ap, ◌∙◌, subst, ℕ, zero, suc, arith, eqb-true, Some, None, Bool, true, false, ◌||◌, ◌==◌, ◌+◌, ◌*◌, if◌then◌else◌}
use Rattle.std.proofs.lemmas.Int.{ints, quot-rem, unsigned_abs-mul}
use Rattle.std.specs.Prelude.{ℤ, pos, ◌+ℤ◌, ◌*ℤ◌, int_div, int_rem}
use Rattle.std.specs.Int.RustNames.{unsigned_abs}
use Rattle.ecma_number.specs.declared.js_number.JsNumber.{JsNumber}
use Rattle.ecma_number.specs.declared.js_number.JsNumber.TheVariants.{Whole, NegZero, NaN, Infinity, NegInfinity}
use Rattle.ecma_number.specs.JsNumber.{is_nan, is_infinite, is_zero, zero_of, infinity_of, whole_of}
use Rattle.ecma_number.specs.SafeInt.{is_safe}
use Rattle.ecma_number.specs.Arithmetic.{signs_differ, quotient_of, whole_quotient_of}
use Rattle.ecma_judge_runs.proofs.Arithmetic.{same_some, abs_zero, whole_if, is_nothing}

-- ---- quotients of whole numbers

above_zero : (n : ℕ) (b : Bool) → (suc n == 0) ≡ b → b ≡ false
above_zero n false e = refl
above_zero n true e = let none : suc n ≡ 0 = eqb-true (suc n) 0 e in absurd (omega (arith, none))

product_is : (a b : ℕ) → (b == 0) ≡ false → (a * b == 0) ≡ (a == 0)
product_is zero b some = let none : 0 * b ≡ 0 = omega (arith) in ap (λ k. k == 0) none
product_is (suc a) (suc b) some = let more : suc a * suc b ≡ suc (a * b + a + b) = omega (arith) in ap (λ k. k == 0) more ∙ (above_zero (a * b + a + b) _ refl ∙ sym (above_zero a _ refl))
product_is (suc a) zero some = absurd (cc)

without : (product rest all : ℤ) → product +ℤ rest ≡ all → rest ≡ pos 0 → product ≡ all
without product rest all is none = omega (arith, ints, is, none)

-- where nothing is left, the quotient is 0 where the dividend is
exact : (m n : ℤ) → (unsigned_abs (int_rem m n) == 0) ≡ true → (unsigned_abs n == 0) ≡ false → (unsigned_abs (int_div m n) == 0) ≡ (unsigned_abs m == 0)
exact m n none some =
    let whole : int_div m n *ℤ n ≡ m = without (int_div m n *ℤ n) (int_rem m n) m (quot-rem m n) (abs_zero (int_rem m n) none) in
    sym (ap (λ k. k == 0) (unsigned_abs-mul (int_div m n) n) ∙ product_is (unsigned_abs (int_div m n)) (unsigned_abs n) some) ∙ ap (λ z. unsigned_abs z == 0) whole

-- ---- what a quotient is

zero_nothing : (s : Bool) → is_nothing (zero_of s) ≡ true
zero_nothing true = refl
zero_nothing false = refl

infinity_something : (s : Bool) → is_nothing (infinity_of s) ≡ false
infinity_something true = refl
infinity_something false = refl

or_none : (b : Bool) → b ≡ (b || false)
or_none true = refl
or_none false = refl

or_all : (b : Bool) → true ≡ (b || true)
or_all true = refl
or_all false = refl

-- by an infinity
zero_is : (s : Bool) (r : JsNumber) → Some (zero_of s) ≡ Some r → is_nothing r ≡ true
zero_is s r is = subst (λ y. is_nothing y ≡ true) (same_some (zero_of s) r is) (zero_nothing s)

infinity_is : (s : Bool) (r : JsNumber) → Some (infinity_of s) ≡ Some r → is_nothing r ≡ false
infinity_is s r is = subst (λ y. is_nothing y ≡ false) (same_some (infinity_of s) r is) (infinity_something s)

-- by a zero
over_zero : (z s : Bool) (r : JsNumber) → (if z then Some NaN else Some (infinity_of s)) ≡ Some r → is_nothing r ≡ z
over_zero true s r is = subst (λ y. is_nothing y ≡ true) (same_some NaN r is) refl
over_zero false s r is = infinity_is s r is

signed_whole : (s : Bool) (q : ℤ) (z : Bool) → (unsigned_abs q == 0) ≡ z → (r : JsNumber) → (if z then Some (zero_of s) else whole_of q) ≡ Some r → is_nothing r ≡ z
signed_whole s q true e r is = zero_is s r is
signed_whole s q false e r is = subst (λ y. is_nothing y ≡ false) (whole_if (is_safe q) q r is) e

exact_quotient : (m n : ℤ) → (unsigned_abs n == 0) ≡ false → (s : Bool) (r : JsNumber) (none : Bool) → (unsigned_abs (int_rem m n) == 0) ≡ none
    → (if none then (if unsigned_abs (int_div m n) == 0 then Some (zero_of s) else whole_of (int_div m n)) else None) ≡ Some r → is_nothing r ≡ (unsigned_abs m == 0)
exact_quotient m n some s r true e is = signed_whole s (int_div m n) (unsigned_abs (int_div m n) == 0) refl r is ∙ exact m n e some
exact_quotient m n some s r false e is = absurd (cc)

whole_quotient : (m n : ℤ) (z : Bool) → (unsigned_abs n == 0) ≡ z → (s : Bool) (r : JsNumber)
    → (if z then (if unsigned_abs m == 0 then Some NaN else Some (infinity_of s)) else whole_quotient_of s m n) ≡ Some r → is_nothing r ≡ (unsigned_abs m == 0)
whole_quotient m n true e s r is = over_zero (unsigned_abs m == 0) s r is
whole_quotient m n false e s r is = exact_quotient m n e s r (unsigned_abs (int_rem m n) == 0) refl is

-- it is NaN where a side is, or both are zeros or infinities; and a zero for one, and by an infinity
abbrev pub IsQuotient : JsNumber → JsNumber → JsNumber → Type 0
IsQuotient a b r = is_nothing r ≡ (is_nan a || is_nan b || is_zero a || is_infinite b)

pub quotient_nothing : (a b r : JsNumber) → quotient_of a b ≡ Some r → IsQuotient a b r
unfolding quotient_of
quotient_nothing NaN b r is = subst (λ y. is_nothing y ≡ true) (same_some NaN r is) refl
quotient_nothing (Whole m) NaN r is = subst (λ y. is_nothing y ≡ true) (same_some NaN r is) refl
quotient_nothing (Whole m) Infinity r is = zero_is (signs_differ (Whole m) Infinity) r is ∙ or_all (unsigned_abs m == 0)
quotient_nothing (Whole m) NegInfinity r is = zero_is (signs_differ (Whole m) NegInfinity) r is ∙ or_all (unsigned_abs m == 0)
quotient_nothing (Whole m) NegZero r is = over_zero (unsigned_abs m == 0) (signs_differ (Whole m) NegZero) r is ∙ or_none (unsigned_abs m == 0)
quotient_nothing (Whole m) (Whole n) r is = whole_quotient m n (unsigned_abs n == 0) refl (signs_differ (Whole m) (Whole n)) r is ∙ or_none (unsigned_abs m == 0)
quotient_nothing NegZero NaN r is = subst (λ y. is_nothing y ≡ true) (same_some NaN r is) refl
quotient_nothing NegZero Infinity r is = zero_is (signs_differ NegZero Infinity) r is
quotient_nothing NegZero NegInfinity r is = zero_is (signs_differ NegZero NegInfinity) r is
quotient_nothing NegZero NegZero r is = subst (λ y. is_nothing y ≡ true) (same_some NaN r is) refl
quotient_nothing NegZero (Whole n) r is = whole_quotient (pos 0) n (unsigned_abs n == 0) refl (signs_differ NegZero (Whole n)) r is
quotient_nothing Infinity NaN r is = subst (λ y. is_nothing y ≡ true) (same_some NaN r is) refl
quotient_nothing Infinity Infinity r is = subst (λ y. is_nothing y ≡ true) (same_some NaN r is) refl
quotient_nothing Infinity NegInfinity r is = subst (λ y. is_nothing y ≡ true) (same_some NaN r is) refl
quotient_nothing Infinity NegZero r is = infinity_is (signs_differ Infinity NegZero) r is
quotient_nothing Infinity (Whole n) r is = infinity_is (signs_differ Infinity (Whole n)) r is
quotient_nothing NegInfinity NaN r is = subst (λ y. is_nothing y ≡ true) (same_some NaN r is) refl
quotient_nothing NegInfinity Infinity r is = subst (λ y. is_nothing y ≡ true) (same_some NaN r is) refl
quotient_nothing NegInfinity NegInfinity r is = subst (λ y. is_nothing y ≡ true) (same_some NaN r is) refl
quotient_nothing NegInfinity NegZero r is = infinity_is (signs_differ NegInfinity NegZero) r is
quotient_nothing NegInfinity (Whole n) r is = infinity_is (signs_differ NegInfinity (Whole n)) r is
