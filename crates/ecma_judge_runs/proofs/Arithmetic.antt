-- When a difference, a quotient, a Number with a minus and bits of two truths are zero or NaN.
use Rattle.std.proofs.Common.{◌≡◌, refl, sym, ap, ◌∙◌, subst, suc, arith, eqb-true, Option, Some, None, Bool, true, false, not, ◌&&◌, ◌||◌, ◌==◌, if◌then◌else◌}
use Rattle.std.proofs.lemmas.Int.{ints}
use Rattle.std.specs.Prelude.{ℤ, pos, negsuc, neg_ℤ, ◌+ℤ◌, bit_and, bit_or}
use Rattle.std.specs.Ordering.{int_eq}
use Rattle.std.specs.Int.RustNames.{unsigned_abs}
use Rattle.std.proofs.lemmas.Bool.Decides.{Decides-int_eq}
use Rattle.ecma_number.specs.declared.js_number.JsNumber.{JsNumber}
use Rattle.ecma_number.specs.declared.js_number.JsNumber.TheVariants.{Whole, NegZero, NaN, Infinity, NegInfinity}
use Rattle.ecma_number.specs.JsNumber.{is_nan, is_zero}
use Rattle.ecma_number.specs.SafeInt.{is_safe}
use Rattle.ecma_number.specs.Equality.{are_equal}
use Rattle.ecma_number.specs.Arithmetic.{unary_minus_of, sum_of, difference_of}
use Rattle.ecma_number.specs.Bits.{bitwise}

abbrev or_given : {A : Type 0} → A → Option A → A
or_given a None = a
or_given a (Some b) = b

pub same_some : {A : Type 0} (a b : A) → Some a ≡ Some b → a ≡ b
same_some a b h = ap (λ o. or_given a o) h

-- it counts as false
abbrev pub is_nothing : JsNumber → Bool
is_nothing n = is_nan n || is_zero n

no_more : (b : Bool) → (b || false || false) ≡ b
no_more true = refl
no_more false = refl

pub abs_zero : (z : ℤ) → (unsigned_abs z == 0) ≡ true → z ≡ pos 0
abs_zero (pos n) e = ap pos (eqb-true n 0 e)
abs_zero (negsuc n) e = let none : suc n ≡ 0 = eqb-true (suc n) 0 e in absurd (omega (arith, none))

bools_same : (a b : Bool) → (a ≡ true → b ≡ true) → (b ≡ true → a ≡ true) → a ≡ b
bools_same true b f g = sym (f refl)
bools_same false true f g = g refl
bools_same false false f g = refl

whole_difference : (m n : ℤ) → (unsigned_abs (m +ℤ neg_ℤ n) == 0) ≡ int_eq m n
whole_difference m n =
    bools_same (unsigned_abs (m +ℤ neg_ℤ n) == 0) (int_eq m n)
    (λ e. let zero_sum : m +ℤ neg_ℤ n ≡ pos 0 = abs_zero (m +ℤ neg_ℤ n) e in (Decides-int_eq m n).1 (omega (arith, ints, zero_sum)))
    (λ e. let same : m ≡ n = (Decides-int_eq m n).0 e in let none : m +ℤ neg_ℤ n ≡ pos 0 = omega (arith, ints, same) in ap (λ z. unsigned_abs z == 0) none)

pub whole_if : (b : Bool) (z : ℤ) (r : JsNumber) → (if b then Some (Whole z) else None) ≡ Some r → Whole z ≡ r
whole_if true z r is = same_some (Whole z) r is
whole_if false z r is = absurd (cc)

-- a minus changes nothing of it

no_zero : (z : ℤ) → (unsigned_abs z == 0) ≡ false → (b : Bool) → (unsigned_abs (neg_ℤ z) == 0) ≡ b → b ≡ false
no_zero z some false e = refl
no_zero z some true e =
    let none : neg_ℤ z ≡ pos 0 = abs_zero (neg_ℤ z) e in
    let zero_too : z ≡ pos 0 = omega (arith, ints, none) in
    sym (ap (λ y. unsigned_abs y == 0) zero_too) ∙ some

minus_by : (z : ℤ) (b : Bool) → (unsigned_abs z == 0) ≡ b → is_nothing (if b then NegZero else Whole (neg_ℤ z)) ≡ b
minus_by z true e = refl
minus_by z false e = no_zero z e (unsigned_abs (neg_ℤ z) == 0) refl

minus_whole : (z : ℤ) → is_nothing (unary_minus_of (Whole z)) ≡ is_nothing (Whole z)
minus_whole z = minus_by z (unsigned_abs z == 0) refl

pub minus_nothing : (n : JsNumber) → is_nothing (unary_minus_of n) ≡ is_nothing n
minus_nothing (Whole z) = minus_whole z
minus_nothing NegZero = refl
minus_nothing NaN = refl
minus_nothing Infinity = refl
minus_nothing NegInfinity = refl

-- a difference is nothing where its sides are equal, or one is NaN

abbrev IsDifference : JsNumber → JsNumber → JsNumber → Type 0
IsDifference a b r = is_nothing r ≡ (are_equal a b || is_nan a || is_nan b)

whole_from_whole : (m n : ℤ) (r : JsNumber) (z : ℤ) → m +ℤ neg_ℤ n ≡ z → (if is_safe z then Some (Whole z) else None) ≡ Some r → is_nothing r ≡ (int_eq m n || false || false)
whole_from_whole m n r z e is =
    subst (λ y. is_nothing y ≡ (int_eq m n || false || false)) (whole_if (is_safe z) z r is)
    (ap (λ y. unsigned_abs y == 0) (sym e) ∙ (whole_difference m n ∙ sym (no_more (int_eq m n))))

from_whole : (m n : ℤ) (r : JsNumber) (b : Bool) → (unsigned_abs n == 0) ≡ b → sum_of (Whole m) (if b then NegZero else Whole (neg_ℤ n)) ≡ Some r → IsDifference (Whole m) (Whole n) r
from_whole m n r true e is = let none : n ≡ pos 0 = abs_zero n e in whole_from_whole m n r (m +ℤ pos 0) (omega (arith, ints, none)) is
from_whole m n r false e is = whole_from_whole m n r (m +ℤ neg_ℤ n) refl is

from_neg_zero : (n : ℤ) (r : JsNumber) (b : Bool) → (unsigned_abs n == 0) ≡ b → sum_of NegZero (if b then NegZero else Whole (neg_ℤ n)) ≡ Some r → IsDifference NegZero (Whole n) r
from_neg_zero n r true e is =
    let none : pos 0 ≡ n = sym (abs_zero n e) in
    subst (λ y. is_nothing y ≡ (int_eq (pos 0) n || false || false)) (same_some NegZero r is) (sym (no_more (int_eq (pos 0) n) ∙ (Decides-int_eq (pos 0) n).1 none))
from_neg_zero n r false e is = whole_from_whole (pos 0) n r (pos 0 +ℤ neg_ℤ n) refl is

from_infinity : (n : ℤ) (r : JsNumber) (b : Bool) → sum_of Infinity (if b then NegZero else Whole (neg_ℤ n)) ≡ Some r → IsDifference Infinity (Whole n) r
from_infinity n r true is = subst (λ y. is_nothing y ≡ false) (same_some Infinity r is) refl
from_infinity n r false is = subst (λ y. is_nothing y ≡ false) (same_some Infinity r is) refl

from_neg_infinity : (n : ℤ) (r : JsNumber) (b : Bool) → sum_of NegInfinity (if b then NegZero else Whole (neg_ℤ n)) ≡ Some r → IsDifference NegInfinity (Whole n) r
from_neg_infinity n r true is = subst (λ y. is_nothing y ≡ false) (same_some NegInfinity r is) refl
from_neg_infinity n r false is = subst (λ y. is_nothing y ≡ false) (same_some NegInfinity r is) refl

pub difference_nothing : (a b r : JsNumber) → difference_of a b ≡ Some r → IsDifference a b r
difference_nothing NaN b r is = subst (λ y. is_nothing y ≡ true) (same_some NaN r is) refl
difference_nothing (Whole m) NaN r is = subst (λ y. is_nothing y ≡ true) (same_some NaN r is) refl
difference_nothing (Whole m) Infinity r is = subst (λ y. is_nothing y ≡ false) (same_some NegInfinity r is) refl
difference_nothing (Whole m) NegInfinity r is = subst (λ y. is_nothing y ≡ false) (same_some Infinity r is) refl
difference_nothing (Whole m) NegZero r is = whole_from_whole m (pos 0) r (m +ℤ pos 0) refl is
difference_nothing (Whole m) (Whole n) r is = from_whole m n r (unsigned_abs n == 0) refl is
difference_nothing NegZero NaN r is = subst (λ y. is_nothing y ≡ true) (same_some NaN r is) refl
difference_nothing NegZero Infinity r is = subst (λ y. is_nothing y ≡ false) (same_some NegInfinity r is) refl
difference_nothing NegZero NegInfinity r is = subst (λ y. is_nothing y ≡ false) (same_some Infinity r is) refl
difference_nothing NegZero NegZero r is = subst (λ y. is_nothing y ≡ true) (same_some (Whole (pos 0)) r is) refl
difference_nothing NegZero (Whole n) r is = from_neg_zero n r (unsigned_abs n == 0) refl is
difference_nothing Infinity NaN r is = subst (λ y. is_nothing y ≡ true) (same_some NaN r is) refl
difference_nothing Infinity Infinity r is = subst (λ y. is_nothing y ≡ true) (same_some NaN r is) refl
difference_nothing Infinity NegInfinity r is = subst (λ y. is_nothing y ≡ false) (same_some Infinity r is) refl
difference_nothing Infinity NegZero r is = subst (λ y. is_nothing y ≡ false) (same_some Infinity r is) refl
difference_nothing Infinity (Whole n) r is = from_infinity n r (unsigned_abs n == 0) is
difference_nothing NegInfinity NaN r is = subst (λ y. is_nothing y ≡ true) (same_some NaN r is) refl
difference_nothing NegInfinity Infinity r is = subst (λ y. is_nothing y ≡ false) (same_some NegInfinity r is) refl
difference_nothing NegInfinity NegInfinity r is = subst (λ y. is_nothing y ≡ true) (same_some NaN r is) refl
difference_nothing NegInfinity NegZero r is = subst (λ y. is_nothing y ≡ false) (same_some NegInfinity r is) refl
difference_nothing NegInfinity (Whole n) r is = from_neg_infinity n r (unsigned_abs n == 0) is

-- bits of two truths

abbrev pub bit_of : Bool → JsNumber
bit_of true = Whole (pos 1)
bit_of false = Whole (pos 0)

pub and_bits : (a b : Bool) → is_nothing (bitwise bit_and (bit_of a) (bit_of b)) ≡ not (a && b)
and_bits true true = refl
and_bits true false = refl
and_bits false true = refl
and_bits false false = refl

pub or_bits : (a b : Bool) → is_nothing (bitwise bit_or (bit_of a) (bit_of b)) ≡ not (a || b)
or_bits true true = refl
or_bits true false = refl
or_bits false true = refl
or_bits false false = refl
