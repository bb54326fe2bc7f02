-- Powers of whole numbers: of 1 and -1, and those past the domain.
use Rattle.std.proofs.Common.{◌≡◌, ap, refl, ℕ, zero, suc, ◌^◌, ◌%◌, ◌≤◌, Bool, true, false, cond, eqb, ℤ, pos, negsuc, neg_ℤ, unsigned_abs, None, arith, lit<}
use Rattle.std.proofs.Math.Nat.{pow-zero, pow-suc, pow-le-pow_left, pow-le-pow_right}
use Rattle.std.proofs.lemmas.Bool.Decides.{nat_tests}
use Rattle.std.specs.Int.{int_pow}
use Rattle.ecma_number.specs.JsNumber.{whole_of}

one_pow : (exponent : ℕ) → 1 ^ exponent ≡ 1
one_pow zero = pow-zero 1
one_pow (suc exponent) = rw (pow-suc 1 exponent, one_pow exponent) refl

-- the powers of 1 and -1 go by whether the exponent is even
pub int_pow-unit_even : (base : ℤ) (exponent : ℕ) → unsigned_abs base ≡ 1 → exponent % 2 ≡ 0 → int_pow base exponent ≡ pos 1
int_pow-unit_even (pos size) exponent unit even = rw unit (ap pos (one_pow exponent))
int_pow-unit_even (negsuc below) exponent unit even = rw (even, unit) (ap pos (one_pow exponent))

pub int_pow-unit_odd : (base : ℤ) (exponent : ℕ) → unsigned_abs base ≡ 1 → exponent % 2 ≡ 1 → int_pow base exponent ≡ base
int_pow-unit_odd (pos size) exponent unit odd = rw unit (ap pos (one_pow exponent))
int_pow-unit_odd (negsuc below) exponent unit odd =
    let none : below ≡ 0 = omega arith in rw (odd, none, one_pow exponent) refl

unsigned_abs-neg_pos : (size : ℕ) → unsigned_abs (neg_ℤ (pos size)) ≡ size
unsigned_abs-neg_pos zero = refl
unsigned_abs-neg_pos (suc size) = refl

unsigned_abs-cond_neg : (even : Bool) (size : ℕ) → unsigned_abs (cond even (pos size) (neg_ℤ (pos size))) ≡ size
unsigned_abs-cond_neg true size = refl
unsigned_abs-cond_neg false size = unsigned_abs-neg_pos size

pub unsigned_abs-int_pow : (base : ℤ) (exponent : ℕ) → unsigned_abs (int_pow base exponent) ≡ unsigned_abs base ^ exponent
unsigned_abs-int_pow (pos size) exponent = refl
unsigned_abs-int_pow (negsuc below) exponent = unsigned_abs-cond_neg (eqb (exponent % 2) 0) (suc below ^ exponent)

-- what lies past the domain has no Number
pub whole_of-past : (number : ℤ) → 2 ^ 53 ≤ unsigned_abs number → None ≡ whole_of number
whole_of-past number past = grind (arith, nat_tests)

pub int_pow-past : (base : ℤ) (exponent : ℕ) → 2 ≤ unsigned_abs base → 53 ≤ exponent → 2 ^ 53 ≤ unsigned_abs (int_pow base exponent)
int_pow-past base exponent large high =
    let longer : 2 ^ 53 ≤ 2 ^ exponent = pow-le-pow_right (lit< tt) high in
    let larger : 2 ^ exponent ≤ unsigned_abs base ^ exponent = pow-le-pow_left large exponent in
    omega (arith, unsigned_abs-int_pow base exponent)
