-- Numbers that stop at the largest of 64 bits.
use Rattle.std.proofs.Common.{◌≡◌, sym, refl, ℕ, zero, suc, ◌+◌, ◌*◌, ◌^◌, ◌-◌, ◌≤◌, min, lit<, arith, inl, inr}
use Rattle.std.proofs.Math.Nat.{mul-le-mul_left, mul-le-mul_right, pow-le-pow_left, pow-le-pow_right}
use Rattle.std.proofs.lemmas.Bool.{cases_lt}
use Rattle.ecma_number.specs.Saturated.{saturated}

-- what is at the largest number stays there, whatever digit follows
pub saturated-with_digit : (value radix digit : ℕ) → 1 ≤ radix → saturated (saturated value * radix + digit) ≡ saturated (value * radix + digit)
saturated-with_digit value radix digit positive = elim (cases_lt value (2 ^ 64 - 1)) [
  | inl below ↦ let same : saturated value ≡ value = omega arith in rw same refl
  | inr above ↦
      let same : saturated value ≡ 2 ^ 64 - 1 = omega arith in
      rw same (omega (arith, mul-le-mul_left (2 ^ 64 - 1) positive, mul-le-mul_left value positive))
]

-- a number that saturates before it is multiplied saturates behind it
pub saturated-mul : (value factor : ℕ) → 1 ≤ factor → saturated (saturated value * factor) ≡ saturated (value * factor)
saturated-mul value factor positive =
    let with_zero : saturated (saturated value * factor + 0) ≡ saturated (value * factor + 0) = saturated-with_digit value factor 0 positive in
    omega (arith, with_zero)

-- 64 places behind a number other than 0 pass 64 bits
pub many_zeros : (radix value places : ℕ) → 2 ≤ radix → 64 ≤ places → 1 ≤ value → 2 ^ 64 ≤ value * radix ^ places
many_zeros radix value places least many positive =
    let longer : 2 ^ 64 ≤ 2 ^ places = pow-le-pow_right (lit< tt) many in
    let power : 2 ^ places ≤ radix ^ places = pow-le-pow_left least places in
    let larger : 1 * radix ^ places ≤ value * radix ^ places = mul-le-mul_right (radix ^ places) positive in
    omega arith

-- so more of them change nothing
pub saturated-many_zeros : (radix value places : ℕ) → 2 ≤ radix → 64 ≤ places → saturated (value * radix ^ places) ≡ saturated (value * (2 ^ 64 - 1))
saturated-many_zeros radix zero places least many = omega arith
saturated-many_zeros radix (suc value) places least many =
    let positive : 1 ≤ suc value = omega arith in
    let more : 1 * (2 ^ 64 - 1) ≤ suc value * (2 ^ 64 - 1) = mul-le-mul_right (2 ^ 64 - 1) positive in
    omega (arith, many_zeros radix (suc value) places least many positive)

saturated-commuted : (value factor : ℕ) → 1 ≤ value → saturated (value * saturated factor) ≡ saturated (value * factor)
saturated-commuted value factor positive =
    let same : saturated (saturated factor * value) ≡ saturated (factor * value) = saturated-mul factor value positive in
    omega (arith, same)

pub saturated-zeros : (radix value places : ℕ) → 2 ≤ radix → saturated (value * saturated (radix ^ min places 64)) ≡ saturated (value * radix ^ places)
saturated-zeros radix zero places least = omega arith
saturated-zeros radix (suc value) places least =
    let positive : 1 ≤ suc value = omega arith in
    elim (cases_lt places 64) [
      | inl few ↦
          let same : min places 64 ≡ places = omega arith in
          rw same (saturated-commuted (suc value) (radix ^ places) positive)
      | inr many ↦
          let same : min places 64 ≡ 64 = omega arith in
          let past : 2 ^ 64 ≤ 1 * radix ^ 64 = many_zeros radix 1 64 least (omega arith) (omega arith) in
          let most : saturated (radix ^ 64) ≡ 2 ^ 64 - 1 = omega arith in
          rw (same, most) (sym (saturated-many_zeros radix (suc value) places least many))
    ]
