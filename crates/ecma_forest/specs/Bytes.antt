-- A byte is given back by the sets that it holds.
use Rattle.std.proofs.Common.{◌≡◌, ◌<◌, ◌+◌, ◌*◌, ◌/◌, ◌%◌, ℕ, zero, suc, eqb, arith}
use Rattle.ecma_forest.specs.Sets.{bit, byte_of, sets_of}

bit-of : (b power : ℕ) → b < 2 → bit (eqb b 1) power ≡ b * power
bit-of zero power h = omega arith
bit-of (suc zero) power h = omega arith
bit-of (suc (suc b)) power h = absurd (omega (arith, h))

-- a bit, and the half that is left
half1 : (n : ℕ) → n ≡ n / 1 % 2 + 2 * (n / 2)
half1 n = omega arith

half2 : (n : ℕ) → n / 2 ≡ n / 2 % 2 + 2 * (n / 4)
half2 n = omega arith

half4 : (n : ℕ) → n / 4 ≡ n / 4 % 2 + 2 * (n / 8)
half4 n = omega arith

half8 : (n : ℕ) → n / 8 ≡ n / 8 % 2 + 2 * (n / 16)
half8 n = omega arith

half16 : (n : ℕ) → n / 16 ≡ n / 16 % 2 + 2 * (n / 32)
half16 n = omega arith

half32 : (n : ℕ) → n / 32 ≡ n / 32 % 2 + 2 * (n / 64)
half32 n = omega arith

half64 : (n : ℕ) → n / 64 ≡ n / 64 % 2 + 2 * (n / 128)
half64 n = omega arith

half128 : (n : ℕ) → n < 256 → n / 128 ≡ n / 128 % 2
half128 n h = omega (arith, h)

pub byte_of-sets_of : (n : ℕ) → n < 256 → byte_of (sets_of n) ≡ n
byte_of-sets_of n h =
    let b0 = bit-of (n / 1 % 2) 1 (omega arith) in
    let b1 = bit-of (n / 2 % 2) 2 (omega arith) in
    let b2 = bit-of (n / 4 % 2) 4 (omega arith) in
    let b3 = bit-of (n / 8 % 2) 8 (omega arith) in
    let b4 = bit-of (n / 16 % 2) 16 (omega arith) in
    let b5 = bit-of (n / 32 % 2) 32 (omega arith) in
    let b6 = bit-of (n / 64 % 2) 64 (omega arith) in
    let b7 = bit-of (n / 128 % 2) 128 (omega arith) in
    rw (b0, b1, b2, b3, b4, b5, b6, b7)
    (omega (arith, half1 n, half2 n, half4 n, half8 n, half16 n, half32 n, half64 n, half128 n h))
