-- Digits whose zeros at the end are counted apart, and values that are whole.
use Rattle.std.proofs.Common.{◌≡◌, ◌≢◌, ◌∙◌, ◌-◌, ◌⊎◌, sym, ap, refl, ℕ, suc, ◌+◌, ◌*◌, ◌/◌, ◌%◌, ◌^◌, ◌≤◌, ◌<◌, eqb, Bool, true, false, if◌then◌else◌, Some, None, option_map, inl, inr, arith}
use Rattle.std.specs.Prelude.{ℤ, pos, negsuc, neg_ℤ, ◌+ℤ◌}
use Rattle.std.proofs.Math.Nat.{mul-le-mul_right, mul-lt-mul_of_pos_right, one-le-pow, pow-suc, pow-zero}
use Rattle.std.proofs.lemmas.Nat.{pow-add, mod-mul-add, div-mul-add, mod_below, div-add-mod'}
use Rattle.std.proofs.lemmas.Bool.{cases_lt}
use Rattle.std.proofs.lemmas.Bool.Decides.{nat_tests}
use Rattle.std.proofs.lemmas.Int.{ints}
use Rattle.ecma_number.specs.declared.numerals.DigitRun.{DigitRun}
use Rattle.ecma_number.specs.declared.numerals.SignedSize.{SignedSize}
use Rattle.ecma_number.specs.DigitRun.{Holds, HoldsMantissa, HoldsSigned, HoldsSize}
use Rattle.ecma_number.specs.Numeral.{Digits, MathematicalValue, no_digits, signed, times_power, whole_value, with_fraction}
use Rattle.ecma_number.specs.Saturated.{saturated}
use Rattle.ecma_number.proofs.Saturated.{saturated-many_zeros, saturated-mul}

power_positive : (radix zeros : ℕ) → 2 ≤ radix → 1 ≤ radix ^ zeros
power_positive radix zeros least = one-le-pow zeros radix (omega arith)

-- the value that is held
pub held_value : (radix : ℕ) (run : DigitRun) (exact : Digits) → 2 ≤ radix → Holds radix run exact → saturated (run.size * radix ^ run.zeros) ≡ saturated exact.mv
held_value radix run exact least holds =
    let positive : 1 ≤ radix ^ run.zeros = power_positive radix run.zeros least in
    rw (holds.saturates, holds.parts) (saturated-mul holds.size (radix ^ run.zeros) positive)

raised : (size radix power : ℕ) → size * power * radix + 0 ≡ size * (power * radix)
raised size radix power = omega arith

-- one more zero, and one more digit that is none
pub holds_zero : (radix : ℕ) (run : DigitRun) (exact : Digits) (digit : ℕ) → digit ≡ 0 → Holds radix run exact → Holds radix (record { size = run.size; zeros = run.zeros + 1; count = run.count + 1 }) (record { mv = exact.mv * radix + digit; count = exact.count + 1 })
holds_zero radix run exact digit none holds =
    record {
      size = holds.size;
      parts = (let e = holds.parts in let up : run.zeros + 1 ≡ suc run.zeros = omega arith in rw (none, e, up, pow-suc radix run.zeros) (omega arith));
      saturates = holds.saturates;
      no_zero = holds.no_zero;
      count = ap (λ n. n + 1) holds.count;
    }

saturated-add : (value digit : ℕ) → saturated (saturated value + digit) ≡ saturated (value + digit)
saturated-add value digit = omega arith

pub holds_digit : (radix : ℕ) (run : DigitRun) (exact : Digits) (digit size : ℕ) → 2 ≤ radix → 1 ≤ digit → digit < radix → size ≡ saturated (saturated (run.size * radix ^ (run.zeros + 1)) + digit) → Holds radix run exact → Holds radix (record { size = size; zeros = 0; count = run.count + 1 }) (record { mv = exact.mv * radix + digit; count = exact.count + 1 })
holds_digit radix run exact digit size least some below is holds =
    let positive : 1 ≤ radix ^ (run.zeros + 1) = power_positive radix (run.zeros + 1) least in
    let grown : exact.mv * radix ≡ holds.size * radix ^ (run.zeros + 1) = (let e = holds.parts in let up : run.zeros + 1 ≡ suc run.zeros = omega arith in rw (e, up, pow-suc radix run.zeros) (omega arith)) in
    let value : saturated (run.size * radix ^ (run.zeros + 1)) ≡ saturated (exact.mv * radix) = rw (holds.saturates, grown) (saturated-mul holds.size (radix ^ (run.zeros + 1)) positive) in
    record {
      size = exact.mv * radix + digit;
      parts = rw (pow-zero radix) (omega arith);
      saturates = is ∙ ap (λ n. saturated (n + digit)) value ∙ saturated-add (exact.mv * radix) digit;
      no_zero = λ h. absurd (let e = mod-mul-add exact.mv radix digit below in omega arith);
      count = ap (λ n. n + 1) holds.count;
    }

pub holds_none : (radix : ℕ) → Holds radix (record { size = 0; zeros = 0; count = 0 }) no_digits
holds_none radix = record { size = 0; parts = omega arith; saturates = omega arith; no_zero = λ h. refl; count = refl }

-- ---- whole values

pub whole_zero : (power : ℤ) → whole_value 0 power ≡ Some 0
whole_zero (pos up) = ap Some (omega arith)
whole_zero (negsuc down) =
    let positive : 0 < 10 ^ suc down = power_positive 10 (suc down) (omega arith) in
    let none : 0 ≡ 0 * 10 ^ suc down + 0 = omega arith in
    let rest : 0 % 10 ^ suc down ≡ 0 = ap (λ n. n % 10 ^ suc down) none ∙ mod-mul-add 0 (10 ^ suc down) 0 positive in
    let quotient : 0 / 10 ^ suc down ≡ 0 = ap (λ n. n / 10 ^ suc down) none ∙ div-mul-add 0 (10 ^ suc down) 0 positive in
    rw (rest, quotient) refl

pub whole_up : (size zeros up : ℕ) (power : ℤ) → pos zeros +ℤ power ≡ pos up → whole_value (size * 10 ^ zeros) power ≡ Some (size * 10 ^ up)
whole_up size zeros up (pos more) e =
    let same : up ≡ zeros + more = omega (arith, ints) in
    rw (same, pow-add 10 zeros more) (ap Some (omega arith))
whole_up size zeros up (negsuc down) e =
    let same : zeros ≡ up + suc down = omega (arith, ints) in
    let positive : 0 < 10 ^ suc down = power_positive 10 (suc down) (omega arith) in
    let parts : size * 10 ^ zeros ≡ size * 10 ^ up * 10 ^ suc down + 0 = rw (same, pow-add 10 up (suc down)) (omega arith) in
    let rest = mod-mul-add (size * 10 ^ up) (10 ^ suc down) 0 positive in
    let quotient = div-mul-add (size * 10 ^ up) (10 ^ suc down) 0 positive in
    rw (parts, rest, quotient) refl

tens : (quotient down size : ℕ) {rest : ℕ} → rest ≡ 0 → size ≡ quotient * 10 ^ suc down + rest → size % 10 ≡ 0
tens quotient down size {rest} none parts =
    let same : size ≡ quotient * 10 ^ down * 10 + 0 = rw (parts, none, pow-suc 10 down) (omega arith) in
    rw same (mod-mul-add (quotient * 10 ^ down) 10 0 (omega arith))

pub whole_down : (size zeros down : ℕ) (power : ℤ) → pos zeros +ℤ power ≡ negsuc down → 1 ≤ size → (size % 10 ≡ 0 → size ≡ 0) → whole_value (size * 10 ^ zeros) power ≡ None
whole_down size zeros down (pos more) e some no_zero = absurd (omega (arith, ints))
whole_down size zeros down (negsuc more) e some no_zero =
    let same : suc more ≡ suc down + zeros = omega (arith, ints) in
    let quotient : ℕ = size / 10 ^ suc down in
    let rest : ℕ = size % 10 ^ suc down in
    let parts : size ≡ quotient * 10 ^ suc down + rest = sym (div-add-mod' size (10 ^ suc down)) in
    let below : rest < 10 ^ suc down = mod_below size (10 ^ suc down) (power_positive 10 (suc down) (omega arith)) in
    let longer : size * 10 ^ zeros ≡ quotient * 10 ^ suc more + rest * 10 ^ zeros = rw (same, pow-add 10 (suc down) zeros) (omega (arith, ap (λ n. n * 10 ^ zeros) parts)) in
    let longer_below : rest * 10 ^ zeros < 10 ^ suc more = rw (same, pow-add 10 (suc down) zeros) (mul-lt-mul_of_pos_right below (power_positive 10 zeros (omega arith))) in
    let left : size * 10 ^ zeros % 10 ^ suc more ≡ rest * 10 ^ zeros = rw longer (mod-mul-add quotient (10 ^ suc more) (rest * 10 ^ zeros) longer_below) in
    let least : 1 ≤ rest = elim (cases_lt 0 rest) [ inl some ↦ some | inr none ↦ absurd (let z : rest ≡ 0 = omega arith in let t = tens quotient down size z parts in let n = no_zero t in omega arith) ] in
    let more_rest : 1 * 10 ^ zeros ≤ rest * 10 ^ zeros = mul-le-mul_right (10 ^ zeros) least in
    let one : 1 ≤ 10 ^ zeros = power_positive 10 zeros (omega arith) in
    let nonzero : eqb (rest * 10 ^ zeros) 0 ≡ false = grind (arith, nat_tests) in
    rw (left, nonzero) refl

-- ---- decimal literals

-- digits behind which those of a fraction follow, and those of a fraction alone
pub holds_whole : (run : DigitRun) (exact : Digits) → Holds 10 run exact → Holds 10 (record { size = run.size; zeros = run.zeros; count = 0 }) (record { mv = exact.mv; count = 0 })
holds_whole run exact holds = record { size = holds.size; parts = holds.parts; saturates = holds.saturates; no_zero = holds.no_zero; count = refl }

pub holds_mantissa : (run : DigitRun) (whole fraction : Digits) → Holds 10 run (record { mv = whole.mv * 10 ^ fraction.count + fraction.mv; count = fraction.count }) → HoldsMantissa run (with_fraction whole fraction)
holds_mantissa run whole fraction holds =
    (record { size = holds.size; parts = holds.parts; saturates = holds.saturates; no_zero = holds.no_zero; count = refl }, ap (λ n. neg_ℤ (pos n)) (sym holds.count))

pub holds_fraction : (run : DigitRun) (fraction : Digits) → Holds 10 run fraction → HoldsMantissa run (with_fraction no_digits fraction)
holds_fraction run fraction holds =
    let same : fraction.mv ≡ 0 * 10 ^ fraction.count + fraction.mv = omega arith in
    holds_mantissa run no_digits fraction (record { size = holds.size; parts = sym same ∙ holds.parts; saturates = holds.saturates; no_zero = holds.no_zero; count = holds.count })

-- the power of ten behind a size whose zeros are counted apart
shifted : (zeros count size : ℕ) (negative : Bool) (power exponent : ℤ) → power ≡ neg_ℤ (pos count) → exponent ≡ signed negative size → pos zeros +ℤ (power +ℤ exponent) ≡ (if negative then pos zeros +ℤ neg_ℤ (pos (count + size)) else pos (zeros + size) +ℤ neg_ℤ (pos count))
shifted zeros count size true power exponent p e = rw (p, e) (omega (arith, ints))
shifted zeros count size false power exponent p e = rw (p, e) (omega (arith, ints))

abbrev Held : DigitRun → SignedSize → MathematicalValue → ℤ → Type 0
Held run exponent value power = HoldsMantissa run value × HoldsSigned exponent power

-- a size of 0
pub size_none : (run : DigitRun) (exponent : SignedSize) (value : MathematicalValue) (power : ℤ) → Held run exponent value power → run.size ≡ 0 → HoldsSize (Some 0) (times_power value power)
size_none run exponent value power held none =
    let holds = held.0.0 in
    let zero : holds.size ≡ 0 = omega (arith, holds.saturates, none) in
    let nothing : value.significand ≡ 0 = holds.parts ∙ ap (λ n. n * 10 ^ run.zeros) zero ∙ omega arith in
    rw (nothing, whole_zero (value.power +ℤ power)) refl

some_size : (run : DigitRun) (size : ℕ) → run.size ≡ saturated size → run.size ≢ 0 → 1 ≤ size
some_size run size is some = omega arith

-- the zeros that the point moves over, and the digits behind it
abbrev pub Moves : DigitRun → SignedSize → ℕ × ℕ → Type 0
Moves run exponent places =
    (places.0 ≡ (if exponent.is_negative then run.zeros else saturated (run.zeros + exponent.size)))
    × (places.1 ≡ (if exponent.is_negative then saturated (run.count + exponent.size) else run.count))

-- more digits behind the point than zeros
pub size_down : (run : DigitRun) (exponent : SignedSize) (value : MathematicalValue) (power : ℤ) (places : ℕ × ℕ) → Held run exponent value power → run.size ≢ 0 → run.zeros < 2 ^ 63 → run.count < 2 ^ 63 → Moves run exponent places → places.0 < places.1 → HoldsSize None (times_power value power)
size_down run exponent value power places held some z c moves less =
    let holds = held.0.0 in
    let signs = held.1 in
    let e = shifted run.zeros run.count signs.size exponent.is_negative value.power power held.0.1 signs.parts in
    rw holds.parts (at (value.power +ℤ power) (go exponent.is_negative e moves.0 moves.1))
  where
    go : (negative : Bool) → pos run.zeros +ℤ (value.power +ℤ power) ≡ (if negative then pos run.zeros +ℤ neg_ℤ (pos (run.count + held.1.size)) else pos (run.zeros + held.1.size) +ℤ neg_ℤ (pos run.count)) → places.0 ≡ (if negative then run.zeros else saturated (run.zeros + exponent.size)) → places.1 ≡ (if negative then saturated (run.count + exponent.size) else run.count) → (far : ℕ) × (pos run.zeros +ℤ (value.power +ℤ power) ≡ negsuc far)
    go true e u d = let s = held.1.saturates in (run.count + held.1.size - suc run.zeros, omega (arith, ints))
    go false e u d = let s = held.1.saturates in (run.count - suc (run.zeros + held.1.size), omega (arith, ints))

    at : (p : ℤ) → ((far : ℕ) × (pos run.zeros +ℤ p ≡ negsuc far)) → None ≡ option_map saturated (whole_value (held.0.0.size * 10 ^ run.zeros) p)
    at p w = rw (whole_down held.0.0.size run.zeros w.0 p w.1 (some_size run held.0.0.size held.0.0.saturates some) held.0.0.no_zero) refl

-- as many zeros, or so many that more of them change nothing
abbrev Places : ℕ → ℕ → Type 0
Places zeros more = (zeros ≡ more) ⊎ ((64 ≤ zeros) × (64 ≤ more))

pub size_up : (run : DigitRun) (exponent : SignedSize) (value : MathematicalValue) (power : ℤ) (places : ℕ × ℕ) → Held run exponent value power → run.zeros < 2 ^ 63 → run.count < 2 ^ 63 → Moves run exponent places → places.1 ≤ places.0 → HoldsSize (Some (saturated (run.size * 10 ^ (places.0 - places.1)))) (times_power value power)
size_up run exponent value power places held z c moves enough =
    let holds = held.0.0 in
    let signs = held.1 in
    let e = shifted run.zeros run.count signs.size exponent.is_negative value.power power held.0.1 signs.parts in
    rw holds.parts (at (value.power +ℤ power) (go exponent.is_negative e moves.0 moves.1))
  where
    go : (negative : Bool) → pos run.zeros +ℤ (value.power +ℤ power) ≡ (if negative then pos run.zeros +ℤ neg_ℤ (pos (run.count + held.1.size)) else pos (run.zeros + held.1.size) +ℤ neg_ℤ (pos run.count)) → places.0 ≡ (if negative then run.zeros else saturated (run.zeros + exponent.size)) → places.1 ≡ (if negative then saturated (run.count + exponent.size) else run.count) → (more : ℕ) × (pos run.zeros +ℤ (value.power +ℤ power) ≡ pos more) × Places (places.0 - places.1) more
    go true e u d = let s = held.1.saturates in (run.zeros - (run.count + held.1.size), omega (arith, ints), inl (omega arith))
    go false e u d = let s = held.1.saturates in elim (cases_lt (run.zeros + held.1.size) (2 ^ 64)) [
      | inl fits ↦ (run.zeros + held.1.size - run.count, omega (arith, ints), inl (omega arith))
      | inr past ↦ (run.zeros + held.1.size - run.count, omega (arith, ints), inr (omega arith, omega arith))
    ]

    same_size : (more : ℕ) → Places (places.0 - places.1) more → saturated (held.0.0.size * 10 ^ (places.0 - places.1)) ≡ saturated (held.0.0.size * 10 ^ more)
    same_size more (inl same) = rw same refl
    same_size more (inr many) = saturated-many_zeros 10 held.0.0.size (places.0 - places.1) (omega arith) many.0 ∙ sym (saturated-many_zeros 10 held.0.0.size more (omega arith) many.1)

    at : (p : ℤ) → ((more : ℕ) × (pos run.zeros +ℤ p ≡ pos more) × Places (places.0 - places.1) more) → Some (saturated (run.size * 10 ^ (places.0 - places.1))) ≡ option_map saturated (whole_value (held.0.0.size * 10 ^ run.zeros) p)
    at p w = rw (whole_up held.0.0.size run.zeros w.0 p w.1, held.0.0.saturates) (ap Some (saturated-mul held.0.0.size (10 ^ (places.0 - places.1)) (power_positive 10 (places.0 - places.1) (omega arith)) ∙ same_size w.0 w.2))
