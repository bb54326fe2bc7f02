-- How the code holds the exact value of digits in 64 bits: the zeros at their end are counted apart.
use Rattle.std.specs.Prelude.{◌≡◌, ◌≤◌, ℕ, ◌*◌, ◌%◌, ◌^◌, ℤ, pos, neg_ℤ, List, length, drop, Option, Some, None, option_map}
use Rattle.ecma_number.specs.declared.numerals.DigitRun.{DigitRun}
use Rattle.ecma_number.specs.declared.numerals.SignedSize.{SignedSize}
use Rattle.ecma_number.specs.Numeral.{Digits, MathematicalValue, Reading, digits, signed, whole_value}
use Rattle.ecma_number.specs.Saturated.{saturated}
use Rattle.ecma_number.specs.declared.numerals.NumeralForm.{NumeralForm}

-- the MV is size × radix ^ zeros, where the size ends in no zero unless it is 0
pub record Holds (radix : ℕ) (run : DigitRun) (exact : Digits) : Type 0 where
  pub size : ℕ
  pub parts : exact.mv ≡ size * radix ^ run.zeros
  pub saturates : run.size ≡ saturated size
  pub no_zero : size % radix ≡ 0 → size ≡ 0
  pub count : run.count ≡ exact.count

-- the size of an exponent, or the largest of 64 bits where it is more
pub record HoldsSigned (held : SignedSize) (exact : ℤ) : Type 0 where
  pub size : ℕ
  pub parts : exact ≡ signed held.is_negative size
  pub saturates : held.size ≡ saturated size

-- the same of an integer, and of a value where it is whole
abbrev pub HoldsInteger : ℕ → Digits → Type 0
HoldsInteger size exact = size ≡ saturated exact.mv

abbrev pub HoldsSize : Option ℕ → MathematicalValue → Type 0
HoldsSize size exact = size ≡ option_map saturated (whole_value exact.significand exact.power)

-- the significand, and how many of its digits stand after the point
abbrev pub HoldsMantissa : DigitRun → MathematicalValue → Type 0
HoldsMantissa run exact = Holds 10 run (record { mv = exact.significand; count = run.count }) × (exact.power ≡ neg_ℤ (pos run.count))

-- no more zeros are held, and no more digits counted, than characters were read
abbrev pub IsShort : DigitRun × ℕ → Type 0
IsShort read = (read.0.zeros ≤ read.1) × (read.0.count ≤ read.1)

-- digits of a radix, where there is one
abbrev pub digits_of_radix : NumeralForm → Option ℕ → Reading Digits
digits_of_radix form (Some radix) text = digits form radix text
digits_of_radix form None text = None

-- what was read up to a place of a text is what a production reads, which leaves what stands after the place
abbrev pub Reads : {T A : Type 0} → (T → A → Type 0) → List ℕ → Option (T × ℕ) → Option (A × List ℕ) → Type 0
Reads holds text None None = Unit {0}
Reads holds text (Some read) (Some exact) = holds read.0 exact.0 × (exact.1 ≡ drop read.1 text) × (read.1 ≤ length text)
Reads holds text None (Some exact) = ⊥
Reads holds text (Some read) None = ⊥

-- the same of the place alone
abbrev pub ReadsTo : {A : Type 0} → List ℕ → Option ℕ → Option (A × List ℕ) → Type 0
ReadsTo text None None = Unit {0}
ReadsTo text (Some end) (Some exact) = (exact.1 ≡ drop end text) × (end ≤ length text)
ReadsTo text None (Some exact) = ⊥
ReadsTo text (Some end) None = ⊥
