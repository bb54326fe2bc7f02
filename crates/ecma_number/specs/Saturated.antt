-- Numbers that stop at the largest of 64 bits.
use Rattle.std.specs.Prelude.{ℕ, ◌-◌, ◌^◌, min}

-- the number, or the largest of 64 bits where it is more
abbrev pub saturated : ℕ → ℕ
saturated number = min number (2 ^ 64 - 1)
