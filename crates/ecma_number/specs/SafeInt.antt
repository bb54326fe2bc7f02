-- The whole numbers that a double holds exactly, each told apart from its neighbours.
use Rattle.std.specs.Prelude.{ℕ, ℤ, ◌-◌, ◌^◌, ◌≤◌, Bool, nat_le}
use Rattle.std.specs.Int.RustNames.{unsigned_abs}

-- Number.MAX_SAFE_INTEGER (ECMAScript, 21.1.2.6)
abbrev pub max_safe_integer : ℕ
max_safe_integer = 2 ^ 53 - 1

-- from -(2^53 - 1) to 2^53 - 1
abbrev pub IsSafe : ℤ → Type 0
IsSafe number = unsigned_abs number ≤ max_safe_integer

-- the same as a test
abbrev pub is_safe : ℤ → Bool
is_safe number = nat_le (unsigned_abs number) max_safe_integer
