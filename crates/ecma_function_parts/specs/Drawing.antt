-- Contexts that are drawn where they are wanted.
use Rattle.std.specs.Prelude.{ℕ, Bool, true, false}

-- how many are drawn
abbrev pub count : Bool → ℕ
count true = 1
count false = 0

-- the one that is, in a session with so many marks left
abbrev pub context_if : Bool → ℕ → ℕ
context_if true left = left
context_if false left = 0
