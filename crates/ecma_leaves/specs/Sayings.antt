-- Whether the parts of a literal say a text (ECMAScript, 12.9.4.2, 12.9.6.1).
use Rattle.std.specs.Prelude.{ℕ, Bool, false, List, [], Option, Some, None, bytes_eq}

-- there is a text, and it is this one
abbrev pub is_said : Option (List ℕ) → List ℕ → Bool
is_said None value = false
is_said (Some said) value = bytes_eq said value

-- behind the last part everything is said, but for a high surrogate that waits
abbrev pub said_behind_all : Option ℕ → Option (List ℕ)
said_behind_all None = Some []
said_behind_all (Some high) = None
