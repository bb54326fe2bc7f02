-- The sets of kinds that a summary tells of, and the byte that holds them.
use Rattle.std.specs.Prelude.{◌+◌, ◌/◌, ◌%◌, ◌==◌, ℕ, Bool, true, false}

-- for each set whether a kind of it stands somewhere
pub record Sets : Type 0 where
  pub types : Bool
  pub enums : Bool
  pub namespaces : Bool
  pub param_props : Bool
  pub patterns : Bool
  pub scopes : Bool
  pub functions : Bool
  pub names : Bool

-- whether a number has the bit of this power of two
abbrev pub has_bit : ℕ → ℕ → Bool
has_bit n power = n / power % 2 == 1

-- the sets that a byte holds, a bit each
abbrev pub sets_of : ℕ → Sets
sets_of n = record {
  types = has_bit n 1;
  enums = has_bit n 2;
  namespaces = has_bit n 4;
  param_props = has_bit n 8;
  patterns = has_bit n 16;
  scopes = has_bit n 32;
  functions = has_bit n 64;
  names = has_bit n 128;
}

abbrev pub bit : Bool → ℕ → ℕ
bit true power = power
bit false power = 0

-- the byte that holds them
abbrev pub byte_of : Sets → ℕ
byte_of s =
    bit s.types 1 + (bit s.enums 2 + (bit s.namespaces 4 + (bit s.param_props 8 + (bit s.patterns 16 + (bit s.scopes 32 + (bit s.functions 64 + bit s.names 128))))))
