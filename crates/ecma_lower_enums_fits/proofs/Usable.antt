-- Names and keys that may be written.
use Rattle.std.proofs.Common.{◌≡◌, ℕ, true, false, codes, bytes_eq, List}
use Rattle.ecma_lex.specs.Keys.{is_reserved}
use Rattle.ecma_lex.specs.Tokens.{key}
use Rattle.ecma_kind.specs.declared.ident.Ident.{Ident}
use Rattle.ecma_leaves.specs.Words.{is_one}

-- a text is a whole key
abbrev pub IsKey : List ℕ → Type 0
IsKey text = is_one key text ≡ true

-- a name that may be used wherever a variable may
pub record IsUsable (of : Ident) : Type 0 where
  pub key : IsKey of.sym
  pub unreserved : is_reserved of.sym ≡ false
  pub other : bytes_eq of.sym (codes "arguments") ≡ false
