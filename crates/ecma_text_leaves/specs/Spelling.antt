-- How the leaves of a tree are spelled: each is a whole token by itself, and says what that token says (ECMAScript, 12.7, 12.9).
use Rattle.std.specs.Prelude.{◌≡◌, ℕ, ◌-◌, List, length, Option, Some, None}
use Rattle.std.specs.Str.{IsUtf8}
use Rattle.ecma_number.specs.Numeral.{numeral_of}
use Rattle.ecma_lex.specs.Text.{piece}
use Rattle.ecma_lex.specs.Keys.{key_end}
use Rattle.ecma_lex.specs.Numerals.{num_end}
use Rattle.ecma_lex.specs.Strings.{str_end, str_value}
use Rattle.ecma_kind.specs.declared.kind.Kind.{Kind}
use Rattle.ecma_kind.specs.declared.kind.Kind.TheVariants as kind

-- a text is one token by itself: reading it from its front takes all of it
pub record IsToken (find : List ℕ → ℕ → Option ℕ) (word : List ℕ) : Type 0 where
  pub utf8 : IsUtf8 word
  pub whole : find word 0 ≡ Some (length word)

-- the value of a string is what stands between its quotes says
pub record IsString (value raw : List ℕ) : Type 0 where
  pub token : IsToken str_end raw
  pub value_is : value ≡ str_value (piece raw 1 (length raw - 1))

-- an identifier is a key, with no context yet; a numeral has its exact value where that is in the number domain
abbrev pub IsSpelled : Kind → Type 0
IsSpelled (kind.Ident sym ctxt optional) = IsToken key_end sym × (ctxt ≡ 0)
IsSpelled (kind.IdentName sym) = IsToken key_end sym
IsSpelled (kind.Str value (Some raw)) = IsString value raw
IsSpelled (kind.Str value None) = ⊥
IsSpelled (kind.Number value (Some raw)) = IsToken num_end raw × (value ≡ numeral_of raw)
IsSpelled (kind.Number value None) = ⊥
IsSpelled _ = Unit {0}
