-- Literals without source text, and the texts that are written for them (ECMAScript, 12.9.3, 12.9.4).
use Rattle.std.specs.Prelude.{◌≡◌, true, List, ◌++◌, ℕ, Some, None, codes}
use Rattle.std.specs.Str.{IsUtf8}
use Rattle.ecma_number.specs.JsNumber.{value_of}
use Rattle.ecma_number.specs.SafeInt.{IsSafe}
use Rattle.ecma_kind.specs.declared.kind.Kind.{Kind}
use Rattle.ecma_kind.specs.declared.kind.Kind.TheVariants.{Str, Number, BigInt}
use Rattle.ecma_leaves.specs.Words.{is_readable}
use Rattle.ecma_print.specs.Escapes.{made_text}

-- the digits of a BigInt, and its `n`
abbrev pub big_text : List ℕ → List ℕ
big_text value = value ++ codes "n"

-- of a literal without source text: a text is UTF-8, a number is in the domain, and what is written for a text or a BigInt can be read at all
abbrev pub IsWritable : Kind → Type 0
IsWritable (Str value None) = IsUtf8 value × (is_readable (made_text value) ≡ true)
IsWritable (Number (Some value) None) = IsSafe (value_of value)
IsWritable (BigInt value None) = is_readable (big_text value) ≡ true
IsWritable _ = Unit {0}
