-- The layout of names and literals.
use Rattle.std.specs.Prelude.{ℕ, Bool, true, false, List, Option, Some, None, codes}
use Rattle.ecma_number.specs.declared.js_number.JsNumber.{JsNumber}
use Rattle.ecma_number.specs.Text.{text_of}
use Rattle.ecma_kind.specs.declared.kind.Kind.{Kind}
use Rattle.ecma_kind.specs.declared.kind.Kind.TheVariants.{Ident, IdentName, PrivateName, Str, Bool as BoolKind, Null, Number, BigInt, Regex, TplElement}
use Rattle.ecma_print.specs.Escapes.{made_text}
use Rattle.ecma_print.specs.Pieces.{Piece, nothing, say, ◌>>◌}

abbrev pub bool_word : Bool → List ℕ
bool_word true = codes "true"
bool_word false = codes "false"

-- a literal prints its source text; a text without one is made
abbrev pub text_literal : List ℕ → Option (List ℕ) → Piece
text_literal value None = say (made_text value)
text_literal value (Some raw) = say raw

-- a number without source text prints its digits
abbrev pub number_literal : Option JsNumber → Option (List ℕ) → Piece
number_literal None None = nothing
number_literal (Some value) None = say (text_of value)
number_literal value (Some raw) = say raw

abbrev pub big_literal : List ℕ → Option (List ℕ) → Piece
big_literal value None = say value >> say (codes "n")
big_literal value (Some raw) = say raw

abbrev pub regex_literal : List ℕ → List ℕ → Piece
regex_literal exp flags = say (codes "/") >> say exp >> say (codes "/") >> say flags

-- names and literals; other nodes have no such text
abbrev pub literal : Kind → Piece
literal (Ident sym ctxt optional) = say sym
literal (IdentName sym) = say sym
literal (PrivateName name) = say (codes "#") >> say name
literal (Str value raw) = text_literal value raw
literal (BoolKind value) = say (bool_word value)
literal Null = say (codes "null")
literal (Number value raw) = number_literal value raw
literal (BigInt value raw) = big_literal value raw
literal (Regex exp flags) = regex_literal exp flags
literal (TplElement raw cooked tail) = say raw
literal kind = nothing
