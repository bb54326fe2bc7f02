-- What literals say: ECMAScript, 12.9.4.2 Static Semantics: SV and 12.9.6.1 Static Semantics: TV. Texts are UTF-8, so a surrogate in a value has to be half
-- of a pair.
use Rattle.std.specs.Prelude.{◌≡◌, ℕ, zero, suc, ◌+◌, Bool, true, false, not, ◌&&◌, ◌||◌, nat_lt, List, [], ◌∷◌, ◌++◌, length, if◌then◌else◌, ◌==◌, Option, Some, None, IfSome, option_map}
use Rattle.std.specs.Char.{encode_utf8}
use Rattle.std.specs.Char.Utf16.{is_high_surrogate, has_unpaired_surrogate, utf16_lossy_chars}
use Rattle.std.specs.Str.{encode_utf8_all}
use Rattle.ecma_lex.specs.Parts.{Part, char_at, passing, code_point, many, ◌>>◌, ◌//◌}
use Rattle.ecma_lex.specs.Escapes.{line_terminator_sequence, escape, escape_value, listed}
use Rattle.ecma_lex.specs.declared.values.Joined.{Joined}
use Rattle.ecma_lex.specs.declared.values.LiteralStep.{LiteralStep}

-- characters of ASCII that say themselves in each literal: no LF (10), CR (13), quote (34, 39), `$` (36), backslash (92) and backtick (96)
abbrev pub is_plain : ℕ → Bool
is_plain c = nat_lt c 128 && not (c == 10 || (c == 13 || (c == 34 || (c == 36 || (c == 39 || (c == 92 || c == 96))))))

-- such a character, and no other, stands at a place
abbrev pub FindsPlain : List ℕ → ℕ → Option ℕ → Type 0
FindsPlain text i None = passing is_plain text i ≡ None
FindsPlain text i (Some c) = (char_at text i ≡ Some c) × (is_plain c ≡ true)

-- what the text of a literal is made of: characters, of which a backslash (92) begins an escape
unfoldable pub string_part : Part
string_part = passing (λ c. not (c == 92)) // code_point 92 >> escape

-- and in a template LineTerminatorSequence
unfoldable pub literal_part : Bool → Part
literal_part in_template = if in_template then line_terminator_sequence // string_part else string_part

abbrev pub part_value_of : Bool → List ℕ → ℕ → ℕ → Option ℕ → List ℕ
part_value_of in_template text i j None = []
part_value_of in_template text i j (Some c) =
    if c == 92 then escape_value text (i + 1) j
    else if in_template && c == 13 then 10 ∷ []
    else c ∷ []

-- the code points of the part that stands from one place to another: a character says itself, but in a template CR (13) and CR LF say LF (10)
unfoldable pub part_value : Bool → List ℕ → ℕ → ℕ → List ℕ
part_value in_template text i j = part_value_of in_template text i j (char_at text i)

abbrev pub part_and_on : Bool → (ℕ → List ℕ) → List ℕ → ℕ → Option ℕ → List ℕ
part_and_on in_template go text i None = []
part_and_on in_template go text i (Some j) = part_value in_template text i j ++ go j

-- the code points of the parts from a place on, of at most so many
unfoldable pub code_points_up_to : ℕ → Bool → List ℕ → ℕ → List ℕ
code_points_up_to zero in_template text i = []
code_points_up_to (suc n) in_template text i = part_and_on in_template (code_points_up_to n in_template text) text i (literal_part in_template text i)

unfoldable pub code_points : Bool → List ℕ → ℕ → List ℕ
code_points in_template text i = code_points_up_to (length text) in_template text i

-- the text of code points, in bytes: a high surrogate and a low one directly behind it are one character (UTF16SurrogatePairToCodePoint, 11.1.3), and there is
-- none where a surrogate is in no pair
unfoldable pub text_of : List ℕ → Option (List ℕ)
text_of points = if has_unpaired_surrogate points then None else Some (encode_utf8_all (utf16_lossy_chars points))

abbrev pub ends_at : ℕ → Option ℕ → Bool
ends_at end None = false
ends_at end (Some j) = j == end

-- what code points and the parts behind a place say; none where some of it is no part
unfoldable pub value_behind : List ℕ → Bool → List ℕ → ℕ → Option (List ℕ)
value_behind points in_template text i = if ends_at (length text) (many (literal_part in_template) text i) then text_of (points ++ code_points in_template text i) else None

-- what the text of a literal says
unfoldable pub literal_value : Bool → List ℕ → Option (List ℕ)
literal_value in_template text = value_behind [] in_template text 0

-- a high surrogate waits, or nothing
abbrev pub IsHigh : Option ℕ → Type 0
IsHigh high = IfSome high (λ code. is_high_surrogate code ≡ true)

-- the bytes of a character, if there is one
abbrev pub bytes_of : Option ℕ → List ℕ
bytes_of None = []
bytes_of (Some c) = encode_utf8 c

-- bytes in front of a text
abbrev pub onto : List ℕ → Option (List ℕ) → Option (List ℕ)
onto bytes text = option_map (λ more. bytes ++ more) text

-- what a code point says behind a surrogate that waits, and which waits then, whatever stands behind; or that there is no text
abbrev pub Joins : Option ℕ → Option ℕ → Option Joined → Type 0
Joins high code None = (rest : List ℕ) → text_of (listed high ++ (listed code ++ rest)) ≡ None
Joins high code (Some joined) = (rest : List ℕ) → text_of (listed high ++ (listed code ++ rest)) ≡ onto (bytes_of joined.says) (text_of (listed joined.high ++ rest))

-- what stands behind a place says what the part there completes, and then what stands behind that; or nothing
abbrev pub Steps : Option ℕ → Bool → List ℕ → ℕ → Option LiteralStep → Type 0
Steps high in_template text i None = value_behind (listed high) in_template text i ≡ None
Steps high in_template text i (Some step) = value_behind (listed high) in_template text i ≡ onto (bytes_of step.joined.says) (value_behind (listed step.joined.high) in_template text step.next)
