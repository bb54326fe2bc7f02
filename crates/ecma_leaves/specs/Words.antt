-- How leaves are spelled (ECMAScript, 12.5, 12.7, 12.9): by what their terminals read, and what these say.
use Rattle.std.specs.Prelude.{ℕ, ◌-◌, Bool, true, false, not, ◌&&◌, ◌||◌, ◌==◌, nat_lt, pos, List, [], ◌∷◌, filter, length, take, Option, Some, None, Result, Ok, Err, bytes_eq}
use Rattle.std.specs.Char.{is_ascii_digit}
use Rattle.std.specs.Int.RustNames.{int_lt}
use Rattle.std.specs.List.{list_all, list_any}
use Rattle.std.specs.Str.{chars}
use Rattle.ecma_number.specs.declared.js_number.JsNumber.{JsNumber}
use Rattle.ecma_number.specs.declared.js_number.JsNumber.TheVariants.{Whole}
use Rattle.ecma_number.specs.Blanks.{is_line_terminator}
use Rattle.ecma_number.specs.Numeral.{numeral_of}
use Rattle.ecma_lex.specs.declared.tokens.Token.{Token}
use Rattle.ecma_lex.specs.declared.tokens.NoToken.{NoToken}
use Rattle.ecma_lex.specs.Keys.{is_valid_continue}
use Rattle.ecma_lex.specs.Parts.{many}
use Rattle.ecma_lex.specs.Regexes.{body}
use Rattle.ecma_lex.specs.Strings.{str_lit, str_value}
use Rattle.ecma_lex.specs.Templates.{template_character, template_value}
use Rattle.ecma_lex.specs.Text.{piece}
use Rattle.ecma_lex.specs.Tokens.{big, key, num}
use Rattle.ecma_kind.specs.declared.kind.Kind.{Kind}
use Rattle.ecma_kind.specs.declared.kind.Kind.TheVariants as kind

-- a text that can be read at all: no place in it is above 2^32 - 1
abbrev pub is_readable : List ℕ → Bool
is_readable text = nat_lt (length text) 4294967296

-- the token is the whole text
abbrev pub is_whole : List ℕ → Result Token NoToken → Bool
is_whole text (Ok token) = token.start == 0 && token.next == length text
is_whole text (Err e) = false

-- a text that can be read, which the terminal takes whole
abbrev pub is_one : (List ℕ → ℕ → Result Token NoToken) → List ℕ → Bool
is_one terminal text = is_readable text && is_whole text (terminal text 0)

abbrev pub ends_at : ℕ → Option ℕ → Bool
ends_at end None = false
ends_at end (Some place) = place == end

-- ---- strings

-- what stands between the quotes of a literal says the value
abbrev pub is_string : List ℕ → Option (List ℕ) → Bool
is_string value None = true
is_string value (Some raw) = is_one str_lit raw && bytes_eq (str_value (piece raw 1 (length raw - 1))) value

-- ---- numbers

-- two whole numbers that are one
abbrev pub is_same_whole : JsNumber → JsNumber → Bool
is_same_whole (Whole a) (Whole b) = not (int_lt a b) && not (int_lt b a)
is_same_whole _ _ = false

-- the same whole number, or both outside of the domain
abbrev pub is_value : Option JsNumber → Option JsNumber → Bool
is_value None None = true
is_value (Some a) (Some b) = is_same_whole a b
is_value _ _ = false

abbrev pub is_natural : JsNumber → Bool
is_natural (Whole value) = not (int_lt value (pos 0))
is_natural _ = false

-- a number without source text is whole and not negative; one with a source text is what that says
abbrev pub is_number : Option JsNumber → Option (List ℕ) → Bool
is_number None None = false
is_number (Some value) None = is_natural value
is_number value (Some raw) = is_one num raw && is_value value (numeral_of raw)

-- `_`, which may stand between digits
abbrev pub is_no_separator : ℕ → Bool
is_no_separator c = not (c == 95)

-- a numeral of a BigInt without separators and without its `n`
abbrev pub digits_of : List ℕ → List ℕ
digits_of raw = filter is_no_separator (take (length raw - 1) raw)

abbrev pub is_empty : List ℕ → Bool
is_empty [] = true
is_empty _ = false

-- DecimalIntegerLiteral without separators: `0` (48), or digits that do not begin with it
abbrev pub is_decimal : List ℕ → Bool
is_decimal [] = false
is_decimal (c ∷ cs) = list_all is_ascii_digit (c ∷ cs) && (not (c == 48) || is_empty cs)

-- a BigInt without source text has decimal digits; one with a source text has those that stand there
abbrev pub is_big_int : List ℕ → Option (List ℕ) → Bool
is_big_int value None = is_decimal value
is_big_int value (Some raw) = is_one big raw && bytes_eq value (digits_of raw)

-- ---- regular expressions

-- a RegularExpressionBody is the whole text
abbrev pub is_body : List ℕ → Bool
is_body text = ends_at (length text) (body text 0)

-- RegularExpressionFlags
abbrev pub are_flags : List ℕ → Bool
are_flags text = list_all is_valid_continue (chars text)

abbrev pub is_regex : List ℕ → List ℕ → Bool
is_regex exp flags = is_readable exp && (is_body exp && are_flags flags)

-- ---- templates

-- TemplateCharacters are the whole text; ill-formed escapes stand behind a tag alone
abbrev pub stands_in_template : Bool → List ℕ → Bool
stands_in_template tagged text = ends_at (length text) (many (template_character tagged) text 0)

-- the raw value has LF for each CR (13)
abbrev pub is_no_return : ℕ → Bool
is_no_return c = not (c == 13)

-- what the text part says; behind a tag it may say nothing
abbrev pub is_cooked : Bool → Option (List ℕ) → Option (List ℕ) → Bool
is_cooked tagged None None = tagged
is_cooked tagged (Some said) (Some cooked) = bytes_eq said cooked
is_cooked tagged _ _ = false

abbrev pub is_text_part : Bool → List ℕ → Option (List ℕ) → Bool
is_text_part tagged raw cooked = is_readable raw && (list_all is_no_return raw && (stands_in_template tagged raw && is_cooked tagged (template_value raw) cooked))

-- ---- hashbangs

-- what stands behind `#!` stands in one line
abbrev pub is_one_line : List ℕ → Bool
is_one_line text = not (list_any is_line_terminator (chars text))

abbrev pub is_hashbang : Option (List ℕ) → Bool
is_hashbang None = true
is_hashbang (Some text) = is_one_line text

-- ---- all of them

-- a leaf is spelled as its terminal reads it, and says what that says; a text part may stand behind a tag
abbrev pub is_spelled : Bool → Kind → Bool
is_spelled tagged (kind.Module shebang) = is_hashbang shebang
is_spelled tagged (kind.Script shebang) = is_hashbang shebang
is_spelled tagged (kind.Ident sym ctxt optional) = is_one key sym
is_spelled tagged (kind.IdentName sym) = is_one key sym
is_spelled tagged (kind.PrivateName name) = is_one key name
is_spelled tagged (kind.Str value raw) = is_string value raw
is_spelled tagged (kind.Number value raw) = is_number value raw
is_spelled tagged (kind.BigInt value raw) = is_big_int value raw
is_spelled tagged (kind.Regex exp flags) = is_regex exp flags
is_spelled tagged (kind.TplElement raw cooked tail) = is_text_part tagged raw cooked
is_spelled tagged _ = true
