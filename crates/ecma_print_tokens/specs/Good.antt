-- Lists of tokens whose text is read as those tokens: each is whole by itself, and stops where it ends.
use Rattle.std.specs.Prelude.{◌≡◌, ℕ, Bool, true, ◌||◌, List, ◌++◌, length, ◌==◌, bytes_eq, codes, Option, Some, is_some, false}
use Rattle.std.specs.Char.{is_ascii_digit}
use Rattle.std.specs.List.{list_all, list_any}
use Rattle.std.specs.Str.{IsUtf8, chars}
use Rattle.ecma_lex.specs.Keys.{is_valid_continue, key_end, priv_name_end}
use Rattle.ecma_lex.specs.Numerals.{touches, num_end, big_end}
use Rattle.ecma_lex.specs.Punctuators.{is_longest}
use Rattle.ecma_lex.specs.Regexes.{regex_end}
use Rattle.ecma_lex.specs.Strings.{str_end}
use Rattle.ecma_lex.specs.Templates.{template_text_end, template_value}
use Rattle.ecma_lex.proofs.Spelled.{stops}
use Rattle.ecma_print_tokens.specs.Taking.{part_inside}
use Rattle.ecma_print_tokens.specs.Items.{Tok, key, private_name, sign, string, number, big_int, regex, template, Gap, Items, ends, it, render}

-- blanks (32) and line feeds (10)
abbrev pub is_gap_character : ℕ → Bool
is_gap_character c = c == 32 || c == 10

abbrev pub is_line_feed : ℕ → Bool
is_line_feed c = c == 10

-- a gap tells whether a line feed is among its blanks
pub record IsGap (g : Gap) : Type 0 where
  pub blank : list_all is_gap_character g.blanks ≡ true
  pub told : g.new_line ≡ list_any is_line_feed g.blanks

-- a text is one token by itself: reading it from its front takes all of it
pub record IsToken (find : List ℕ → ℕ → Option ℕ) (word : List ℕ) : Type 0 where
  pub utf8 : IsUtf8 word
  pub whole : find word 0 ≡ Some (length word)

-- a text is one text part of a template by itself, as it is behind a tag; and without one, if it has a value
pub record IsTextPart (first last : Bool) (word : List ℕ) : Type 0 where
  pub utf8 : IsUtf8 word
  pub whole : template_text_end first true word 0 ≡ Some (record { next = length word; last = last })
  pub plain : is_some (template_value (part_inside last word)) ≡ true → template_text_end first false word 0 ≡ Some (record { next = length word; last = last })

-- a token is whole by itself; of a sign what follows decides
abbrev pub Whole : Tok → Type 0
Whole (key w) = IsToken key_end w
Whole (private_name w) = IsToken priv_name_end w
Whole (sign w) = Unit {0}
Whole (string w) = IsToken str_end w
Whole (number w) = IsToken num_end w
Whole (big_int w) = IsToken big_end w
Whole (regex w) = IsToken regex_end w
Whole (template first last w) = IsTextPart first last w

-- what goes on with a numeral or touches it: also a point (46)
abbrev pub continues_numeral : ℕ → Bool
continues_numeral c = touches c || c == 46

-- `/` (47) and `/` or `*` (42) begin a comment
abbrev pub begins_comment : ℕ → Bool
begins_comment c = c == 47 || c == 42

-- what follows a sign in the text: it is the longest there, and begins neither a comment nor a numeral
pub record IsSign (word behind : List ℕ) : Type 0 where
  pub longest : is_longest word (word ++ behind) ≡ true
  pub no_comment : bytes_eq word (codes "/") ≡ true → stops begins_comment (chars behind) ≡ true
  pub no_numeral : bytes_eq word (codes ".") ≡ true → stops is_ascii_digit (chars behind) ≡ true

-- a token stops where it ends, in front of a text
abbrev pub Stops : Tok → List ℕ → Type 0
Stops (key w) v = stops is_valid_continue (chars v) ≡ true
Stops (private_name w) v = stops is_valid_continue (chars v) ≡ true
Stops (sign w) v = IsSign w v
Stops (string w) v = Unit {0}
Stops (number w) v = stops continues_numeral (chars v) ≡ true
Stops (big_int w) v = stops touches (chars v) ≡ true
Stops (regex w) v = stops is_valid_continue (chars v) ≡ true
Stops (template first last w) v = Unit {0}

abbrev pub Good : Items → Type 0
Good (ends g) = IsGap g
Good (it g t ts) = IsGap g × Whole t × Stops t (render ts) × Good ts
