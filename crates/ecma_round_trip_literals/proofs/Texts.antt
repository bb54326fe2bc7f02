-- The text that is made for a value is a string literal, which says the value.
use Rattle.std.proofs.Common.{◌≡◌, ◌∙◌, ℕ, ◌+◌, ◌-◌, true, false, List, [], ◌∷◌, ◌++◌, length, length-append, bytes_eq, Some, refl, sym, ap, subst, arith}
use Rattle.std.proofs.lemmas.Bool.{and_from}
use Rattle.std.specs.Prelude.{unwrap_or}
use Rattle.std.specs.Str.{IsUtf8, chars}
use Rattle.std.proofs.lemmas.Slice.Eq.{bytes_eq-Decides}
use Rattle.std.proofs.lemmas.Str.{IsUtf8-append, IsUtf8-from_ascii, encodes-chars, scalars-chars}
use lib.Utf8.{encodes, scalars}
use Rattle.ecma_lex.specs.Parts.{char_at, code_point, many, or_at, ◌>>◌}
use Rattle.ecma_lex.specs.Strings.{if_valued, no_string_character, quoted, str_end, str_value, string_character, string_literal}
use Rattle.ecma_lex.specs.Strings as strings
use Rattle.ecma_lex.specs.Text.{piece}
use Rattle.ecma_lex.specs.Tokens.{term}
use Rattle.ecma_lex.specs.Values.{literal_part, literal_value}
use Rattle.ecma_lex.proofs.Literals.{passing_here}
use Rattle.ecma_lex.proofs.Alike.{code_stands}
use Rattle.ecma_lex.proofs.Repeats.{many_none, then_some, unless_refused}
use Rattle.ecma_lex.proofs.Spelled.{alone}
use Rattle.ecma_lex.proofs.Suffixes.{Stands, cut_ascii, cut_utf8, past, piece_here}
use Rattle.ecma_print_tokens.specs.Good.{IsToken}
use Rattle.ecma_print_tokens.specs.Items.{string as string_token}
use Rattle.ecma_leaves.specs.Words.{is_one, is_readable, is_string, is_whole}
use Rattle.ecma_print.specs.Escapes.{escaped, made_text}
use Rattle.ecma_round_trip_literals.specs.Laws.{WrittenTextsAreSpelled}
use Rattle.ecma_round_trip_literals.proofs.Characters.{escaped_is_written, written_all}
use Rattle.ecma_round_trip_literals.proofs.Plain.{plain_ascii}
use Rattle.ecma_round_trip_literals.proofs.Reading.{all_utf8, ascii_at, many_written, value_written}
use Rattle.ecma_round_trip_literals.proofs.Tokens.{by_itself}

module _ (cs : List ℕ) (h : scalars cs ≡ true) where
  abbrev inside : List ℕ
  inside = written_all cs

  abbrev text : List ℕ
  text = 34 ∷ inside ++ 34 ∷ []

  quote_utf8 : IsUtf8 (34 ∷ [])
  quote_utf8 = IsUtf8-from_ascii (34 ∷ []) (plain_ascii (34 ∷ []) refl)

  text_utf8 : IsUtf8 text
  text_utf8 = IsUtf8-append (34 ∷ []) (inside ++ 34 ∷ []) quote_utf8 (IsUtf8-append inside (34 ∷ []) (all_utf8 cs h) quote_utf8)

  size : length text ≡ length inside + 2
  size = omega (arith, length-append inside (34 ∷ []))

  all_stands : Stands text 0 (34 ∷ (inside ++ 34 ∷ []))
  all_stands = record { rest = refl; within = omega arith }

  inside_stands : Stands text 1 (inside ++ 34 ∷ [])
  inside_stands = record { rest = refl; within = (let s = size in omega (arith, length-append inside (34 ∷ []))) }

  end_stands : Stands text (1 + length inside) (34 ∷ [])
  end_stands = past text inside inside_stands

  closing : char_at text (1 + length inside) ≡ Some 34
  closing = ascii_at text (1 + length inside) 34 [] (omega arith) end_stands

  characters : many (string_character 34) text 1 ≡ Some (1 + length inside)
  unfolding string_character
  characters =
      many_written text cs (34 ∷ []) 1 h (cut_ascii 34 [] (omega arith)) inside_stands
      ∙ many_none text (string_character 34) (1 + length inside)
      (unless_refused text (no_string_character 34) (literal_part false) (1 + length inside) (1 + length inside + 1) (passing_here text _ (1 + length inside) 34 closing))

  is_literal : string_literal text 0 ≡ Some (length text)
  unfolding string_literal quoted
  is_literal =
      let s = size in
      let opens : code_point 34 text 0 ≡ Some 1 = code_stands text 34 0 (omega arith) (ascii_at text 0 34 (inside ++ 34 ∷ []) (omega arith) all_stands) in
      let closes : code_point 34 text (1 + length inside) ≡ Some (1 + length inside + 1) = code_stands text 34 (1 + length inside) (omega arith) closing in
      let place : 1 + length inside + 1 ≡ length text = omega arith in
      let whole : quoted 34 text 0 ≡ Some (length text) =
      then_some text (code_point 34) (many (string_character 34) >> code_point 34) 0 1 opens ∙ then_some text (many (string_character 34)) (code_point 34) 1 (1 + length inside) characters ∙ closes ∙ ap Some place in
      ap (or_at (quoted 39) text 0) whole

  inner : piece text 1 (length text - 1) ≡ inside
  inner =
      let s = size in
      let place : length text - 1 ≡ 1 + length inside = omega arith in
      ap (piece text 1) place
      ∙ piece_here text 1 inside (34 ∷ []) inside_stands (cut_utf8 inside (34 ∷ []) (all_utf8 cs h) (cut_ascii 34 [] (omega arith))) (cut_ascii 34 [] (omega arith))

  value : literal_value false inside ≡ Some (encodes cs)
  unfolding literal_value
  value = value_written inside cs 0 h (alone inside)

  is_string_token : IsToken str_end text
  unfolding str_end
  is_string_token = record {
    utf8 = text_utf8;
    whole = ap (if_valued text 0) is_literal ∙ (let i = inner in let v = value in rw (i, v) refl);
  }

  says : str_value (piece text 1 (length text - 1)) ≡ encodes cs
  unfolding str_value
  says = ap (λ w. unwrap_or (literal_value false w) []) inner ∙ ap (λ o. unwrap_or o []) value

  text_spelled : is_readable text ≡ true → is_string (encodes cs) (Some text) ≡ true
  unfolding strings.str_lit
  text_spelled short =
      let token = is_string_token in
      and_from (is_one strings.str_lit text) (bytes_eq (str_value (piece text 1 (length text - 1))) (encodes cs))
      (and_from (is_readable text) (is_whole text (term str_end text 0)) short (by_itself (string_token text) str_end token tt token.whole))
      ((bytes_eq-Decides (str_value (piece text 1 (length text - 1))) (encodes cs)).1 says)

made_is : (value : List ℕ) → IsUtf8 value → 34 ∷ written_all (chars value) ++ 34 ∷ [] ≡ made_text value
made_is value utf8 = ap (λ (w : List ℕ). 34 ∷ w ++ 34 ∷ []) (sym (escaped_is_written (chars value)) ∙ ap escaped (encodes-chars value utf8))

pub made_utf8 : (value : List ℕ) → IsUtf8 value → IsUtf8 (made_text value)
made_utf8 value utf8 = subst IsUtf8 (made_is value utf8) (text_utf8 (chars value) (scalars-chars value utf8))

pub written_texts_are_spelled : WrittenTextsAreSpelled
written_texts_are_spelled value utf8 short =
    let cs = chars value in
    let is : encodes cs ≡ value = encodes-chars value utf8 in
    let made = made_is value utf8 in
    subst (λ w. is_string value (Some w) ≡ true) made (subst (λ v. is_string v (Some (34 ∷ written_all cs ++ 34 ∷ [])) ≡ true) is (text_spelled cs (scalars-chars value utf8) (ap is_readable made ∙ short)))
