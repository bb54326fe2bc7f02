-- What parts of a literal stand at a place of a text, by its first character.
use Rattle.std.proofs.Common.{◌≡◌, ◌∙◌, ℕ, ◌+◌, Bool, true, false, not, ◌||◌, cond, List, [], ◌∷◌, nat_eq, Some, None, refl, sym, ap}
use Rattle.std.specs.Char.{is_ascii_digit, len_utf8}
use Rattle.std.proofs.lemmas.Bool.{eqb-true, false≢true, not-false}
use Rattle.ecma_number.specs.Blanks.{is_line_terminator}
use Rattle.ecma_lex.specs.Escapes.{character_escape_sequence, cr_lf, escape, escape_sequence, escape_value, escape_value_of, is_character_escape, line_terminator_sequence, null_escape, numeric_escape}
use Rattle.ecma_lex.specs.Parts.{char_at, code_point, passing, ◌>>◌, ◌//◌}
use Rattle.ecma_lex.specs.Text.{after}
use Rattle.ecma_lex.specs.Values.{literal_part, part_value, part_value_of, string_part}
use Rattle.ecma_lex.proofs.Literals.{no_terminator, or_none, passing_here}
use Rattle.ecma_lex.proofs.Repeats.{code_point_end, code_point_stands, or_first, passing_end, passing_stands, then_none, then_some}
use Rattle.ecma_text_fits_leaves.proofs.LineFeeds.{IsUnbroken, char_head, fed, is_sign, no_sign}

pub not_return : (c : ℕ) → is_line_terminator c ≡ false → nat_eq c 13 ≡ false
not_return c h = go (nat_eq c 13) refl
  where
    go : (t : Bool) → nat_eq c 13 ≡ t → nat_eq c 13 ≡ false
    go true e = absurd (false≢true (sym h ∙ ap is_line_terminator (eqb-true c 13 e)))
    go false e = e

pub not_backslash : (c : ℕ) → is_line_terminator c ≡ true → nat_eq c 92 ≡ false
not_backslash c h = go (nat_eq c 92) refl
  where
    go : (t : Bool) → nat_eq c 92 ≡ t → nat_eq c 92 ≡ false
    go true e = absurd (false≢true (sym (ap is_line_terminator (eqb-true c 92 e)) ∙ h))
    go false e = e

pub escape_unbroken : IsUnbroken is_character_escape
escape_unbroken c h = go (is_ascii_digit c) (nat_eq c 120) (nat_eq c 117) (is_line_terminator c) h
  where
    go : (a b d e : Bool) → e ≡ true → not (a || (b || (d || e))) ≡ false
    go true b d e h = refl
    go false true d e h = refl
    go false false true e h = refl
    go false false false true h = refl
    go false false false false h = cc

-- what parts come to, in one text

module _ (text : List ℕ) where
  pub terminator_end : (i : ℕ) → after text i ≡ [] → line_terminator_sequence text i ≡ None
  unfolding line_terminator_sequence cr_lf
  terminator_end i e = or_none text (code_point 13 >> code_point 10) (passing is_line_terminator) i (then_none text (code_point 13) (code_point 10) i (code_point_end text 13 i e)) ∙ passing_end text is_line_terminator i e

  pub part_end : (i : ℕ) → after text i ≡ [] → literal_part true text i ≡ None
  unfolding literal_part string_part
  part_end i e =
      or_none text line_terminator_sequence string_part i (terminator_end i e)
      ∙ or_none text (passing (λ c. not (nat_eq c 92))) (code_point 92 >> escape) i (passing_end text (λ c. not (nat_eq c 92)) i e)
      ∙ then_none text (code_point 92) escape i (code_point_end text 92 i e)

  -- a line terminator stands there
  pub part_breaks : (i j : ℕ) → line_terminator_sequence text i ≡ Some j → literal_part true text i ≡ Some j
  unfolding literal_part
  part_breaks i j h = or_first text line_terminator_sequence string_part i j h

  -- a backslash
  pub part_escape : (i : ℕ) (cs : List ℕ) → after text i ≡ 92 ∷ cs → literal_part true text i ≡ escape text (i + 1)
  unfolding literal_part string_part
  part_escape i cs e =
      let c = char_head text i 92 cs e in
      or_none text line_terminator_sequence string_part i (no_terminator text i 92 c refl refl)
      ∙ or_none text (passing (λ c. not (nat_eq c 92))) (code_point 92 >> escape) i (passing_here text (λ c. not (nat_eq c 92)) i 92 c)
      ∙ then_some text (code_point 92) escape i (i + 1) (code_point_stands text 92 i cs e)

  -- another character
  pub part_other : (i c : ℕ) (cs : List ℕ) → after text i ≡ c ∷ cs → is_line_terminator c ≡ false → nat_eq c 92 ≡ false → literal_part true text i ≡ Some (i + len_utf8 c)
  unfolding literal_part string_part
  part_other i c cs e h k =
      or_none text line_terminator_sequence string_part i (no_terminator text i c (char_head text i c cs e) (not_return c h) h)
      ∙ or_first text (passing (λ c. not (nat_eq c 92))) (code_point 92 >> escape) i (i + len_utf8 c) (passing_stands text (λ c. not (nat_eq c 92)) i c cs e (ap not k))

  pub escape_breaks : (i j : ℕ) → line_terminator_sequence text i ≡ Some j → escape text i ≡ Some j
  unfolding escape
  escape_breaks i j h = or_first text line_terminator_sequence escape_sequence i j h

  pub escape_other : (i : ℕ) → line_terminator_sequence text i ≡ None → escape text i ≡ escape_sequence text i
  unfolding escape
  escape_other i h = or_none text line_terminator_sequence escape_sequence i h

  -- a backslash and an end of a text part are an escape
  pub sign_escapes : (i c : ℕ) (cs : List ℕ) → after text i ≡ c ∷ cs → is_sign c ≡ true → escape text i ≡ Some (i + len_utf8 c)
  unfolding escape_sequence character_escape_sequence
  sign_escapes i c cs e h =
      let none = no_terminator text i c (char_head text i c cs e) (no_sign (λ d. nat_eq d 13) c refl refl h) (no_sign is_line_terminator c refl refl h) in
      let passes : is_character_escape c ≡ true = not-false (is_character_escape c) (no_sign (λ d. not (is_character_escape d)) c refl refl h) in
      escape_other i none ∙ or_first text (passing is_character_escape) (null_escape // numeric_escape) i (i + len_utf8 c) (passing_stands text is_character_escape i c cs e passes)

  pub break_value : (i j c : ℕ) → char_at text i ≡ Some c → is_line_terminator c ≡ true → escape_value text i j ≡ []
  unfolding escape_value
  break_value i j c e h = ap (escape_value_of text i j) e ∙ (rw h refl)

  pub fed_value : (i j c : ℕ) → char_at text i ≡ Some c → nat_eq c 92 ≡ false → part_value true text i j ≡ fed c ∷ []
  unfolding part_value
  fed_value i j c e h = ap (part_value_of true text i j) e ∙ by (nat_eq c 92) (nat_eq c 13) h
    where
      by : (t s : Bool) → t ≡ false → cond t (escape_value text (i + 1) j) (cond s (10 ∷ []) (c ∷ [])) ≡ cond s 10 c ∷ []
      by false true k = refl
      by false false k = refl
      by true s k = cc

  pub escaped_value : (i j : ℕ) (cs : List ℕ) → after text i ≡ 92 ∷ cs → part_value true text i j ≡ escape_value text (i + 1) j
  unfolding part_value
  escaped_value i j cs e = ap (part_value_of true text i j) (char_head text i 92 cs e)
