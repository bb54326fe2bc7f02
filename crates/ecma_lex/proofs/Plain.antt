-- Characters that say themselves in each literal.
use Rattle.std.proofs.Common.{◌≡◌, ℕ, ◌+◌, ◌<◌, List, [], ◌∷◌, refl, ap, sym, ◌∙◌, arith, Some, None, Bool, true, false, not, ◌&&◌, ◌||◌, nat_lt, nat_le, nat_eq, is_some}
use Rattle.std.proofs.lemmas.Bool.{and_parts, eqb-true, ltb-true}
use Rattle.std.proofs.lemmas.Str.{len_utf8_ascii}
use Rattle.std.specs.Char.{len_utf8, encode_utf8}
use Rattle.ecma_number.specs.Blanks.{is_line_terminator}
use Rattle.ecma_lex.specs.Parts.{char_at, passing, code_point, or_at, ◌>>◌}
use Rattle.ecma_lex.specs.Escapes.{line_terminator_sequence, escape}
use Rattle.ecma_lex.specs.Values.{is_plain, string_part, literal_part, part_value, part_value_of, value_behind, onto}
use Rattle.ecma_lex.specs.Strings.{is_quote, no_string_character, string_character}
use Rattle.ecma_lex.specs.Templates.{template_text_end_at, ill_formed_escape, template_part, template_character}
use Rattle.ecma_lex.proofs.Literals.{or_none, passing_here, no_terminator}
use Rattle.ecma_lex.proofs.Sayings.{says_itself, read_some, no_part}
use Rattle.ecma_lex.proofs.Alike.{apart}
use Rattle.ecma_lex.proofs.TemplateParts.{end_is, ends_by}

plain_small : (c : ℕ) → is_plain c ≡ true → c < 128
plain_small c h = let e : nat_lt c 128 ≡ true = (and_parts (nat_lt c 128) (not (nat_eq c 10 || (nat_eq c 13 || (nat_eq c 34 || (nat_eq c 36 || (nat_eq c 39 || (nat_eq c 92 || nat_eq c 96))))))) h).0 in ltb-true c 128 e

no_terminator_plain : (c : ℕ) → is_plain c ≡ true → is_line_terminator c ≡ false
no_terminator_plain c h = rw (apart is_plain c 0xA refl h, apart is_plain c 0xD refl h, apart is_plain c 0x2028 refl h, apart is_plain c 0x2029 refl h) refl

no_quote_plain : (c quote : ℕ) → is_plain c ≡ true → is_quote quote ≡ true → nat_eq c quote ≡ false
no_quote_plain c quote h q = apart is_plain c quote (go (nat_eq quote 34) refl q) h
  where
    go : (b : Bool) → nat_eq quote 34 ≡ b → (b || nat_eq quote 39) ≡ true → is_plain quote ≡ false
    go true e k = ap is_plain (eqb-true quote 34 e)
    go false e k = ap is_plain (eqb-true quote 39 k)

module _ (text : List ℕ) where
  plain_part : (in_template : Bool) (i c : ℕ) → char_at text i ≡ Some c → is_plain c ≡ true → literal_part in_template text i ≡ Some (i + 1)
  unfolding literal_part string_part
  plain_part in_template i c e h = go in_template
    where
      small : len_utf8 c ≡ 1
      small = len_utf8_ascii c (plain_small c h)

      here : passing (λ d. not (nat_eq d 92)) text i ≡ Some (i + 1)
      here = let n : nat_eq c 92 ≡ false = apart is_plain c 92 refl h in let one = small in passing_here text (λ d. not (nat_eq d 92)) i c e ∙ rw (n, one) refl

      string : string_part text i ≡ Some (i + 1)
      string = ap (or_at (code_point 92 >> escape) text i) here

      go : (b : Bool) → literal_part b text i ≡ Some (i + 1)
      go true = or_none text line_terminator_sequence string_part i (no_terminator text i c e (apart is_plain c 13 refl h) (no_terminator_plain c h)) ∙ string
      go false = string

  pub plain_string : (quote i c : ℕ) → is_quote quote ≡ true → char_at text i ≡ Some c → is_plain c ≡ true → string_character quote text i ≡ Some (i + 1)
  unfolding string_character
  plain_string quote i c q e h =
      let stands : no_string_character quote text i ≡ None =
      passing_here text (λ d. nat_eq d quote || (nat_eq d 10 || nat_eq d 13)) i c e ∙ rw (no_quote_plain c quote h q, apart is_plain c 10 refl h, apart is_plain c 13 refl h) refl in
      rw stands (plain_part false i c e h)

  pub plain_template : (tagged : Bool) (i c : ℕ) → char_at text i ≡ Some c → is_plain c ≡ true → template_character tagged text i ≡ Some (i + 1)
  unfolding template_character template_part
  plain_template tagged i c e h =
      let no : is_some (template_text_end_at text i) ≡ false =
      end_is text i ∙ ap (λ o. ends_by o (char_at text (i + 1))) e ∙ rw (apart is_plain c 96 refl h, apart is_plain c 36 refl h) refl in
      rw no (ap (or_at (ill_formed_escape tagged) text i) (plain_part true i c e h))

  plain_says : (in_template : Bool) (i c : ℕ) → char_at text i ≡ Some c → is_plain c ≡ true → c ∷ [] ≡ part_value in_template text i (i + 1)
  unfolding part_value
  plain_says in_template i c e h = sym (ap (part_value_of in_template text i (i + 1)) e ∙ itself in_template)
    where
      itself : (b : Bool) → part_value_of b text i (i + 1) (Some c) ≡ c ∷ []
      itself true = rw (apart is_plain c 92 refl h, apart is_plain c 13 refl h) refl
      itself false = rw (apart is_plain c 92 refl h) refl

  pub plain_value : (in_template : Bool) (i c : ℕ) → char_at text i ≡ Some c → is_plain c ≡ true → value_behind [] in_template text i ≡ onto (encode_utf8 c) (value_behind [] in_template text (i + 1))
  plain_value in_template i c e h =
      let small = plain_small c h in
      let single : (nat_le 0xD800 c && nat_lt c 0xE000) ≡ false = grind arith in
      read_some text in_template None (Some c) (record { says = Some c; high = None }) i (i + 1) (plain_part in_template i c e h) (plain_says in_template i c e h) (λ rest. says_itself c rest single)

pub ruleset saying = (no_part, plain_value)
