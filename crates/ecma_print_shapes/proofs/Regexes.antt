-- A regular expression whose body and flags are spelled so is its token by itself, and its body ends where it is said to.
use Rattle.std.proofs.Common.{◌≡◌, ◌∙◌, refl, sym, ap, subst, ℕ, ◌+◌, true, List, [], ◌∷◌, ◌++◌, length, arith, Option, Some, None, append-nil, unwrap_or}
use Rattle.std.specs.Str.{IsUtf8, chars}
use Rattle.std.proofs.lemmas.Bool.{and_parts}
use Rattle.std.proofs.lemmas.Bool.Decides.{Decides-eqb}
use Rattle.std.proofs.lemmas.Str.{IsUtf8-append, encodes-chars, scalars-chars}
use lib.Utf8.{encode}
use Rattle.ecma_lex.specs.Keys.{identifier_parts, is_valid_continue}
use Rattle.ecma_lex.specs.Parts.{char_at, code_point, ◌>>◌}
use Rattle.ecma_lex.specs.Regexes.{body, opened, regex_body_end, regex_end}
use Rattle.ecma_lex.specs.Text.{after}
use Rattle.ecma_lex.proofs.Expressions.{regex_slash}
use Rattle.ecma_lex.proofs.Repeats.{code_point_stands, then_some}
use Rattle.ecma_lex.proofs.Spelled.{alone, many_again}
use Rattle.ecma_lex.proofs.Standings.{same_char}
use Rattle.ecma_lex.proofs.Suffixes.{Stands, after_here, chars_ascii, cut_ascii, past, wide-chars}
use Rattle.ecma_leaves.specs.Words.{are_flags, ends_at, is_body, is_readable, is_regex}
use Rattle.ecma_text_fits_leaves.proofs.ReadRegexes.{body_kept}
use Rattle.ecma_shapes.specs.LiteralTexts.{regex_text}
use Rattle.ecma_shapes.specs.Shapes.{IsRegex}
use Rattle.ecma_print_shapes.proofs.LeafTokens.{first_stands}

ends_there : (n : ℕ) (o : Option ℕ) → ends_at n o ≡ true → o ≡ Some n
ends_there n None h = cc
ends_there n (Some i) h = ap Some ((Decides-eqb i n).0 h)

module _ (exp flags : List ℕ) (utf8 : IsUtf8 exp) (utf8_too : IsUtf8 flags) (is : is_regex exp flags ≡ true) where
  abbrev text : List ℕ
  text = regex_text exp flags

  abbrev behind : List ℕ
  behind = 47 ∷ flags

  abbrev stop : ℕ
  stop = 1 + length exp

  slash : IsUtf8 (47 ∷ [])
  unfolding encode
  slash = (47 ∷ [], (refl, refl))

  text_utf8 : IsUtf8 text
  text_utf8 = IsUtf8-append (47 ∷ []) (exp ++ behind) slash (IsUtf8-append exp behind utf8 (IsUtf8-append (47 ∷ []) flags slash utf8_too))

  inside : Stands text 1 (exp ++ behind)
  inside = past text (47 ∷ []) (subst (Stands text 0) (append-nil text) (alone text))

  closing : Stands text stop behind
  closing = past text exp inside

  slash_there : after text stop ≡ 47 ∷ chars flags
  slash_there = after_here text stop behind closing (cut_ascii 47 flags (omega arith)) ∙ chars_ascii 47 flags (omega arith)

  body_there : body text 1 ≡ Some stop
  body_there =
      let p = and_parts (is_readable exp) _ is in
      let q = and_parts (is_body exp) (are_flags flags) p.1 in
      let stands : body exp (0 + 0) ≡ Some (0 + length exp) = ends_there (length exp) (body exp 0) q.0 ∙ ap Some (omega arith) in
      body_kept exp text utf8 text_utf8 0 1 (length exp) (λ k l. ap (char_at exp) (omega arith) ∙ sym (same_char text exp behind 1 utf8 inside k l)) (length exp) (omega arith) stands (regex_slash text stop (chars flags) slash_there)

  opened_there : opened text 0 ≡ Some stop
  unfolding opened
  opened_there = then_some text (code_point 47) body 0 1 (first_stands 47 (exp ++ behind) (omega arith)) ∙ body_there

  flags_there : identifier_parts text (stop + 1) ≡ Some (length text)
  unfolding identifier_parts chars
  flags_there =
      let p = and_parts (is_readable exp) _ is in
      let q = and_parts (is_body exp) (are_flags flags) p.1 in
      let st : Stands text (stop + 1) flags = past text (47 ∷ []) closing in
      let all = st.within in
      let long = wide-chars flags utf8_too in
      many_again text is_valid_continue (chars flags) [] (stop + 1) (scalars-chars flags utf8_too) q.1 (subst (Stands text (stop + 1)) (sym (ap (λ l. l ++ []) (encodes-chars flags utf8_too) ∙ append-nil flags)) st) refl refl
      ∙ ap Some (omega arith)

  whole : regex_end text 0 ≡ Some (length text)
  unfolding regex_end
  whole =
      then_some text opened (code_point 47 >> identifier_parts) 0 stop opened_there
      ∙ then_some text (code_point 47) identifier_parts stop (stop + 1) (code_point_stands text 47 stop (chars flags) slash_there ∙ ap Some (grind arith)) ∙ flags_there

  pub regex_token : IsRegex exp flags
  unfolding regex_body_end
  regex_token = record { whole = record { utf8 = text_utf8; whole = whole }; ends = ap (λ o. unwrap_or o 0) opened_there }
