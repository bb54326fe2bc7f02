-- A text part of a template that is spelled so is its token by itself: as it is behind a tag, and without one if it has a value.
use Rattle.std.proofs.Common.{◌≡◌, ◌∙◌, refl, sym, ap, subst, ℕ, ◌+◌, Bool, true, false, ◌||◌, cond, List, [], ◌++◌, length, arith, Option, Some, None, is_some, append-nil}
use Rattle.std.specs.List.{list_all}
use Rattle.std.specs.Str.{IsUtf8, chars}
use Rattle.std.proofs.lemmas.Bool.{and_parts, eqb-true, false≢true}
use Rattle.std.proofs.lemmas.Slice.Eq.{bytes_eq-Decides}
use Rattle.std.proofs.lemmas.Str.{chars-nil}
use Rattle.ecma_lex.specs.Parts.{code_point, many}
use Rattle.ecma_lex.specs.Templates.{any_template_text_end, if_valued, template_character, template_characters, template_raw, template_text_end, template_text_end_behind, template_value}
use Rattle.ecma_lex.specs.Text.{cuts, piece}
use Rattle.ecma_lex.proofs.Literals.{after_start}
use Rattle.ecma_lex.proofs.Repeats.{then_some}
use Rattle.ecma_lex.proofs.Spelled.{alone}
use Rattle.ecma_lex.proofs.Suffixes.{Stands, after_here, cut_here, cut_utf8, past, piece_here}
use Rattle.ecma_leaves.specs.Words.{ends_at, is_cooked, is_no_return, is_readable, is_text_part, stands_in_template}
use Rattle.ecma_text_fits_leaves.proofs.RawTexts.{untagged}
use Rattle.ecma_text_fits_leaves.proofs.TemplateFeeds.{characters_kept}
use Rattle.ecma_print_tokens.specs.Good.{IsTextPart}
use Rattle.ecma_print_tokens.specs.Taking.{part_inside}
use Rattle.ecma_shapes.specs.LiteralTexts.{part_closing, part_text}
use Rattle.ecma_print_shapes.proofs.LeafTokens.{first_stands}
use Rattle.ecma_print_shapes.proofs.TextParts.{after_stop, characters_there, closes_at, closing_cut, cut_inside, feeds_there, inside, raw_stays, text_length, text_utf8}

-- what it says; behind a tag it may say nothing
told : (tagged : Bool) (value cooked : Option (List ℕ)) → is_cooked tagged value cooked ≡ true → (value ≡ cooked) × ((tagged || is_some value) ≡ true)
told tagged None None h = (refl, rw h refl)
told tagged (Some said) (Some cooked) h = (ap Some ((bytes_eq-Decides said cooked).0 h), either tagged)
  where
    either : (b : Bool) → (b || true) ≡ true
    either true = refl
    either false = refl
told tagged None (Some cooked) h = absurd (false≢true h)
told tagged (Some said) None h = absurd (false≢true h)

-- in the place of its template
module _ (raw : List ℕ) (utf8 : IsUtf8 raw) where
  abbrev StandsAs : Bool → Type 0
  StandsAs tagged = many (template_character tagged) raw 0 ≡ Some (length raw)

  record Spelled (tagged : Bool) (cooked : Option (List ℕ)) : Type 0 where
    no_return : list_all is_no_return raw ≡ true
    stands : StandsAs tagged
    says : (template_value raw ≡ cooked) × ((tagged || is_some (template_value raw)) ≡ true)

  spelled_parts : (tagged : Bool) (cooked : Option (List ℕ)) → is_text_part tagged raw cooked ≡ true → Spelled tagged cooked
  spelled_parts tagged cooked h =
      let p = and_parts (is_readable raw) _ h in
      let q = and_parts (list_all is_no_return raw) _ p.1 in
      let r = and_parts (stands_in_template tagged raw) _ q.1 in
      record { no_return = q.0; stands = whole (many (template_character tagged) raw 0) r.0; says = told tagged (template_value raw) cooked r.1 }
    where
      whole : (o : Option ℕ) → ends_at (length raw) o ≡ true → o ≡ Some (length raw)
      whole None e = absurd (false≢true e)
      whole (Some j) e = ap Some (eqb-true j (length raw) e)

  -- what stands without a tag stands behind one
  stands_behind_tag : (tagged : Bool) → list_all is_no_return raw ≡ true → StandsAs tagged → StandsAs true
  stands_behind_tag tagged no_return h =
      characters_kept raw raw [] utf8 utf8 tt (length raw) (cut_here raw (length raw) [] at_end refl) (after_here raw (length raw) [] at_end refl ∙ chars-nil) tagged 0 0
      (record { left = chars raw; one = after_start raw utf8 ∙ sym (append-nil (chars raw)); two = after_start raw utf8 ∙ sym (feeds_there raw utf8 no_return); cut_one = front; cut_two = front }) h
    where
      at_end : Stands raw (length raw) []
      at_end = subst (λ i. Stands raw i []) (omega arith) (past raw raw (alone raw))

      front : cuts raw 0 ≡ true
      front = subst (λ l. cuts l 0 ≡ true) (append-nil raw) (cut_utf8 raw [] utf8 refl)

  -- and the other way round, where it has a value
  stands_plain : (tagged : Bool) (cooked : Option (List ℕ)) → is_text_part tagged raw cooked ≡ true → is_some (template_value raw) ≡ true → StandsAs false
  stands_plain false cooked h some = (spelled_parts false cooked h).stands
  stands_plain true None h some = absurd (false≢true (sym (ap is_some (spelled_parts true None h).says.0) ∙ some))
  stands_plain true (Some said) h some = (spelled_parts false (Some said) (untagged raw said h)).stands

taken : {A : Type 0} (b : Bool) (x : A) → b ≡ true → cond b (Some x) None ≡ Some x
taken b x h = rw h refl

module _ (first last : Bool) (raw : List ℕ) (utf8 : IsUtf8 raw) where
  abbrev text : List ℕ
  text = part_text first last raw

  opens : code_point (cond first 96 125) text 0 ≡ Some 1
  opens = go first
    where
      go : (f : Bool) → code_point (cond f 96 125) (part_text f last raw) 0 ≡ Some 1
      go true = first_stands 96 (raw ++ part_closing last) (omega arith)
      go false = first_stands 125 (raw ++ part_closing last) (omega arith)

  text_end : (tagged : Bool) → list_all is_no_return raw ≡ true → many (template_character tagged) raw 0 ≡ Some (length raw) → any_template_text_end first tagged text 0 ≡ Some (record { next = length text; last = last })
  unfolding any_template_text_end template_characters
  text_end tagged no_return h =
      ap (template_text_end_behind text) (then_some text (code_point (cond first 96 125)) (many (template_character tagged)) 0 1 opens ∙ characters_there first last raw utf8 tagged no_return h)
      ∙ closes_at text last (1 + length raw) (text_utf8 first last raw utf8) (after_stop first last raw utf8)
      ∙ ap (λ n. Some (record { next = n; last = last })) (sym (text_length first last raw utf8))

  inside_is : part_inside last text ≡ raw
  inside_is = let l = text_length first last raw utf8 in ap (piece text 1) (omega arith) ∙ piece_here text 1 raw (part_closing last) (inside first last raw utf8) (cut_inside first last raw utf8) (closing_cut last)

  pub text_part_token : (tagged : Bool) (cooked : Option (List ℕ)) → is_text_part tagged raw cooked ≡ true
      → IsTextPart first last text × (template_raw raw ≡ raw) × (template_value raw ≡ cooked) × ((tagged || is_some (template_value raw)) ≡ true)
  unfolding template_text_end template_value
  text_part_token tagged cooked h =
      let s = spelled_parts raw utf8 tagged cooked h in (
        record {
          utf8 = text_utf8 first last raw utf8;
          whole = ap (if_valued true text 0) (text_end true s.no_return (stands_behind_tag raw utf8 tagged s.no_return s.stands));
          plain = λ some.
              ap (if_valued false text 0) (text_end false s.no_return (stands_plain raw utf8 tagged cooked h (subst (λ w. is_some (template_value w) ≡ true) inside_is some)))
              ∙ taken (is_some (template_value (part_inside last text))) (record { next = length text; last = last }) some;
        },
        raw_stays raw utf8 s.no_return,
        s.says.0,
        s.says.1,
      )
