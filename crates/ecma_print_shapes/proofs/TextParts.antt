-- What stands in a text part of a template is read there as it is by itself: up to the sign that closes it.
use Rattle.std.proofs.Common.{◌≡◌, ◌∙◌, refl, sym, ap, subst, ℕ, zero, suc, ◌+◌, ◌<◌, ◌≤◌, Bool, true, false, ◌||◌, ◌&&◌, cond, List, [], ◌∷◌, ◌++◌, length, drop, arith, nat_eq, Option, Some, None, is_some, append-nil, length-append, length-drop, slice_get}
use Rattle.std.specs.Char.{len_utf8}
use Rattle.std.specs.List.{list_all}
use Rattle.std.specs.Str.{IsUtf8, chars}
use lib.Utf8.{encode, encodes}
use Rattle.std.proofs.lemmas.Bool.{and_parts, eqb-true, false≢true}
use Rattle.std.proofs.lemmas.List.{append_cancel_right}
use Rattle.std.proofs.lemmas.List.Folds.{list_all-append}
use Rattle.std.proofs.lemmas.Str.{IsUtf8-append, IsUtf8-drop, chars-append, encodes-chars}
use Rattle.ecma_number.specs.Blanks.{is_line_terminator}
use Rattle.ecma_lex.specs.Escapes.{character_escape_sequence, escape, escape_sequence, hex_escape_sequence, hex_or_unicode, is_character_escape, null_escape, numeric_escape, unicode_escape_sequence}
use Rattle.ecma_lex.specs.Parts.{any, char_at, code_point, many, passing, ◌>>◌, ◌//◌}
use Rattle.ecma_lex.specs.Templates.{end_length, ill_formed_escape, line_feeds, substitution, template_character, template_part, template_raw, template_text_end_at, template_text_end_of}
use Rattle.ecma_lex.specs.Text.{after, cuts}
use Rattle.ecma_lex.proofs.Alike.{apart}
use Rattle.ecma_lex.proofs.Literals.{after_start, moves_template_character, or_none}
use Rattle.ecma_lex.proofs.Repeats.{char_within, code_point_end, code_point_fails, code_point_stands, many_none, many_some, none_some, passing_end, then_some}
use Rattle.ecma_lex.proofs.Spelled.{alone}
use Rattle.ecma_lex.proofs.Steps.{after_is, cut, next_here}
use Rattle.ecma_lex.proofs.Suffixes.{Cut, Stands, after_here, chars_ascii, cut_here, cut_utf8, past}
use Rattle.ecma_lex.proofs.TemplateParts.{end_is, ends_by, is_brace}
use Rattle.ecma_leaves.specs.Words.{is_no_return}
use Rattle.ecma_text_fits_leaves.proofs.LineFeeds.{Beside, Ends, View, broken, char_head, over, same, view}
use Rattle.ecma_text_fits_leaves.proofs.LiteralFeeds.{Both, IsReady, template_part_kept}
use Rattle.ecma_text_fits_leaves.proofs.LiteralParts.{escape_other, part_escape, terminator_end}
use Rattle.ecma_text_fits_leaves.proofs.TemplateFeeds.{at_end}
use Rattle.ecma_shapes.specs.LiteralTexts.{part_closing, part_opening, part_text}

-- no escape stands at the end

module _ (text : List ℕ) where
  numeric_end : (i : ℕ) → after text i ≡ [] → numeric_escape text i ≡ None
  unfolding numeric_escape hex_or_unicode hex_escape_sequence unicode_escape_sequence
  numeric_end i e = rw (code_point_end text 120 i e, code_point_end text 117 i e) refl

  escape_end : (i : ℕ) → after text i ≡ [] → escape text i ≡ None
  unfolding escape_sequence character_escape_sequence null_escape
  escape_end i e =
      escape_other text i (terminator_end text i e)
      ∙ or_none text (passing is_character_escape) (null_escape // numeric_escape) i (passing_end text is_character_escape i e)
      ∙ or_none text null_escape numeric_escape i (rw (code_point_end text 48 i e) refl)
      ∙ numeric_end i e

  -- a backslash at the end is no part of a template
  last_backslash : (tagged : Bool) (i : ℕ) → after text i ≡ 92 ∷ after text (i + 1) → after text (i + 1) ≡ [] → template_part tagged text i ≡ None
  unfolding template_part
  last_backslash tagged i e f = rw (part_escape text i (after text (i + 1)) e ∙ escape_end (i + 1) f) (ill tagged)
    where
      ill : (b : Bool) → ill_formed_escape b text i ≡ None
      ill true = then_some text (code_point 92) any i (i + 1) (code_point_stands text 92 i (after text (i + 1)) e) ∙ passing_end text (λ c. true) (i + 1) f
      ill false = refl

  -- a character of a text part
  character_parts : (tagged : Bool) (i j : ℕ) → template_character tagged text i ≡ Some j → (is_some (template_text_end_at text i) ≡ false) × (template_part tagged text i ≡ Some j)
  unfolding template_character
  character_parts tagged i j h = go (is_some (template_text_end_at text i)) refl h
    where
      go : (b : Bool) → is_some (template_text_end_at text i) ≡ b → cond b None (template_part tagged text i) ≡ Some j → (is_some (template_text_end_at text i) ≡ false) × (template_part tagged text i ≡ Some j)
      go true e k = none_some k
      go false e k = (e, k)

  character_stands : (tagged : Bool) (i j : ℕ) → is_some (template_text_end_at text i) ≡ false → template_part tagged text i ≡ Some j → template_character tagged text i ≡ Some j
  unfolding template_character
  character_stands tagged i j e h = rw (e, h) refl

  end_refuses : (tagged : Bool) (i : ℕ) → is_some (template_text_end_at text i) ≡ true → template_character tagged text i ≡ None
  unfolding template_character
  end_refuses tagged i e = rw e refl

  -- the closing sign
  pub closes_at : (last : Bool) (i : ℕ) → IsUtf8 text → after text i ≡ part_closing last → template_text_end_at text i ≡ Some (record { next = i + end_length last; last = last })
  unfolding template_text_end_at substitution
  closes_at true i u e = ap (λ o. template_text_end_of o ((code_point 36 >> code_point 123) text i)) (code_point_stands text 96 i [] e)
  closes_at false i u e =
      let brace = then_some text (code_point 36) (code_point 123) i (i + 1) (code_point_stands text 36 i (123 ∷ []) e) ∙ code_point_stands text 123 (i + 1) [] (next_here text i 36 (123 ∷ []) u e) in
      rw (code_point_fails text 96 36 i (123 ∷ []) e refl, brace) (ap (λ n. Some (record { next = n; last = false })) (omega arith))

-- without carriage returns the line ends stay

abbrev NoReturn : List ℕ → Type 0
NoReturn cs = list_all is_no_return cs ≡ true

feeds_stay : (cs : List ℕ) → NoReturn cs → line_feeds cs ≡ cs
feeds_stay [] h = refl
feeds_stay (c ∷ cs) h = let p = and_parts (is_no_return c) (list_all is_no_return cs) h in go (nat_eq c 13) refl p.0 (feeds_stay cs p.1)
  where
    go : (b : Bool) → nat_eq c 13 ≡ b → is_no_return c ≡ true → line_feeds cs ≡ cs → line_feeds (c ∷ cs) ≡ c ∷ cs
    go true e k f = let z : is_no_return c ≡ false = rw e refl in absurd (false≢true (sym z ∙ k))
    go false e k f = rw (e, f) refl

encoded_no_return : (cs : List ℕ) → NoReturn (encodes cs) → NoReturn cs
unfolding encode
encoded_no_return [] h = refl
encoded_no_return (c ∷ cs) h =
    let p = and_parts (list_all is_no_return (encode c)) (list_all is_no_return (encodes cs)) (sym (list_all-append is_no_return (encode c) (encodes cs)) ∙ h) in
    go (nat_eq c 13) refl p.0 (encoded_no_return cs p.1)
  where
    go : (b : Bool) → nat_eq c 13 ≡ b → NoReturn (encode c) → NoReturn cs → NoReturn (c ∷ cs)
    go true e k m = absurd (false≢true (subst (λ z. NoReturn (encode z)) (eqb-true c 13 e) k))
    go false e k m = rw (e, m) refl

module _ (raw : List ℕ) (utf8 : IsUtf8 raw) (no_return : NoReturn raw) where
  pub feeds_there : line_feeds (chars raw) ≡ chars raw
  feeds_there = feeds_stay (chars raw) (encoded_no_return (chars raw) (subst NoReturn (sym (encodes-chars raw utf8)) no_return))

  pub raw_stays : template_raw raw ≡ raw
  unfolding template_raw
  raw_stays = ap encodes feeds_there ∙ encodes-chars raw utf8

-- what stands before and behind it

opening_utf8 : (first : Bool) → IsUtf8 (part_opening first)
unfolding encode
opening_utf8 true = (96 ∷ [], (refl, refl))
opening_utf8 false = (125 ∷ [], (refl, refl))

opening_length : (first : Bool) → length (part_opening first) ≡ 1
opening_length true = refl
opening_length false = refl

closing_utf8 : (last : Bool) → IsUtf8 (part_closing last)
unfolding encode
closing_utf8 true = (96 ∷ [], (refl, refl))
closing_utf8 false = (36 ∷ 123 ∷ [], (refl, refl))

closing_length : (last : Bool) → length (part_closing last) ≡ end_length last
closing_length true = refl
closing_length false = refl

pub closing_cut : (last : Bool) → Cut (part_closing last)
closing_cut true = refl
closing_cut false = refl

closing_chars : (last : Bool) → chars (part_closing last) ≡ part_closing last
unfolding chars
closing_chars true = chars_ascii 96 [] (omega arith)
closing_chars false = chars_ascii 36 (123 ∷ []) (omega arith) ∙ ap (λ l. 36 ∷ l) (chars_ascii 123 [] (omega arith))

closing_ends : (last : Bool) → Ends (part_closing last)
closing_ends true = refl
closing_ends false = refl

no_brace : (last : Bool) → is_brace (slice_get (part_closing last) 0) ≡ false
no_brace true = refl
no_brace false = refl

module _ (first last : Bool) (raw : List ℕ) (utf8 : IsUtf8 raw) where
  abbrev text : List ℕ
  text = part_text first last raw

  abbrev closing : List ℕ
  closing = part_closing last

  abbrev pub stop : ℕ
  stop = 1 + length raw

  pub text_utf8 : IsUtf8 text
  text_utf8 = IsUtf8-append (part_opening first) (raw ++ closing) (opening_utf8 first) (IsUtf8-append raw closing utf8 (closing_utf8 last))

  pub text_length : length text ≡ stop + end_length last
  text_length =
      let a = length-append (part_opening first) (raw ++ closing) in
      let b = length-append raw closing in
      let c = opening_length first in
      let d = closing_length last in
      omega arith

  pub inside : Stands text 1 (raw ++ closing)
  inside = go first
    where
      go : (f : Bool) → Stands (part_text f last raw) 1 (raw ++ closing)
      go true = past (part_text true last raw) (96 ∷ []) (subst (Stands (part_text true last raw) 0) (append-nil (part_text true last raw)) (alone (part_text true last raw)))
      go false = past (part_text false last raw) (125 ∷ []) (subst (Stands (part_text false last raw) 0) (append-nil (part_text false last raw)) (alone (part_text false last raw)))

  behind : Stands text stop closing
  behind = past text raw inside

  pub cut_inside : Cut (raw ++ closing)
  cut_inside = cut_utf8 raw closing utf8 (closing_cut last)

  pub after_stop : after text stop ≡ closing
  after_stop = after_here text stop closing behind (closing_cut last) ∙ closing_chars last

  -- the closing sign stands behind it alone
  at_stop : (a : ℕ) → cuts text a ≡ true → after text a ≡ closing → a ≡ stop
  at_stop a c e =
      let rest : drop a text ≡ closing = sym (encodes-chars (drop a text) (IsUtf8-drop text a text_utf8 (cut text a c))) ∙ ap encodes (sym (after_is text a c) ∙ e ∙ sym (closing_chars last)) ∙ encodes-chars closing (closing_utf8 last) in
      let l = ap length rest in
      let m = length-drop a text in
      let n = text_length in
      let o = closing_length last in
      let p = (cut text a c).0 in
      let q : 1 ≤ end_length last = some last in
      omega arith
    where
      some : (b : Bool) → 1 ≤ end_length b
      some true = omega arith
      some false = omega arith

  abbrev Here : ℕ → ℕ → Type 0
  Here = Beside text raw closing text_utf8 utf8 (closing_ends last)

  abbrev Seen : ℕ → ℕ → Type 0
  Seen = View text raw closing text_utf8 utf8 (closing_ends last)

  seen : (a b : ℕ) → Here a b → Seen a b
  seen = view text raw closing text_utf8 utf8 (closing_ends last)

  start : NoReturn raw → Here 1 0
  start no_return = record {
    left = chars raw;
    one = after_here text 1 (raw ++ closing) inside cut_inside ∙ chars-append raw closing utf8 ∙ ap (λ l. chars raw ++ l) (closing_chars last);
    two = after_start raw utf8 ∙ sym (feeds_there raw utf8 no_return);
    cut_one = cut_here text 1 (raw ++ closing) inside cut_inside;
    cut_two = subst (λ l. cuts l 0 ≡ true) (append-nil raw) (cut_utf8 raw [] utf8 refl);
  }

  -- at its end nothing is left of what stands inside
  left_over : (a b : ℕ) → Here a b → after text a ≡ closing → b ≡ length raw
  left_over a b h e =
      let none : h.left ≡ [] = append_cancel_right h.left [] closing (sym h.one ∙ e) in
      at_end raw b utf8 h.cut_two (h.two ∙ ap line_feeds none)

  within : (tagged : Bool) (b j : ℕ) → template_character tagged raw b ≡ Some j → b < length raw
  within tagged b j c = let m = moves_template_character raw tagged in m.within b j c

  -- no escape goes past the end
  ready : (tagged : Bool) (a b j : ℕ) → Here a b → template_character tagged raw b ≡ Some j → IsReady text raw closing text_utf8 utf8 (closing_ends last) a
  ready tagged a b j h c = ((λ e. beyond (left_over a b h e)), (λ x e. backslash x e (seen a b h)))
    where
      beyond : {A : Type 0} → b ≡ length raw → A
      beyond is = let w = within tagged b j c in absurd (omega arith)

      backslash : char_at text a ≡ Some 92 → after text (a + 1) ≡ closing → Seen a b → closing ≡ []
      backslash x e (broken i k d f next p q y z t w is) = let g : ◌≡◌ {A = Option ℕ} (Some d) (Some 92) = sym y ∙ x in let is92 : d ≡ 92 = cc in absurd (false≢true (sym (ap is_line_terminator is92) ∙ t))
      backslash x e (over y z) = beyond (left_over a b h y)
      backslash x e (same d next y z t) =
          let g : ◌≡◌ {A = Option ℕ} (Some d) (Some 92) = sym (char_head text a d (after text (a + len_utf8 d)) y) ∙ x in
          let is92 : d ≡ 92 = cc in
          let there : Here (a + 1) (b + 1) = subst (λ w. Here (a + len_utf8 w) (b + len_utf8 w)) is92 next in
          let none : there.left ≡ [] = append_cancel_right there.left [] closing (sym there.one ∙ e) in
          let slash : after raw b ≡ 92 ∷ after raw (b + 1) = subst (λ w. after raw b ≡ w ∷ after raw (b + len_utf8 w)) is92 z in
          none_some (sym (last_backslash raw tagged b slash (there.two ∙ ap line_feeds none)) ∙ (character_parts raw tagged b j c).1)

  -- no end stands where none stands inside

  brace_there : (a b : ℕ) → Here a b → is_brace (char_at raw b) ≡ false → is_brace (char_at text a) ≡ false
  brace_there a b h k = go (seen a b h)
    where
      go : Seen a b → is_brace (char_at text a) ≡ false
      go (broken i j c d next p q y z t w is) = ap is_brace y ∙ apart is_line_terminator c 123 refl t
      go (same c next y z t) = ap is_brace (char_head text a c (after text (a + len_utf8 c)) y) ∙ sym (ap is_brace (char_head raw b c (after raw (b + len_utf8 c)) z)) ∙ k
      go (over y z) = ap (λ l. is_brace (slice_get l 0)) y ∙ no_brace last

  no_end_there : (a b : ℕ) → Here a b → b < length raw → is_some (template_text_end_at raw b) ≡ false → is_some (template_text_end_at text a) ≡ false
  no_end_there a b h small k = end_is text a ∙ go (seen a b h)
    where
      none : ends_by (char_at raw b) (char_at raw (b + 1)) ≡ false
      none = sym (end_is raw b) ∙ k

      go : Seen a b → ends_by (char_at text a) (char_at text (a + 1)) ≡ false
      go (broken i j c d next p q y z t w is) = ap (λ o. ends_by o (char_at text (a + 1))) y ∙ rw (apart is_line_terminator c 96 refl t, apart is_line_terminator c 36 refl t) refl
      go (over y z) = let e = at_end raw b utf8 h.cut_two z in absurd (omega arith)
      go (same c next y z t) =
          ap (λ o. ends_by o (char_at text (a + 1))) (char_head text a c (after text (a + len_utf8 c)) y)
          ∙ test (nat_eq c 96) (nat_eq c 36) refl (sym (ap (λ o. ends_by o (char_at raw (b + 1))) (char_head raw b c (after raw (b + len_utf8 c)) z)) ∙ none)
        where
          test : (s t : Bool) → nat_eq c 36 ≡ t → (s || (t && is_brace (char_at raw (b + 1)))) ≡ false → (s || (t && is_brace (char_at text (a + 1)))) ≡ false
          test true t g m = m
          test false false g m = refl
          test false true g m = brace_there (a + 1) (b + 1) (subst (λ w. Here (a + len_utf8 w) (b + len_utf8 w)) (eqb-true c 36 g) next) m

  -- each character inside is one of the text

  character_there : (tagged : Bool) (a b j : ℕ) → Here a b → template_character tagged raw b ≡ Some j → (i : ℕ) × (template_character tagged text a ≡ Some i) × Here i j
  character_there tagged a b j h e =
      let p = character_parts raw tagged b j e in
      go (template_part tagged text a) refl
      (subst (λ o. Both text raw closing text_utf8 utf8 (closing_ends last) (template_part tagged text a) o) p.1 (template_part_kept text raw closing text_utf8 utf8 (closing_ends last) tagged a b (ready tagged a b j h e) h))
      (no_end_there a b h (within tagged b j e) p.0)
    where
      go : (o : Option ℕ) → template_part tagged text a ≡ o → Both text raw closing text_utf8 utf8 (closing_ends last) o (Some j) → is_some (template_text_end_at text a) ≡ false → (i : ℕ) × (template_character tagged text a ≡ Some i) × Here i j
      go None f m n = absurd m
      go (Some i) f m n = (i, character_stands text tagged a i n f, m.0)

  abbrev Ending : Bool → ℕ → Type 0
  Ending tagged a = many (template_character tagged) text a ≡ Some stop

  ends_there : (tagged : Bool) (a b : ℕ) → Here a b → template_character tagged raw b ≡ None → many (template_character tagged) raw b ≡ Some (length raw) → Ending tagged a
  ends_there tagged a b h e k = go (seen a b h)
    where
      at_last : b ≡ length raw
      at_last = let none : ◌≡◌ {A = Option ℕ} (Some b) (Some (length raw)) = sym (many_none raw (template_character tagged) b e) ∙ k in cc

      beyond : b < length raw → Ending tagged a
      beyond l = let is = at_last in absurd (omega arith)

      go : Seen a b → Ending tagged a
      go (broken i j c d next p q y z t w is) = beyond (char_within raw b d z)
      go (same c next y z t) = beyond (char_within raw b c (char_head raw b c (after raw (b + len_utf8 c)) z))
      go (over y z) =
          subst (Ending tagged) (sym (at_stop a h.cut_one y)) (many_none text (template_character tagged) stop (end_refuses text tagged stop (ap is_some (closes_at text last stop text_utf8 after_stop))))

  abbrev Walked : ℕ → Bool → Type 0
  Walked d tagged = (a b : ℕ) → length raw ≤ d + b → Here a b → many (template_character tagged) raw b ≡ Some (length raw) → Ending tagged a

  walk : (d : ℕ) (tagged : Bool) → Walked d tagged
  walk zero tagged a b l h k = go (template_character tagged raw b) refl
    where
      go : (o : Option ℕ) → template_character tagged raw b ≡ o → Ending tagged a
      go None e = ends_there tagged a b h e k
      go (Some j) e = let w = within tagged b j e in absurd (omega arith)
  walk (suc d) tagged a b l h k = go (template_character tagged raw b) refl (walk d tagged)
    where
      go : (o : Option ℕ) → template_character tagged raw b ≡ o → Walked d tagged → Ending tagged a
      go None e more = ends_there tagged a b h e k
      go (Some j) e more =
          let m = moves_template_character raw tagged in
          let on = m.on b j e in
          let c = character_there tagged a b j h e in
          many_some text (template_character tagged) (moves_template_character text tagged) a c.0 c.1 ∙ more c.0 j (omega arith) c.2 (sym (many_some raw (template_character tagged) m b j e) ∙ k)

  -- the characters inside are those up to the closing sign
  pub characters_there : (tagged : Bool) → NoReturn raw → many (template_character tagged) raw 0 ≡ Some (length raw) → many (template_character tagged) text 1 ≡ Some stop
  characters_there tagged no_return k = walk (length raw) tagged 1 0 (omega arith) (start no_return) k
