-- Text parts of templates.
use Rattle.std.proofs.Common.{◌≡◌, ℕ, ◌+◌, ◌-◌, List, [], ◌∷◌, ◌++◌, length, max, refl, ap, sym, ◌∙◌, Option, Some, None, is_some, Bool, true, false, cond, not, ◌&&◌, ◌||◌, codes}
use Rattle.std.specs.Prelude.{Result, Ok, Err}
use Rattle.std.specs.Str.{bytes_eq, chars}
use Rattle.std.proofs.lemmas.Bool.{false≢true, false_from_ne_true}
use Rattle.std.proofs.lemmas.Str.{encodes-chars, chars-nil}
use Rattle.unicode_ident.specs.Ident.{is_xid_start}
use Rattle.ucd_table.specs.Rows.{in_ranges}
use Rattle.ucd_derived.specs.XidStartRanges.{xid_start_ranges}
use Rattle.ecma_number.specs.Numeral.{begins}
use Rattle.ecma_lex.specs.Text.{piece}
use Rattle.ecma_lex.specs.Parts.{code_point, or_at, many}
use Rattle.ecma_lex.specs.Values.{literal_part, literal_value}
use Rattle.ecma_lex.specs.Templates.{ill_formed_escape, template_text_end_at, template_part, template_character, template_characters, template_text_end_behind, any_template_text_end, end_length, if_valued, template_text_end, template_text, found_template_text, template_value}
use Rattle.ecma_lex.specs.declared.templates.TemplateText.{TemplateText}
use Rattle.ecma_lex.specs.declared.tokens.Token.{Token}
use Rattle.ecma_lex.specs.declared.tokens.NoToken.{NoToken}
use Rattle.ecma_lex.specs.declared.blanks.Skipped.{Skipped}
use Rattle.ecma_lex.proofs.Suffixes.{Cut, Stands, past}
use Rattle.ecma_lex.proofs.Repeats.{none_some, between, then_some, many_along, many_none, many_some}
use Rattle.ecma_lex.proofs.Literals.{moves_template_character}
use Rattle.ecma_lex.proofs.Spelled.{Spelled, stops}
use Rattle.ecma_lex.proofs.TemplateParts.{opening, IsPart, part_here}
use Rattle.ecma_grammar.specs.declared.production.TemplatePart.{TemplatePart}
use Rattle.ecma_grammar.specs.Reading.{Position, Outcome}
use Rattle.ecma_grammar.specs.Reads as reads
use Rattle.ecma_grammar.specs.Reads.{part_on}
use Rattle.ecma_print_tokens.specs.Items.{Tok, sign, template, Gap, Items, ends, it, token_text, render}
use Rattle.ecma_print_tokens.specs.Taking.{begins_by, took_if, unsure_if, part_inside, same_flag, template_in}
use Rattle.ecma_print_tokens.specs.Good.{IsTextPart, Good}
use Rattle.ecma_print_tokens.specs.Lexing.{Fails, At, Agrees}
use Rattle.ecma_print_tokens.proofs.Gaps.{behind_gap}
use Rattle.ecma_print_tokens.proofs.Fronts.{one_of, front_not}
use Rattle.ecma_print_tokens.proofs.Signs.{longest, brace_only}
use Rattle.ecma_print_tokens.proofs.Absent.{part_absent}
use Rattle.ecma_print_tokens.proofs.Wholes.{starts, begins_here}
use Rattle.ecma_print_tokens.proofs.Found.{Reads, Here, starts_here, piece_before}
use Rattle.ecma_print_tokens.proofs.Terminals.{is_sign, here, here_end, sign_other}

abbrev nowhere : Skipped
nowhere = record { to = 0; new_line = false; closed = true }

abbrev next_of : Result TemplateText NoToken → ℕ
next_of (Ok part) = let token = part.token in token.next
next_of (Err none) = 0

abbrev last_of : Result TemplateText NoToken → Bool
last_of (Ok part) = part.last
last_of (Err none) = false

-- a part without a tag is one behind a tag

module _ (text : List ℕ) where
  character_tagged : (i j : ℕ) → template_character false text i ≡ Some j → template_character true text i ≡ Some j
  unfolding template_character template_part
  character_tagged i j h = go (is_some (template_text_end_at text i)) h
    where
      part : (o : Option ℕ) → or_at (ill_formed_escape false) text i o ≡ Some j → or_at (ill_formed_escape true) text i o ≡ Some j
      part None k = none_some k
      part (Some n) k = k

      go : (b : Bool) → cond b None (or_at (ill_formed_escape false) text i (literal_part true text i)) ≡ Some j → cond b None (or_at (ill_formed_escape true) text i (literal_part true text i)) ≡ Some j
      go true k = k
      go false k = part (literal_part true text i) k

  end_refuses : (j : ℕ) → is_some (template_text_end_at text j) ≡ true → template_character true text j ≡ None
  unfolding template_character
  end_refuses j h = rw h refl

  characters_tagged : (i j : ℕ) → many (template_character false) text i ≡ Some j → is_some (template_text_end_at text j) ≡ true → many (template_character true) text i ≡ Some j
  characters_tagged i j h e =
      let q = template_character true in
      let along : many q text i ≡ many q text j = many_along text (template_character false) (λ n. many q text i ≡ many q text n) (λ a b k m. k ∙ many_some text q (moves_template_character text true) a b (character_tagged a b m)) i j refl h in
      along ∙ many_none text q j (end_refuses j e)

  module _ (first : Bool) (i n : ℕ) (last : Bool) where
    any_tagged : any_template_text_end first false text i ≡ Some (record { next = n; last = last }) → any_template_text_end first true text i ≡ Some (record { next = n; last = last })
    unfolding any_template_text_end template_characters
    any_tagged h = go (template_characters first false text i) refl h
      where
        none_end : {A : Type 0} → template_text_end_behind text None ≡ Some (record { next = n; last = last }) → A
        none_end k = cc

        go : (o : Option ℕ) → template_characters first false text i ≡ o → template_text_end_behind text o ≡ Some (record { next = n; last = last }) → template_text_end_behind text (template_characters first true text i) ≡ Some (record { next = n; last = last })
        go None x k = none_end k
        go (Some j) x k =
            let z = between text (many (template_character false)) (code_point (opening first) text i) j x in
            let e : is_some (template_text_end_at text j) ≡ true = rw k refl in
            ap (template_text_end_behind text) (then_some text (code_point (opening first)) (many (template_character true)) i z.0 z.1 ∙ characters_tagged z.0 j z.2 e) ∙ k

  -- whether a part stands: behind a tag, and without one if it has a value
  module _ (first last : Bool) (w v : List ℕ) (i : ℕ) (p : IsTextPart first last w) (st : Stands text i (w ++ v)) (c : Cut v) where
    spelt : (tagged : Bool) → template_text_end first tagged w 0 ≡ Some (record { next = length w; last = last }) → Spelled (IsPart first tagged last) w
    spelt tagged h = (p.utf8, record { whole = rw (encodes-chars w p.utf8) h })

    tagged_stands : template_text_end first true text i ≡ Some (record { next = i + length w; last = last })
    tagged_stands = part_here text first true last i w v (spelt true p.whole) st c

    there : (n : ℕ) (l : Bool) → any_template_text_end first true text i ≡ Some (record { next = n; last = l }) → (n ≡ i + length w) × (l ≡ last)
    unfolding template_text_end
    there n l h = let t = tagged_stands in let e : if_valued true text i (Some (record { next = n; last = l })) ≡ Some (record { next = i + length w; last = last }) = rw h at t in (ap (λ o. next_of (found_template_text nowhere o)) e, ap (λ o. last_of (found_template_text nowhere o)) e)

    inside_is : piece text (i + 1) (i + length w - end_length last) ≡ part_inside last w
    inside_is =
        let t : Token = record { start = i; next = i + length w; new_line = false } in
        let r : Reads text w t = record { behind = v; stands = st; ends = refl; utf8 = p.utf8; cut = c } in
        piece_before text r 1 (end_length last)

    unvalued : is_some (template_value (part_inside last w)) ≡ false → template_text_end first false text i ≡ None
    unfolding template_text_end template_value
    unvalued none = go (any_template_text_end first false text i) refl
      where
        clash : (n : ℕ) (l : Bool) → any_template_text_end first false text i ≡ Some (record { next = n; last = l }) → is_some (literal_value true (piece text (i + 1) (n - end_length l))) ≡ false
        clash n l e =
            let t = there n l (any_tagged first i n l e) in
            rw (t.0, t.1, inside_is) none

        go : (o : Option _) → any_template_text_end first false text i ≡ o → if_valued false text i o ≡ None
        go None e = refl
        go (Some x) e = let k = clash x.next x.last e in rw k refl

    pub decides : (tagged : Bool) → template_text_end first tagged text i ≡ cond (tagged || is_some (template_value (part_inside last w))) (Some (record { next = i + length w; last = last })) None
    decides true = tagged_stands
    decides false = go (is_some (template_value (part_inside last w))) refl
      where
        go : (b : Bool) → is_some (template_value (part_inside last w)) ≡ b → template_text_end first false text i ≡ cond b (Some (record { next = i + length w; last = last })) None
        go true e = part_here text first false last i w v (spelt false (p.plain e)) st c
        go false e = unvalued e

  -- a text part that is the last or not, as it is wanted
  pub record ReadsPart (last : Bool) (w : List ℕ) (part : TemplateText) : Type 0 where
    pub reads : Reads text w part.token
    pub ends_so : part.last ≡ last

  abbrev parted : Bool → Bool → Bool → Position → Outcome TemplateText
  parted first tagged last s = part_on s last (template_text text s.place first tagged)

  none_part : {g : Gap} {w v : List ℕ} {s : Position} → Here text g w v s → (first tagged last : Bool) → template_text_end first tagged text (s.place + length g.blanks) ≡ None → Fails (parted first tagged last s)
  unfolding template_text
  none_part {g = g} {s = s} h first tagged last e = let k = h.skips in rw (k, e) (go last)
    where
      go : (l : Bool) → Fails (part_on s l (Err (record { at = s.place + length g.blanks })))
      go true = record { failed = max s.failed (s.place + length g.blanks); is = refl }
      go false = record { failed = max s.failed (s.place + length g.blanks); is = refl }

  absent_part : {g : Gap} {w v : List ℕ} {s : Position} → Here text g w v s → (first tagged last : Bool) → stops (one_of (opening first ∷ [])) (chars (w ++ v)) ≡ true → Fails (parted first tagged last s)
  absent_part h first tagged last e = none_part h first tagged last (part_absent first tagged text _ (rw (starts_here text h) e))

  module _ (g : Gap) (w : List ℕ) (us : Items) (s : Position) (h : Here text g w (render us) s) (good : Good us) where
    abbrev spot : ℕ
    spot = s.place + length g.blanks

    -- it is taken if it is the last or not as is wanted
    told : (last wanted b : Bool) → Agrees text Good (took_if (same_flag last wanted && b) w us) (part_on s wanted (found_template_text (behind_gap text g s.place) (cond b (Some (record { next = spot + length w; last = last })) None))) (ReadsPart wanted)
    told true true true = record {
      value = record { token = record { start = spot; next = spot + length w; new_line = g.new_line }; last = true };
      state = record { place = spot + length w; failed = s.failed };
      is = refl;
      holds = record { reads = record { behind = render us; stands = h.stands; ends = refl; utf8 = h.utf8; cut = h.cut }; ends_so = refl };
      at = record { good = good; stands = past text w h.stands };
    }
    told false false true = record {
      value = record { token = record { start = spot; next = spot + length w; new_line = g.new_line }; last = false };
      state = record { place = spot + length w; failed = s.failed };
      is = refl;
      holds = record { reads = record { behind = render us; stands = h.stands; ends = refl; utf8 = h.utf8; cut = h.cut }; ends_so = refl };
      at = record { good = good; stands = past text w h.stands };
    }
    told true false true = record { failed = s.failed; is = refl }
    told false true true = record { failed = s.failed; is = refl }
    told true true false = record { failed = max s.failed spot; is = refl }
    told true false false = record { failed = max s.failed spot; is = refl }
    told false true false = record { failed = max s.failed spot; is = refl }
    told false false false = record { failed = max s.failed spot; is = refl }

    some_part : (first tagged last wanted b : Bool) → template_text_end first tagged text spot ≡ cond b (Some (record { next = spot + length w; last = last })) None → Agrees text Good (took_if (same_flag last wanted && b) w us) (parted first tagged wanted s) (ReadsPart wanted)
    unfolding template_text
    some_part first tagged last wanted b e = let k = h.skips in rw (k, e) (told last wanted b)

  module _ (g : Gap) (first last : Bool) (w : List ℕ) (us : Items) (s : Position) (at : At text Good (it g (template first last w) us) s) where
    token_here : Here text g w (render us) s
    token_here = here text g (template first last w) us s at

    begins_so : begins (one_of (opening first ∷ [])) (chars (w ++ render us)) ≡ true
    begins_so = let good = at.good in begins_here (template first last w) (render us) good.1 good.2

    -- a part that begins as is wanted
    same_first : (tagged wanted : Bool) → Agrees text Good (took_if (same_flag last wanted && (tagged || is_some (template_value (part_inside last w)))) w us) (parted first tagged wanted s) (ReadsPart wanted)
    same_first tagged wanted =
        let good = at.good in
        let h = token_here in
        some_part g w us s h good.3 first tagged last wanted (tagged || is_some (template_value (part_inside last w))) (decides first last w (render us) (s.place + length g.blanks) good.1 h.stands h.cut tagged)

  by_first : (g : Gap) (first last : Bool) (w : List ℕ) (us : Items) (s : Position) → At text Good (it g (template first last w) us) s → (so tagged wanted : Bool) → Agrees text Good (took_if (same_flag first so && (same_flag last wanted && (tagged || is_some (template_value (part_inside last w))))) w us) (parted so tagged wanted s) (ReadsPart wanted)
  by_first g true last w us s at true tagged wanted = same_first g true last w us s at tagged wanted
  by_first g false last w us s at false tagged wanted = same_first g false last w us s at tagged wanted
  by_first g true last w us s at false tagged wanted = absent_part (token_here g true last w us s at) false tagged wanted (front_not (one_of (96 ∷ [])) (125 ∷ []) refl (chars (w ++ render us)) (begins_so g true last w us s at))
  by_first g false last w us s at true tagged wanted = absent_part (token_here g false last w us s at) true tagged wanted (front_not (one_of (125 ∷ [])) (96 ∷ []) refl (chars (w ++ render us)) (begins_so g false last w us s at))

  -- other tokens

  abbrev is_template : Tok → Bool
  is_template (template first last w) = true
  is_template t = false

  other_part : (g : Gap) (t : Tok) (us : Items) (s : Position) → At text Good (it g t us) s → is_sign t ≡ false → is_template t ≡ false → (first tagged last : Bool) → Fails (parted first tagged last s)
  unfolding is_xid_start xid_start_ranges in_ranges
  other_part g (sign w) us s at h k first tagged last = absurd (false≢true (sym h))
  other_part g (template f l w) us s at h k first tagged last = absurd (false≢true (sym k))
  other_part g t us s at h k true tagged last = let good = at.good in absent_part (here text g t us s at) true tagged last (front_not (starts t) (96 ∷ []) refl (chars (token_text t ++ render us)) (begins_here t (render us) good.1 good.2))
  other_part g t us s at h k false tagged last = let good = at.good in absent_part (here text g t us s at) false tagged last (front_not (starts t) (125 ∷ []) refl (chars (token_text t ++ render us)) (begins_here t (render us) good.1 good.2))

  sign_part : (g : Gap) (w : List ℕ) (us : Items) (s : Position) → At text Good (it g (sign w) us) s → (first tagged last : Bool) → (b : Bool) → (not first && bytes_eq w (codes "}")) ≡ b → Agrees text Good (unsure_if b) (parted first tagged last s) (ReadsPart last)
  sign_part g w us s at first tagged last true e = tt
  sign_part g w us s at true tagged last false e =
      let good = at.good in
      absent_part (here text g (sign w) us s at) true tagged last (front_not (starts (sign w)) (96 ∷ []) refl (chars (w ++ render us)) (begins_here (sign w) (render us) good.1 good.2))
  sign_part g w us s at false tagged last false e =
      let good = at.good in
      let no : begins_by 125 w ≡ false = false_from_ne_true (begins_by 125 w) (λ k. false≢true (sym e ∙ brace_only w (w ++ render us) (longest w (w ++ render us) good.2.longest) k)) in
      absent_part (here text g (sign w) us s at) false tagged last (sign_other w (render us) good.2 125 no)

  pub template_sees : (wanted : TemplatePart) (ts : Items) (s : Position) → At text Good ts s → Agrees text Good (template_in wanted ts) (reads.template_part text wanted s) (ReadsPart wanted.last)
  template_sees wanted (ends g) s at = absent_part (here_end text g s at) wanted.first wanted.tagged wanted.last (rw chars-nil refl)
  template_sees wanted (it g (sign w) us) s at = sign_part g w us s at wanted.first wanted.tagged wanted.last (not wanted.first && bytes_eq w (codes "}")) refl
  template_sees wanted (it g (template first last w) us) s at = by_first g first last w us s at wanted.first wanted.tagged wanted.last
  template_sees wanted (it g t us) s at = other_part g t us s at refl refl wanted.first wanted.tagged wanted.last
