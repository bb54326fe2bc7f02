-- What stands in a text part that is read, with LF for its line ends, may stand in a template, and says the same.
use Rattle.std.proofs.Common.{◌≡◌, ◌∙◌, ℕ, suc, ◌+◌, ◌-◌, ◌<◌, ◌≤◌, Bool, true, false, ◌||◌, cond, List, [], ◌∷◌, ◌++◌, length, get_or, nat_eq, nat_lt, Option, Some, None, Result, Ok, Err, is_some, refl, sym, ap, subst, arith, slice_get}
use Rattle.std.specs.Char.{len_utf8}
use Rattle.std.specs.List.{list_all}
use Rattle.std.specs.Str.{IsUtf8, NoCharPasses, NonePass, chars}
use lib.Utf8.{encodes, scalar, scalars}
use Rattle.std.proofs.lemmas.Bool.{and_parts, eq-eqb, eqb-true, and_from}
use Rattle.std.proofs.lemmas.List.{append-nil}
use Rattle.std.proofs.lemmas.Slice.Eq.{bytes_eq-Decides}
use Rattle.std.proofs.lemmas.Str.{NoCharPasses-byte, chars-encodes, len_utf8_ascii, len_utf8_bounds, scalars-chars}
use Rattle.ecma_lex.specs.declared.blanks.Skipped.{Skipped}
use Rattle.ecma_lex.specs.declared.templates.TemplateText.{TemplateText}
use Rattle.ecma_lex.specs.declared.tokens.NoToken.{NoToken}
use Rattle.ecma_lex.specs.Escapes.{listed}
use Rattle.ecma_lex.specs.Parts.{char_at, code_point, many}
use Rattle.ecma_lex.specs.Templates.{any_template_text_end, end_length, found_template_text, if_valued, is_line_feed, line_feeds, substitution, template_character, template_characters, template_raw, template_text_end, template_text_end_at, template_text_end_behind, template_text_end_of, template_value}
use Rattle.ecma_lex.specs.Text.{after, cuts, piece}
use Rattle.ecma_lex.specs.Values.{code_points, ends_at, literal_part, literal_value, text_of, value_behind}
use Rattle.ecma_lex.proofs.Alike.{code_here}
use Rattle.ecma_lex.proofs.Literals.{after_start, moves_template_character}
use Rattle.ecma_lex.proofs.Repeats.{between, forward_many, moves_forward}
use Rattle.ecma_lex.proofs.Steps.{after_cut, after_step, may_cut, step}
use Rattle.ecma_lex.proofs.Suffixes.{length-encodes, wide, wide-chars}
use Rattle.ecma_lex.proofs.TemplateParts.{opening}
use Rattle.ecma_leaves.specs.Words.{is_cooked, is_no_return, is_readable, is_text_part, stands_in_template}
use Rattle.ecma_leaves.specs.Words as words
use Rattle.ecma_leaves.proofs.Characters.{cuts_front, piece_within}
use Rattle.ecma_text_fits_leaves.proofs.LineFeeds.{Ends, is_sign, piece_parts}
use Rattle.ecma_text_fits_leaves.proofs.TemplateFeeds.{characters_kept, stands_untagged, value_kept}

-- line feeds

-- a character and what stands behind it
abbrev fed_front : Bool → Bool → ℕ → List ℕ → List ℕ
fed_front r f c cs = listed (cond r (cond f None (Some 10)) (Some c)) ++ cs

scalars_fed : (r f : Bool) (c : ℕ) (cs : List ℕ) → scalar c ≡ true → scalars cs ≡ true → scalars (fed_front r f c cs) ≡ true
scalars_fed true true c cs h g = g
scalars_fed true false c cs h g = g
scalars_fed false f c cs h g = rw (h, g) refl

scalars_feeds : (cs : List ℕ) → scalars cs ≡ true → scalars (line_feeds cs) ≡ true
scalars_feeds [] h = refl
scalars_feeds (c ∷ cs) h = let p = and_parts (scalar c) (scalars cs) h in scalars_fed (nat_eq c 13) (is_line_feed (slice_get cs 0)) c (line_feeds cs) p.0 (scalars_feeds cs p.1)

wide_fed : (r f : Bool) (c : ℕ) (cs : List ℕ) → wide (fed_front r f c cs) ≤ len_utf8 c + wide cs
wide_fed true true c cs = omega arith
wide_fed true false c cs = let some = (len_utf8_bounds c).0 in let one : len_utf8 10 ≡ 1 = refl in omega arith
wide_fed false f c cs = omega arith

wide_feeds : (cs : List ℕ) → wide (line_feeds cs) ≤ wide cs
wide_feeds [] = omega arith
wide_feeds (c ∷ cs) = let h = wide_feeds cs in let g = wide_fed (nat_eq c 13) (is_line_feed (slice_get cs 0)) c (line_feeds cs) in omega arith

abbrev returns : ℕ → Bool
returns c = nat_eq c 13

unreturned_fed : (r f : Bool) (c : ℕ) (cs : List ℕ) → nat_eq c 13 ≡ r → NonePass returns cs → NonePass returns (fed_front r f c cs)
unreturned_fed true true c cs e h = h
unreturned_fed true false c cs e h = (refl, h)
unreturned_fed false f c cs e h = (e, h)

unreturned : (cs : List ℕ) → NonePass returns (line_feeds cs)
unreturned [] = tt
unreturned (c ∷ cs) = unreturned_fed (nat_eq c 13) (is_line_feed (slice_get cs 0)) c (line_feeds cs) refl (unreturned cs)

all_by_index : (xs : List ℕ) → ((k : ℕ) → k < length xs → nat_eq (get_or xs k 0) 13 ≡ false) → list_all is_no_return xs ≡ true
all_by_index [] h = refl
all_by_index (x ∷ xs) h = let e = h 0 (omega arith) in let m = all_by_index xs (λ k l. h (suc k) (omega arith)) in rw (e, m) refl

no_returns : (w : List ℕ) → NoCharPasses returns w → list_all is_no_return w ≡ true
no_returns w n = all_by_index w (λ k l. at k l (nat_lt (get_or w k 0) 128) refl)
  where
    at : (k : ℕ) → k < length w → (b : Bool) → nat_lt (get_or w k 0) 128 ≡ b → nat_eq (get_or w k 0) 13 ≡ false
    at k l true e = NoCharPasses-byte returns w k n l (grind arith)
    at k l false e = grind arith

-- what stands inside

module _ (inside : List ℕ) (u : IsUtf8 inside) where
  abbrev raw : List ℕ
  raw = template_raw inside

  raw_utf8 : IsUtf8 raw
  unfolding template_raw
  raw_utf8 = (line_feeds (chars inside), (scalars_feeds (chars inside) (scalars-chars inside u), refl))

  raw_chars : chars raw ≡ line_feeds (chars inside)
  unfolding template_raw
  raw_chars = chars-encodes (line_feeds (chars inside)) (scalars_feeds (chars inside) (scalars-chars inside u))

  raw_within : length raw ≤ length inside
  unfolding template_raw
  raw_within = let a = length-encodes (line_feeds (chars inside)) in let b = wide_feeds (chars inside) in let c = wide-chars inside u in omega arith

  raw_unreturned : list_all is_no_return raw ≡ true
  unfolding template_raw
  raw_unreturned = no_returns (encodes (line_feeds (chars inside))) (line_feeds (chars inside), refl, unreturned (chars inside))

  raw_start : after raw 0 ≡ line_feeds (chars inside)
  raw_start = after_start raw raw_utf8 ∙ raw_chars

  -- its value stays
  value_stays : template_value raw ≡ template_value inside
  unfolding template_value literal_value
  value_stays = sym (value_kept inside raw u raw_utf8 [] 0 0 (record {
    left = chars inside;
    one = after_start inside u ∙ sym (append-nil (chars inside));
    two = raw_start;
    cut_one = cuts_front inside u;
    cut_two = cuts_front raw raw_utf8;
  }))

-- where it stands in a text

record Stands (text : List ℕ) (tagged : Bool) (i n : ℕ) (last : Bool) : Type 0 where
  stop : ℕ
  inside : many (template_character tagged) text (i + 1) ≡ Some stop
  ends : n - end_length last ≡ stop
  sign : ℕ
  closes : char_at text stop ≡ Some sign
  signs : is_sign sign ≡ true
  begins : cuts text (i + 1) ≡ true

abbrev pub nowhere : Skipped
nowhere = record { to = 0; new_line = false; closed = true }

abbrev pub next_of : Result TemplateText NoToken → ℕ
next_of (Ok part) = let token = part.token in token.next
next_of (Err none) = 0

abbrev pub last_of : Result TemplateText NoToken → Bool
last_of (Ok part) = part.last
last_of (Err none) = false

opening_small : (first : Bool) → opening first < 128
opening_small true = omega arith
opening_small false = omega arith

module _ (text : List ℕ) (u : IsUtf8 text) where
  abbrev EndsAt : ℕ → ℕ → Bool → Type 0
  EndsAt j n last = (c : ℕ) × (char_at text j ≡ Some c) × (is_sign c ≡ true) × (n - end_length last ≡ j)

  end_stands : (j n : ℕ) (last : Bool) → template_text_end_at text j ≡ Some (record { next = n; last = last }) → EndsAt j n last
  unfolding template_text_end_at substitution
  end_stands j n last h = go (code_point 96 text j) (substitution text j) refl refl h
    where
      go : (o r : Option ℕ) → code_point 96 text j ≡ o → substitution text j ≡ r → template_text_end_of o r ≡ Some (record { next = n; last = last }) → EndsAt j n last
      go (Some m) r x y k =
          let c = code_here text 96 j m (omega arith) x in
          let at = c.1 in
          let to : m ≡ n = ap (λ o. next_of (found_template_text nowhere o)) k in
          let is : true ≡ last = ap (λ o. last_of (found_template_text nowhere o)) k in
          subst (EndsAt j n) is (96, c.0, refl, (omega arith))
      go None (Some m) x y k =
          let z = between text (code_point 123) (code_point 36 text j) m y in
          let c = code_here text 36 j z.0 (omega arith) z.1 in
          let d = code_here text 123 z.0 m (omega arith) z.2 in
          let at = c.1 in
          let on = d.1 in
          let to : m ≡ n = ap (λ o. next_of (found_template_text nowhere o)) k in
          let is : false ≡ last = ap (λ o. last_of (found_template_text nowhere o)) k in
          subst (EndsAt j n) is (36, c.0, refl, (omega arith))
      go None None x y k = cc

  any_of : (tagged : Bool) (i n : ℕ) (last : Bool) (o : Option _) → if_valued tagged text i o ≡ Some (record { next = n; last = last }) → o ≡ Some (record { next = n; last = last })
  any_of tagged i n last None h = cc
  any_of tagged i n last (Some d) h = go (tagged || is_some (literal_value true (piece text (i + 1) (d.next - end_length d.last)))) h
    where
      go : (b : Bool) → cond b (Some d) None ≡ Some (record { next = n; last = last }) → Some d ≡ Some (record { next = n; last = last })
      go true k = k
      go false k = cc

  stands : (first tagged : Bool) (i n : ℕ) (last : Bool) → template_text_end first tagged text i ≡ Some (record { next = n; last = last }) → Stands text tagged i n last
  unfolding template_text_end any_template_text_end template_characters
  stands first tagged i n last h = go (template_characters first tagged text i) refl (any_of tagged i n last (any_template_text_end first tagged text i) h)
    where
      go : (o : Option ℕ) → template_characters first tagged text i ≡ o → template_text_end_behind text o ≡ Some (record { next = n; last = last }) → Stands text tagged i n last
      go None x k = cc
      go (Some j) x k =
          let z = between text (many (template_character tagged)) (code_point (opening first) text i) j x in
          let c = code_here text (opening first) i z.0 (opening_small first) z.1 in
          let d = end_stands j n last k in
          let one : i + len_utf8 (opening first) ≡ i + 1 = ap (λ n. i + n) (len_utf8_ascii (opening first) (opening_small first)) in
          record {
            stop = j;
            inside = subst (λ l. many (template_character tagged) text l ≡ Some j) c.1 z.2;
            ends = d.3;
            sign = d.0;
            closes = d.1;
            signs = d.2;
            begins = subst (λ l. cuts text l ≡ true) one (may_cut text (i + len_utf8 (opening first)) (step text i (opening first) u c.0).0);
          }

  -- up to its end a text part is a text by itself
  module _ (tagged : Bool) (i n : ℕ) (last : Bool) (s : Stands text tagged i n last) where
    abbrev inside : List ℕ
    inside = piece text (i + 1) s.stop

    record Parts : Type 0 where
      utf8 : IsUtf8 inside
      parts : after text (i + 1) ≡ chars inside ++ after text s.stop
      cut_stop : cuts text s.stop ≡ true

    parts_of : Parts
    parts_of =
        let forward = forward_many text (moves_forward text (moves_template_character text tagged)) in
        let stop_cut = after_cut text s.stop s.sign s.closes in
        let p = piece_parts text (i + 1) s.stop u s.begins stop_cut (forward.on (i + 1) s.stop s.inside) in
        record { utf8 = p.0; parts = p.1; cut_stop = stop_cut }

    -- a sign stands behind it
    signed : Ends (after text s.stop)
    signed = subst Ends (sym (after_step text s.stop s.sign u s.closes)) s.signs

    abbrev raw_inside : List ℕ
    raw_inside = template_raw inside

    raw_stands : many (template_character true) raw_inside 0 ≡ Some (length raw_inside)
    raw_stands =
        let p = parts_of in
        characters_kept text raw_inside (after text s.stop) u (raw_utf8 inside p.utf8) signed s.stop p.cut_stop refl tagged (i + 1) 0 (record {
          left = chars inside;
          one = p.parts;
          two = raw_start inside p.utf8;
          cut_one = s.begins;
          cut_two = cuts_front raw_inside (raw_utf8 inside p.utf8);
        }) s.inside

    cooked_so : (o : Option (List ℕ)) → is_cooked true o o ≡ true
    cooked_so None = refl
    cooked_so (Some said) = (bytes_eq-Decides said said).1 refl

    raw_part : length inside < 4294967296 → is_text_part true raw_inside (template_value inside) ≡ true
    raw_part small =
        let p = parts_of in
        let w = raw_within inside p.utf8 in
        let readable : is_readable raw_inside ≡ true = (let l : length raw_inside < 4294967296 = omega arith in grind arith) in
        let whole : stands_in_template true raw_inside ≡ true = rw raw_stands (eq-eqb (length raw_inside) (length raw_inside) refl) in
        and_from (is_readable raw_inside) _ readable
        (and_from (list_all is_no_return raw_inside) _ (raw_unreturned inside p.utf8)
        (and_from (stands_in_template true raw_inside) _ whole (subst (λ o. is_cooked true o (template_value inside) ≡ true) (sym (value_stays inside p.utf8)) (cooked_so (template_value inside)))))

  -- a text part that is read is spelled as its terminal reads it, behind a tag
  pub part_spelled : (first tagged : Bool) (i n : ℕ) (last : Bool) → length text < 4294967296 → template_text_end first tagged text i ≡ Some (record { next = n; last = last })
      → is_text_part true (template_raw (piece text (i + 1) (n - end_length last))) (template_value (piece text (i + 1) (n - end_length last))) ≡ true
  part_spelled first tagged i n last small h =
      let s = stands first tagged i n last h in
      let l = piece_within text (i + 1) s.stop in
      subst (λ m. is_text_part true (template_raw (piece text (i + 1) m)) (template_value (piece text (i + 1) m)) ≡ true) (sym s.ends) (raw_part tagged i n last s (omega arith))

-- where there is a value, all of it is parts of literals
whole_literals : (raw : List ℕ) → is_some (template_value raw) ≡ true → many (literal_part true) raw 0 ≡ Some (length raw)
unfolding template_value literal_value value_behind
whole_literals raw some = go (many (literal_part true) raw 0) some
  where
    go : (o : Option ℕ) → is_some (cond (ends_at (length raw) o) (text_of ([] ++ code_points true raw 0)) None) ≡ true → o ≡ Some (length raw)
    go None e = cc
    go (Some j) e = test (nat_eq j (length raw)) refl e
      where
        test : (b : Bool) → nat_eq j (length raw) ≡ b → is_some (cond b (text_of ([] ++ code_points true raw 0)) None) ≡ true → ◌≡◌ {A = Option ℕ} (Some j) (Some (length raw))
        test true x m = ap Some (eqb-true j (length raw) x)
        test false x m = cc

-- and without one, where it has a value
pub untagged : (raw said : List ℕ) → is_text_part true raw (Some said) ≡ true → is_text_part false raw (Some said) ≡ true
untagged raw said h =
    let p = and_parts (is_readable raw) _ h in
    let q = and_parts (list_all is_no_return raw) _ p.1 in
    let r = and_parts (stands_in_template true raw) _ q.1 in
    let there = told (template_value raw) refl r.1 in
    and_from (is_readable raw) _ p.0
    (and_from (list_all is_no_return raw) _ q.0
    (and_from (stands_in_template false raw) _ (ends_so (stands_untagged raw (length raw) 0 (omega arith) (whole_literals raw there.1) (whole (many (template_character true) raw 0) r.0))) there.0))
  where
    ends_so : many (template_character false) raw 0 ≡ Some (length raw) → stands_in_template false raw ≡ true
    ends_so e = rw e (eq-eqb (length raw) (length raw) refl)

    whole : (o : Option ℕ) → words.ends_at (length raw) o ≡ true → o ≡ Some (length raw)
    whole None e = cc
    whole (Some j) e = ap Some (eqb-true j (length raw) e)

    -- it has a value, and says it
    told : (o : Option (List ℕ)) → template_value raw ≡ o → is_cooked true o (Some said) ≡ true → (is_cooked false o (Some said) ≡ true) × (is_some o ≡ true)
    told None e k = cc
    told (Some value) e k = (k, refl)
