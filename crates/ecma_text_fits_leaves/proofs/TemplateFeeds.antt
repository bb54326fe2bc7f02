-- The characters of a text part are those of a text part with LF for its line ends, and these say the same.
use Rattle.std.proofs.Common.{◌≡◌, ◌∙◌, ℕ, zero, suc, ◌+◌, ◌<◌, ◌≤◌, Bool, true, false, ◌||◌, ◌&&◌, cond, List, [], ◌∷◌, ◌++◌, length, drop, nat_eq, Option, Some, None, is_some, refl, sym, ap, subst, arith, slice_get, length-drop}
use Rattle.std.specs.Char.{len_utf8}
use Rattle.std.specs.Str.{IsUtf8, chars}
use lib.Utf8.{encodes}
use Rattle.std.proofs.lemmas.Bool.{eqb-true}
use Rattle.std.proofs.lemmas.List.{append_cancel_right}
use Rattle.std.proofs.lemmas.Str.{IsUtf8-drop, encodes-chars, len_utf8_bounds}
use Rattle.ecma_number.specs.Blanks.{is_line_terminator}
use Rattle.ecma_lex.specs.Parts.{char_at, many, or_at}
use Rattle.ecma_lex.specs.Templates.{ill_formed_escape, line_feeds, template_character, template_part, template_text_end_at}
use Rattle.ecma_lex.specs.Text.{after, cuts}
use Rattle.ecma_lex.specs.Values.{literal_part, part_value, value_behind}
use Rattle.ecma_lex.proofs.Alike.{apart}
use Rattle.ecma_lex.proofs.Literals.{moves_part, moves_template_character}
use Rattle.ecma_lex.proofs.Repeats.{char_within, forward_many, many_none, many_some, moves_forward, none_some}
use Rattle.ecma_lex.proofs.Sayings.{behind_part, no_part, value_at_end}
use Rattle.ecma_lex.proofs.Steps.{after_is, after_step, cut, may_cut, step}
use Rattle.ecma_lex.proofs.TemplateParts.{end_is, ends_by, is_brace}
use Rattle.ecma_text_fits_leaves.proofs.LineFeeds.{Beside, Ends, View, broken, char_head, over, same, view}
use Rattle.ecma_text_fits_leaves.proofs.LiteralFeeds.{Both, IsReady, PartKept, part_kept, template_part_kept}
use Rattle.ecma_text_fits_leaves.proofs.LiteralParts.{part_escape, sign_escapes}

-- the same stands behind two places of a text only where they are one
same_place : (text : List ℕ) (i j : ℕ) → IsUtf8 text → cuts text i ≡ true → cuts text j ≡ true → after text i ≡ after text j → i ≡ j
same_place text i j u ci cj e =
    let most = (cut text i ci).0 in
    let too = (cut text j cj).0 in
    let a : chars (drop i text) ≡ chars (drop j text) = sym (after_is text i ci) ∙ e ∙ after_is text j cj in
    let b : drop i text ≡ drop j text = sym (encodes-chars (drop i text) (IsUtf8-drop text i u (cut text i ci))) ∙ ap encodes a ∙ encodes-chars (drop j text) (IsUtf8-drop text j u (cut text j cj)) in
    let l = ap length b in
    let m = length-drop i text in
    let n = length-drop j text in
    omega arith

-- nothing stands behind a place only at the end
pub at_end : (text : List ℕ) (i : ℕ) → IsUtf8 text → cuts text i ≡ true → after text i ≡ [] → i ≡ length text
at_end text i u c e = go (drop i text) refl
  where
    u_drop : IsUtf8 (drop i text)
    u_drop = IsUtf8-drop text i u (cut text i c)

    nothing : drop i text ≡ []
    nothing = sym (encodes-chars (drop i text) u_drop) ∙ ap encodes (sym (after_is text i c) ∙ e)

    go : (l : List ℕ) → drop i text ≡ l → i ≡ length text
    go l f = let most = (cut text i c).0 in let n = ap length nothing in let m = length-drop i text in omega arith

module _ (text : List ℕ) where
  -- a character of a text part
  character_parts : (tagged : Bool) (i j : ℕ) → template_character tagged text i ≡ Some j → (is_some (template_text_end_at text i) ≡ false) × (template_part tagged text i ≡ Some j)
  unfolding template_character
  character_parts tagged i j h = go (is_some (template_text_end_at text i)) refl h
    where
      go : (b : Bool) → is_some (template_text_end_at text i) ≡ b → cond b None (template_part tagged text i) ≡ Some j → (is_some (template_text_end_at text i) ≡ false) × (template_part tagged text i ≡ Some j)
      go true e k = none_some k
      go false e k = (e, k)

  character_stands : (tagged : Bool) (i j : ℕ) → is_some (template_text_end_at text i) ≡ false → template_part tagged text i ≡ Some j → template_character tagged text i ≡ Some j
  unfolding template_character
  character_stands tagged i j e h = rw (e, h) refl

  -- a part without a tag is one behind a tag
  part_tagged : (tagged : Bool) (i j : ℕ) → template_part tagged text i ≡ Some j → template_part true text i ≡ Some j
  unfolding template_part
  part_tagged tagged i j h = go (literal_part true text i) h
    where
      ill_formed : (b : Bool) → ill_formed_escape b text i ≡ Some j → ill_formed_escape true text i ≡ Some j
      ill_formed true k = k
      ill_formed false k = none_some k

      go : (o : Option ℕ) → or_at (ill_formed_escape tagged) text i o ≡ Some j → or_at (ill_formed_escape true) text i o ≡ Some j
      go None k = ill_formed tagged k
      go (Some n) k = k

  -- what is a part of a literal
  part_first : (tagged : Bool) (i j : ℕ) → literal_part true text i ≡ Some j → template_part tagged text i ≡ Some j
  unfolding template_part
  part_first tagged i j h = ap (or_at (ill_formed_escape tagged) text i) h

  -- no characters stand at the end
  ends_many : (tagged : Bool) → many (template_character tagged) text (length text) ≡ Some (length text)
  ends_many tagged = go (template_character tagged text (length text)) refl
    where
      go : (o : Option ℕ) → template_character tagged text (length text) ≡ o → many (template_character tagged) text (length text) ≡ Some (length text)
      go None e = many_none text (template_character tagged) (length text) e
      go (Some j) e = let m = moves_template_character text tagged in let w = m.within (length text) j e in absurd (omega arith)

  stays : (i : ℕ) → template_character true text i ≡ None → many (template_character true) text i ≡ Some (length text) → i ≡ length text
  stays i e g = let none = sym (many_none text (template_character true) i e) ∙ g in cc

  -- where all of it is parts of literals, no tag is needed
  pub stands_untagged : (d i : ℕ) → length text ≤ d + i → many (literal_part true) text i ≡ Some (length text) → many (template_character true) text i ≡ Some (length text) → many (template_character false) text i ≡ Some (length text)
  stands_untagged zero i l h g = go (template_character true text i) refl
    where
      go : (o : Option ℕ) → template_character true text i ≡ o → many (template_character false) text i ≡ Some (length text)
      go None e = let is : i ≡ length text = stays i e g in subst (λ n. many (template_character false) text n ≡ Some (length text)) (sym is) (ends_many false)
      go (Some j) e = let m = moves_template_character text true in let w = m.within i j e in absurd (omega arith)
  stands_untagged (suc d) i l h g = go (template_character true text i) (literal_part true text i) refl refl (stands_untagged d)
    where
      go : (o r : Option ℕ) → template_character true text i ≡ o → literal_part true text i ≡ r
          → ((j : ℕ) → length text ≤ d + j → many (literal_part true) text j ≡ Some (length text) → many (template_character true) text j ≡ Some (length text) → many (template_character false) text j ≡ Some (length text)) → many (template_character false) text i ≡ Some (length text)
      go None r e f more = let is : i ≡ length text = stays i e g in subst (λ n. many (template_character false) text n ≡ Some (length text)) (sym is) (ends_many false)
      go (Some j) None e f more =
          let none = sym (many_none text (literal_part true) i f) ∙ h in
          let is : i ≡ length text = cc in
          let m = moves_template_character text true in
          let w = m.within i j e in
          absurd (omega arith)
      go (Some j) (Some k) e f more =
          let p = character_parts true i j e in
          let one = sym (part_first true i k f) ∙ p.1 in
          let is : k ≡ j = cc in
          let m = moves_template_character text false in
          let n = moves_template_character text true in
          let q = moves_part text true in
          let stands = character_stands false i k p.0 (part_first false i k f) in
          let on = q.on i k f in
          let literals = sym (many_some text (literal_part true) q i k f) ∙ h in
          let characters = subst (λ x. many (template_character true) text x ≡ Some (length text)) (sym is) (sym (many_some text (template_character true) n i j e) ∙ g) in
          many_some text (template_character false) m i k stands ∙ more k (omega arith) literals characters

module _ (first second rest : List ℕ) (u : IsUtf8 first) (v : IsUtf8 second) (ends : Ends rest) where
  abbrev Here : ℕ → ℕ → Type 0
  Here = Beside first second rest u v ends

  -- no end stands in the one where none stands in the other

  no_end : (d : ℕ) (o : Option ℕ) → is_line_terminator d ≡ true → ends_by (Some d) o ≡ false
  no_end d o h = rw (apart is_line_terminator d 96 refl h, apart is_line_terminator d 36 refl h) refl

  brace_kept : (a b : ℕ) → Here a b → is_brace (char_at first a) ≡ false → is_brace (char_at second b) ≡ false
  brace_kept a b h k = go (view first second rest u v ends a b h)
    where
      go : View first second rest u v ends a b → is_brace (char_at second b) ≡ false
      go (broken i j c d next x y e f t w is) = ap is_brace f ∙ apart is_line_terminator d 123 refl w
      go (same c next e f t) = ap is_brace (char_head second b c (after second (b + len_utf8 c)) f) ∙ sym (ap is_brace (char_head first a c (after first (a + len_utf8 c)) e)) ∙ k
      go (over e f) = ap (λ l. is_brace (slice_get l 0)) f

  no_end_kept : (a b : ℕ) → Here a b → is_some (template_text_end_at first a) ≡ false → is_some (template_text_end_at second b) ≡ false
  no_end_kept a b h k = end_is second b ∙ go (view first second rest u v ends a b h)
    where
      none : ends_by (char_at first a) (char_at first (a + 1)) ≡ false
      none = sym (end_is first a) ∙ k

      go : View first second rest u v ends a b → ends_by (char_at second b) (char_at second (b + 1)) ≡ false
      go (broken i j c d next x y e f t w is) = ap (λ o. ends_by o (char_at second (b + 1))) f ∙ no_end d (char_at second (b + 1)) w
      go (over e f) = ap (λ l. ends_by (slice_get l 0) (char_at second (b + 1))) f
      go (same c next e f t) = ap (λ o. ends_by o (char_at second (b + 1))) y ∙ test (nat_eq c 96) (nat_eq c 36) refl none_here
        where
          x : char_at first a ≡ Some c
          x = char_head first a c (after first (a + len_utf8 c)) e

          y : char_at second b ≡ Some c
          y = char_head second b c (after second (b + len_utf8 c)) f

          none_here : ends_by (Some c) (char_at first (a + 1)) ≡ false
          none_here = sym (ap (λ o. ends_by o (char_at first (a + 1))) x) ∙ none

          test : (s t : Bool) → nat_eq c 36 ≡ t → (s || (t && is_brace (char_at first (a + 1)))) ≡ false → (s || (t && is_brace (char_at second (b + 1)))) ≡ false
          test true t g k = k
          test false false g k = refl
          test false true g k = brace_kept (a + 1) (b + 1) (subst (λ z. Here (a + len_utf8 z) (b + len_utf8 z)) (eqb-true c 36 g) next) k

  -- up to where the text part ends

  module _ (stop : ℕ) (cut_stop : cuts first stop ≡ true) (behind : after first stop ≡ rest) where
    cut_behind : (i c : ℕ) → char_at first i ≡ Some c → cuts first (i + len_utf8 c) ≡ true
    cut_behind i c e = may_cut first (i + len_utf8 c) (step first i c u e).0

    ready : (tagged : Bool) (a i : ℕ) → cuts first a ≡ true → template_character tagged first a ≡ Some i → i ≤ stop → IsReady first second rest u v ends a
    ready tagged a i c h l = (before, λ e. backslash e)
      where
        on : a < i
        on = let m = moves_template_character first tagged in m.on a i h

        before : after first a ≡ rest → rest ≡ []
        before e = let is = same_place first a stop u c cut_stop (e ∙ sym behind) in let o = on in absurd (omega arith)

        taken : (n : ℕ) → literal_part true first a ≡ Some n → n ≡ i
        taken n e = let p = sym (part_first first tagged a n e) ∙ (character_parts first tagged a i h).1 in cc

        backslash : char_at first a ≡ Some 92 → after first (a + 1) ≡ rest → rest ≡ []
        backslash x e = go rest e ends
          where
            at : a + 1 ≡ stop
            at = same_place first (a + 1) stop u (cut_behind a 92 x) cut_stop (e ∙ sym behind)

            go : (cs : List ℕ) → after first (a + 1) ≡ cs → Ends cs → cs ≡ []
            go [] f s = refl
            go (d ∷ cs) f s =
                let backslash_here : after first a ≡ 92 ∷ after first (a + 1) = after_step first a 92 u x in
                let n = taken (a + 1 + len_utf8 d) (part_escape first a (after first (a + 1)) backslash_here ∙ sign_escapes first (a + 1) d cs f s) in
                let is = at in
                let wide = (len_utf8_bounds d).0 in
                absurd (omega arith)

    -- at the end of the one is the end of the other
    over_there : (b : ℕ) → Here stop b → b ≡ length second
    over_there b h =
        let none : h.left ≡ [] = append_cancel_right h.left [] rest (sym h.one ∙ behind) in
        at_end second b v h.cut_two (h.two ∙ ap line_feeds none)

    at_stop : (tagged : Bool) (a b : ℕ) → template_character tagged first a ≡ None → many (template_character tagged) first a ≡ Some stop → Here a b → many (template_character true) second b ≡ Some (length second)
    at_stop tagged a b e k h =
        let none = sym (many_none first (template_character tagged) a e) ∙ k in
        let is : a ≡ stop = cc in
        let there = over_there b (subst (λ z. Here z b) is h) in
        subst (λ n. many (template_character true) second n ≡ Some (length second)) (sym there) (ends_many second true)

    character_kept : (tagged : Bool) (a b i : ℕ) → Here a b → template_character tagged first a ≡ Some i → i ≤ stop → (j : ℕ) × (template_character true second b ≡ Some j) × Here i j
    character_kept tagged a b i h e l =
        let p = character_parts first tagged a i e in
        go (template_part true second b) refl (subst (λ o. Both first second rest u v ends o (template_part true second b)) (part_tagged first tagged a i p.1) (template_part_kept first second rest u v ends true a b (ready tagged a i h.cut_one e l) h)) (no_end_kept a b h p.0)
      where
        go : (o : Option ℕ) → template_part true second b ≡ o → Both first second rest u v ends (Some i) o → is_some (template_text_end_at second b) ≡ false → (j : ℕ) × (template_character true second b ≡ Some j) × Here i j
        go None f m n = absurd m
        go (Some j) f m n = (j, character_stands second true b j n f, m.0)

    abbrev CharactersKept : ℕ → Bool → Type 0
    CharactersKept d tagged = (a b : ℕ) → length first ≤ d + a → Here a b → many (template_character tagged) first a ≡ Some stop → many (template_character true) second b ≡ Some (length second)

    characters_go : (d : ℕ) (tagged : Bool) → CharactersKept d tagged
    characters_go zero tagged a b l h k = go (template_character tagged first a) refl
      where
        go : (o : Option ℕ) → template_character tagged first a ≡ o → many (template_character true) second b ≡ Some (length second)
        go None e = at_stop tagged a b e k h
        go (Some i) e = let m = moves_template_character first tagged in let w = m.within a i e in absurd (omega arith)
    characters_go (suc d) tagged a b l h k = go (template_character tagged first a) refl (characters_go d tagged)
      where
        go : (o : Option ℕ) → template_character tagged first a ≡ o → CharactersKept d tagged → many (template_character true) second b ≡ Some (length second)
        go None e more = at_stop tagged a b e k h
        go (Some i) e more =
            let m = moves_template_character first tagged in
            let on = m.on a i e in
            let rest_of = sym (many_some first (template_character tagged) m a i e) ∙ k in
            let forward = forward_many first (moves_forward first m) in
            let c = character_kept tagged a b i h e (forward.on i stop rest_of) in
            many_some second (template_character true) (moves_template_character second true) b c.0 c.1 ∙ more i c.0 (omega arith) c.2 rest_of

    -- the characters up to there are characters behind a tag, with LF for their line ends, to the end
    pub characters_kept : (tagged : Bool) (a b : ℕ) → Here a b → many (template_character tagged) first a ≡ Some stop → many (template_character true) second b ≡ Some (length second)
    characters_kept tagged a b h k = characters_go (length first) tagged a b (omega arith) h k

-- what is said

module _ (first second : List ℕ) (u : IsUtf8 first) (v : IsUtf8 second) where
  abbrev Whole : ℕ → ℕ → Type 0
  Whole = Beside first second [] u v tt

  always : (a : ℕ) → IsReady first second [] u v tt a
  always a = ((λ e. refl), (λ x e. refl))

  abbrev SaysSame : List ℕ → ℕ → ℕ → Type 0
  SaysSame points a b = value_behind points true first a ≡ value_behind points true second b

  -- where no part stands in either
  neither : (points : List ℕ) (a b : ℕ) → Whole a b → literal_part true first a ≡ None → literal_part true second b ≡ None → SaysSame points a b
  neither points a b h e f = go (view first second [] u v tt a b h)
    where
      unsaid : (c d : ℕ) → char_at first a ≡ Some c → char_at second b ≡ Some d → SaysSame points a b
      unsaid c d x y = no_part first true points a e (char_within first a c x) ∙ sym (no_part second true points b f (char_within second b d y))

      go : View first second [] u v tt a b → SaysSame points a b
      go (broken i j c d next k l x y t w is) = unsaid c d x y
      go (same c next x y t) = unsaid c c (char_head first a c (after first (a + len_utf8 c)) x) (char_head second b c (after second (b + len_utf8 c)) y)
      go (over x y) = value_at_end first true points a (at_end first a u h.cut_one x) ∙ sym (value_at_end second true points b (at_end second b v h.cut_two y))

  abbrev Kept : ℕ → Type 0
  Kept d = (points : List ℕ) (a b : ℕ) → length first ≤ d + a → Whole a b → SaysSame points a b

  value_go : (d : ℕ) → Kept d
  value_go zero points a b l h = go (literal_part true first a) (literal_part true second b) refl refl (part_kept first second [] u v tt a b (always a) h)
    where
      go : (o r : Option ℕ) → literal_part true first a ≡ o → literal_part true second b ≡ r → PartKept first second [] u v tt a b o r → SaysSame points a b
      go None None e f m = neither points a b h e f
      go None (Some j) e f m = absurd m
      go (Some i) r e f m = let q = moves_part first true in let w = q.within a i e in absurd (omega arith)
  value_go (suc d) points a b l h = go (literal_part true first a) (literal_part true second b) refl refl (part_kept first second [] u v tt a b (always a) h) (value_go d)
    where
      go : (o r : Option ℕ) → literal_part true first a ≡ o → literal_part true second b ≡ r → PartKept first second [] u v tt a b o r → Kept d → SaysSame points a b
      go None None e f m more = neither points a b h e f
      go None (Some j) e f m more = absurd m
      go (Some i) None e f m more = absurd m
      go (Some i) (Some j) e f m more =
          let q = moves_part first true in
          let on = q.on a i e in
          behind_part first true points a i e ∙ more (points ++ part_value true first a i) i j (omega arith) m.0 ∙ ap (λ w. value_behind (points ++ w) true second j) m.1 ∙ sym (behind_part second true points b j f)

  pub value_kept : (points : List ℕ) (a b : ℕ) → Whole a b → SaysSame points a b
  value_kept points a b h = value_go (length first) points a b (omega arith) h
