-- What the blanks in front of a token do.
use Rattle.std.proofs.Common.{◌≡◌, ℕ, zero, suc, ◌+◌, ◌<◌, List, [], ◌∷◌, ◌++◌, length, refl, ap, sym, ◌∙◌, subst, arith, Some, None, true, false, nat_eq}
use Rattle.std.specs.List.{list_all, list_any}
use Rattle.std.specs.Str.{IsAscii, chars}
use Rattle.std.proofs.lemmas.Bool.{and_parts}
use Rattle.std.proofs.lemmas.Bool.Decides.{nat_tests}
use Rattle.std.proofs.lemmas.Str.{chars-IsAscii}
use Rattle.ecma_lex.specs.Text.{after, piece}
use Rattle.ecma_number.specs.Blanks.{is_blank, is_line_terminator}
use Rattle.ecma_lex.specs.Parts.{code_point, ◌>>◌}
use Rattle.ecma_lex.specs.Blanks.{skipped, blank, blanks, comment, comment_open, single_line_comment, multi_line_comment, line, comment_rest, has_line_terminator}
use Rattle.ecma_lex.specs.declared.blanks.Skipped.{Skipped}
use Rattle.ecma_lex.proofs.Repeats.{code_point_fails, code_point_end, code_point_stands, then_some, then_none, or_second}
use Rattle.ecma_lex.proofs.Comments.{ascii_width, blank_char, blank_slash, other_char, no_blank, blanks_more, blanks_end}
use Rattle.ecma_lex.proofs.Suffixes.{clear_front, Cut, cut_ascii, chars_ascii, Stands, past, after_here, piece_here}
use Rattle.ecma_lex.proofs.Spelled.{stops}
use Rattle.ecma_print_tokens.specs.Items.{Gap}
use Rattle.ecma_print_tokens.specs.Good.{is_gap_character, is_line_feed, IsGap, begins_comment}

-- where a text begins so, neither a blank nor a comment does
pub data Quiet : List ℕ → Type 0 where
  clear : {u : List ℕ} → Cut u → clear_front (chars u) ≡ true → Quiet u
  slash : {u : List ℕ} → Cut u → stops begins_comment (chars u) ≡ true → Quiet (47 ∷ u)

pub quiet_cut : {u : List ℕ} → Quiet u → Cut u
quiet_cut (clear c h) = c
quiet_cut (slash {u} c h) = cut_ascii 47 u (omega arith)

-- a blank of a gap

gap_small : (c : ℕ) → is_gap_character c ≡ true → c < 128
gap_small c h = grind (arith, nat_tests)

gap_blank : (c : ℕ) → is_gap_character c ≡ true → is_blank c ≡ true
gap_blank c h = grind (arith, nat_tests)

gap_no_slash : (c : ℕ) → is_gap_character c ≡ true → c ≡ 47 → ⊥
gap_no_slash c h e = grind (arith, nat_tests)

gap_line : (c : ℕ) → is_gap_character c ≡ true → is_line_terminator c ≡ is_line_feed c
gap_line c h = grind (arith, nat_tests)

gap_ascii : (bs : List ℕ) → list_all is_gap_character bs ≡ true → IsAscii bs
gap_ascii [] h k = omega arith
gap_ascii (c ∷ bs) h zero = gap_small c (and_parts (is_gap_character c) (list_all is_gap_character bs) h).0
gap_ascii (c ∷ bs) h (suc k) = gap_ascii bs (and_parts (is_gap_character c) (list_all is_gap_character bs) h).1 k

pub gap_cut : (bs u : List ℕ) → list_all is_gap_character bs ≡ true → Cut u → Cut (bs ++ u)
gap_cut [] u h c = c
gap_cut (b ∷ bs) u h c = cut_ascii b (bs ++ u) (gap_small b (and_parts (is_gap_character b) (list_all is_gap_character bs) h).0)

lines : (bs : List ℕ) → list_all is_gap_character bs ≡ true → list_any is_line_terminator bs ≡ list_any is_line_feed bs
lines [] h = refl
lines (c ∷ bs) h =
    let p = and_parts (is_gap_character c) (list_all is_gap_character bs) h in
    let a = gap_line c p.0 in
    let b = lines bs p.1 in
    rw (a, b) refl

module _ (text : List ℕ) where
  record Silent (i : ℕ) : Type 0 where
    no_blank : blank text i ≡ None
    no_comment : comment_open text i ≡ None

  clear_here : (i : ℕ) (cs : List ℕ) → after text i ≡ cs → clear_front cs ≡ true → Silent i
  clear_here i [] e h = record { no_blank = no_blank text i e; no_comment = then_none text (code_point 47) (code_point 42) i (code_point_end text 47 i e) }
  clear_here i (c ∷ cs) e h =
      let a : is_blank c ≡ false = grind arith in
      let b : nat_eq c 47 ≡ false = grind arith in
      record { no_blank = other_char text i c cs e (grind arith) a; no_comment = then_none text (code_point 47) (code_point 42) i (code_point_fails text 47 c i cs e b) }

  no_second : (d i : ℕ) (cs : List ℕ) → after text i ≡ cs → begins_comment d ≡ true → stops begins_comment cs ≡ true → code_point d text i ≡ None
  no_second d i [] e h k = code_point_end text d i e
  no_second d i (c ∷ cs) e h k = code_point_fails text d c i cs e (grind (arith, nat_tests))

  slash_here : (i : ℕ) (u : List ℕ) → Stands text i (47 ∷ u) → Cut u → stops begins_comment (chars u) ≡ true → Silent i
  unfolding comment
  slash_here i u st c h =
      let e : after text i ≡ 47 ∷ chars u = after_here text i (47 ∷ u) st (cut_ascii 47 u (omega arith)) ∙ chars_ascii 47 u (omega arith) in
      let next : after text (i + 1) ≡ chars u = after_here text (i + 1) u (past text (47 ∷ []) st) c in
      let one : code_point 47 text i ≡ Some (i + 1) = code_point_stands text 47 i (chars u) e in
      let a = no_second 47 (i + 1) (chars u) next refl h in
      let b = no_second 42 (i + 1) (chars u) next refl h in
      let single : single_line_comment text i ≡ None = then_some text (code_point 47) (code_point 47 >> line) i (i + 1) one ∙ then_none text (code_point 47) line (i + 1) a in
      let opens : comment_open text i ≡ None = then_some text (code_point 47) (code_point 42) i (i + 1) one ∙ b in
      let none : comment text i ≡ None = or_second text single_line_comment multi_line_comment i single ∙ then_none text comment_open comment_rest i opens in
      record { no_blank = blank_slash text i 47 (chars u) e refl ∙ none; no_comment = opens }

  silent : {u : List ℕ} (i : ℕ) → Stands text i u → Quiet u → Silent i
  silent {u} i st (clear c h) = clear_here i (chars u) (after_here text i u st c) h
  silent i st (slash {u = v} c h) = slash_here i v st c h

  through : (bs u : List ℕ) (i : ℕ) → list_all is_gap_character bs ≡ true → Stands text i (bs ++ u) → Cut u → blank text (i + length bs) ≡ None → blanks text i ≡ Some (i + length bs)
  through [] u i h st c n = let z : i + 0 ≡ i = omega arith in rw z (blanks_end text i (rw z at n))
  through (b ∷ bs) u i h st c n =
      let p = and_parts (is_gap_character b) (list_all is_gap_character bs) h in
      let small = gap_small b p.0 in
      let cut = gap_cut bs u p.1 c in
      let e : after text i ≡ b ∷ chars (bs ++ u) = after_here text i (b ∷ bs ++ u) st (cut_ascii b (bs ++ u) small) ∙ chars_ascii b (bs ++ u) small in
      let one : blank text i ≡ Some (i + 1) = blank_char text i b (chars (bs ++ u)) e (gap_no_slash b p.0) (gap_blank b p.0) ∙ ap (λ w. Some (i + w)) (ascii_width b small) in
      let far : i + length (b ∷ bs) ≡ i + 1 + length bs = omega arith in
      sym (blanks_more text i (i + 1) one) ∙ through bs u (i + 1) p.1 (past text (b ∷ []) st) c (subst (λ j. blank text j ≡ None) far n) ∙ ap Some (sym far)

  abbrev pub behind_gap : Gap → ℕ → Skipped
  behind_gap g i = record { to = i + length g.blanks; new_line = g.new_line; closed = true }

  pub past_gap : {i : ℕ} {u : List ℕ} (g : Gap) → Stands text i (g.blanks ++ u) → Stands text (i + length g.blanks) u
  past_gap g st = past text g.blanks st

  -- a gap is skipped, and tells whether a line break is in it
  pub skipped_gap : (g : Gap) (u : List ℕ) (i : ℕ) → IsGap g → Quiet u → Stands text i (g.blanks ++ u) → skipped text i ≡ behind_gap g i
  unfolding skipped has_line_terminator
  skipped_gap g u i h q st =
      let c = quiet_cut q in
      let s = silent (i + length g.blanks) (past_gap g st) q in
      let all : blanks text i ≡ Some (i + length g.blanks) = through g.blanks u i h.blank st c s.no_blank in
      let w : piece text i (i + length g.blanks) ≡ g.blanks = piece_here text i g.blanks u st (gap_cut g.blanks u h.blank c) c in
      let l : chars g.blanks ≡ g.blanks = chars-IsAscii g.blanks (gap_ascii g.blanks h.blank) in
      let n : list_any is_line_terminator g.blanks ≡ g.new_line = lines g.blanks h.blank ∙ sym h.told in
      let k = s.no_comment in
      rw (all, w, l, n, k) refl
