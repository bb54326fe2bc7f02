-- A piece of a text, by itself and where it stands: the same characters and the same pieces.
use Rattle.std.proofs.Common.{◌≡◌, ℕ, ◌+◌, ◌-◌, ◌<◌, ◌≤◌, List, [], ◌∷◌, ◌++◌, length, drop, take, refl, ap, sym, ◌∙◌, arith, Some, Bool, true, false, nat_le, length-append, length-drop}
use Rattle.std.proofs.lemmas.List.{drop-drop, drop-append-le, take-append-drop}
use Rattle.std.proofs.lemmas.Str.{chars-append, encodes-chars, IsUtf8-drop, IsUtf8-between}
use Rattle.std.specs.Str.{IsUtf8, chars}
use Rattle.std.specs.List.{slice_get}
use Rattle.std.specs.Char.{len_utf8}
use lib.Utf8.{encodes}
use Rattle.ecma_lex.specs.Text.{IsPiece, cuts, piece}
use Rattle.ecma_lex.specs.Parts.{char_at}
use Rattle.ecma_lex.proofs.Steps.{cut, may_cut, after_is, after_not, after_cut, step, fits}
use Rattle.ecma_lex.proofs.Suffixes.{Stands, cuts_inside, piece_inside}
use Rattle.ecma_lex.proofs.Alike.{Alike, is_end}

first_of_front : (xs ys : List ℕ) → 0 < length xs → slice_get (xs ++ ys) 0 ≡ slice_get xs 0
first_of_front [] ys h = absurd (omega arith)
first_of_front (x ∷ xs) ys h = refl

some_chars : (w : List ℕ) → IsUtf8 w → 0 < length w → 0 < length (chars w)
some_chars w u h = go (chars w) (encodes-chars w u)
  where
    go : (cs : List ℕ) → encodes cs ≡ w → 0 < length cs
    go [] e = absurd (let l = ap length e in omega arith)
    go (c ∷ cs) e = omega arith

module _ (text w u : List ℕ) (i : ℕ) (utf8 : IsUtf8 w) (st : Stands text i (w ++ u)) where
  pub same_char : (k : ℕ) → k < length w → char_at text (i + k) ≡ char_at w k
  same_char k l = go (cuts w k) refl
    where
      inside : cuts text (i + k) ≡ cuts w k
      inside = cuts_inside text i k w u st l

      behind : drop (i + k) text ≡ drop k w ++ u
      behind = sym (drop-drop k i text) ∙ ap (drop k) st.rest ∙ drop-append-le k w u (omega arith)

      go : (b : Bool) → cuts w k ≡ b → char_at text (i + k) ≡ char_at w k
      go false e = ap (λ l. slice_get l 0) (after_not text (i + k) (inside ∙ e) ∙ sym (after_not w k e))
      go true e =
          let v : IsUtf8 (drop k w) = IsUtf8-drop w k utf8 (cut w k e) in
          let some : 0 < length (drop k w) = omega (arith, length-drop k w) in
          ap (λ l. slice_get l 0) (after_is text (i + k) (inside ∙ e) ∙ ap chars behind ∙ chars-append (drop k w) u v)
          ∙ first_of_front (chars (drop k w)) (chars u) (some_chars (drop k w) v some)
          ∙ ap (λ l. slice_get l 0) (sym (after_is w k e))

-- where a text stands in two others, the same characters stand in them
pub alike_between : (first second w u v : List ℕ) (a b last : ℕ) → IsUtf8 w → Stands first a (w ++ u) → Stands second b (w ++ v) → char_at first (a + (length w - 1)) ≡ Some last → is_end last ≡ true → Alike first second a b (length w)
alike_between first second w u v a b last utf8 st tt h e = record {
  same = λ k l. same_char first w u a utf8 st k l ∙ sym (same_char second w v b utf8 tt k l);
  pieces = λ k m x l. piece_inside first a k m w u st x l ∙ sym (piece_inside second b k m w v tt x l);
  fits = λ k c l x. fits w k c utf8 (sym (same_char first w u a utf8 st k l) ∙ x);
  last = last;
  ends = h;
  stops = e;
}

-- a piece of a text by itself, and what stands behind it
pub record Alone (text : List ℕ) (i j : ℕ) : Type 0 where
  pub rest : List ℕ
  pub utf8 : IsUtf8 (piece text i j)
  pub stands : Stands text i (piece text i j ++ rest)
  pub ends : j ≡ i + length (piece text i j)

module _ (text : List ℕ) (u : IsUtf8 text) where
  pub alone_piece : (i j : ℕ) → IsPiece text i j → Alone text i j
  alone_piece i j p =
      let le : i ≤ j = p.0 in
      let most : j ≤ length text = p.1 in
      let t : nat_le i j ≡ true = grind arith in
      let ci : cuts text i ≡ true = p.2 in
      let cj : cuts text j ≡ true = p.3 in
      let is : piece text i j ≡ take (j - i) (drop i text) = rw (t, ci, cj) refl in
      let parts : take (j - i) (drop i text) ++ drop (j - i) (drop i text) ≡ drop i text = take-append-drop (j - i) (drop i text) in
      let l = length-drop i text in
      let long = ap length parts in
      let sum = length-append (take (j - i) (drop i text)) (drop (j - i) (drop i text)) in
      let back = length-drop (j - i) (drop i text) in
      let size : length (piece text i j) ≡ j - i = ap length is ∙ omega arith in
      record {
        rest = drop (j - i) (drop i text);
        utf8 = rw is (IsUtf8-between text i j u le (cut text i ci) (cut text j cj));
        stands = rw is (record { rest = sym parts; within = omega arith });
        ends = omega arith;
      }

  -- from a character to behind another
  pub piece_between : (i k c d : ℕ) → i ≤ k → char_at text i ≡ Some c → char_at text k ≡ Some d → IsPiece text i (k + len_utf8 d)
  piece_between i k c d le h e = (omega arith, fits text k d u e, after_cut text i c h, may_cut text (k + len_utf8 d) (step text k d u e).0)
