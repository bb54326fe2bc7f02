-- Signs, the end of a statement and the end of the text.
use Rattle.std.proofs.Common.{◌≡◌, ℕ, ◌+◌, ◌≤◌, List, [], ◌∷◌, ◌++◌, length, drop, max, refl, ap, sym, ◌∙◌, subst, arith, Some, None, is_some, Bool, true, false, cond, not, ◌&&◌, ◌||◌, nat_eq, codes, length-append}
use Rattle.std.specs.Prelude.{Ok, Err}
use Rattle.std.specs.Str.{bytes_eq, chars}
use Rattle.std.specs.Char.{is_digit}
use Rattle.std.proofs.lemmas.Bool.{false≢true, eqb-true, false_from_ne_true}
use Rattle.std.proofs.lemmas.Slice.Eq.{bytes_eq-Decides}
use Rattle.ecma_number.specs.Numeral.{begins, IsNumericLiteral}
use Rattle.ecma_lex.specs.Keys.{is_valid_start}
use Rattle.ecma_lex.specs.Punctuators.{is_longest, punct_end}
use Rattle.ecma_lex.specs.Tokens as lex
use Rattle.ecma_lex.specs.Tokens.{text_end}
use Rattle.ecma_lex.specs.declared.tokens.Token.{Token}
use Rattle.ecma_lex.proofs.Suffixes.{Stands, past}
use Rattle.ecma_grammar.specs.Reading.{Position, Outcome, terminal_on}
use Rattle.ecma_print_tokens.specs.Items.{Tok, key, private_name, sign, string, number, big_int, regex, template, Gap, Items, ends, it, token_text, render}
use Rattle.ecma_print_tokens.specs.Taking.{took, begins_by, took_if, punct_in, end_by, end_in, end_of_text_in}
use Rattle.ecma_print_tokens.specs.Good.{Good}
use Rattle.ecma_print_tokens.specs.Lexing.{At, Agrees}
use Rattle.ecma_print_tokens.proofs.Fronts.{one_of, digits, numeral_starts, quotes}
use Rattle.ecma_print_tokens.proofs.Signs.{Longest, longest, Head, head, sign_at, no_sign, no_signs, other_sign, brace_only, point_only}
use Rattle.ecma_print_tokens.proofs.Numerals.{num_literal_of, point_digit}
use Rattle.ecma_print_tokens.proofs.Regexes.{comment_apart}
use Rattle.ecma_print_tokens.proofs.Wholes.{begins_here, some_text}
use Rattle.ecma_print_tokens.proofs.Found.{Reads, Here, terminal, none_there, takes, doubts}
use Rattle.ecma_print_tokens.proofs.Terminals.{is_sign, here, here_end}

-- where another token is read as a sign
abbrev pub doubt : List ℕ → Tok → Bool
doubt p (number w) = bytes_eq p (codes ".") && begins_by 46 w
doubt p (regex w) = begins_by 47 p
doubt p (template first last w) = not first && bytes_eq p (codes "}")
doubt p t = false

same_byte : (x y : ℕ) → x ≡ y → nat_eq x y ≡ true
same_byte x y e = grind arith

-- no sign stands at the front of a numeral, but a point
module _ (p w v : List ℕ) (n : IsNumericLiteral w) (b : begins (one_of numeral_starts) (chars (w ++ v)) ≡ true) (d : (bytes_eq p (codes ".") && begins_by 46 w) ≡ false) where
  three_points : (w : List ℕ) → IsNumericLiteral w → (x : ℕ) (us : List ℕ) → w ++ v ≡ 46 ∷ 46 ∷ us → 1 ≤ length w → ⊥
  three_points [] n x us e l = absurd (omega arith)
  three_points (c ∷ w) n x us e l =
      let first : c ≡ 46 = cc in
      let m : IsNumericLiteral (46 ∷ w) = subst (λ z. IsNumericLiteral (z ∷ w)) first n in
      let f : w ++ v ≡ 46 ∷ us = cc in
      go w (point_digit w m) f
    where
      go : (w : List ℕ) → begins (λ c. is_digit c 10) w ≡ true → w ++ v ≡ 46 ∷ us → ⊥
      go [] h e = false≢true h
      go (y ∷ w) h e = let z : y ≡ 46 = cc in false≢true (rw z at h)

  head_byte : (w : List ℕ) (x : ℕ) (us : List ℕ) → w ++ v ≡ x ∷ us → 1 ≤ length w → begins_by x w ≡ true
  head_byte [] x us e l = absurd (omega arith)
  head_byte (c ∷ w) x us e l = let z : c ≡ x = cc in same_byte c x z

  at_point : 1 ≤ length w → (l : Longest p (w ++ v)) (us : List ℕ) → w ++ v ≡ 46 ∷ us → (a b : Bool) → bytes_eq p (codes ".") ≡ a → bytes_eq p (codes "...") ≡ b → (a || b) ≡ true → ⊥
  at_point some l us e true b x y h = let k = head_byte w 46 us e some in false≢true (sym (rw (x, k) at d))
  at_point some l us e false true x y h =
      let q : p ≡ codes "..." = (bytes_eq-Decides p (codes "...")).0 y in
      three_points w n 0 _ (l.starts ∙ ap (λ z. z ++ drop (length p) (w ++ v)) q) some
  at_point some l us e false false x y h = false≢true h

  by_first : 1 ≤ length w → is_longest p (w ++ v) ≡ true → (l : Longest p (w ++ v)) (f : Head p (w ++ v)) (c : Bool) → nat_eq f.first 46 ≡ c → one_of numeral_starts f.first ≡ true → ⊥
  by_first some k l f true e o =
      let z : f.first ≡ 46 = eqb-true f.first 46 e in
      at_point some l f.behind (f.text ∙ ap (λ x. x ∷ f.behind) z) (bytes_eq p (codes ".")) (bytes_eq p (codes "...")) refl refl (point_only p (w ++ v) l (rw f.sign e))
  by_first some k l f false e o =
      let q : one_of digits f.first ≡ true = rw e at o in
      false≢true (sym (no_sign (one_of digits) no_signs.3 (w ++ v) (rw f.characters q) p) ∙ k)

  pub numeral_no_sign : 1 ≤ length w → is_longest p (w ++ v) ≡ false
  numeral_no_sign some = false_from_ne_true (is_longest p (w ++ v)) (λ k.
      let l = longest p (w ++ v) k in
      let f = head p (w ++ v) l in
      by_first some k l f (nat_eq f.first 46) refl (rw f.characters at b))

-- nor at that of a text part, but `}`
brace_no_sign : (p t : List ℕ) → begins (one_of (125 ∷ [])) (chars t) ≡ true → bytes_eq p (codes "}") ≡ false → is_longest p t ≡ false
brace_no_sign p t b d = false_from_ne_true (is_longest p t) (λ k.
    let l = longest p t k in
    let f = head p t l in
    let o : one_of (125 ∷ []) f.first ≡ true = rw f.characters at b in
    let e : begins_by 125 p ≡ true = rw f.sign (first (nat_eq f.first 125) o) in
    false≢true (sym d ∙ brace_only p t l e))
  where
    first : (b : Bool) → (b || false) ≡ true → b ≡ true
    first true h = refl
    first false h = h

empty_no_sign : (p : List ℕ) → is_longest p [] ≡ false
empty_no_sign p = false_from_ne_true (is_longest p []) (λ k. let f = head p [] (longest p [] k) in let e = f.text in cc)

module _ (text : List ℕ) where
  unread : (p : List ℕ) (i : ℕ) (t : List ℕ) → Stands text i t → is_longest p t ≡ false → punct_end p text i ≡ None
  unfolding punct_end
  unread p i t st h = let r = st.rest in rw (r, h) refl

  pub no_sign_there : (p : List ℕ) (g : Gap) (t : Tok) (us : Items) (s : Position) → At text Good (it g t us) s → is_sign t ≡ false → doubt p t ≡ false → punct_end p text (s.place + length g.blanks) ≡ None
  no_sign_there p g (sign w) us s at h d = absurd (false≢true (sym h))
  no_sign_there p g (number w) us s at h d =
      let good = at.good in
      let b = begins_here (number w) (render us) good.1 good.2 in
      unread p _ (w ++ render us) (here text g (number w) us s at).stands (numeral_no_sign p w (render us) (num_literal_of w good.1.utf8 good.1.whole) b d (some_text (number w) (render us) good.1 good.2))
  no_sign_there p g (regex w) us s at h d =
      let good = at.good in
      let y = here text g (regex w) us s at in
      let r = comment_apart w (render us) good.1.utf8 good.1.whole y.cut in
      unread p _ (w ++ render us) y.stands (ap (is_longest p) r.is ∙ other_sign 47 r.behind p d)
  no_sign_there p g (template false last w) us s at h d =
      let good = at.good in
      unread p _ (w ++ render us) (here text g (template false last w) us s at).stands (brace_no_sign p (w ++ render us) (begins_here (template false last w) (render us) good.1 good.2) d)
  no_sign_there p g (key w) us s at h d = let good = at.good in unread p _ (w ++ render us) (here text g (key w) us s at).stands (no_sign is_valid_start no_signs.0 (w ++ render us) (begins_here (key w) (render us) good.1 good.2) p)
  no_sign_there p g (private_name w) us s at h d = let good = at.good in unread p _ (w ++ render us) (here text g (private_name w) us s at).stands (no_sign (one_of (35 ∷ [])) no_signs.1 (w ++ render us) (begins_here (private_name w) (render us) good.1 good.2) p)
  no_sign_there p g (string w) us s at h d = let good = at.good in unread p _ (w ++ render us) (here text g (string w) us s at).stands (no_sign (one_of quotes) no_signs.2 (w ++ render us) (begins_here (string w) (render us) good.1 good.2) p)
  no_sign_there p g (big_int w) us s at h d = let good = at.good in unread p _ (w ++ render us) (here text g (big_int w) us s at).stands (no_sign (one_of digits) no_signs.3 (w ++ render us) (begins_here (big_int w) (render us) good.1 good.2) p)
  no_sign_there p g (template true last w) us s at h d = let good = at.good in unread p _ (w ++ render us) (here text g (template true last w) us s at).stands (no_sign (one_of (96 ∷ [])) no_signs.4 (w ++ render us) (begins_here (template true last w) (render us) good.1 good.2) p)

  -- each sign

  pub punct_sees : (p : List ℕ) (ts : Items) (s : Position) → At text Good ts s → Agrees text Good (punct_in p ts) (terminal text (punct_end p) s) (Reads text)
  punct_sees p (ends g) s at = let h = here_end text g s at in none_there text h (punct_end p) (unread p _ [] h.stands (empty_no_sign p))
  punct_sees p (it g (sign w) us) s at =
      let good = at.good in
      let h = here text g (sign w) us s at in
      takes text us h good.3 (punct_end p) (bytes_eq w p) (sign_at text w (render us) (s.place + length g.blanks) good.2.longest h.stands p)
  punct_sees p (it g (number w) us) s at = let good = at.good in doubts text us (here text g (number w) us s at) good.3 (Reads text) (punct_end p) (doubt p (number w)) (no_sign_there p g (number w) us s at refl)
  punct_sees p (it g (regex w) us) s at = let good = at.good in doubts text us (here text g (regex w) us s at) good.3 (Reads text) (punct_end p) (doubt p (regex w)) (no_sign_there p g (regex w) us s at refl)
  punct_sees p (it g (template first last w) us) s at = let good = at.good in doubts text us (here text g (template first last w) us s at) good.3 (Reads text) (punct_end p) (doubt p (template first last w)) (no_sign_there p g (template first last w) us s at refl)
  punct_sees p (it g t us) s at = none_there text (here text g t us s at) (punct_end p) (no_sign_there p g t us s at refl refl)

  -- the end of a statement

  abbrev Any : List ℕ → Token → Type 0
  Any w t = Unit {0}

  abbrev ending : Position → Outcome Token
  ending s = terminal_on s (lex.end text s.place)

  more_text : (i : ℕ) (w v : List ℕ) → Stands text i (w ++ v) → 1 ≤ length w → nat_eq i (length text) ≡ false
  more_text i w v st h = let o = st.within in grind (arith, length-append w v)

  omitted : (g : Gap) (w v : List ℕ) (ts : Items) (s : Position) → Here text g w v s → At text Good ts s → punct_end (codes ";") text (s.place + length g.blanks) ≡ None
      → (b : Bool) → (nat_eq (s.place + length g.blanks) (length text) || is_some (punct_end (codes "}") text (s.place + length g.blanks))) ≡ b → Agrees text Good (took_if (g.new_line || b) [] ts) (ending s) Any
  unfolding lex.end lex.punct
  omitted g w v ts s h at none b e = let k = h.skips in rw (k, none, e) (go (g.new_line || b))
    where
      go : (m : Bool) → Agrees text Good (took_if m [] ts) (terminal_on s (cond m (Ok (record { start = s.place; next = s.place; new_line = g.new_line })) (Err (record { at = s.place + length g.blanks })))) Any
      go true = record { value = record { start = s.place; next = s.place; new_line = g.new_line }; state = s; is = refl; holds = tt; at = at }
      go false = record { failed = max s.failed (s.place + length g.blanks); is = refl }

  some_if : (b : Bool) (n : ℕ) → is_some (cond b (Some n) None) ≡ b
  some_if true n = refl
  some_if false n = refl

  either : (n : Bool) (ts : Items) (s : Position) → Agrees text Good (took_if (n || true) [] ts) (ending s) Any → Agrees text Good (took [] ts) (ending s) Any
  either true ts s h = h
  either false ts s h = h

  closed_by_sign : (g : Gap) (w : List ℕ) (us : Items) (s : Position) → At text Good (it g (sign w) us) s → (b : Bool) → bytes_eq w (codes ";") ≡ b → Agrees text Good (cond b (took w us) (end_by g (bytes_eq w (codes "}")) (it g (sign w) us))) (ending s) Any
  unfolding lex.end lex.punct
  closed_by_sign g w us s at true e =
      let good = at.good in
      let h = here text g (sign w) us s at in
      let k = h.skips in
      let i = s.place + length g.blanks in
      let n = sign_at text w (render us) i good.2.longest h.stands (codes ";") in
      record {
        value = record { start = i; next = i + length w; new_line = g.new_line };
        state = record { place = i + length w; failed = s.failed };
        is = rw (k, n, e) refl;
        holds = tt;
        at = record { good = good.3; stands = past text w h.stands };
      }
  closed_by_sign g w us s at false e =
      let good = at.good in
      let h = here text g (sign w) us s at in
      let i = s.place + length g.blanks in
      let m = more_text i w (render us) h.stands (some_text (sign w) (render us) good.1 good.2) in
      let n = sign_at text w (render us) i good.2.longest h.stands (codes ";") ∙ rw e refl in
      let c = sign_at text w (render us) i good.2.longest h.stands (codes "}") in
      omitted g w (render us) (it g (sign w) us) s h at n (bytes_eq w (codes "}")) (rw (m, c) (some_if (bytes_eq w (codes "}")) (i + length w)))

  pub end_sees : (ts : Items) (s : Position) → At text Good ts s → Agrees text Good (end_in ts) (ending s) Any
  end_sees (ends g) s at =
      let h = here_end text g s at in
      let st = h.stands in
      let o = st.within in
      let e : nat_eq (s.place + length g.blanks) (length text) ≡ true = grind arith in
      either g.new_line (ends g) s (omitted g [] [] (ends g) s h at (unread (codes ";") _ [] st (empty_no_sign (codes ";"))) true (rw e refl))
  end_sees (it g (sign w) us) s at = closed_by_sign g w us s at (bytes_eq w (codes ";")) refl
  end_sees (it g (template false last w) us) s at = tt
  end_sees (it g t us) s at =
      let good = at.good in
      let h = here text g t us s at in
      let m = more_text (s.place + length g.blanks) (token_text t) (render us) h.stands (some_text t (render us) good.1 good.2) in
      let n = no_sign_there (codes "}") g t us s at refl refl in
      omitted g (token_text t) (render us) (it g t us) s h at (no_sign_there (codes ";") g t us s at refl refl) false (rw (m, n) refl)

  -- the end of the text

  pub end_of_text_sees : (ts : Items) (s : Position) → At text Good ts s → Agrees text Good (end_of_text_in ts) (terminal text text_end s) Any
  unfolding render
  end_of_text_sees (ends g) s at =
      let h = here_end text g s at in
      let k = h.skips in
      let st = h.stands in
      let o = st.within in
      let i = s.place + length g.blanks in
      let e : nat_eq (s.place + length g.blanks) (length text) ≡ true = grind arith in
      record {
        value = record { start = i; next = i; new_line = g.new_line };
        state = record { place = i; failed = s.failed };
        is = rw (k, e) refl;
        holds = tt;
        at = record { good = record { blank = refl; told = refl }; stands = st };
      }
  end_of_text_sees (it g t us) s at =
      let good = at.good in
      let h = here text g t us s at in
      let m = more_text (s.place + length g.blanks) (token_text t) (render us) h.stands (some_text t (render us) good.1 good.2) in
      none_there text h text_end (rw m refl)
