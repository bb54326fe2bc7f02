-- What stands between two ASCII characters of a text, and behind the second.
use Rattle.std.proofs.Common.{◌≡◌, ℕ, ◌+◌, ◌-◌, ◌<◌, true, List, [], ◌∷◌, ◌++◌, length, take, drop, get_or, nat_le, ap, sym, subst, append-nil, arith, length-append, append_assoc}
use Rattle.std.specs.Str.{IsUtf8}
use Rattle.std.proofs.Math.Seq.{drop-append_seam, take-append_seam, get_or-append_seam}
use Rattle.std.proofs.lemmas.Str.{IsCharBoundary-after_ascii}
use Rattle.ecma_lex.specs.Text.{cuts, piece}
use Rattle.ecma_lex.proofs.Steps.{may_cut, ascii_cuts}

-- between two places where the text may be cut
piece_of : (x y z : List ℕ) → cuts (x ++ (y ++ z)) (length x) ≡ true → cuts (x ++ (y ++ z)) (length x + length y) ≡ true → piece (x ++ (y ++ z)) (length x) (length x + length y) ≡ y
piece_of x y z a b =
    let e : nat_le (length x) (length x + length y) ≡ true = grind arith in
    let m : (length x + length y) - length x ≡ length y = omega arith in
    rw (e, a, b, m, drop-append_seam x (y ++ z)) (take-append_seam y z)

module _ (c d : ℕ) (y z : List ℕ) (low : c < 128) (low' : d < 128) where
  abbrev text : List ℕ
  text = c ∷ (y ++ (d ∷ z))

  size : length text ≡ 1 + (length y + (1 + length z))
  size = let l = length-append y (d ∷ z) in omega arith

  second_here : get_or text (1 + length y) 0 ≡ d
  second_here = let e : length (c ∷ y) ≡ 1 + length y = omega arith in subst (λ n. get_or text n 0 ≡ d) e (get_or-append_seam (c ∷ y) d z 0)

  pub piece_between : IsUtf8 text → piece text 1 (1 + length y) ≡ y
  piece_between u =
      let l = size in
      let first : cuts text 1 ≡ true = may_cut text 1 (IsCharBoundary-after_ascii text 0 u (omega arith) low) in
      let second : cuts text (1 + length y) ≡ true = ascii_cuts text (1 + length y) (omega arith) (subst (λ n. n < 128) (sym second_here) low') in
      piece_of (c ∷ []) y (d ∷ z) first second

  pub piece_behind : IsUtf8 text → piece text (1 + length y + 1) (length text) ≡ z
  piece_behind u =
      let l = size in
      let m = 1 + length y + 1 in
      let x = c ∷ (y ++ (d ∷ [])) in
      let n : length x ≡ m = (let k = length-append y (d ∷ []) in omega arith) in
      let whole : x ++ z ≡ text = ap (λ w. c ∷ w) (append_assoc y (d ∷ []) z) in
      let rest : drop m text ≡ z = subst (λ k. drop k text ≡ z) n (subst (λ w. drop (length x) w ≡ z) whole (drop-append_seam x z)) in
      let e : nat_le m (length text) ≡ true = grind arith in
      let a : cuts text m ≡ true = may_cut text m (IsCharBoundary-after_ascii text (1 + length y) u (omega arith) (subst (λ n. n < 128) (sym second_here) low')) in
      let b : cuts text (length text) ≡ true = grind arith in
      let s : length text - m ≡ length z = omega arith in
      rw (e, a, b, s, rest) (subst (λ w. take (length z) w ≡ z) (append-nil z) (take-append_seam z []))
