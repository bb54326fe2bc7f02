-- Where a text may be cut, and how long its pieces are.
use Rattle.std.proofs.Common.{◌≡◌, ℕ, ◌-◌, ◌≤◌, Bool, true, false, ◌&&◌, List, [], length, take, drop, nat_le, refl, subst, arith, length-drop}
use Rattle.std.proofs.lemmas.List.{append-nil, length-take, take_all}
use Rattle.std.proofs.lemmas.Str.{chars-nil}
use Rattle.std.specs.Str.{IsUtf8, chars}
use Rattle.ecma_lex.specs.Text.{after, cuts, piece}
use Rattle.ecma_lex.proofs.Suffixes.{cut_utf8}

-- a text may be cut before its first character
pub cuts_front : (text : List ℕ) → IsUtf8 text → cuts text 0 ≡ true
cuts_front text utf8 = subst (λ l. cuts l 0 ≡ true) (append-nil text) (cut_utf8 text [] utf8 refl)

-- a piece is no longer than its text
pub piece_within : (text : List ℕ) (i j : ℕ) → length (piece text i j) ≤ length text
piece_within text i j = go (nat_le i j && (cuts text i && cuts text j)) refl
  where
    go : (b : Bool) → (nat_le i j && (cuts text i && cuts text j)) ≡ b → length (piece text i j) ≤ length text
    go true e = rw e (let a = length-take (j - i) (drop i text) in let b = length-drop i text in omega arith)
    go false e = rw e (omega arith)
