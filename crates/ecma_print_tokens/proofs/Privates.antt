-- Private names: `#` (35) and a key.
use Rattle.std.proofs.Common.{◌≡◌, ℕ, ◌+◌, List, [], ◌∷◌, ◌++◌, length, refl, ap, sym, ◌∙◌, subst, arith, Some, true, length-append, append-nil}
use Rattle.std.specs.Str.{IsUtf8, chars}
use Rattle.std.specs.List.{slice_get}
use Rattle.std.proofs.lemmas.Str.{encodes-chars}
use lib.Utf8.{encode, encodes}
use Rattle.ecma_lex.specs.Text.{after, piece}
use Rattle.ecma_lex.specs.Keys.{is_valid_continue, key_end, priv_name_end}
use Rattle.ecma_lex.specs.Parts.{code_point}
use Rattle.ecma_lex.proofs.Suffixes.{Cut, cut_ascii, chars_ascii, Stands, past, after_here}
use Rattle.ecma_lex.proofs.Repeats.{between, then_some, code_point_stands}
use Rattle.ecma_lex.proofs.Literals.{after_start}
use Rattle.ecma_lex.proofs.Alike.{code_here}
use Rattle.ecma_lex.proofs.Spelled.{Spelled, IsKey, stops, alone, key_spelled, key_standing, key_again}

pub record IsPrivate (w : List ℕ) : Type 0 where
  pub name : List ℕ
  pub is : w ≡ 35 ∷ name
  pub key : Spelled IsKey name

head_is : (l : List ℕ) (c : ℕ) → slice_get l 0 ≡ Some c → (ds : List ℕ) × (l ≡ c ∷ ds)
head_is [] c h = cc
head_is (x ∷ xs) c h = let e : x ≡ c = cc in (xs, rw e refl)

empty : (l : List ℕ) → length l ≡ 0 → l ≡ []
empty [] h = refl
empty (x ∷ l) h = absurd (omega arith)

pub private_parts : (w : List ℕ) → IsUtf8 w → priv_name_end w 0 ≡ Some (length w) → IsPrivate w
unfolding priv_name_end encode
private_parts w u h =
    let k = between w key_end (code_point 35 w 0) (length w) h in
    let f = code_here w 35 0 k.0 (omega arith) k.1 in
    let first : slice_get (chars w) 0 ≡ Some 35 = ap (λ l. slice_get l 0) (sym (after_start w u)) ∙ f.0 in
    let cs = head_is (chars w) 35 first in
    let is : w ≡ 35 ∷ encodes cs.0 = sym (encodes-chars w u) ∙ ap encodes cs.1 in
    let ends : key_end w 1 ≡ Some (length w) = subst (λ x. key_end w x ≡ Some (length w)) f.1 k.2 in
    let all : Stands w 0 (35 ∷ encodes cs.0) = subst (λ l. Stands w 0 l) (append-nil w ∙ is) (alone w) in
    let there : Stands w (0 + 1) (encodes cs.0) = past w (35 ∷ []) all in
    let t = key_standing w 1 (length w) u ends in
    let within = t.stands.within in
    let size = t.ends in
    let none : t.rest ≡ [] = empty t.rest (omega (arith, length-append (piece w 1 (length w)) t.rest)) in
    let tail : encodes cs.0 ≡ piece w 1 (length w) = sym there.rest ∙ t.stands.rest ∙ ap (λ l. piece w 1 (length w) ++ l) none ∙ append-nil (piece w 1 (length w)) in
    record { name = piece w 1 (length w); is = is ∙ ap (λ l. 35 ∷ l) tail; key = key_spelled w 1 (length w) u ends }

pub private_again : (text : List ℕ) (i : ℕ) (w v : List ℕ) → IsPrivate w → Stands text i (w ++ v) → Cut v → stops is_valid_continue (chars v) ≡ true → priv_name_end text i ≡ Some (i + length w)
unfolding priv_name_end
private_again text i w v p st c h =
    let n = p.name in
    let st1 : Stands text i (35 ∷ n ++ v) = subst (λ l. Stands text i (l ++ v)) p.is st in
    let e : after text i ≡ 35 ∷ chars (n ++ v) = after_here text i (35 ∷ n ++ v) st1 (cut_ascii 35 (n ++ v) (omega arith)) ∙ chars_ascii 35 (n ++ v) (omega arith) in
    let long : length w ≡ 1 + length n = ap length p.is ∙ omega arith in
    then_some text (code_point 35) key_end i (i + 1) (code_point_stands text 35 i (chars (n ++ v)) e) ∙ key_again text (i + 1) n v p.key (past text (35 ∷ []) st1) c h ∙ ap Some (omega arith)
