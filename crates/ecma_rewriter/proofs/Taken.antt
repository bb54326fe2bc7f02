-- Items that are taken out of a list one by one, each leaving another in its place: those from i on are still those of the whole.
use Rattle.std.proofs.Common.{◌≡◌, ◌∙◌, ℕ, zero, suc, ◌+◌, List, [], ◌∷◌, refl, sym, ap, Some, slice_get, set, drop, length, add-one, arith}
use Rattle.std.proofs.lemmas.List.{drop-set-lt, drop_all, length-set}
use Rattle.ecma_tree.proofs.Items.{drop-item}
use Rattle.ecma_tree.specs.declared.node.Node.{Node}

get-drop : (ns : List Node) (i : ℕ) → slice_get (drop i ns) 0 ≡ slice_get ns i
get-drop [] zero = refl
get-drop [] (suc i) = refl
get-drop (n ∷ ns) zero = refl
get-drop (n ∷ ns) (suc i) = get-drop ns i

abbrev tail : List Node → List Node
tail [] = []
tail (n ∷ ns) = ns

drop-tail : (ns : List Node) (i : ℕ) → drop (suc i) ns ≡ tail (drop i ns)
drop-tail [] zero = refl
drop-tail [] (suc i) = refl
drop-tail (n ∷ ns) zero = refl
drop-tail (n ∷ ns) (suc i) = drop-tail ns i

drop-more : (ns ms : List Node) (i : ℕ) → drop i ns ≡ drop i ms → drop (i + 1) ns ≡ drop (i + 1) ms
drop-more ns ms i same = rw add-one (drop-tail ns i ∙ ap tail same ∙ sym (drop-tail ms i))

pub record Taken (whole parts : List Node) (i : ℕ) : Type 0 where
  pub left : drop i parts ≡ drop i whole
  pub count : length parts ≡ length whole

pub taken-first : (whole : List Node) → Taken whole whole 0
taken-first whole = record { left = refl; count = refl }

-- the item at i is that of the whole
pub taken-part : (whole parts : List Node) (i : ℕ) (x : Node) → Taken whole parts i → slice_get parts i ≡ Some x → slice_get whole i ≡ Some x
taken-part whole parts i x so at = sym (get-drop whole i) ∙ ap (λ z. slice_get z 0) (sym so.left) ∙ get-drop parts i ∙ at

pub taken-next : (whole parts : List Node) (i : ℕ) (e : Node) → Taken whole parts i → Taken whole (set parts i e) (i + 1)
taken-next whole parts i e so = record {
  left = drop-set-lt (i + 1) parts i e (omega arith) ∙ drop-more parts whole i so.left;
  count = length-set parts i e ∙ so.count;
}

-- what is left begins with the item at i
pub taken-drop : (whole parts : List Node) (i : ℕ) (x : Node) → Taken whole parts i → slice_get parts i ≡ Some x → drop i whole ≡ x ∷ drop (i + 1) whole
taken-drop whole parts i x so at = drop-item whole i x (taken-part whole parts i x so at)

-- in the end nothing is left
pub taken-all : (whole parts : List Node) (i : ℕ) → Taken whole parts i → length parts ≡ i → drop i whole ≡ []
taken-all whole parts i so all = drop_all i whole (omega (arith, sym so.count ∙ all))
