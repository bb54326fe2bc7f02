-- The equations of what is gathered down a tree, once for every walk: the node itself, then its children by index.
use Rattle.std.proofs.Common.{◌≡◌, ℕ, zero, suc, ◌+◌, List, [], ◌∷◌, ◌++◌, map, drop, length, Some, refl, sym, ap, ◌∙◌, slice_get, add-one, append_assoc, arith}
use Rattle.ecma_tree.specs.declared.node.Node.{Node, out-Node}
use Rattle.ecma_tree.proofs.Items.{drop-item}
use Rattle.ecma_tree.proofs.Layers.{from_leaves_out}
use Rattle.ecma_hygiene.specs.Walks.{gather_step, gathered_down, gathered_from}

pub drop-none : {X : Type 0} → (xs : List X) (i : ℕ) → length xs ≡ i → drop i xs ≡ []
drop-none [] zero all = refl
drop-none [] (suc i) all = refl
drop-none (x ∷ xs) zero all = cc
drop-none (x ∷ xs) (suc i) all = drop-none xs i (omega (arith, all))

pub append-none : {X : Type 0} → (xs : List X) → xs ++ [] ≡ xs
append-none [] = refl
append-none (x ∷ xs) = ap (λ z. x ∷ z) (append-none xs)

module _ (S A : Type 0) (here : S → Node → List A) (into : S → Node → ℕ → S) where
  abbrev pub gathered : Node → S → List A
  gathered = gathered_down S A here into

  module _ (around : ℕ → S) (n : Node) where
    -- what the children from the one at i on give
    abbrev pub rest : ℕ → List A
    rest i = gathered_from S A around i (map gathered (drop i (out-Node n).children))

    pub rest-next : (i : ℕ) (x : Node) → slice_get (out-Node n).children i ≡ Some x → rest i ≡ gathered x (around i) ++ rest (i + 1)
    rest-next i x at = rw (add-one, drop-item (out-Node n).children i x at, add-one) refl

    -- one child more is done
    pub next : (now more all : List A) (i : ℕ) (x : Node) → slice_get (out-Node n).children i ≡ Some x → now ++ rest i ≡ all → more ≡ now ++ gathered x (around i) → more ++ rest (i + 1) ≡ all
    next now more all i x at so_far is =
        ap (λ z. z ++ rest (i + 1)) is ∙ append_assoc now (gathered x (around i)) (rest (i + 1)) ∙ ap (λ z. now ++ z) (sym (rest-next i x at)) ∙ so_far

    -- in the end all are
    pub all_done : (now all : List A) (i : ℕ) → length (out-Node n).children ≡ i → now ++ rest i ≡ all → now ≡ all
    all_done now all i done so_far =
        sym (append-none now) ∙ ap (λ (z : List Node). now ++ gathered_from S A around i (map gathered z)) (sym (drop-none (out-Node n).children i done)) ∙ so_far

  pub gathered-out : (n : Node) (s : S) → gathered n s ≡ here s n ++ rest (into s n) n 0
  gathered-out n s = ap (λ f. f s) (from_leaves_out (S → List A) (gather_step S A here into) n)

  -- with what the node itself gives, the children are left
  pub first : (n : Node) (s : S) (old new : List A) → new ≡ old ++ here s n → new ++ rest (into s n) n 0 ≡ old ++ gathered n s
  first n s old new is =
      ap (λ z. z ++ rest (into s n) n 0) is ∙ append_assoc old (here s n) (rest (into s n) n 0) ∙ ap (λ z. old ++ z) (sym (gathered-out n s))
