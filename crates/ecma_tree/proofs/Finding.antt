-- The equations of `finds`, once for every search: it goes through the children by index.
use Rattle.std.proofs.Common.{◌≡◌, ℕ, ◌+◌, Bool, true, false, ◌||◌, ◌&&◌, List, map, drop, Some, refl, slice_get, length, ◌<◌, add-one}
use Rattle.ecma_kind.specs.declared.kind.Kind.{Kind}
use Rattle.ecma_tree.specs.Finding.{finds, finds_from}
use Rattle.ecma_tree.specs.declared.node.Node.{Node, out-Node}
use Rattle.ecma_tree.proofs.Items.{drop-item, item-within}

-- in the child at i, or in those behind it
finds_from-item : (entered : ℕ → Bool) (found : Node → Bool) (nodes : List Node) (i : ℕ) (x : Node) → slice_get nodes i ≡ Some x
    → finds_from entered i (map found (drop i nodes)) ≡ (entered i && found x) || finds_from entered (i + 1) (map found (drop (i + 1) nodes))
finds_from-item entered found nodes i x at = rw (add-one, drop-item nodes i x at, add-one) refl

and-false : (b : Bool) → b && false ≡ false
and-false true = refl
and-false false = refl

module _ (is_here : Kind → Bool) (enters : Kind → ℕ → Bool) where
  -- whether something is found in a child of the node from the one at i on
  abbrev pub finds_in_rest : Node → ℕ → Bool
  finds_in_rest n i = finds_from (enters (out-Node n).kind) i (map (finds is_here enters) (drop i (out-Node n).children))

  finds_in_rest-item : (n : Node) (i : ℕ) (x : Node) → slice_get (out-Node n).children i ≡ Some x → finds_in_rest n i ≡ (enters (out-Node n).kind i && finds is_here enters x) || finds_in_rest n (i + 1)
  finds_in_rest-item n = finds_from-item (enters (out-Node n).kind) (finds is_here enters) (out-Node n).children

  -- where the child at i is entered, and something is found in it
  pub finds_in_rest-found : (n : Node) (i : ℕ) (x : Node) → slice_get (out-Node n).children i ≡ Some x → enters (out-Node n).kind i ≡ true → finds is_here enters x ≡ true → finds_in_rest n i ≡ true
  finds_in_rest-found n i x at entered found = rw (finds_in_rest-item n i x at, entered, found) refl

  -- where nothing is found in the child at i
  pub finds_in_rest-missed : (n : Node) (i : ℕ) (x : Node) → slice_get (out-Node n).children i ≡ Some x → finds is_here enters x ≡ false → finds_in_rest n i ≡ finds_in_rest n (i + 1)
  finds_in_rest-missed n i x at missed = rw (finds_in_rest-item n i x at, missed, and-false (enters (out-Node n).kind i)) refl

  -- where the child at i is not entered
  pub finds_in_rest-passed : (n : Node) (i : ℕ) → i < length (out-Node n).children → enters (out-Node n).kind i ≡ false → finds_in_rest n i ≡ finds_in_rest n (i + 1)
  finds_in_rest-passed n i within passed =
      let child = item-within (out-Node n).children i within in
      rw (finds_in_rest-item n i child.0 child.1, passed) refl
