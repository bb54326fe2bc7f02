-- What holds of each node, child by child.
use Rattle.std.proofs.Common.{◌≡◌, ◌∙◌, ◌↔◌, ℕ, zero, suc, ◌+◌, Bool, true, false, ◌&&◌, List, [], ◌∷◌, Some, drop, length, slice_get, refl, subst, sym, add-one}
use Rattle.std.specs.Prelude.{IsTrue}
use Rattle.std.proofs.lemmas.Bool.{and_parts}
use Rattle.ecma_kind.specs.declared.kind.Kind.{Kind}
use Rattle.ecma_tree.specs.declared.node.Node.{Node, out-Node}
use Rattle.ecma_tree.specs.declared.node.Node.TheViews.{roll-out-Node}
use Rattle.ecma_rules.proofs.Failures.{drop-none}
use Rattle.ecma_text_leaves.specs.Everywhere.{Each, Everywhere, everywhere, more, none}
use Rattle.ecma_text_leaves.proofs.Trees.{children_good, kind_good}

both_true : (a b : Bool) → a ≡ true → b ≡ true → (a && b) ≡ true
both_true true true h g = refl
both_true true false h g = cc
both_true false b h g = cc

module _ (P : Kind → Type 0) where
  abbrev pub Parts : Node → Type 0
  Parts n = P (out-Node n).kind × Each P (out-Node n).children

  pub everywhere_of : (n : Node) → Parts n → Everywhere P n
  everywhere_of n parts = subst (Everywhere P) (roll-out-Node n) (everywhere (out-Node n).span (out-Node n).kind parts.0 parts.1)

  first_of : {n : Node} {ns : List Node} → Each P (n ∷ ns) → Everywhere P n × Each P ns
  first_of (more e es) = (e, es)

  -- what is known of a node, and that the children from an index on are such
  abbrev pub Left : Bool → List Node → Type 0
  Left all nodes = IsTrue all × Each P nodes

  -- before the first child
  pub left-first : (n : Node) (all : Bool) → (IsTrue all ↔ P (out-Node n).kind) → Left all (out-Node n).children ↔ Everywhere P n
  left-first n all here = (λ l. everywhere_of n (here.0 l.0, l.1), λ e. (here.1 (kind_good P e), children_good P e))

  next_child : (cs : List Node) (i : ℕ) (x : Node) (all below : Bool) → slice_get cs i ≡ Some x → (IsTrue below ↔ Everywhere P x) → Left (all && below) (drop (suc i) cs) ↔ Left all (drop i cs)
  next_child [] i x all below at h = cc
  next_child (c ∷ cs) zero x all below at h =
      let same : c ≡ x = cc in (
        λ l. let b = and_parts all below l.0 in (b.0, more (subst (Everywhere P) (sym same) (h.0 b.1)) l.1),
        λ l. let e = first_of l.1 in (both_true all below l.0 (h.1 (subst (Everywhere P) same e.0)), e.1),
      )
  next_child (c ∷ cs) (suc i) x all below at h = next_child cs i x all below at h

  -- behind one more
  pub left-next : (n : Node) (i : ℕ) (x : Node) (all below next : Bool) → slice_get (out-Node n).children i ≡ Some x → (IsTrue below ↔ Everywhere P x) → next ≡ (all && below)
      → (Left all (drop i (out-Node n).children) ↔ Everywhere P n) → Left next (drop (i + 1) (out-Node n).children) ↔ Everywhere P n
  left-next n i x all below next at h both so_far =
      let one : Left (all && below) (drop (i + 1) (out-Node n).children) ↔ Left all (drop i (out-Node n).children) = rw add-one (next_child (out-Node n).children i x all below at h) in
      (λ l. so_far.0 (one.0 (sym both ∙ l.0, l.1)), λ e. let l = one.1 (so_far.1 e) in (both ∙ l.0, l.1))

  -- behind the last
  pub left-all : (n : Node) (i : ℕ) (all : Bool) → length (out-Node n).children ≡ i → (Left all (drop i (out-Node n).children) ↔ Everywhere P n) → IsTrue all ↔ Everywhere P n
  left-all n i all count so_far = (λ h. so_far.0 (h, subst (Each P) (sym (drop-none (out-Node n).children i count)) none), λ e. (so_far.1 e).0)
