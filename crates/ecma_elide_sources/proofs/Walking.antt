-- A walk that tells nothing tells nothing of any node below; and a test that no node fails, whatever stands around it.
use Rattle.std.proofs.Common.{◌≡◌, ◌∙◌, ℕ, zero, suc, Bool, false, List, [], ◌∷◌, map, Option, Some, None, refl, sym, ap, ap₂, slice_get}
use Rattle.ecma_tree.specs.declared.node.Node.{Node}
use Rattle.ecma_tree.proofs.Layers.{from_leaves_out}
use Rattle.ecma_rules.specs.Failing.{failing_here, failing_step, first_failing, least, least_from}
use Rattle.ecma_fits.specs.declared.unfit.Where.{Where}
use Rattle.ecma_fits.specs.Fitting.{NoneFails, at_top, where_in}
use Rattle.ecma_fits.proofs.Walks.{neither_least, not_failing, shifted}
use Rattle.ecma_elide_fits.specs.Dropping.{Dropping}
use Rattle.ecma_elide_fits.proofs.Dropped.{below, induct}
use Rattle.ecma_elide_sources.proofs.Thin.{Thin, child_before}

module _ (A : Type 0) (place : A → Node → Option ℕ) (inside : A → Node → ℕ → A) where
  abbrev first : Node → A → Option ℕ
  first = first_failing A place inside

  abbrev pub NoneBelow : (ℕ → A) → List Node → Type 0
  NoneBelow around ns = (i : ℕ) (c : Node) → slice_get ns i ≡ Some c → first c (around i) ≡ None

  first_out : (n : Node) (a : A) → first n a ≡ least (place a n) (least_from A (inside a n) 0 (map first (below n)))
  first_out n a = ap (λ f. f a) (from_leaves_out (A → Option ℕ) (failing_step A place inside) n)

  none_each : (ns : List Node) (around : ℕ → A) → least_from A around 0 (map first ns) ≡ None → NoneBelow around ns
  none_each [] around h i c at = cc
  none_each (n ∷ ns) around h zero c at =
      let same : n ≡ c = cc in
      ap (λ z. first z (around 0)) (sym same) ∙ (neither_least (first n (around 0)) (least_from A around 1 (map first ns)) h).0
  none_each (n ∷ ns) around h (suc i) c at =
      none_each ns (λ j. around (suc j)) (sym (shifted A around 0 (map first ns)) ∙ (neither_least (first n (around 0)) (least_from A around 1 (map first ns)) h).1) i c at

  none_from : (ns : List Node) (around : ℕ → A) → NoneBelow around ns → least_from A around 0 (map first ns) ≡ None
  none_from [] around h = refl
  none_from (n ∷ ns) around h = ap₂ least (h 0 n refl) (shifted A around 0 (map first ns) ∙ none_from ns (λ j. around (suc j)) (λ i. h (suc i)))

  pub parts_none : (n : Node) (a : A) → first n a ≡ None → (place a n ≡ None) × NoneBelow (inside a n) (below n)
  parts_none n a h =
      let v = neither_least (place a n) (least_from A (inside a n) 0 (map first (below n))) (sym (first_out n a) ∙ h) in
      (v.0, none_each (below n) (inside a n) v.1)

  pub whole_none : (n : Node) (a : A) → place a n ≡ None → NoneBelow (inside a n) (below n) → first n a ≡ None
  whole_none n a here below_none = first_out n a ∙ ap₂ least here (none_from (below n) (inside a n) below_none)

abbrev pub telling : (Node → Bool) → Where → Node → Option ℕ
telling test w node = failing_here (test node) node

abbrev pub Passes : (Node → Bool) → Node → Where → Type 0
Passes test n w = first_failing Where (telling test) where_in n w ≡ None

pub passes_here : (test : Node → Bool) (n : Node) (w : Where) → Passes test n w → test n ≡ false
passes_here test n w h = not_failing (test n) n (parts_none Where (telling test) where_in n w h).0

pub passes_below : (test : Node → Bool) (n : Node) (w : Where) → Passes test n w → (i : ℕ) (c : Node) → slice_get (below n) i ≡ Some c → Passes test c (where_in w n i)
passes_below test n w h = (parts_none Where (telling test) where_in n w h).1

module _ {S : Type 0} (d : Dropping S) (test : Node → Bool) (kept : (a b : Node) → Thin d a b → test b ≡ false → test a ≡ false) where
  abbrev Kept : Node → Type 0
  Kept b = (w : Where) → Passes test b w → (a : Node) → Thin d a b → (v : Where) → Passes test a v

  node_kept : (b : Node) → ((i : ℕ) (c : Node) → slice_get (below b) i ≡ Some c → Kept c) → Kept b
  node_kept b below_kept w h a t v =
      whole_none Where (telling test) where_in a v (ap (λ z. failing_here z a) (kept a b t (passes_here test b w h)))
      (λ j c at. let m = child_before d a b t j c at in below_kept m.0 m.1 m.2 (where_in w b m.0) (passes_below test b w h m.0 m.1 m.2) c m.3 (where_in v a j))

  all_kept : (b : Node) → Kept b
  all_kept = induct Kept node_kept

  pub none_fails_then : (a b : Node) → Thin d a b → NoneFails (λ w node. test node) b → NoneFails (λ w node. test node) a
  none_fails_then a b t h = all_kept b at_top h a t at_top
