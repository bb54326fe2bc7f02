-- Walks that tell nothing, one from others.
use Rattle.std.proofs.Common.{◌≡◌, ◌∙◌, ℕ, suc, Bool, false, ◌||◌, List, [], ◌∷◌, map, Option, None, refl, sym, ap, ap₂}
use Rattle.std.proofs.lemmas.Bool.{or_from}
use Rattle.ecma_tree.specs.declared.node.Node.{Node}
use Rattle.ecma_tree.proofs.Layers.{from_leaves_out}
use Rattle.ecma_rules.specs.Failing.{failing_here, failing_step, first_failing, least, least_from}
use Rattle.ecma_fits.specs.declared.unfit.Where.{Where}
use Rattle.ecma_fits.specs.Fitting.{at_top, where_in, NoneFails}
use Rattle.ecma_hygiene_fits.proofs.Everywhere.{Each, children_of, everywhere}
use Rattle.ecma_hygiene_fits.proofs.Walk.{neither_least, not_failing}

module _ (A : Type 0) (inside : A → Node → ℕ → A) where
  abbrev pub first : (A → Node → Option ℕ) → Node → A → Option ℕ
  first place = first_failing A place inside

  pub first-out : (place : A → Node → Option ℕ) (n : Node) (a : A) → first place n a ≡ least (place a n) (least_from A (inside a n) 0 (map (first place) (children_of n)))
  first-out place n a = ap (λ f. f a) (from_leaves_out (A → Option ℕ) (failing_step A place inside) n)

  -- where two walks tell nothing, one tells nothing that tells nothing of a node of which neither does
  module _ (p q r : A → Node → Option ℕ) (joins : (a : A) (n : Node) → p a n ≡ None → q a n ≡ None → r a n ≡ None) where
    abbrev Joined : Node → Type 0
    Joined n = (a : A) → first_failing A p inside n a ≡ None → first_failing A q inside n a ≡ None → first_failing A r inside n a ≡ None

    all_joined : (cs : List Node) → Each Joined cs → (around : ℕ → A) (i : ℕ) → least_from A around i (map (first p) cs) ≡ None → least_from A around i (map (first q) cs) ≡ None → least_from A around i (map (first r) cs) ≡ None
    all_joined [] e around i h g = refl
    all_joined (c ∷ cs) e around i h g =
        let s = neither_least (first p c (around i)) (least_from A around (suc i) (map (first p) cs)) h in
        let t = neither_least (first q c (around i)) (least_from A around (suc i) (map (first q) cs)) g in
        ap₂ least (e.0 (around i) s.0 t.0) (all_joined cs e.1 around (suc i) s.1 t.1)

    node_joined : (n : Node) → Each Joined (children_of n) → Joined n
    node_joined n below a h g =
        let s = neither_least (p a n) (least_from A (inside a n) 0 (map (first p) (children_of n))) (sym (first-out p n a) ∙ h) in
        let t = neither_least (q a n) (least_from A (inside a n) 0 (map (first q) (children_of n))) (sym (first-out q n a) ∙ g) in
        first-out r n a ∙ ap₂ least (joins a n s.0 t.0) (all_joined (children_of n) below (inside a n) 0 s.1 t.1)

    pub joined : (n : Node) (a : A) → first_failing A p inside n a ≡ None → first_failing A q inside n a ≡ None → first_failing A r inside n a ≡ None
    joined = everywhere Joined node_joined

-- neither of two tests fails
pub both_kept : (f g : Where → Node → Bool) (tree : Node) → NoneFails f tree → NoneFails g tree → NoneFails (λ w n. f w n || g w n) tree
both_kept f g tree =
    joined Where where_in (λ w n. failing_here (f w n) n) (λ w n. failing_here (g w n) n) (λ w n. failing_here (f w n || g w n) n)
    (λ w n a b. ap (λ z. failing_here z n) (or_from (f w n) (g w n) (not_failing (f w n) n a) (not_failing (g w n) n b))) tree at_top

-- nor one that fails only where one fails that does not
pub weaker_kept : (f g : Where → Node → Bool) → ((w : Where) (n : Node) → f w n ≡ false → g w n ≡ false) → (tree : Node) → NoneFails f tree → NoneFails g tree
weaker_kept f g weaker tree h =
    joined Where where_in (λ w n. failing_here (f w n) n) (λ w n. failing_here (f w n) n) (λ w n. failing_here (g w n) n)
    (λ w n a b. ap (λ z. failing_here z n) (weaker w n (not_failing (f w n) n a))) tree at_top h h
