-- A walk over a tree with parentheses added tells nothing where one over the tree tells nothing.
use Rattle.std.proofs.Common.{◌≡◌, ◌∙◌, ℕ, zero, suc, List, [], ◌∷◌, map, Option, Some, None, refl, sym, ap, ap₂, subst}
use Rattle.ecma_kind.specs.declared.kind.Kind.{Kind}
use Rattle.ecma_tree.specs.declared.node.Node.{Node, out-Node}
use Rattle.ecma_tree.proofs.Layers.{from_leaves_out}
use Rattle.ecma_rules.specs.Children.{kind_of}
use Rattle.ecma_rules.specs.Failing.{failing_step, first_failing, least, least_from}
use Rattle.ecma_strip_fits.proofs.Walk.{neither_least}
use Rattle.ecma_enclose.specs.Enclosing.{in_parentheses}
use Rattle.ecma_enclose_fits.proofs.Adding.{Adds, All, Alone, Below, adds, children_of, every, first, more, none}

module _ (A : Type 0) (place : A → Node → Option ℕ) (inside : A → Node → ℕ → A) where
  abbrev pub walk : Node → A → Option ℕ
  walk = first_failing A place inside

  walk-out : (n : Node) (x : A) → walk n x ≡ least (place x n) (least_from A (inside x n) 0 (map walk (children_of n)))
  walk-out n x = ap (λ f. f x) (from_leaves_out (A → Option ℕ) (failing_step A place inside) n)

  module _ (place_same : (x : A) (a b : Node) → Adds a b → place x b ≡ place x a) (inside_same : (x : A) (i : ℕ) (a b : Node) → Adds a b → inside x b i ≡ inside x a i)
      (closed : (x : A) (n e : Node) → Alone (kind_of n) e → walk e (inside x n 0) ≡ None → walk (in_parentheses e) (inside x n 0) ≡ None) where
    mutual
      pub walk_kept : {a b : Node} → Adds a b → (x : A) → walk a x ≡ None → walk b x ≡ None
      walk_kept {a} {b} (adds s k at below) x h =
          let t = neither_least (place x a) (least_from A (inside x a) 0 (map walk (children_of a))) (sym (walk-out a x) ∙ h) in
          walk-out b x ∙ ap₂ least (place_same x a b (adds s k at below) ∙ t.0)
          (below_kept x a (kind_of a) refl below (inside x b) (λ i. inside_same x i a b (adds s k at below)) t.1)

      below_kept : (x : A) (a : Node) (k : Kind) → kind_of a ≡ k → {ns ms : List Node} → Below k ns ms → (other : ℕ → A) → ((i : ℕ) → other i ≡ inside x a i)
          → least_from A (inside x a) 0 (map walk ns) ≡ None → least_from A other 0 (map walk ms) ≡ None
      below_kept x a k e (every all) other same h = all_kept all (inside x a) other same 0 h
      below_kept x a k e (first c {ns} {ms} alone all) other same h =
          let t = neither_least (walk c (inside x a 0)) (least_from A (inside x a) 1 (map walk ns)) h in
          ap₂ least (ap (walk (in_parentheses c)) (same 0) ∙ closed x a c (subst (λ z. Alone z c) (sym e) alone) t.0) (all_kept all (inside x a) other same 1 t.1)

      all_kept : {ns ms : List Node} → All ns ms → (around other : ℕ → A) → ((i : ℕ) → other i ≡ around i) → (i : ℕ)
          → least_from A around i (map walk ns) ≡ None → least_from A other i (map walk ms) ≡ None
      all_kept none around other same i h = refl
      all_kept (more {n} {m} {ns} {ms} r all) around other same i h =
          let t = neither_least (walk n (around i)) (least_from A around (suc i) (map walk ns)) h in
          ap₂ least (ap (walk m) (same i) ∙ walk_kept r (around i) t.0) (all_kept all around other same (suc i) t.1)
