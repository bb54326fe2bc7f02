-- The equations of binding, and of walks.
use Rattle.std.proofs.Common.{◌≡◌, ◌∙◌, ℕ, zero, suc, true, false, cond, List, [], ◌∷◌, map, Option, Some, None, sym, ap, ap₂, subst, slice_get}
use Rattle.ecma_tree.specs.declared.node.Node.{Node, Node-F, ind-Node, out-Node, roll-Node}
use Rattle.ecma_tree.specs.declared.node.Node.TheViews.{out-roll-Node}
use Rattle.ecma_tree.proofs.Layers.{from_leaves_out}
use Rattle.ecma_rules.specs.Children.{kind_of}
use Rattle.ecma_rules.specs.Failing.{failing_step, first_failing, least, least_from}
use Rattle.ecma_rules.specs.Finishing.{binding}
use Rattle.ecma_fits.specs.declared.role.Role.{Role}
use Rattle.ecma_fits.specs.Roles.{role_in}
use Rattle.ecma_strip_fits.proofs.Walk.{NoneTells, each_none, neither_least, none_from}
use Rattle.ecma_bind.specs.Binding.{bound_at, bound_step, each_at, is_typed_name, under_types, with_children}

abbrev pub children_of : Node → List Node
children_of n = (out-Node n).children

-- children, each bound for its role
abbrev pub bound_each : (ℕ → Role) → List Node → List Node
bound_each roles ns = each_at roles (map bound_at ns)

bound-out : (n : Node) (r : Role) → bound_at n r ≡ cond (is_typed_name r n) (binding (under_types n)) (with_children n (bound_each (role_in r (kind_of n)) (children_of n)))
bound-out n r = ap (λ f. f r) (from_leaves_out (Role → Node) bound_step n)

pub typed_is : (n : Node) (r : Role) → is_typed_name r n ≡ true → bound_at n r ≡ binding (under_types n)
typed_is n r t = bound-out n r ∙ ap (λ b. cond b (binding (under_types n)) (with_children n (bound_each (role_in r (kind_of n)) (children_of n)))) t

pub usual_is : (n : Node) (r : Role) → is_typed_name r n ≡ false → bound_at n r ≡ with_children n (bound_each (role_in r (kind_of n)) (children_of n))
usual_is n r t = bound-out n r ∙ ap (λ b. cond b (binding (under_types n)) (with_children n (bound_each (role_in r (kind_of n)) (children_of n)))) t

-- ---- walks

module _ (A : Type 0) (place : A → Node → Option ℕ) (inside : A → Node → ℕ → A) where
  abbrev pub first : Node → A → Option ℕ
  first = first_failing A place inside

  first-out : (n : Node) (a : A) → first n a ≡ least (place a n) (least_from A (inside a n) 0 (map first (children_of n)))
  first-out n a = ap (λ f. f a) (from_leaves_out (A → Option ℕ) (failing_step A place inside) n)

  pub parts_none : (n : Node) (a : A) → first n a ≡ None → (place a n ≡ None) × NoneTells A first (inside a n) (children_of n)
  parts_none n a h =
      let t = neither_least (place a n) (least_from A (inside a n) 0 (map first (children_of n))) (sym (first-out n a) ∙ h) in
      (t.0, each_none A first (children_of n) (inside a n) t.1)

  pub whole_none : (n : Node) (a : A) → place a n ≡ None → NoneTells A first (inside a n) (children_of n) → first n a ≡ None
  whole_none n a here below = first-out n a ∙ ap₂ least here (none_from A first (children_of n) (inside a n) below)

-- ---- induction over the nodes of a tree

module _ (P : Node → Type 0) (step : (n : Node) → ((i : ℕ) (c : Node) → slice_get (children_of n) i ≡ Some c → P c) → P n) where
  each : (es : List ((n : Node) × P n)) (i : ℕ) (c : Node) → slice_get (map (λ e. e.0) es) i ≡ Some c → P c
  each [] i c at = cc
  each (e ∷ es) zero c at = let same : e.0 ≡ c = cc in subst P same e.1
  each (e ∷ es) (suc i) c at = each es i c at

  pub by_children : (n : Node) → P n
  by_children = ind-Node P (λ x y is. step (roll-Node x) (λ i c at.
      each y.children i c (ap (λ (z : Node-F Node). slice_get z.children i) is ∙ (sym (ap (λ (z : Node-F Node). slice_get z.children i) (out-roll-Node x)) ∙ at))))
