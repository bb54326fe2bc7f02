-- A tree whose names are being bound, child by child.
use Rattle.std.proofs.Common.{◌≡◌, ◌∙◌, ℕ, zero, suc, ◌+◌, true, false, cond, List, [], ◌∷◌, map, length, Some, refl, sym, ap, slice_get, set, add-one, arith}
use Rattle.ecma_tree.specs.declared.node.Node.{Node, Node-F, out-Node, roll-Node}
use Rattle.ecma_tree.specs.declared.node.Node.TheViews.{out-roll-Node}
use Rattle.ecma_tree.proofs.Layers.{from_leaves_out}
use Rattle.ecma_rules.specs.Children.{kind_of}
use Rattle.ecma_rules.specs.Finishing.{binding}
use Rattle.ecma_fits.specs.declared.role.Role.{Role}
use Rattle.ecma_fits.specs.Roles.{role_in}
use Rattle.ecma_bind.specs.Binding.{bound_at, bound_step, each_at, is_typed_name, under_types, with_children}

-- the first i of these nodes have their names bound
abbrev pub front_in : (ℕ → Role) → List Node → ℕ → List Node
front_in role_of nodes zero = nodes
front_in role_of [] (suc i) = []
front_in role_of (n ∷ ns) (suc i) = bound_at n (role_of 0) ∷ front_in (λ j. role_of (suc j)) ns i

front_in-at : (role_of : ℕ → Role) (nodes : List Node) (i : ℕ) (x : Node) → slice_get (front_in role_of nodes i) i ≡ Some x → slice_get nodes i ≡ Some x
front_in-at role_of nodes zero x at = at
front_in-at role_of [] (suc i) x at = at
front_in-at role_of (n ∷ ns) (suc i) x at = front_in-at (λ j. role_of (suc j)) ns i x at

front_in-set : (role_of : ℕ → Role) (nodes : List Node) (i : ℕ) (x : Node) → slice_get nodes i ≡ Some x
    → set (front_in role_of nodes i) i (bound_at x (role_of i)) ≡ front_in role_of nodes (suc i)
front_in-set role_of [] zero x at = cc
front_in-set role_of [] (suc i) x at = cc
front_in-set role_of (n ∷ ns) zero x at = let same : n ≡ x = cc in ap (λ z. bound_at z (role_of 0) ∷ ns) (sym same)
front_in-set role_of (n ∷ ns) (suc i) x at = ap (λ zs. bound_at n (role_of 0) ∷ zs) (front_in-set (λ j. role_of (suc j)) ns i x at)

front_in-all : (role_of : ℕ → Role) (nodes : List Node) (i : ℕ) → length nodes ≡ i → front_in role_of nodes i ≡ each_at role_of (map bound_at nodes)
front_in-all role_of [] zero all = refl
front_in-all role_of [] (suc i) all = refl
front_in-all role_of (n ∷ ns) zero all = cc
front_in-all role_of (n ∷ ns) (suc i) all = ap (λ zs. bound_at n (role_of 0) ∷ zs) (front_in-all (λ j. role_of (suc j)) ns i (omega (arith, all)))

front_in-length : (role_of : ℕ → Role) (nodes : List Node) (i : ℕ) → length (front_in role_of nodes i) ≡ length nodes
front_in-length role_of nodes zero = refl
front_in-length role_of [] (suc i) = refl
front_in-length role_of (n ∷ ns) (suc i) = ap suc (front_in-length (λ j. role_of (suc j)) ns i)

bound-out : (n : Node) (r : Role) → bound_at n r ≡ cond (is_typed_name r n) (binding (under_types n)) (with_children n (each_at (role_in r (kind_of n)) (map bound_at (out-Node n).children)))
bound-out n r = ap (λ f. f r) (from_leaves_out (Role → Node) bound_step n)

-- a name with a type round it is bound
pub bound-typed : (n : Node) (r : Role) → is_typed_name r n ≡ true → binding (under_types n) ≡ bound_at n r
bound-typed n r typed = sym (bound-out n r ∙ ap (λ b. cond b (binding (under_types n)) (with_children n (each_at (role_in r (kind_of n)) (map bound_at (out-Node n).children)))) typed)

module _ (r : Role) where
  abbrev pub front_parts : Node → ℕ → Node-F Node
  front_parts n i = record { span = (out-Node n).span; kind = (out-Node n).kind; children = front_in (role_in r (out-Node n).kind) (out-Node n).children i }

  -- the node with the names in its first i children bound
  abbrev pub front_bound : Node → ℕ → Node
  front_bound n i = roll-Node (front_parts n i)

  front-out : (n m : Node) (i : ℕ) → m ≡ front_bound n i → out-Node m ≡ front_parts n i
  front-out n m i is = ap out-Node is ∙ out-roll-Node (front_parts n i)

  -- there are as many children as before
  pub bound-count : (n m : Node) (i : ℕ) → m ≡ front_bound n i → length (out-Node m).children ≡ length (out-Node n).children
  bound-count n m i is = ap (λ z. length z.children) (front-out n m i is) ∙ front_in-length (role_in r (out-Node n).kind) (out-Node n).children i

  -- the child at i is the old one
  pub bound-at : (n m : Node) (i : ℕ) (x : Node) → m ≡ front_bound n i → slice_get (out-Node m).children i ≡ Some x → slice_get (out-Node n).children i ≡ Some x
  bound-at n m i x is at = front_in-at (role_in r (out-Node n).kind) (out-Node n).children i x (sym (ap (λ z. slice_get z.children i) (front-out n m i is)) ∙ at)

  -- once the names in the child at i are bound too, those in one more are
  pub set-bound : (n m : Node) (i : ℕ) (x y : Node) → m ≡ front_bound n i → slice_get (out-Node m).children i ≡ Some x → y ≡ bound_at x (role_in r (out-Node m).kind i)
      → roll-Node (record { span = (out-Node m).span; kind = (out-Node m).kind; children = set (out-Node m).children i y }) ≡ front_bound n (i + 1)
  set-bound n m i x y is at done =
      let parts : out-Node m ≡ front_parts n i = front-out n m i is in
      let was : slice_get (out-Node n).children i ≡ Some x = bound-at n m i x is at in
      rw (done, parts, add-one, front_in-set (role_in r (out-Node n).kind) (out-Node n).children i x was) refl

  -- with the names in all children bound, it is the tree with bound names
  pub bound-all : (n m : Node) (i : ℕ) → is_typed_name r n ≡ false → m ≡ front_bound n i → length (out-Node n).children ≡ i → m ≡ bound_at n r
  bound-all n m i usual is all =
      is ∙ ap (with_children n) (front_in-all (role_in r (out-Node n).kind) (out-Node n).children i all)
      ∙ sym (bound-out n r ∙ ap (λ b. cond b (binding (under_types n)) (with_children n (each_at (role_in r (kind_of n)) (map bound_at (out-Node n).children)))) usual)
