-- What goes from a node to what stands under types, and from children with bound names to the node with bound names, goes to the tree with bound names.
use Rattle.std.proofs.Common.{◌≡◌, ℕ, Bool, true, false, cond, List, [], ◌∷◌, map, Some, refl, sym, subst, slice_get}
use Rattle.ecma_kind.specs.Sorts.{is_type_wrapper}
use Rattle.ecma_tree.specs.declared.node.Node.{Node}
use Rattle.ecma_rules.specs.Children.{kind_of}
use Rattle.ecma_rules.specs.Finishing.{binding}
use Rattle.ecma_fits.specs.declared.role.Role.{Role}
use Rattle.ecma_bind.specs.Binding.{bound_at, first_or, is_typed_name, under_types}
use Rattle.ecma_bind_fits.proofs.Bound.{by_children, children_of, typed_is}
use Rattle.ecma_bind_fits.proofs.Names.{under-out}

module _ (P : Node → Type 0) (inner : (n : Node) → P n → is_type_wrapper (kind_of n) ≡ true → (i : ℕ) (c : Node) → slice_get (children_of n) i ≡ Some c → P c) where
  abbrev Under : Node → Type 0
  Under n = P n → P (under_types n)

  first_keeps : (n : Node) (cs : List Node) → P n → ((i : ℕ) (c : Node) → slice_get cs i ≡ Some c → P (under_types c)) → P (first_or n (map under_types cs))
  first_keeps n [] p below = p
  first_keeps n (c ∷ cs) p below = below 0 c refl

  either : (b : Bool) (m n : Node) → (b ≡ true → P m) → P n → P (cond b m n)
  either true m n p q = p refl
  either false m n p q = q

  under_keeps : (n : Node) → Under n
  under_keeps = by_children Under (λ n below p.
      subst P (sym (under-out n))
      (either (is_type_wrapper (kind_of n)) (first_or n (map under_types (children_of n))) n (λ w. first_keeps n (children_of n) p (λ i c at. below i c at (inner n p w i c at))) p))

  -- where a name that is bound has it, and any other node where each child that has it keeps it
  module _ (named : (u : Node) → P u → P (binding u))
      (usual : (n : Node) (r : Role) → is_typed_name r n ≡ false → P n → ((i : ℕ) (c : Node) → slice_get (children_of n) i ≡ Some c → P c → (q : Role) → P (bound_at c q)) → P (bound_at n r)) where
    abbrev Keeps : Node → Type 0
    Keeps n = P n → (r : Role) → P (bound_at n r)

    pub bound_keeps : (n : Node) → Keeps n
    bound_keeps = by_children Keeps (λ n below p r. by n below p r (is_typed_name r n) refl)
      where
        by : (n : Node) → ((i : ℕ) (c : Node) → slice_get (children_of n) i ≡ Some c → Keeps c) → P n → (r : Role) (t : Bool) → is_typed_name r n ≡ t → P (bound_at n r)
        by n below p r true t = subst P (sym (typed_is n r t)) (named (under_types n) (under_keeps n p))
        by n below p r false t = usual n r t p below
