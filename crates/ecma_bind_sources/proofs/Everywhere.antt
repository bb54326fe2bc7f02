-- What holds of the kinds of all nodes of a tree, of a name that is bound and of what is missing, holds of them with bound names.
use Rattle.std.proofs.Common.{◌≡◌, ℕ, zero, suc, false, List, [], ◌∷◌, Some, refl, sym, subst, slice_get}
use Rattle.ecma_kind.specs.declared.kind.Kind.{Kind}
use Rattle.ecma_kind.specs.declared.kind.Kind.TheVariants as kind
use Rattle.ecma_tree.specs.declared.node.Node.{Node, out-Node}
use Rattle.ecma_tree.specs.Nodes.{absent}
use Rattle.ecma_rules.specs.Children.{kind_of}
use Rattle.ecma_rules.specs.Finishing.{binding}
use Rattle.ecma_text_leaves.specs.Everywhere.{Each, Everywhere, more, none}
use Rattle.ecma_text_leaves.proofs.Trees.{children_good, good_absent, good_node, kind_good}
use Rattle.ecma_fits.specs.declared.role.Role.{Role}
use Rattle.ecma_fits.specs.Roles.{role_in}
use Rattle.ecma_bind.specs.Binding.{bound_at, is_typed_name}
use Rattle.ecma_bind_fits.proofs.Bound.{bound_each, children_of, usual_is}
use Rattle.ecma_bind_fits.proofs.StayingItems.{bound_child}
use Rattle.ecma_bind_sources.proofs.Keeping.{bound_keeps}

module _ (P : Kind → Type 0) (bound : P kind.BindingIdent) (missing : P kind.Absent) where
  each_at : (cs : List Node) → Each P cs → (i : ℕ) (c : Node) → slice_get cs i ≡ Some c → Everywhere P c
  each_at [] none i c at = cc
  each_at (x ∷ xs) (more a h) zero c at = let same : x ≡ c = cc in subst (Everywhere P) same a
  each_at (x ∷ xs) (more a h) (suc i) c at = each_at xs h i c at

  each_of : (cs : List Node) → ((i : ℕ) (c : Node) → slice_get cs i ≡ Some c → Everywhere P c) → Each P cs
  each_of [] h = none
  each_of (c ∷ cs) h = more (h 0 c refl) (each_of cs (λ i d at. h (suc i) d at))

  down : (n : Node) → Everywhere P n → (i : ℕ) (c : Node) → slice_get (children_of n) i ≡ Some c → Everywhere P c
  down n h i c at = each_at (children_of n) (children_good P h) i c at

  named : (u : Node) → Everywhere P u → Everywhere P (binding u)
  named u h = good_node P (out-Node u).span kind.BindingIdent (u ∷ absent ∷ []) bound (more h (more (good_absent P missing) none))

  usual : (n : Node) (r : Role) → is_typed_name r n ≡ false → Everywhere P n → ((i : ℕ) (c : Node) → slice_get (children_of n) i ≡ Some c → Everywhere P c → (q : Role) → Everywhere P (bound_at c q)) → Everywhere P (bound_at n r)
  usual n r t h below =
      let roles = role_in r (kind_of n) in
      let each : (i : ℕ) (d : Node) → slice_get (bound_each roles (children_of n)) i ≡ Some d → Everywhere P d =
      λ i d at. (let f = bound_child (children_of n) roles i d at in subst (Everywhere P) f.2 (below i f.0 f.1 (down n h i f.0 f.1) (roles i))) in
      subst (Everywhere P) (sym (usual_is n r t))
      (good_node P (out-Node n).span (kind_of n) (bound_each roles (children_of n)) (kind_good P h) (each_of (bound_each roles (children_of n)) each))

  pub everywhere_bound : (n : Node) → Everywhere P n → (r : Role) → Everywhere P (bound_at n r)
  everywhere_bound = bound_keeps (Everywhere P) (λ n h wrapper. down n h) named usual
