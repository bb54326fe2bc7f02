-- What is made from the leaves up is the same of a tree with bound names.
use Rattle.std.proofs.Common.{◌≡◌, ◌∙◌, ℕ, suc, Bool, true, false, ◌&&◌, ◌||◌, List, [], ◌∷◌, map, Some, refl, sym, ap, ap₂, slice_get}
use Rattle.ecma_kind.specs.Sorts.{is_type_wrapper}
use Rattle.ecma_kind.specs.declared.kind.Kind.{Kind}
use Rattle.ecma_kind.specs.declared.kind.Kind.TheVariants as kind
use Rattle.ecma_tree.specs.declared.node.Node.{Node, Node-F, fold-Node, fold-roll-Node, fold_out-Node, out-Node}
use Rattle.ecma_tree.specs.Nodes.{absent}
use Rattle.ecma_tree.specs.Sorted.{is_absent}
use Rattle.ecma_rules.specs.Children.{kind_of}
use Rattle.ecma_rules.specs.Targets.{first_is, is_plain_target, is_simple_target, is_wrapper}
use Rattle.ecma_fits.specs.declared.role.Role.{Role}
use Rattle.ecma_fits.specs.declared.role.Role.TheVariants as role
use Rattle.ecma_fits.specs.Branches.{holds_at_last, last_part, takes_else, takes_else_step}
use Rattle.ecma_fits.specs.Chains.{goes_on, goes_on_step, is_link, keeps_chain}
use Rattle.ecma_fits.specs.Roles.{is_name, role_in}
use Rattle.ecma_bind.specs.Binding.{binds, bound_at, is_name_under_types, is_typed_name, names_step, under_types}
use Rattle.ecma_bind_fits.proofs.Alike.{Alike, Same, Six, quiet_usual, six_at, typed_parts}
use Rattle.ecma_bind_fits.proofs.Bound.{bound_each, by_children, children_of, typed_is, usual_is}

module _ {A : Type 0} (step : Node-F A → A) where
  abbrev folded : Node → A
  folded = fold-Node A step

  abbrev AllSame : Node → Type 0
  AllSame n = (r : Role) → folded (bound_at n r) ≡ folded n

  each_folded : (cs : List Node) (roles : ℕ → Role) → ((i : ℕ) (c : Node) → slice_get cs i ≡ Some c → folded (bound_at c (roles i)) ≡ folded c) → map (fold-Node A step) (bound_each roles cs) ≡ map (fold-Node A step) cs
  each_folded [] roles s = refl
  each_folded (c ∷ cs) roles s = ap₂ (λ a b. a ∷ b) (s 0 c refl) (each_folded cs (λ i. roles (suc i)) (λ i d at. s (suc i) d at))

  usual_folded : (n : Node) (r : Role) → is_typed_name r n ≡ false → folded (bound_at n r)
      ≡ step (record { span = (out-Node n).span; kind = kind_of n; children = map (fold-Node A step) (bound_each (role_in r (kind_of n)) (children_of n)) })
  usual_folded n r u =
      ap (fold-Node A step) (usual_is n r u)
      ∙ fold-roll-Node A step (record { span = (out-Node n).span; kind = kind_of n; children = bound_each (role_in r (kind_of n)) (children_of n) })

  pub fold_same : ((n : Node) (r : Role) → is_typed_name r n ≡ true → folded (bound_at n r) ≡ folded n) → (n : Node) (r : Role) → folded (bound_at n r) ≡ folded n
  fold_same typed = by_children AllSame (λ n below r. by n below r (is_typed_name r n) refl)
    where
      by : (n : Node) → ((i : ℕ) (c : Node) → slice_get (children_of n) i ≡ Some c → AllSame c) → (r : Role) (t : Bool) → is_typed_name r n ≡ t → folded (bound_at n r) ≡ folded n
      by n below r true e = typed n r e
      by n below r false e =
          usual_folded n r e
          ∙ ap (λ (z : List A). step (record { span = (out-Node n).span; kind = kind_of n; children = z })) (each_folded (children_of n) (role_in r (kind_of n)) (λ i c at. below i c at (role_in r (kind_of n) i)))
          ∙ sym (fold_out-Node A step n)

-- ---- what takes an `else`

else_false : (cs : List Bool) → Six Bool (λ k. is_absent k || holds_at_last cs (last_part k)) false
else_false cs = (refl, refl, refl, refl, refl, refl)

else_typed : (n : Node) (r : Role) → is_typed_name r n ≡ true → takes_else (bound_at n r) ≡ takes_else n
else_typed n r t =
    ap takes_else (typed_is n r t)
    ∙ fold-roll-Node Bool takes_else_step (record { span = (out-Node (under_types n)).span; kind = kind.BindingIdent; children = under_types n ∷ absent ∷ [] })
    ∙ sym (fold_out-Node Bool takes_else_step n ∙ six_at Bool (λ k. is_absent k || holds_at_last (map takes_else (children_of n)) (last_part k)) false (else_false (map takes_else (children_of n))) (kind_of n) (typed_parts n r t).1)

pub else_same : Same takes_else
else_same = fold_same takes_else_step else_typed

-- ---- what a chain goes on behind

names_by : (k : Kind) (a b : Bool) → (b ≡ true → a ≡ false) → (is_name k || (is_type_wrapper k && b)) ≡ true → (is_link k || (keeps_chain k && a)) ≡ false
names_by (kind.Ident sym ctxt optional) a b f h = refl
names_by kind.TsTypeAssertion a b f h = refl
names_by kind.TsConstAssertion a b f h = refl
names_by kind.TsNonNullExpr a b f h = f h
names_by kind.TsAsExpr a b f h = refl
names_by kind.TsInstantiation a b f h = f h
names_by kind.TsSatisfiesExpr a b f h = refl
names_by _ a b f h = cc

abbrev EndsChain : Node → Type 0
EndsChain n = is_name_under_types n ≡ true → goes_on n ≡ false

first_ends : (cs : List Node) → ((i : ℕ) (c : Node) → slice_get cs i ≡ Some c → EndsChain c) → first_is (map is_name_under_types cs) ≡ true → first_is (map goes_on cs) ≡ false
first_ends [] below h = refl
first_ends (c ∷ cs) below h = below 0 c refl h

names_end : (n : Node) → EndsChain n
names_end = by_children EndsChain (λ n below h.
    fold_out-Node Bool goes_on_step n
    ∙ names_by (kind_of n) (first_is (map goes_on (children_of n))) (first_is (map is_name_under_types (children_of n))) (first_ends (children_of n) below) (sym (fold_out-Node Bool names_step n) ∙ h))

goes_typed : (n : Node) (r : Role) → is_typed_name r n ≡ true → goes_on (bound_at n r) ≡ goes_on n
goes_typed n r t =
    ap goes_on (typed_is n r t)
    ∙ fold-roll-Node Bool goes_on_step (record { span = (out-Node (under_types n)).span; kind = kind.BindingIdent; children = under_types n ∷ absent ∷ [] })
    ∙ sym (names_end n (typed_parts n r t).2)

pub goes_same : Same goes_on
goes_same = fold_same goes_on_step goes_typed

-- ---- simple targets

wrapper_free : (k : Kind) (r : Role) → is_wrapper k ≡ true → role_in r k 0 ≡ role.Free
unfolding role_in
wrapper_free kind.ParenExpr r w = refl
wrapper_free kind.TsTypeAssertion r w = refl
wrapper_free kind.TsConstAssertion r w = refl
wrapper_free kind.TsNonNullExpr r w = refl
wrapper_free kind.TsAsExpr r w = refl
wrapper_free kind.TsInstantiation r w = refl
wrapper_free kind.TsSatisfiesExpr r w = refl
wrapper_free _ r w = cc

-- what is so by its kind, or by what stands first in it, where no name is bound
module _ (here through : Kind → Bool) (free : (k : Kind) (r : Role) → through k ≡ true → role_in r k 0 ≡ role.Free) where
  abbrev passed : Node-F Bool → Bool
  passed parts = here parts.kind || (through parts.kind && first_is parts.children)

  abbrev Passes : Node → Type 0
  Passes n = (r : Role) → is_typed_name r n ≡ false → fold-Node Bool passed (bound_at n r) ≡ fold-Node Bool passed n

  first_passes : (cs : List Node) (roles : ℕ → Role) → roles 0 ≡ role.Free → ((i : ℕ) (c : Node) → slice_get cs i ≡ Some c → Passes c) → first_is (map (fold-Node Bool passed) (bound_each roles cs)) ≡ first_is (map (fold-Node Bool passed) cs)
  first_passes [] roles e below = refl
  first_passes (c ∷ cs) roles e below = below 0 c refl (roles 0) (quiet_usual c (roles 0) (ap binds e))

  through_passes : (cs : List Node) (k : Kind) (r : Role) (w : Bool) → through k ≡ w → ((i : ℕ) (c : Node) → slice_get cs i ≡ Some c → Passes c)
      → (w && first_is (map (fold-Node Bool passed) (bound_each (role_in r k) cs))) ≡ (w && first_is (map (fold-Node Bool passed) cs))
  through_passes cs k r true e below = first_passes cs (role_in r k) (free k r e) below
  through_passes cs k r false e below = refl

  first_same : (n : Node) → Passes n
  first_same = by_children Passes (λ n below r u.
      usual_folded passed n r u
      ∙ ap (λ z. here (kind_of n) || z) (through_passes (children_of n) (kind_of n) r (through (kind_of n)) refl below)
      ∙ sym (fold_out-Node Bool passed n))

pub simple_same : Alike is_simple_target
simple_same = first_same is_plain_target is_wrapper wrapper_free

pub names_same : Alike is_name_under_types
names_same = first_same is_name is_type_wrapper (λ k r w. wrapper_free k r (six_at Bool is_wrapper true (refl, refl, refl, refl, refl, refl) k w))
