-- Where no name is bound with a type round it, nothing changes.
use Rattle.std.proofs.Common.{◌≡◌, ◌∙◌, ℕ, suc, List, [], ◌∷◌, Option, Some, None, refl, ap, ap₂, slice_get}
use Rattle.ecma_tree.specs.declared.node.Node.{Node}
use Rattle.ecma_tree.specs.declared.node.Node.TheViews.{roll-out-Node}
use Rattle.ecma_rules.specs.Children.{kind_of}
use Rattle.ecma_rules.specs.Failing.{failing_here, first_failing}
use Rattle.ecma_fits.specs.declared.role.Role.{Role}
use Rattle.ecma_fits.specs.declared.unfit.Where.{Where}
use Rattle.ecma_fits.specs.Fitting.{at_top, where_in}
use Rattle.ecma_fits.specs.Roles.{role_in}
use Rattle.ecma_strip_fits.specs.Targets.{is_typed_target}
use Rattle.ecma_strip_fits.proofs.Strays.{not_failing}
use Rattle.ecma_bind.specs.Binding.{bound_at, with_children}
use Rattle.ecma_bind_fits.specs.Laws.{BoundNamesStay}
use Rattle.ecma_bind_fits.proofs.Bound.{bound_each, by_children, children_of, parts_none, usual_is}

abbrev typed_here : Where → Node → Option ℕ
typed_here w n = failing_here (is_typed_target w n) n

abbrev Stays : Node → Type 0
Stays n = (w : Where) → first_failing Where typed_here where_in n w ≡ None → bound_at n w.role ≡ n

each_stays : (cs : List Node) (roles : ℕ → Role) → ((i : ℕ) (c : Node) → slice_get cs i ≡ Some c → bound_at c (roles i) ≡ c) → bound_each roles cs ≡ cs
each_stays [] roles stays = refl
each_stays (c ∷ cs) roles stays = ap₂ (λ a b. a ∷ b) (stays 0 c refl) (each_stays cs (λ i. roles (suc i)) (λ i d at. stays (suc i) d at))

node_stays : (n : Node) → ((i : ℕ) (c : Node) → slice_get (children_of n) i ≡ Some c → Stays c) → Stays n
node_stays n below w h =
    let t = parts_none Where typed_here where_in n w h in
    usual_is n w.role (not_failing (is_typed_target w n) n t.0)
    ∙ (ap (with_children n) (each_stays (children_of n) (role_in w.role (kind_of n)) (λ i c at. below i c at (where_in w n i) (t.1 i c at)))
    ∙ roll-out-Node n)

pub names_stay : BoundNamesStay
names_stay tree h = by_children Stays node_stays tree at_top h
