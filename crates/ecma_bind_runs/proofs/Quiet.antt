-- Where a node stands matters to its bound names in what is assigned to alone.
use Rattle.std.proofs.Common.{◌≡◌, ◌∙◌, ◌⊎◌, inl, inr, ℕ, suc, Bool, true, false, ◌==◌, cond, List, [], ◌∷◌, Some, refl, sym, ap, ap₂, slice_get}
use Rattle.ecma_kind.specs.declared.kind.Kind.{Kind}
use Rattle.ecma_kind.specs.declared.kind.Kind.TheVariants as kind
use Rattle.ecma_tree.specs.declared.node.Node.{Node}
use Rattle.ecma_rules.specs.Children.{kind_of}
use Rattle.ecma_fits.specs.declared.role.Role.{Role}
use Rattle.ecma_fits.specs.declared.role.Role.TheVariants as role
use Rattle.ecma_fits.specs.Roles.{bound_name_of, by, in_default, in_list, in_rest, in_template, is_assigned, role_in}
use Rattle.ecma_bind.specs.Binding.{binds, bound_at, with_children}
use Rattle.ecma_bind_fits.proofs.Alike.{quiet_usual}
use Rattle.ecma_bind_fits.proofs.Bound.{bound_each, by_children, children_of, usual_is}

-- what is assigned to, or a part of it
abbrev pub assigns : Role → Bool
assigns role.Left = true
assigns role.Head = true
assigns role.Assigned = true
assigns role.AssignedValue = true
assigns role.AssignedElement = true
assigns role.AssignedElements = true
assigns role.AssignedProperty = true
assigns role.AssignedProperties = true
assigns role.AssignedName = true
assigns _ = false

abbrev pub Quiet : Role → Type 0
Quiet r = assigns r ≡ false

pub quiet_binds : (r : Role) → Quiet r → binds r ≡ false
quiet_binds role.Head q = cc
quiet_binds role.Assigned q = cc
quiet_binds role.AssignedValue q = cc
quiet_binds role.AssignedElement q = cc
quiet_binds role.AssignedName q = cc
quiet_binds _ q = refl

quiet_assigned : (r : Role) → Quiet r → is_assigned r ≡ false
quiet_assigned role.Left q = cc
quiet_assigned role.Head q = cc
quiet_assigned role.Assigned q = cc
quiet_assigned role.AssignedValue q = cc
quiet_assigned role.AssignedElement q = cc
quiet_assigned role.AssignedProperty q = cc
quiet_assigned role.AssignedName q = cc
quiet_assigned _ q = refl

pub quiet_either : (b : Bool) (x y : Role) → Quiet x → Quiet y → Quiet (cond b x y)
quiet_either true x y q p = q
quiet_either false x y q p = p

pub quiet_by : (r x y : Role) → Quiet r → Quiet y → Quiet (by r x y)
quiet_by r x y q p = ap (λ b. assigns (cond b x y)) (quiet_assigned r q) ∙ p

quiet_list : (r : Role) → Quiet r → Quiet (in_list r)
quiet_list role.AssignedElements q = cc
quiet_list role.AssignedProperties q = cc
quiet_list _ q = refl

quiet_rest : (r : Role) → Quiet r → Quiet (in_rest r)
quiet_rest role.AssignedProperty q = cc
quiet_rest role.DeclaredProperty q = refl
quiet_rest r q = go r q (quiet_by r role.Assigned role.Declared q refl)
  where
    go : (r : Role) → Quiet r → Quiet (by r role.Assigned role.Declared) → Quiet (in_rest r)
    go role.AssignedProperty q h = cc
    go role.DeclaredProperty q h = refl
    go _ q h = h

quiet_default : (r : Role) → Quiet r → Quiet (in_default r)
quiet_default r q = go r (quiet_by r role.Assigned role.Declared q refl)
  where
    go : (r : Role) → Quiet (by r role.Assigned role.Declared) → Quiet (in_default r)
    go role.Parameter h = refl
    go _ h = h

quiet_name : (r : Role) → Quiet (bound_name_of r)
quiet_name role.Parameter = refl
quiet_name _ = refl

quiet_template : (r : Role) → Quiet (in_template r)
quiet_template role.Tagged = refl
quiet_template _ = refl

-- a type, which what is assigned to has not
pub quiet_type : (r : Role) → Quiet (by r role.Nothing role.Free)
quiet_type r = quiet_either (is_assigned r) role.Nothing role.Free refl refl

-- lists, patterns and their parts: what is assigned to is handed on in them
abbrev pub hands_on : Kind → Bool
hands_on kind.List = true
hands_on (kind.ArrayPat optional) = true
hands_on (kind.ObjectPat optional) = true
hands_on kind.RestPat = true
hands_on kind.AssignPat = true
hands_on kind.KeyValuePatProp = true
hands_on kind.AssignPatProp = true
hands_on _ = false

pub quiet_in : (k : Kind) → hands_on k ≡ true → (r : Role) → Quiet r → (i : ℕ) → Quiet (role_in r k i)
unfolding role_in
quiet_in kind.List h r q i = quiet_list r q
quiet_in (kind.ArrayPat optional) h r q i = quiet_either (i == 0) (by r role.AssignedElements role.DeclaredElements) (by r role.Nothing role.Free) (quiet_by r role.AssignedElements role.DeclaredElements q refl) (quiet_type r)
quiet_in (kind.ObjectPat optional) h r q i = quiet_either (i == 0) (by r role.AssignedProperties role.DeclaredProperties) (by r role.Nothing role.Free) (quiet_by r role.AssignedProperties role.DeclaredProperties q refl) (quiet_type r)
quiet_in kind.RestPat h r q i = quiet_either (i == 0) (in_rest r) (by r role.Nothing role.Free) (quiet_rest r q) (quiet_type r)
quiet_in kind.AssignPat h r q i = quiet_either (i == 0) (in_default r) role.Free (quiet_default r q) refl
quiet_in kind.KeyValuePatProp h r q i = quiet_either (i == 1) (by r role.AssignedValue role.DeclaredValue) role.Free (quiet_by r role.AssignedValue role.DeclaredValue q refl) refl
quiet_in kind.AssignPatProp h r q i = quiet_either (i == 0) (by r role.AssignedName role.DeclaredName) role.Free (quiet_by r role.AssignedName role.DeclaredName q refl) refl
quiet_in _ h r q i = cc

-- the same role, or two in which nothing is assigned to
abbrev pub AsGood : Role → Role → Type 0
AsGood a b = (a ≡ b) ⊎ (Quiet a × Quiet b)

pub as_good : (k : Kind) → hands_on k ≡ false → (a b : Role) (i : ℕ) → AsGood (role_in a k i) (role_in b k i)
unfolding role_in
as_good kind.List h a b i = cc
as_good (kind.ArrayPat optional) h a b i = cc
as_good (kind.ObjectPat optional) h a b i = cc
as_good kind.RestPat h a b i = cc
as_good kind.AssignPat h a b i = cc
as_good kind.KeyValuePatProp h a b i = cc
as_good kind.AssignPatProp h a b i = cc
as_good kind.BindingIdent h a b i =
    inr (quiet_either (i == 0) (bound_name_of a) (by a role.Nothing role.Free) (quiet_name a) (quiet_type a), quiet_either (i == 0) (bound_name_of b) (by b role.Nothing role.Free) (quiet_name b) (quiet_type b))
as_good kind.Tpl h a b i = inr (quiet_either (i == 1) (in_template a) role.Free (quiet_template a) refl, quiet_either (i == 1) (in_template b) role.Free (quiet_template b) refl)
as_good _ h a b i = inl refl

pub each_bound : (cs : List Node) (at_a at_b : ℕ → Role) → ((i : ℕ) (c : Node) → slice_get cs i ≡ Some c → bound_at c (at_a i) ≡ bound_at c (at_b i)) → bound_each at_a cs ≡ bound_each at_b cs
each_bound [] at_a at_b same = refl
each_bound (c ∷ cs) at_a at_b same = ap₂ (λ x xs. x ∷ xs) (same 0 c refl) (each_bound cs (λ i. at_a (suc i)) (λ i. at_b (suc i)) (λ i d at. same (suc i) d at))

abbrev Still : Node → Type 0
Still n = (a b : Role) → Quiet a → Quiet b → bound_at n a ≡ bound_at n b

as_good_still : (n : Node) → Still n → (a b : Role) → AsGood a b → bound_at n a ≡ bound_at n b
as_good_still n s a b (inl same) = ap (bound_at n) same
as_good_still n s a b (inr q) = s a b q.0 q.1

still : (n : Node) → Still n
still = by_children Still (λ n below a b p q.
    usual_is n a (quiet_usual n a (quiet_binds a p))
    ∙ ap (with_children n) (each_bound (children_of n) (role_in a (kind_of n)) (role_in b (kind_of n)) (λ i c at. as_good_still c (below i c at) (role_in a (kind_of n) i) (role_in b (kind_of n) i) (inside (kind_of n) a b p q i)))
    ∙ sym (usual_is n b (quiet_usual n b (quiet_binds b q))))
  where
    inside : (k : Kind) (a b : Role) → Quiet a → Quiet b → (i : ℕ) → AsGood (role_in a k i) (role_in b k i)
    inside k a b p q i = go (hands_on k) refl
      where
        go : (h : Bool) → hands_on k ≡ h → AsGood (role_in a k i) (role_in b k i)
        go true h = inr (quiet_in k h a p i, quiet_in k h b q i)
        go false h = as_good k h a b i

-- in two such roles the same names are bound
pub bound_same : (n : Node) (a b : Role) → AsGood a b → bound_at n a ≡ bound_at n b
bound_same n = as_good_still n (still n)
