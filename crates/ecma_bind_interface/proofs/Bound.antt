-- A module has the interface that it has with bound names: none of those is declared.
use Rattle.std.proofs.Common.{◌≡◌, ◌∙◌, ◌==◌, ℕ, suc, Bool, true, false, cond, List, [], ◌∷◌, refl, sym, ap, subst}
use Rattle.ecma_kind.specs.declared.kind.Kind.{Kind}
use Rattle.ecma_kind.specs.declared.kind.Kind.TheVariants as kind
use Rattle.ecma_tree.specs.declared.node.Node.{Node}
use Rattle.ecma_rules.specs.Children.{kind_of}
use Rattle.ecma_fits.specs.declared.role.Role.{Role}
use Rattle.ecma_fits.specs.declared.role.Role.TheVariants as role
use Rattle.ecma_fits.specs.Roles.{at_child, bound_name_of, by, in_default, in_list, in_pattern, in_rest, is_assigned, role_in}
use Rattle.ecma_bind.specs.Binding.{binds, bound_at, with_bound_names}
use Rattle.ecma_bind_fits.proofs.Alike.{quiet_usual, usual_children, usual_kind}
use Rattle.ecma_bind_fits.proofs.Bound.{bound_each, children_of}
use Rattle.ecma_interface.specs.Names.{Id}
use Rattle.ecma_interface_laws.proofs.Alike.{Alike, Related, Step, named}
use Rattle.ecma_interface_laws.proofs.Changed.{usual}
use Rattle.ecma_interface_laws.proofs.Looking.{matters}
use Rattle.ecma_interface_laws.proofs.Telling.{alike_interfaces}
use Rattle.ecma_bind_interface.specs.Laws.{BindingKeepsInterfaces}

-- ---- roles in which nothing is assigned to

abbrev is_calm : Role → Bool
is_calm role.Left = false
is_calm role.Head = false
is_calm role.Assigned = false
is_calm role.AssignedValue = false
is_calm role.AssignedElement = false
is_calm role.AssignedElements = false
is_calm role.AssignedProperty = false
is_calm role.AssignedProperties = false
is_calm role.AssignedName = false
is_calm _ = true

calm_binds : (r : Role) → is_calm r ≡ true → binds r ≡ false
calm_binds role.Head h = cc
calm_binds role.Assigned h = cc
calm_binds role.AssignedValue h = cc
calm_binds role.AssignedElement h = cc
calm_binds role.AssignedName h = cc
calm_binds _ h = refl

calm_unassigned : (r : Role) → is_calm r ≡ true → is_assigned r ≡ false
calm_unassigned role.Left h = cc
calm_unassigned role.Head h = cc
calm_unassigned role.Assigned h = cc
calm_unassigned role.AssignedValue h = cc
calm_unassigned role.AssignedElement h = cc
calm_unassigned role.AssignedProperty h = cc
calm_unassigned role.AssignedName h = cc
calm_unassigned _ h = refl

calm_by : (r a d : Role) → is_calm r ≡ true → is_calm d ≡ true → is_calm (by r a d) ≡ true
calm_by r a d h e = ap (λ b. is_calm (cond b a d)) (calm_unassigned r h) ∙ e

calm_either : (b : Bool) (x y : Role) → is_calm x ≡ true → is_calm y ≡ true → is_calm (cond b x y) ≡ true
calm_either true x y h g = h
calm_either false x y h g = g

calm_at : (wanted i : ℕ) (x : Role) → is_calm x ≡ true → is_calm (at_child wanted i x) ≡ true
calm_at wanted i x h = calm_either (i == wanted) x role.Free h refl

calm_pattern : (r parts : Role) (i : ℕ) → is_calm r ≡ true → is_calm parts ≡ true → is_calm (in_pattern r parts i) ≡ true
calm_pattern r parts i h p = calm_either (i == 0) parts (by r role.Nothing role.Free) p (calm_by r role.Nothing role.Free h refl)

calm_list : (r : Role) → is_calm r ≡ true → is_calm (in_list r) ≡ true
calm_list role.AssignedElements h = cc
calm_list role.AssignedProperties h = cc
calm_list _ h = refl

calm_name : (r : Role) → is_calm (bound_name_of r) ≡ true
calm_name role.Parameter = refl
calm_name _ = refl

calm_rest : (r : Role) → is_calm r ≡ true → is_calm (in_rest r) ≡ true
calm_rest role.DeclaredProperty h = refl
calm_rest role.AssignedProperty h = cc
calm_rest r h = calm_by r role.Assigned role.Declared h refl

calm_default : (r : Role) → is_calm r ≡ true → is_calm (in_default r) ≡ true
calm_default role.Parameter h = refl
calm_default r h = calm_by r role.Assigned role.Declared h refl

-- nothing is assigned to in what is looked at
calm_in : (r : Role) (k : Kind) (i : ℕ) → is_calm r ≡ true → matters k i ≡ true → is_calm (role_in r k i) ≡ true
unfolding matters role_in
calm_in r kind.List i h m = calm_list r h
calm_in r (kind.ArrayPat optional) i h m = calm_pattern r (by r role.AssignedElements role.DeclaredElements) i h (calm_by r role.AssignedElements role.DeclaredElements h refl)
calm_in r (kind.ObjectPat optional) i h m = calm_pattern r (by r role.AssignedProperties role.DeclaredProperties) i h (calm_by r role.AssignedProperties role.DeclaredProperties h refl)
calm_in r kind.BindingIdent i h m = calm_pattern r (bound_name_of r) i h (calm_name r)
calm_in r kind.RestPat i h m = calm_pattern r (in_rest r) i h (calm_rest r h)
calm_in r kind.AssignPat i h m = calm_at 0 i (in_default r) (calm_default r h)
calm_in r kind.KeyValuePatProp i h m = calm_at 1 i (by r role.AssignedValue role.DeclaredValue) (calm_by r role.AssignedValue role.DeclaredValue h refl)
calm_in r kind.AssignPatProp i h m = calm_at 0 i (by r role.AssignedName role.DeclaredName) (calm_by r role.AssignedName role.DeclaredName h refl)
calm_in r (kind.VarDeclarator definite) i h m = calm_at 0 i role.Declared refl
calm_in r kind.SetterProp i h m = calm_either (i == 1) role.Parameter (at_child 2 i role.Parameter) refl (calm_at 2 i role.Parameter refl)
calm_in r (kind.ImportNamedSpecifier is_type_only) i h m = calm_at 1 i role.Key refl
calm_in r (kind.ExportNamedSpecifier is_type_only) i h m = refl
calm_in r kind.ExportNamespaceSpecifier i h m = refl
calm_in r kind.Param i h m = cc
calm_in r (kind.TsParamProp accessibility is_override readonly) i h m = cc
calm_in r (kind.ArrowExpr is_async is_generator) i h m = cc
calm_in r kind.CatchClause i h m = cc
calm_in r (kind.AssignExpr op) i h m = cc
calm_in r (kind.UpdateExpr op prefix) i h m = cc
calm_in r kind.ForInStmt i h m = cc
calm_in r (kind.ForOfStmt is_await) i h m = cc
calm_in r (kind.BinExpr op) i h m = cc
calm_in r kind.MemberExpr i h m = cc
calm_in r (kind.PrivateMethod k modifiers) i h m = cc
calm_in r (kind.PrivateProp modifiers readonly declare definite) i h m = cc
calm_in r kind.TsEnumMember i h m = cc
calm_in r kind.TaggedTpl i h m = cc
calm_in r kind.Tpl i h m = cc
calm_in r _ i h m = refl

-- ---- the tree

abbrev Binds : Node → Node → Type 0
Binds a b = (r : Role) × (is_calm r ≡ true) × (bound_at a r ≡ b)

all_bound : (m : ℕ → Bool) (roles : ℕ → Role) → ((i : ℕ) → m i ≡ true → is_calm (roles i) ≡ true) → (cs : List Node) → Related Binds m cs (bound_each roles cs)
all_bound m roles calm [] = tt
all_bound m roles calm (c ∷ cs) = ((λ e. (roles 0, calm 0 e, refl)), all_bound (λ i. m (suc i)) (λ i. roles (suc i)) (λ i e. calm (suc i) e) cs)

module _ (text : Id → List ℕ) where
  kind_step : (r : Role) → is_calm r ≡ true → (k : Kind) (cs : List Node) → Step text text Binds k k cs (bound_each (role_in r k) cs)
  kind_step r h (kind.Ident s c o) cs = named refl (λ e. ap (bound_each (role_in r (kind.Ident s c o))) e)
  kind_step r h k cs = usual text text Binds k refl (λ t. all_bound (matters k) (role_in r k) (λ i m. calm_in r k i h m) cs)

  alike : (a b : Node) → Binds a b → Alike text text Binds a b
  alike a b (r, h, is) =
      let usually = quiet_usual a r (calm_binds r h) in
      subst (λ (z : Node). Alike text text Binds a z) is
      (subst (λ (k : Kind). Step text text Binds (kind_of a) k (children_of a) (children_of (bound_at a r))) (sym (usual_kind a r usually))
      (subst (λ (cs : List Node). Step text text Binds (kind_of a) (kind_of a) (children_of a) cs) (sym (usual_children a r usually)) (kind_step r h (kind_of a) (children_of a))))

pub binding_keeps : BindingKeepsInterfaces
binding_keeps text tree sorted = alike_interfaces text text Binds (alike text) tree (with_bound_names tree) sorted (role.Free, refl, refl)
