-- Where a name may be bound, its sort allows a name that is bound as it allows a type round an expression.
use Rattle.std.proofs.Common.{◌≡◌, ◌∙◌, ℕ, zero, suc, Bool, true, false, ◌||◌, ◌==◌, cond, Some, replicate, refl, sym, ap, slice_get}
use Rattle.ecma_kind.specs.Sorts.{belongs, is_type_wrapper}
use Rattle.ecma_kind.specs.declared.kind.Kind.{Kind}
use Rattle.ecma_kind.specs.declared.kind.Kind.TheVariants as kind
use Rattle.ecma_kind.specs.declared.operators.AssignOp.{AssignOp}
use Rattle.ecma_kind.specs.declared.operators.BinaryOp.{BinaryOp}
use Rattle.ecma_kind.specs.declared.shapes.Count.{Count}
use Rattle.ecma_kind.specs.declared.shapes.Count.TheVariants.{One, Maybe, Many, MaybeMany, Holes}
use Rattle.ecma_kind.specs.declared.shapes.Shape.{Shape}
use Rattle.ecma_kind.specs.declared.shapes.Sort.{Sort}
use Rattle.ecma_kind.specs.declared.shapes.Sort.TheVariants as sort
use Rattle.ecma_tree.specs.Sorted.{allows, allows_by, child_shapes, is_absent, is_list, item_shape, one, with_holes}
use Rattle.ecma_rules.specs.Targets.{is_plain}
use Rattle.ecma_fits.specs.declared.role.Role.{Role}
use Rattle.ecma_fits.specs.declared.role.Role.TheVariants as role
use Rattle.ecma_fits.specs.Roles.{at_child, bound_name_of, by, in_default, in_list, in_pattern, in_rest, in_template, is_assigned, is_in, left_of, operand_of, role_in}
use Rattle.ecma_bind.specs.Binding.{binds}

-- the sorts of what is assigned to in patterns and heads
abbrev pub holds_names : Sort → Bool
holds_names sort.Pat = true
holds_names sort.ForHead = true
holds_names sort.BindingIdent = true
holds_names _ = false

abbrev pub suits : Role → Sort → Bool
suits role.Head s = holds_names s
suits role.Assigned s = holds_names s
suits role.AssignedValue s = holds_names s
suits role.AssignedElement s = holds_names s
suits role.AssignedName s = holds_names s
suits role.AssignedElements s = holds_names s
suits _ s = true

bound_belongs : (s : Sort) → holds_names s ≡ true → belongs s kind.BindingIdent ≡ true
bound_belongs sort.Pat h = refl
bound_belongs sort.ForHead h = refl
bound_belongs sort.BindingIdent h = refl
bound_belongs _ h = cc

binds_suits : (r : Role) (s : Sort) → binds r ≡ true → suits r s ≡ true → holds_names s ≡ true
binds_suits role.Head s b h = h
binds_suits role.Assigned s b h = h
binds_suits role.AssignedValue s b h = h
binds_suits role.AssignedElement s b h = h
binds_suits role.AssignedName s b h = h
binds_suits _ s b h = cc

no_list : (k : Kind) → is_type_wrapper k ≡ true → (is_absent k || is_list k) ≡ true → false ≡ true
no_list kind.List w h = cc
no_list kind.Absent w h = cc
no_list _ w h = cc

list_only : (k : Kind) → is_type_wrapper k ≡ true → is_list k ≡ true → false ≡ true
list_only kind.List w h = cc
list_only _ w h = cc

counted : (c : Count) (s : Sort) (k : Kind) → holds_names s ≡ true → is_type_wrapper k ≡ true → allows_by c s k ≡ true → allows_by c s kind.BindingIdent ≡ true
counted One s k h w a = bound_belongs s h
counted Maybe s k h w a = bound_belongs s h
counted Many s k h w a = list_only k w a
counted MaybeMany s k h w a = no_list k w a
counted Holes s k h w a = list_only k w a

pub allows_bound : (o : Shape) (r : Role) (k : Kind) → binds r ≡ true → suits r o.sort ≡ true → is_type_wrapper k ≡ true → allows o k ≡ true → allows o kind.BindingIdent ≡ true
allows_bound o r k b s w a = counted o.count o.sort k (binds_suits r o.sort b s) w a

item_at : (n : ℕ) (o p : Shape) (i : ℕ) → slice_get (replicate n o) i ≡ Some p → o ≡ p
item_at zero o p i at = cc
item_at (suc n) o p zero at = cc
item_at (suc n) o p (suc i) at = item_at n o p i at

cond_suits : (t : Bool) (a b : Role) (s : Sort) → suits a s ≡ true → suits b s ≡ true → suits (cond t a b) s ≡ true
cond_suits true a b s x y = x
cond_suits false a b s x y = y

by_suits : (r : Role) (a b : Role) (s : Sort) → suits a s ≡ true → suits b s ≡ true → suits (by r a b) s ≡ true
by_suits r a b s x y = cond_suits (is_assigned r) a b s x y

in_list_suits : (r : Role) (s : Sort) → suits r s ≡ true → suits (in_list r) s ≡ true
in_list_suits role.AssignedElements s h = h
in_list_suits role.Parameters s h = refl
in_list_suits role.DeclaredElements s h = refl
in_list_suits role.DeclaredProperties s h = refl
in_list_suits role.AssignedProperties s h = refl
in_list_suits role.TaggedTexts s h = refl
in_list_suits _ s h = refl

in_rest_suits : (r : Role) → suits (in_rest r) sort.Pat ≡ true
in_rest_suits role.DeclaredProperty = refl
in_rest_suits role.AssignedProperty = refl
in_rest_suits r = by_suits r role.Assigned role.Declared sort.Pat refl refl

in_default_suits : (r : Role) → suits (in_default r) sort.Pat ≡ true
in_default_suits role.Parameter = refl
in_default_suits r = by_suits r role.Assigned role.Declared sort.Pat refl refl

bound_name_suits : (r : Role) (s : Sort) → suits (bound_name_of r) s ≡ true
bound_name_suits role.Parameter s = refl
bound_name_suits _ s = refl

template_suits : (r : Role) (s : Sort) → suits (in_template r) s ≡ true
template_suits role.Tagged s = refl
template_suits _ s = refl

left_suits : (op : AssignOp) (s : Sort) → suits (left_of op) s ≡ true
left_suits op s = cond_suits (is_plain op) role.Left role.Simple s refl refl

operand_suits : (op : BinaryOp) (s : Sort) → suits (operand_of op) s ≡ true
operand_suits op s = cond_suits (is_in op) role.Private role.Free s refl refl

at_suits : (wanted i : ℕ) (r : Role) (s : Sort) → suits r s ≡ true → suits (at_child wanted i r) s ≡ true
at_suits wanted i r s h = cond_suits (i == wanted) r role.Free s h refl

typed_suits : (r : Role) (s : Sort) → suits (by r role.Nothing role.Free) s ≡ true
typed_suits r s = by_suits r role.Nothing role.Free s refl refl

pattern_suits : (r parts : Role) (i : ℕ) (s : Sort) → suits parts s ≡ true → suits (in_pattern r parts i) s ≡ true
pattern_suits r parts i s h = cond_suits (i == 0) parts (by r role.Nothing role.Free) s h (typed_suits r s)

shape_is : (r : Role) (o p : Shape) → Some o ≡ Some p → suits r o.sort ≡ true → suits r p.sort ≡ true
shape_is r o p e h = let is : o ≡ p = cc in ap (λ z. suits r z.sort) (sym is) ∙ h

pub suits_child : (k : Kind) (r : Role) (o : Shape) (n i : ℕ) (p : Shape) → suits r o.sort ≡ true → slice_get (child_shapes k o n) i ≡ Some p → suits (role_in r k i) p.sort ≡ true
unfolding role_in
suits_child kind.List r o n i p h at = ap (λ z. suits (in_list r) z.sort) (sym (item_at n (item_shape o) p i at)) ∙ in_list_suits r o.sort h
suits_child (kind.ArrayPat optional) r o n zero p h at = shape_is (by r role.AssignedElements role.DeclaredElements) (with_holes sort.Pat) p at (by_suits r role.AssignedElements role.DeclaredElements sort.Pat refl refl)
suits_child (kind.ArrayPat optional) r o n (suc zero) p h at = typed_suits r p.sort
suits_child (kind.ArrayPat optional) r o n (suc (suc i)) p h at = cc
suits_child (kind.ObjectPat optional) r o n i p h at = pattern_suits r (by r role.AssignedProperties role.DeclaredProperties) i p.sort (by_suits r role.AssignedProperties role.DeclaredProperties p.sort refl refl)
suits_child kind.BindingIdent r o n i p h at = pattern_suits r (bound_name_of r) i p.sort (bound_name_suits r p.sort)
suits_child kind.RestPat r o n zero p h at = shape_is (in_rest r) (one sort.Pat) p at (in_rest_suits r)
suits_child kind.RestPat r o n (suc zero) p h at = typed_suits r p.sort
suits_child kind.RestPat r o n (suc (suc i)) p h at = cc
suits_child kind.AssignPat r o n zero p h at = shape_is (in_default r) (one sort.Pat) p at (in_default_suits r)
suits_child kind.AssignPat r o n (suc zero) p h at = refl
suits_child kind.AssignPat r o n (suc (suc i)) p h at = cc
suits_child kind.KeyValuePatProp r o n zero p h at = refl
suits_child kind.KeyValuePatProp r o n (suc zero) p h at = shape_is (by r role.AssignedValue role.DeclaredValue) (one sort.Pat) p at (by_suits r role.AssignedValue role.DeclaredValue sort.Pat refl refl)
suits_child kind.KeyValuePatProp r o n (suc (suc i)) p h at = cc
suits_child kind.AssignPatProp r o n zero p h at = shape_is (by r role.AssignedName role.DeclaredName) (one sort.BindingIdent) p at (by_suits r role.AssignedName role.DeclaredName sort.BindingIdent refl refl)
suits_child kind.AssignPatProp r o n (suc zero) p h at = refl
suits_child kind.AssignPatProp r o n (suc (suc i)) p h at = cc
suits_child kind.ForInStmt r o n zero p h at = shape_is role.Head (one sort.ForHead) p at refl
suits_child kind.ForInStmt r o n (suc zero) p h at = refl
suits_child kind.ForInStmt r o n (suc (suc zero)) p h at = refl
suits_child kind.ForInStmt r o n (suc (suc (suc i))) p h at = cc
suits_child (kind.ForOfStmt is_await) r o n zero p h at = shape_is role.Head (one sort.ForHead) p at refl
suits_child (kind.ForOfStmt is_await) r o n (suc zero) p h at = refl
suits_child (kind.ForOfStmt is_await) r o n (suc (suc zero)) p h at = refl
suits_child (kind.ForOfStmt is_await) r o n (suc (suc (suc i))) p h at = cc
suits_child (kind.ArrowExpr is_async is_generator) r o n i p h at = at_suits 0 i role.Parameters p.sort refl
suits_child kind.SetterProp r o n i p h at = cond_suits (i == 1) role.Parameter (at_child 2 i role.Parameter) p.sort refl (at_suits 2 i role.Parameter p.sort refl)
suits_child kind.CatchClause r o n i p h at = at_suits 0 i role.Declared p.sort refl
suits_child (kind.VarDeclarator definite) r o n i p h at = at_suits 0 i role.Declared p.sort refl
suits_child (kind.AssignExpr op) r o n i p h at = at_suits 0 i (left_of op) p.sort (left_suits op p.sort)
suits_child (kind.BinExpr op) r o n i p h at = at_suits 0 i (operand_of op) p.sort (operand_suits op p.sort)
suits_child kind.MemberExpr r o n i p h at = at_suits 1 i role.Private p.sort refl
suits_child (kind.PrivateMethod k modifiers) r o n i p h at = at_suits 0 i role.Private p.sort refl
suits_child (kind.PrivateProp modifiers readonly declare definite) r o n i p h at = at_suits 0 i role.Private p.sort refl
suits_child (kind.ImportNamedSpecifier is_type_only) r o n i p h at = at_suits 1 i role.Key p.sort refl
suits_child kind.TsEnumMember r o n i p h at = at_suits 0 i role.Key p.sort refl
suits_child kind.TaggedTpl r o n i p h at = at_suits 2 i role.Tagged p.sort refl
suits_child kind.Tpl r o n i p h at = at_suits 1 i (in_template r) p.sort (template_suits r p.sort)
suits_child _ r o n i p h at = refl
