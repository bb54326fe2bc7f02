-- Where a name `this` may stand, or a parameter: in few roles; and parameters of functions stand in lists alone.
use Rattle.std.proofs.Common.{◌≡◌, ◌∙◌, ℕ, zero, suc, ◌==◌, Bool, true, false, ◌||◌, not, cond, bytes_eq, codes, List, replicate, refl, ap}
use Rattle.std.proofs.lemmas.Slice.Eq.{bytes_eq-Decides}
use Rattle.std.specs.List.{list_all}
use Rattle.ecma_kind.specs.Sorts.{belongs}
use Rattle.ecma_kind.specs.declared.kind.Kind.{Kind}
use Rattle.ecma_kind.specs.declared.kind.Kind.TheVariants as kind
use Rattle.ecma_kind.specs.declared.shapes.Count.{Count}
use Rattle.ecma_kind.specs.declared.shapes.Shape.{Shape}
use Rattle.ecma_kind.specs.declared.shapes.Sort.{Sort}
use Rattle.ecma_kind.specs.declared.shapes.Sort.TheVariants as sort
use Rattle.ecma_lex.specs.Keys.{is_reserved, reserved_words}
use Rattle.ecma_tree.specs.Sorted.{allows_by, child_shapes, is_list, one}
use Rattle.ecma_fits.specs.declared.role.Role.{Role}
use Rattle.ecma_fits.specs.declared.role.Role.TheVariants as role
use Rattle.ecma_fits.specs.Roles.{at_child, bound_name_of, by, in_default, in_list, in_pattern, in_rest, in_template, left_of, operand_of, role_in}
use Rattle.ecma_hygiene.proofs.Telling.{true-false}
use Rattle.ecma_pipeline_runs.proofs.Remaining.{is_many, restless}
use Rattle.ecma_forms.specs.Forms.{is_unlowered_kind}

-- ---- words

this_reserved : is_reserved (codes "this") ≡ true
unfolding is_reserved reserved_words
this_reserved = refl

-- what is no reserved word is not `this`
pub not_this : (text : List ℕ) → is_reserved text ≡ false → bytes_eq text (codes "this") ≡ false
not_this text free = go (bytes_eq text (codes "this")) refl
  where
    go : (b : Bool) → bytes_eq text (codes "this") ≡ b → b ≡ false
    go false e = refl
    go true e = absurd (true-false (ap is_reserved ((bytes_eq-Decides text (codes "this")).0 e) ∙ this_reserved) free)

-- ---- roles

-- where a name may be `this`
abbrev pub names_this : Role → Bool
names_this role.Key = true
names_this role.NameOrThis = true
names_this _ = false

abbrev pub is_parameter : Role → Bool
is_parameter role.Parameter = true
is_parameter _ = false

-- the list of an arrow function
abbrev pub is_parameters : Role → Bool
is_parameters role.Parameters = true
is_parameters _ = false

-- where `this` may stand, alone or with its type
abbrev pub is_open : Role → Bool
is_open r = names_this r || is_parameter r

abbrev pub is_loud : Role → Bool
is_loud r = is_open r || is_parameters r

module _ (test : Role → Bool) where
  pub of_cond : (b : Bool) (x y : Role) → test x ≡ false → test y ≡ false → test (cond b x y) ≡ false
  of_cond true x y h g = h
  of_cond false x y h g = g

  pub of_by : (r a d : Role) → test a ≡ false → test d ≡ false → test (by r a d) ≡ false
  of_by role.Left a d h g = h
  of_by role.Head a d h g = h
  of_by role.Assigned a d h g = h
  of_by role.AssignedValue a d h g = h
  of_by role.AssignedElement a d h g = h
  of_by role.AssignedProperty a d h g = h
  of_by role.AssignedName a d h g = h
  of_by _ a d h g = g

  pub of_child : (wanted i : ℕ) (r : Role) → test r ≡ false → test role.Free ≡ false → test (at_child wanted i r) ≡ false
  of_child wanted i r h g = of_cond (i == wanted) r role.Free h g

  pub of_pattern : (r parts : Role) (i : ℕ) → test parts ≡ false → test role.Nothing ≡ false → test role.Free ≡ false → test (in_pattern r parts i) ≡ false
  of_pattern r parts i h g f = of_cond (i == 0) parts (by r role.Nothing role.Free) h (of_by r role.Nothing role.Free g f)

rest_quiet : (r : Role) → is_loud (in_rest r) ≡ false
rest_quiet role.Free = refl
rest_quiet _ = refl

default_quiet : (r : Role) → is_loud (in_default r) ≡ false
default_quiet role.Free = refl
default_quiet _ = refl

template_quiet : (r : Role) → is_loud (in_template r) ≡ false
template_quiet role.Tagged = refl
template_quiet _ = refl

pub name_calm : (r : Role) → is_parameters (bound_name_of r) ≡ false
name_calm role.Parameter = refl
name_calm _ = refl

pub list_calm : (r : Role) → is_parameters (in_list r) ≡ false
list_calm role.Free = refl
list_calm _ = refl

pub list_unnamed : (r : Role) → names_this (in_list r) ≡ false
list_unnamed role.Free = refl
list_unnamed _ = refl

pub list_closed : (r : Role) → is_parameters r ≡ false → is_parameter (in_list r) ≡ false
list_closed role.Parameters h = absurd (true-false refl h)
list_closed _ h = refl

pub bound_unnamed : (r : Role) → is_parameter r ≡ false → names_this (bound_name_of r) ≡ false
bound_unnamed role.Parameter h = absurd (true-false refl h)
bound_unnamed _ h = refl

-- kinds with parameters, or with names of these; and specifiers, whose names may be any
abbrev pub is_special : Kind → Bool
is_special kind.List = true
is_special kind.Param = true
is_special kind.BindingIdent = true
is_special kind.SetterProp = true
is_special (kind.ArrowExpr is_async is_generator) = true
is_special (kind.ImportNamedSpecifier is_type_only) = true
is_special (kind.ExportNamedSpecifier is_type_only) = true
is_special kind.ExportNamespaceSpecifier = true
is_special _ = false

pub role_quiet : (r : Role) (k : Kind) (i : ℕ) → is_unlowered_kind k ≡ false → is_special k ≡ false → is_loud (role_in r k i) ≡ false
unfolding role_in
role_quiet r kind.List i l s = absurd (true-false refl s)
role_quiet r kind.Param i l s = absurd (true-false refl s)
role_quiet r kind.BindingIdent i l s = absurd (true-false refl s)
role_quiet r kind.SetterProp i l s = absurd (true-false refl s)
role_quiet r (kind.ArrowExpr is_async is_generator) i l s = absurd (true-false refl s)
role_quiet r (kind.ArrayPat optional) i l s = of_pattern is_loud r (by r role.AssignedElements role.DeclaredElements) i (of_by is_loud r role.AssignedElements role.DeclaredElements refl refl) refl refl
role_quiet r (kind.ObjectPat optional) i l s = of_pattern is_loud r (by r role.AssignedProperties role.DeclaredProperties) i (of_by is_loud r role.AssignedProperties role.DeclaredProperties refl refl) refl refl
role_quiet r kind.RestPat i l s = of_pattern is_loud r (in_rest r) i (rest_quiet r) refl refl
role_quiet r kind.AssignPat i l s = of_child is_loud 0 i (in_default r) (default_quiet r) refl
role_quiet r kind.KeyValuePatProp i l s = of_child is_loud 1 i (by r role.AssignedValue role.DeclaredValue) (of_by is_loud r role.AssignedValue role.DeclaredValue refl refl) refl
role_quiet r kind.AssignPatProp i l s = of_child is_loud 0 i (by r role.AssignedName role.DeclaredName) (of_by is_loud r role.AssignedName role.DeclaredName refl refl) refl
role_quiet r (kind.TsParamProp accessibility is_override readonly) i l s = absurd (true-false refl l)
role_quiet r kind.CatchClause i l s = of_child is_loud 0 i role.Declared refl refl
role_quiet r (kind.VarDeclarator definite) i l s = of_child is_loud 0 i role.Declared refl refl
role_quiet r (kind.AssignExpr op) i l s = of_child is_loud 0 i (left_of op) (of_cond is_loud _ role.Left role.Simple refl refl) refl
role_quiet r (kind.UpdateExpr op prefix) i l s = refl
role_quiet r kind.ForInStmt i l s = of_child is_loud 0 i role.Head refl refl
role_quiet r (kind.ForOfStmt is_await) i l s = of_child is_loud 0 i role.Head refl refl
role_quiet r (kind.BinExpr op) i l s = of_child is_loud 0 i (operand_of op) (of_cond is_loud _ role.Private role.Free refl refl) refl
role_quiet r kind.MemberExpr i l s = of_child is_loud 1 i role.Private refl refl
role_quiet r (kind.PrivateMethod k modifiers) i l s = of_child is_loud 0 i role.Private refl refl
role_quiet r (kind.PrivateProp modifiers readonly declare definite) i l s = of_child is_loud 0 i role.Private refl refl
role_quiet r (kind.ImportNamedSpecifier is_type_only) i l s = absurd (true-false refl s)
role_quiet r (kind.ExportNamedSpecifier is_type_only) i l s = absurd (true-false refl s)
role_quiet r kind.ExportNamespaceSpecifier i l s = absurd (true-false refl s)
role_quiet r kind.TsEnumMember i l s = absurd (true-false refl l)
role_quiet r kind.TaggedTpl i l s = of_child is_loud 2 i role.Tagged refl refl
role_quiet r kind.Tpl i l s = of_child is_loud 1 i (in_template r) (template_quiet r) refl
role_quiet r _ i l s = refl

-- ---- parameters of functions stand in lists alone

abbrev pub is_param : Kind → Bool
is_param kind.Param = true
is_param _ = false

abbrev pub is_param_sort : Sort → Bool
is_param_sort sort.Param = true
is_param_sort sort.ParamOrTsParamProp = true
is_param_sort _ = false

abbrev pub is_paramless : Shape → Bool
is_paramless o = is_many o.count || not (is_param_sort o.sort)

only_params : (σ : Sort) → belongs σ kind.Param ≡ true → is_param_sort σ ≡ true
only_params sort.Program h = absurd (true-false h refl)
only_params _ h = cc

pub param_by : (k : Kind) (c : Count) (σ : Sort) → (is_many c || not (is_param_sort σ)) ≡ true → allows_by c σ k ≡ true → is_param k ≡ false
param_by kind.Param c σ calm a = absurd (restless is_param_sort kind.Param only_params refl refl c σ calm a)
param_by _ c σ calm a = refl

expressions_paramless : (n : ℕ) → list_all is_paramless (replicate n (one sort.Expr)) ≡ true
expressions_paramless zero = refl
expressions_paramless (suc n) = expressions_paramless n

pub children_paramless : (k : Kind) (s : Shape) (m : ℕ) → is_list k ≡ false → list_all is_paramless (child_shapes k s m) ≡ true
children_paramless kind.List s m l = absurd (true-false refl l)
children_paramless kind.SeqExpr s zero l = refl
children_paramless kind.SeqExpr s (suc m) l = expressions_paramless m
children_paramless _ s m l = refl
