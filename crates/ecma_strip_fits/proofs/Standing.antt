-- Where nodes stand, and where they stand without types.
use Rattle.std.proofs.Common.{◌≡◌, ◌∙◌, ◌⊎◌, inl, inr, ℕ, zero, suc, Bool, true, false, ◌==◌, cond, length, Some, refl, sym, ap, subst, slice_get}
use Rattle.ecma_kind.specs.Sorts.{belongs}
use Rattle.ecma_kind.specs.declared.kind.Kind.{Kind}
use Rattle.ecma_kind.specs.declared.kind.Kind.TheVariants as kind
use Rattle.ecma_kind.specs.declared.shapes.Shape.{Shape}
use Rattle.ecma_kind.specs.declared.shapes.Sort.TheVariants as sort
use Rattle.ecma_tree.specs.declared.node.Node.{Node}
use Rattle.ecma_tree.specs.Sorted.{HasShape, allows, child_shapes, is_list, item_shape, one}
use Rattle.ecma_rules.specs.Children.{kind_of}
use Rattle.ecma_strip.specs.Stripping.{plain_kind, stripped}
use Rattle.ecma_strip.proofs.Sorting.{list-kind}
use Rattle.ecma_fits.specs.declared.role.Role.{Role}
use Rattle.ecma_fits.specs.declared.role.Role.TheVariants as role
use Rattle.ecma_fits.specs.declared.strays.Arguments.{Arguments}
use Rattle.ecma_fits.specs.declared.unfit.Where.{Where}
use Rattle.ecma_fits.specs.Fitting.{where_in}
use Rattle.ecma_fits.specs.Roles.{at_child, bound_name_of, by, in_default, in_list, in_pattern, in_rest, in_template, left_of, operand_of, role_in}
use Rattle.ecma_fits.specs.Strays.{arguments_in}
use Rattle.ecma_strip_fits.proofs.Classes.{class_of}
use Rattle.ecma_strip_fits.proofs.Classes.Class.{Usual, Wrapped}
use Rattle.ecma_strip_fits.proofs.ChildrenKept.{Plain}
use Rattle.ecma_strip_fits.proofs.Walk.{children_of, shape_parts, usual_kind}

some_same : {X : Type 0} {x y : X} → Some x ≡ Some y → x ≡ y
some_same e = cc

-- a template behind a tag
abbrev pub is_tag : Role → Bool
is_tag role.Tagged = true
is_tag _ = false

tag_cond : (b : Bool) (x y : Role) → is_tag x ≡ false → is_tag y ≡ false → is_tag (cond b x y) ≡ false
tag_cond true x y h g = h
tag_cond false x y h g = g

list_tag : (r : Role) → is_tag (in_list r) ≡ false
list_tag role.Free = refl
list_tag _ = refl

by_tag : (r a d : Role) → is_tag a ≡ false → is_tag d ≡ false → is_tag (by r a d) ≡ false
by_tag role.Left a d h g = h
by_tag role.Head a d h g = h
by_tag role.Assigned a d h g = h
by_tag role.AssignedValue a d h g = h
by_tag role.AssignedElement a d h g = h
by_tag role.AssignedProperty a d h g = h
by_tag role.AssignedName a d h g = h
by_tag _ a d h g = g

pattern_tag : (r parts : Role) (i : ℕ) → is_tag parts ≡ false → is_tag (in_pattern r parts i) ≡ false
pattern_tag r parts i h = tag_cond (i == 0) parts (by r role.Nothing role.Free) h (by_tag r role.Nothing role.Free refl refl)

child_tag : (wanted i : ℕ) (r : Role) → is_tag r ≡ false → is_tag (at_child wanted i r) ≡ false
child_tag wanted i r h = tag_cond (i == wanted) r role.Free h refl

name_tag : (r : Role) → is_tag (bound_name_of r) ≡ false
name_tag role.Parameter = refl
name_tag _ = refl

rest_tag : (r : Role) → is_tag (in_rest r) ≡ false
rest_tag role.Free = refl
rest_tag _ = refl

default_tag : (r : Role) → is_tag (in_default r) ≡ false
default_tag role.Free = refl
default_tag _ = refl

template_tag : (r : Role) → is_tag (in_template r) ≡ false
template_tag role.Tagged = refl
template_tag _ = refl

is_tagging : Kind → Bool
is_tagging kind.TaggedTpl = true
is_tagging _ = false

-- no other kind has a child behind a tag
role_tag : (r : Role) (k : Kind) (i : ℕ) → is_tagging k ≡ false → is_tag (role_in r k i) ≡ false
unfolding role_in is_tagging
role_tag r kind.List i t = list_tag r
role_tag r (kind.ArrayPat optional) i t = pattern_tag r (by r role.AssignedElements role.DeclaredElements) i (by_tag r role.AssignedElements role.DeclaredElements refl refl)
role_tag r (kind.ObjectPat optional) i t = pattern_tag r (by r role.AssignedProperties role.DeclaredProperties) i (by_tag r role.AssignedProperties role.DeclaredProperties refl refl)
role_tag r kind.BindingIdent i t = pattern_tag r (bound_name_of r) i (name_tag r)
role_tag r kind.RestPat i t = pattern_tag r (in_rest r) i (rest_tag r)
role_tag r kind.AssignPat i t = child_tag 0 i (in_default r) (default_tag r)
role_tag r kind.KeyValuePatProp i t = child_tag 1 i (by r role.AssignedValue role.DeclaredValue) (by_tag r role.AssignedValue role.DeclaredValue refl refl)
role_tag r kind.AssignPatProp i t = child_tag 0 i (by r role.AssignedName role.DeclaredName) (by_tag r role.AssignedName role.DeclaredName refl refl)
role_tag r kind.Param i t = refl
role_tag r (kind.TsParamProp accessibility is_override readonly) i t = refl
role_tag r (kind.ArrowExpr is_async is_generator) i t = child_tag 0 i role.Parameters refl
role_tag r kind.SetterProp i t = tag_cond (i == 1) role.Parameter (at_child 2 i role.Parameter) refl (child_tag 2 i role.Parameter refl)
role_tag r kind.CatchClause i t = child_tag 0 i role.Declared refl
role_tag r (kind.VarDeclarator definite) i t = child_tag 0 i role.Declared refl
role_tag r (kind.AssignExpr op) i t = child_tag 0 i (left_of op) (tag_cond _ role.Left role.Simple refl refl)
role_tag r (kind.UpdateExpr op prefix) i t = refl
role_tag r kind.ForInStmt i t = child_tag 0 i role.Head refl
role_tag r (kind.ForOfStmt is_await) i t = child_tag 0 i role.Head refl
role_tag r (kind.BinExpr op) i t = child_tag 0 i (operand_of op) (tag_cond _ role.Private role.Free refl refl)
role_tag r kind.MemberExpr i t = child_tag 1 i role.Private refl
role_tag r (kind.PrivateMethod k modifiers) i t = child_tag 0 i role.Private refl
role_tag r (kind.PrivateProp modifiers readonly declare definite) i t = child_tag 0 i role.Private refl
role_tag r (kind.ImportNamedSpecifier is_type_only) i t = child_tag 1 i role.Key refl
role_tag r (kind.ExportNamedSpecifier is_type_only) i t = refl
role_tag r kind.ExportNamespaceSpecifier i t = refl
role_tag r kind.TsEnumMember i t = child_tag 0 i role.Key refl
role_tag r kind.TaggedTpl i t = cc
role_tag r kind.Tpl i t = child_tag 1 i (in_template r) (template_tag r)
role_tag r _ i t = refl

-- and that child is a template
tag_shape : (r : Role) (k : Kind) (i : ℕ) (s : Shape) (m : ℕ) (o : Shape) → is_tag (role_in r k i) ≡ true → slice_get (child_shapes k s m) i ≡ Some o → is_tagging k ≡ true → o ≡ one sort.Tpl
unfolding role_in is_tagging
tag_shape r kind.TaggedTpl zero s m o h at t = cc
tag_shape r kind.TaggedTpl (suc zero) s m o h at t = cc
tag_shape r kind.TaggedTpl (suc (suc zero)) s m o h at t = sym (some_same at)
tag_shape r kind.TaggedTpl (suc (suc (suc i))) s m o h at t = cc
tag_shape r _ i s m o h at t = cc

pub tagged_child : (r : Role) (k : Kind) (i : ℕ) (s : Shape) (m : ℕ) (o : Shape) → slice_get (child_shapes k s m) i ≡ Some o → is_tag (role_in r k i) ≡ true → o ≡ one sort.Tpl
tagged_child r k i s m o at h = by (is_tagging k) refl
  where
    by : (b : Bool) → is_tagging k ≡ b → o ≡ one sort.Tpl
    by true t = tag_shape r k i s m o h at t
    by false t = let no : false ≡ true = sym (role_tag r k i t) ∙ h in absurd (cc)

-- ---- roles and arguments of kinds

role_plain : (r : Role) (i : ℕ) → Plain Role (λ k. role_in r k i)
unfolding role_in plain_kind
role_plain r i kind.Absent = refl
role_plain r i _ = refl

arguments_plain : (a : Arguments) (i : ℕ) → Plain Arguments (λ k. arguments_in a k i)
unfolding arguments_in plain_kind
arguments_plain a i kind.Absent = refl
arguments_plain a i _ = refl

template_free : (r : Role) → is_tag r ≡ false → in_template r ≡ role.Free
template_free role.Tagged h = cc
template_free _ h = refl

-- what stands in an expression, whatever that is to its surroundings
role_free : (r : Role) → is_tag r ≡ false → (k : Kind) (i : ℕ) → belongs sort.Expr k ≡ true → role_in r k i ≡ role_in role.Free k i
unfolding role_in
role_free r t kind.Tpl i b = ap (at_child 1 i) (template_free r t)
role_free r t _ i b = cc

pub wrapped_role : (k : Kind) → class_of k ≡ Wrapped → (r : Role) (i : ℕ) → role_in r k i ≡ role.Free
unfolding class_of role_in
wrapped_role kind.TsTypeAssertion w r i = refl
wrapped_role kind.TsConstAssertion w r i = refl
wrapped_role kind.TsNonNullExpr w r i = refl
wrapped_role kind.TsAsExpr w r i = refl
wrapped_role kind.TsInstantiation w r i = refl
wrapped_role kind.TsSatisfiesExpr w r i = refl
wrapped_role _ w r i = cc

wrapped_arguments : (k : Kind) → class_of k ≡ Wrapped → (a : Arguments) (i : ℕ) → arguments_in a k i ≡ a
unfolding class_of arguments_in
wrapped_arguments kind.TsTypeAssertion w a i = refl
wrapped_arguments kind.TsConstAssertion w a i = refl
wrapped_arguments kind.TsNonNullExpr w a i = refl
wrapped_arguments kind.TsAsExpr w a i = refl
wrapped_arguments kind.TsInstantiation w a i = refl
wrapped_arguments kind.TsSatisfiesExpr w a i = refl
wrapped_arguments _ w a i = cc

no_template : (k : Kind) → class_of k ≡ Wrapped → allows (one sort.Tpl) k ≡ true → ⊥
unfolding class_of
no_template kind.TsTypeAssertion w a = cc
no_template kind.Tpl w a = cc
no_template _ w a = cc

no_expression_list : belongs sort.Expr kind.List ≡ true → ⊥
no_expression_list b = cc

list_arguments : (a : Arguments) (i : ℕ) → arguments_in a kind.List i ≡ a
unfolding arguments_in
list_arguments a i = refl

-- ---- how a node stands

-- as it did; or as an expression with types round it did, which was free
abbrev pub How : Node → Where → Where → Type 0
How n w v = (w.role ≡ v.role) ⊎ ((belongs sort.Expr (kind_of n) ≡ true) × (w.role ≡ role.Free) × (is_tag v.role ≡ false))

pub record Stands (n : Node) (s : Shape) (w v : Where) : Type 0 where
  pub arguments : w.arguments ≡ v.arguments
  pub tagged : is_tag w.role ≡ true → s ≡ one sort.Tpl
  pub how : How n w v

not_tag : (b : Bool) → (b ≡ true → ⊥) → b ≡ false
not_tag true f = absurd (f refl)
not_tag false f = refl

free_tag : {A : Type 0} (r : Role) → r ≡ role.Free → is_tag r ≡ true → A
free_tag r e h = let no : false ≡ true = ap is_tag (sym e) ∙ h in absurd (cc)

pub under : (n : Node) (s : Shape) (w v : Where) → class_of (kind_of n) ≡ Wrapped → HasShape s n → Stands n s w v → (e : Node) → HasShape (one sort.Expr) e → Stands e (one sort.Expr) (where_in w n 0) v
under n s w v c h r e has = record {
  arguments = wrapped_arguments (kind_of n) c w.arguments 0 ∙ r.arguments;
  tagged = free_tag (role_in w.role (kind_of n) 0) (wrapped_role (kind_of n) c w.role 0);
  how = inr ((shape_parts e (one sort.Expr) has).0, wrapped_role (kind_of n) c w.role 0, by r.how);
}
  where
    by : How n w v → is_tag v.role ≡ false
    by (inl same) = ap is_tag (sym same) ∙ not_tag (is_tag w.role) (λ t. no_template (kind_of n) c (subst (λ o. allows o (kind_of n) ≡ true) (r.tagged t) (shape_parts n s h).0))
    by (inr (b, free, t)) = t

-- the roles of what stands in a list, and of the children of a node
pub role_item : (n : Node) (w v : Where) → is_list (kind_of n) ≡ true → How n w v → (m : Node) → is_list (kind_of m) ≡ true → (i j : ℕ) → role_in w.role (kind_of n) i ≡ role_in v.role (kind_of m) j
unfolding role_in
role_item n w v l (inl same) m list i j = ap (λ k. role_in w.role k i) (list-kind (kind_of n) l) ∙ (ap in_list same ∙ sym (ap (λ k. role_in v.role k j) (list-kind (kind_of m) list)))
role_item n w v l (inr (b, free, t)) m list i j = absurd (no_expression_list (ap (belongs sort.Expr) (sym (list-kind (kind_of n) l)) ∙ b))

pub role_below : (n : Node) (w v : Where) → class_of (kind_of n) ≡ Usual → How n w v → (i : ℕ) → role_in w.role (kind_of n) i ≡ role_in v.role (kind_of (stripped n)) i
role_below n w v u how i = by how ∙ sym (ap (λ k. role_in v.role k i) (usual_kind n u) ∙ role_plain v.role i (kind_of n))
  where
    by : How n w v → role_in w.role (kind_of n) i ≡ role_in v.role (kind_of n) i
    by (inl same) = ap (λ r'. role_in r' (kind_of n) i) same
    by (inr (b, free, t)) = ap (λ r'. role_in r' (kind_of n) i) free ∙ sym (role_free v.role t (kind_of n) i b)

pub items : (n : Node) (s : Shape) (w v : Where) → is_list (kind_of n) ≡ true → Stands n s w v → (m : Node) → is_list (kind_of m) ≡ true → (c : Node) (i j : ℕ) → Stands c (item_shape s) (where_in w n i) (where_in v m j)
unfolding role_in
items n s w v l r m list c i j =
    let is = list-kind (kind_of n) l in
    let other = list-kind (kind_of m) list in
    record {
      arguments = (ap (λ k. arguments_in w.arguments k i) is ∙ list_arguments w.arguments i) ∙ (r.arguments ∙ sym (ap (λ k. arguments_in v.arguments k j) other ∙ list_arguments v.arguments j));
      tagged = λ t. (let no : false ≡ true = sym (list_tag w.role) ∙ (ap (λ k. is_tag (role_in w.role k i)) (sym is) ∙ t) in absurd (cc));
      how = inl (role_item n w v l r.how m list i j);
    }

pub below : (n : Node) (s : Shape) (w v : Where) → class_of (kind_of n) ≡ Usual → Stands n s w v → (c : Node) (o : Shape) (i : ℕ)
    → slice_get (child_shapes (kind_of n) s (length (children_of n))) i ≡ Some o → Stands c o (where_in w n i) (where_in v (stripped n) i)
below n s w v u r c o i at = record {
  arguments = ap (λ a. arguments_in a (kind_of n) i) r.arguments ∙ sym (ap (λ k. arguments_in v.arguments k i) (usual_kind n u) ∙ arguments_plain v.arguments i (kind_of n));
  tagged = tagged_child w.role (kind_of n) i s (length (children_of n)) o at;
  how = inl (role_below n w v u r.how i);
}
