-- What a node has to be as it is read, by what it has to be in a finished tree.
use Rattle.std.proofs.Common.{◌⊎◌, inl, inr, ◌≡◌, ◌∙◌, ℕ, zero, suc, Bool, true, false, ◌&&◌, ◌==◌, cond, List, [], ◌∷◌, refl, sym, ap, replicate}
use Rattle.ecma_kind.specs.Sorts.{belongs}
use Rattle.ecma_kind.specs.declared.kind.Kind.{Kind}
use Rattle.ecma_kind.specs.declared.kind.Kind.TheVariants as kind
use Rattle.ecma_kind.specs.declared.operators.AssignOp.{AssignOp}
use Rattle.ecma_kind.specs.declared.operators.AssignOp.TheVariants.{Assign}
use Rattle.ecma_kind.specs.declared.operators.BinaryOp.{BinaryOp}
use Rattle.ecma_kind.specs.declared.shapes.Count.{Count}
use Rattle.ecma_kind.specs.declared.shapes.Count.TheVariants.{One, Many}
use Rattle.ecma_kind.specs.declared.shapes.Shape.{Shape}
use Rattle.ecma_kind.specs.declared.shapes.Sort.{Sort}
use Rattle.ecma_kind.specs.declared.shapes.Sort.TheVariants as sort
use Rattle.ecma_tree.specs.Sorted.{allows_by, child_shapes, item_count, item_shape, many, maybe}
use Rattle.ecma_rules.specs.declared.target.Target.{Target}
use Rattle.ecma_rules.specs.declared.target.Target.TheVariants as target
use Rattle.ecma_rules.specs.Targets.{in_literal, in_short_default, in_spread, in_value, is_plain, on_left, takes_patterns, target_in}
use Rattle.ecma_covers.specs.Placing.{as_read, binds}
use Rattle.ecma_fits.specs.declared.role.Role.{Role}
use Rattle.ecma_fits.specs.declared.role.Role.TheVariants as role
use Rattle.ecma_fits.specs.Roles.{at_child, bound_name_of, by, in_default, in_list, in_pattern, in_rest, in_template, is_assigned, is_in, left_of, may_be, operand_of, role_in, takes}
use Rattle.ecma_print_fits.proofs.Parts.{allowed, not_true}

abbrev pub target_of : Role → Target
target_of role.Left = target.Left
target_of role.Simple = target.Simple
target_of role.Head = target.Head
target_of role.Assigned = target.Part
target_of role.AssignedValue = target.Element
target_of role.AssignedElement = target.Element
target_of role.AssignedElements = target.Elements
target_of role.AssignedProperty = target.Property
target_of role.AssignedProperties = target.Properties
target_of role.AssignedName = target.Rest
target_of _ = target.Free

-- the parts of patterns that stand elsewhere than names
abbrev pub is_parted : Kind → Bool
is_parted (kind.ArrayPat optional) = true
is_parted (kind.ObjectPat optional) = true
is_parted kind.RestPat = true
is_parted kind.AssignPat = true
is_parted kind.KeyValuePatProp = true
is_parted kind.AssignPatProp = true
is_parted _ = false

-- how a node of this kind stands there: itself, or as a part of a pattern that is assigned to
pub data Way (r : Role) : Kind → Type 0 where
  itself : {k : Kind} → as_read (target_of r) k ≡ true → (is_assigned r && is_parted k) ≡ false → Way r k
  array : (optional : Bool) → takes_patterns (target_of r) ≡ true → is_assigned r ≡ true → Way r (kind.ArrayPat optional)
  object : (optional : Bool) → takes_patterns (target_of r) ≡ true → is_assigned r ≡ true → Way r (kind.ObjectPat optional)
  bound : binds (target_of r) ≡ true → is_assigned r ≡ true → Way r kind.BindingIdent
  default : r ≡ role.AssignedElement ⊎ r ≡ role.AssignedValue → Way r kind.AssignPat
  rest_element : r ≡ role.AssignedElement → Way r kind.RestPat
  rest_property : r ≡ role.AssignedProperty → Way r kind.RestPat
  key_value : r ≡ role.AssignedProperty → Way r kind.KeyValuePatProp
  short : r ≡ role.AssignedProperty → Way r kind.AssignPatProp

left_way : (k : Kind) → allowed role.Left k ≡ true → Way role.Left k
unfolding may_be takes
left_way (kind.ArrayPat optional) h = array optional refl refl
left_way (kind.ObjectPat optional) h = object optional refl refl
left_way kind.RestPat h = not_true h
left_way kind.AssignPat h = not_true h
left_way kind.KeyValuePatProp h = not_true h
left_way kind.AssignPatProp h = not_true h
left_way kind.ArrayLit h = not_true h
left_way kind.ObjectLit h = not_true h
left_way _ h = itself refl refl

head_way : (k : Kind) → allowed role.Head k ≡ true → Way role.Head k
unfolding may_be takes
head_way kind.BindingIdent h = bound refl refl
head_way (kind.ArrayPat optional) h = array optional refl refl
head_way (kind.ObjectPat optional) h = object optional refl refl
head_way kind.RestPat h = not_true h
head_way kind.AssignPat h = not_true h
head_way kind.KeyValuePatProp h = not_true h
head_way kind.AssignPatProp h = not_true h
head_way kind.ArrayLit h = not_true h
head_way kind.ObjectLit h = not_true h
head_way (kind.Ident text ctxt optional) h = not_true h
head_way _ h = itself refl refl

assigned_way : (k : Kind) → allowed role.Assigned k ≡ true → Way role.Assigned k
unfolding may_be takes
assigned_way kind.BindingIdent h = bound refl refl
assigned_way (kind.ArrayPat optional) h = array optional refl refl
assigned_way (kind.ObjectPat optional) h = object optional refl refl
assigned_way kind.RestPat h = not_true h
assigned_way kind.AssignPat h = not_true h
assigned_way kind.KeyValuePatProp h = not_true h
assigned_way kind.AssignPatProp h = not_true h
assigned_way kind.ArrayLit h = not_true h
assigned_way kind.ObjectLit h = not_true h
assigned_way (kind.Ident text ctxt optional) h = not_true h
assigned_way _ h = itself refl refl

value_way : (k : Kind) → allowed role.AssignedValue k ≡ true → Way role.AssignedValue k
unfolding may_be takes
value_way kind.BindingIdent h = bound refl refl
value_way (kind.ArrayPat optional) h = array optional refl refl
value_way (kind.ObjectPat optional) h = object optional refl refl
value_way kind.AssignPat h = default (inr refl)
value_way kind.RestPat h = not_true h
value_way kind.KeyValuePatProp h = not_true h
value_way kind.AssignPatProp h = not_true h
value_way kind.ArrayLit h = not_true h
value_way kind.ObjectLit h = not_true h
value_way kind.SpreadElement h = not_true h
value_way (kind.AssignExpr op) h = not_true h
value_way (kind.Ident text ctxt optional) h = not_true h
value_way _ h = itself refl refl

element_way : (k : Kind) → allowed role.AssignedElement k ≡ true → Way role.AssignedElement k
unfolding may_be takes
element_way kind.BindingIdent h = bound refl refl
element_way (kind.ArrayPat optional) h = array optional refl refl
element_way (kind.ObjectPat optional) h = object optional refl refl
element_way kind.AssignPat h = default (inl refl)
element_way kind.RestPat h = rest_element refl
element_way kind.KeyValuePatProp h = not_true h
element_way kind.AssignPatProp h = not_true h
element_way kind.ArrayLit h = not_true h
element_way kind.ObjectLit h = not_true h
element_way kind.SpreadElement h = not_true h
element_way (kind.AssignExpr op) h = not_true h
element_way (kind.Ident text ctxt optional) h = not_true h
element_way _ h = itself refl refl

name_way : (k : Kind) → allowed role.AssignedName k ≡ true → Way role.AssignedName k
unfolding may_be takes
name_way kind.BindingIdent h = bound refl refl
name_way (kind.ArrayPat optional) h = not_true h
name_way (kind.ObjectPat optional) h = not_true h
name_way kind.RestPat h = not_true h
name_way kind.AssignPat h = not_true h
name_way kind.KeyValuePatProp h = not_true h
name_way kind.AssignPatProp h = not_true h
name_way (kind.Ident text ctxt optional) h = not_true h
name_way _ h = itself refl refl

property_way : (k : Kind) → belongs sort.ObjectPatProp k ≡ true → Way role.AssignedProperty k
property_way kind.KeyValuePatProp h = key_value refl
property_way kind.AssignPatProp h = short refl
property_way kind.RestPat h = rest_property refl
property_way _ h = not_true h

-- a property of a pattern that is assigned to has the sort of such, and so have those of a list; of the other roles nothing more is asked
abbrev pub is_property : Count → Sort → Bool
is_property One sort.ObjectPatProp = true
is_property _ _ = false

abbrev pub are_properties : Count → Sort → Bool
are_properties Many sort.ObjectPatProp = true
are_properties _ _ = false

abbrev pub suits : Role → Shape → Bool
suits role.AssignedProperties o = are_properties o.count o.sort
suits role.AssignedProperty o = is_property o.count o.sort
suits _ o = true

-- what is a property of a pattern that is assigned to, by its sort
pub property_kind : (c : Count) (s : Sort) (k : Kind) → is_property c s ≡ true → allows_by c s k ≡ true → belongs sort.ObjectPatProp k ≡ true
property_kind One sort.ObjectPatProp k h b = b
property_kind One _ k h b = not_true h
property_kind _ s k h b = not_true h

pub way_of : (r : Role) (k : Kind) → allowed r k ≡ true → (r ≡ role.AssignedProperty → belongs sort.ObjectPatProp k ≡ true) → Way r k
way_of role.Left k h p = left_way k h
way_of role.Head k h p = head_way k h
way_of role.Assigned k h p = assigned_way k h
way_of role.AssignedValue k h p = value_way k h
way_of role.AssignedElement k h p = element_way k h
way_of role.AssignedName k h p = name_way k h
way_of role.AssignedProperty k h p = property_way k (p refl)
way_of _ k h p = itself refl refl

-- children are asked as they are read what is asked of them in the finished tree

either : (b : Bool) (p q : Role) (t u : Target) → target_of p ≡ t → target_of q ≡ u → target_of (cond b p q) ≡ cond b t u
either true p q t u e f = e
either false p q t u e f = f

either_free : (b : Bool) (p q : Role) → target_of p ≡ target.Free → target_of q ≡ target.Free → target_of (cond b p q) ≡ target.Free
either_free true p q e f = e
either_free false p q e f = f

-- where nothing is assigned to
declared_free : (r assigned declared : Role) → is_assigned r ≡ false → target_of declared ≡ target.Free → target_of (by r assigned declared) ≡ target.Free
declared_free r assigned declared h e = ap (λ b. target_of (cond b assigned declared)) h ∙ e

pattern_free : (r parts : Role) (i : ℕ) → target_of parts ≡ target.Free → target_of (in_pattern r parts i) ≡ target.Free
pattern_free r parts i e = either_free (i == 0) parts (by r role.Nothing role.Free) e (either_free (is_assigned r) role.Nothing role.Free refl refl)

rest_free : (r : Role) → is_assigned r ≡ false → target_of (in_rest r) ≡ target.Free
rest_free role.AssignedProperty h = not_true (sym h)
rest_free role.DeclaredProperty h = refl
rest_free r h = declared_free r role.Assigned role.Declared h refl

default_free : (r : Role) → is_assigned r ≡ false → target_of (in_default r) ≡ target.Free
default_free role.Parameter h = refl
default_free r h = declared_free r role.Assigned role.Declared h refl

bound_free : (r : Role) → target_of (bound_name_of r) ≡ target.Free
bound_free role.Parameter = refl
bound_free _ = refl

not_assigned : (b : Bool) → (b && true) ≡ false → b ≡ false
not_assigned true h = h
not_assigned false h = refl

array_free : (t : Target) → as_read t kind.ArrayLit ≡ true → in_literal t target.Elements ≡ target.Free
array_free target.Left h = not_true h
array_free target.Head h = not_true h
array_free target.Part h = not_true h
array_free target.Element h = not_true h
array_free _ h = refl

object_free : (t : Target) → as_read t kind.ObjectLit ≡ true → in_literal t target.Properties ≡ target.Free
object_free target.Left h = not_true h
object_free target.Head h = not_true h
object_free target.Part h = not_true h
object_free target.Element h = not_true h
object_free _ h = refl

spread_free : (t : Target) → as_read t kind.SpreadElement ≡ true → in_spread t ≡ target.Free
spread_free target.Element h = not_true h
spread_free target.Property h = not_true h
spread_free _ h = refl

value_free : (t : Target) → as_read t kind.KeyValueProp ≡ true → in_value t ≡ target.Free
value_free target.Property h = not_true h
value_free _ h = refl

short_free : (t : Target) → as_read t kind.AssignProp ≡ true → in_short_default t ≡ target.Free
short_free target.Property h = not_true h
short_free _ h = refl

free_child : (b : Bool) (t : Target) → t ≡ target.Free → target.Free ≡ cond b t target.Free
free_child true t e = sym e
free_child false t e = refl

left_asked : (t : Target) (op : AssignOp) → as_read t (kind.AssignExpr op) ≡ true → target_of (left_of op) ≡ on_left t op
left_asked target.Element op h = not_true h
left_asked _ Assign h = refl
left_asked _ op h = refl

operand_free : (op : BinaryOp) → target_of (operand_of op) ≡ target.Free
operand_free op = either_free (is_in op) role.Private role.Free refl refl

template_free : (r : Role) → target_of (in_template r) ≡ target.Free
template_free role.Tagged = refl
template_free _ = refl

list_asked : (r : Role) (i : ℕ) → target_of (role_in r kind.List i) ≡ target_in (target_of r) kind.List i
unfolding role_in target_in
list_asked role.Left i = refl
list_asked role.Simple i = refl
list_asked role.Head i = refl
list_asked role.Assigned i = refl
list_asked role.AssignedValue i = refl
list_asked role.AssignedElement i = refl
list_asked role.AssignedElements i = refl
list_asked role.AssignedProperty i = refl
list_asked role.AssignedProperties i = refl
list_asked role.AssignedName i = refl
list_asked _ i = refl

-- a child at an index, and nothing asked of the others
child_free : (b : Bool) (r : Role) → target_of r ≡ target.Free → target_of (cond b r role.Free) ≡ target.Free
child_free b r e = either_free b r role.Free e refl

pub asked : (r : Role) (k : Kind) → as_read (target_of r) k ≡ true → (is_assigned r && is_parted k) ≡ false → (i : ℕ) → target_of (role_in r k i) ≡ target_in (target_of r) k i
unfolding role_in target_in
asked r kind.List h d i = list_asked r i
asked r (kind.ArrayPat optional) h d i = pattern_free r (by r role.AssignedElements role.DeclaredElements) i (declared_free r role.AssignedElements role.DeclaredElements (not_assigned (is_assigned r) d) refl)
asked r (kind.ObjectPat optional) h d i = pattern_free r (by r role.AssignedProperties role.DeclaredProperties) i (declared_free r role.AssignedProperties role.DeclaredProperties (not_assigned (is_assigned r) d) refl)
asked r kind.BindingIdent h d i = pattern_free r (bound_name_of r) i (bound_free r)
asked r kind.RestPat h d i = pattern_free r (in_rest r) i (rest_free r (not_assigned (is_assigned r) d))
asked r kind.AssignPat h d i = child_free (i == 0) (in_default r) (default_free r (not_assigned (is_assigned r) d))
asked r kind.KeyValuePatProp h d i = child_free (i == 1) (by r role.AssignedValue role.DeclaredValue) (declared_free r role.AssignedValue role.DeclaredValue (not_assigned (is_assigned r) d) refl)
asked r kind.AssignPatProp h d i = child_free (i == 0) (by r role.AssignedName role.DeclaredName) (declared_free r role.AssignedName role.DeclaredName (not_assigned (is_assigned r) d) refl)
asked r kind.ArrayLit h d i = sym (array_free (target_of r) h)
asked r kind.ObjectLit h d i = sym (object_free (target_of r) h)
asked r kind.SpreadElement h d i = sym (spread_free (target_of r) h)
asked r kind.KeyValueProp h d i = free_child (i == 1) (in_value (target_of r)) (value_free (target_of r) h)
asked r kind.AssignProp h d i = free_child (i == 0) (in_short_default (target_of r)) (short_free (target_of r) h)
asked r kind.SetterProp h d i = either_free (i == 1) role.Parameter (at_child 2 i role.Parameter) refl (child_free (i == 2) role.Parameter refl)
asked r (kind.ArrowExpr is_async is_generator) h d i = child_free (i == 0) role.Parameters refl
asked r kind.CatchClause h d i = child_free (i == 0) role.Declared refl
asked r (kind.VarDeclarator definite) h d i = child_free (i == 0) role.Declared refl
asked r (kind.AssignExpr op) h d i = either (i == 0) (left_of op) role.Free (on_left (target_of r) op) target.Free (left_asked (target_of r) op h) refl
asked r kind.ForInStmt h d i = either (i == 0) role.Head role.Free target.Head target.Free refl refl
asked r (kind.ForOfStmt is_await) h d i = either (i == 0) role.Head role.Free target.Head target.Free refl refl
asked r (kind.BinExpr op) h d i = child_free (i == 0) (operand_of op) (operand_free op)
asked r kind.MemberExpr h d i = child_free (i == 1) role.Private refl
asked r (kind.PrivateMethod k modifiers) h d i = child_free (i == 0) role.Private refl
asked r (kind.PrivateProp modifiers readonly declare definite) h d i = child_free (i == 0) role.Private refl
asked r (kind.ImportNamedSpecifier is_type_only) h d i = child_free (i == 1) role.Key refl
asked r kind.TsEnumMember h d i = child_free (i == 0) role.Key refl
asked r kind.TaggedTpl h d i = child_free (i == 2) role.Tagged refl
asked r kind.Tpl h d i = child_free (i == 1) (in_template r) (template_free r)
asked r _ h d i = refl

-- the sorts of children suit what is asked of them

abbrev pub AllSuit : (ℕ → Role) → List Shape → Type 0
AllSuit role_of [] = Unit {0}
AllSuit role_of (o ∷ os) = (suits (role_of 0) o ≡ true) × AllSuit (λ i. role_of (suc i)) os

-- roles of which nothing more is asked
abbrev AnyShape : Role → Type 0
AnyShape r = (o : Shape) → suits r o ≡ true

all_suit : (role_of : ℕ → Role) → ((i : ℕ) → AnyShape (role_of i)) → (os : List Shape) → AllSuit role_of os
all_suit role_of any [] = tt
all_suit role_of any (o ∷ os) = (any 0 o, all_suit (λ i. role_of (suc i)) (λ i. any (suc i)) os)

all_alike : (role_of : ℕ → Role) (o : Shape) → ((i : ℕ) → suits (role_of i) o ≡ true) → (n : ℕ) → AllSuit role_of (replicate n o)
all_alike role_of o h zero = tt
all_alike role_of o h (suc n) = (h 0, all_alike (λ i. role_of (suc i)) o (λ i. h (suc i)) n)

either_any : (b : Bool) (p q : Role) → AnyShape p → AnyShape q → AnyShape (cond b p q)
either_any true p q e f = e
either_any false p q e f = f

child_any : (b : Bool) (r : Role) → AnyShape r → AnyShape (cond b r role.Free)
child_any b r e = either_any b r role.Free e (λ s. refl)

items_suit : (c : Count) (s : Sort) → are_properties c s ≡ true → is_property (item_count c) s ≡ true
items_suit Many sort.ObjectPatProp h = refl
items_suit Many _ h = not_true h
items_suit _ s h = not_true h

list_suits : (r : Role) (o : Shape) → suits r o ≡ true → suits (in_list r) (item_shape o) ≡ true
list_suits role.AssignedProperties o h = items_suit o.count o.sort h
list_suits _ o h = refl

pattern_any : (r parts : Role) (i : ℕ) → AnyShape parts → AnyShape (in_pattern r parts i)
pattern_any r parts i e = either_any (i == 0) parts (by r role.Nothing role.Free) e (either_any (is_assigned r) role.Nothing role.Free (λ s. refl) (λ s. refl))

rest_any : (r : Role) → AnyShape (in_rest r)
rest_any role.DeclaredProperty s = refl
rest_any role.AssignedProperty s = refl
rest_any _ s = refl

default_any : (r : Role) → AnyShape (in_default r)
default_any role.Parameter s = refl
default_any r s = either_any (is_assigned r) role.Assigned role.Declared (λ s. refl) (λ s. refl) s

bound_any : (r : Role) → AnyShape (bound_name_of r)
bound_any role.Parameter s = refl
bound_any _ s = refl

template_any : (r : Role) → AnyShape (in_template r)
template_any role.Tagged s = refl
template_any _ s = refl

properties_suit : (b : Bool) → suits (cond b role.AssignedProperties role.DeclaredProperties) (many sort.ObjectPatProp) ≡ true
properties_suit true = refl
properties_suit false = refl

-- the kinds whose children have to have the sort of properties
abbrev holds_properties : Kind → Bool
holds_properties kind.List = true
holds_properties (kind.ObjectPat optional) = true
holds_properties _ = false

any_in : (r : Role) (k : Kind) (i : ℕ) → holds_properties k ≡ false → AnyShape (role_in r k i)
unfolding role_in
any_in r kind.List i h = not_true (sym h)
any_in r (kind.ObjectPat optional) i h = not_true (sym h)
any_in r (kind.ArrayPat optional) i h = pattern_any r (by r role.AssignedElements role.DeclaredElements) i (either_any (is_assigned r) role.AssignedElements role.DeclaredElements (λ s. refl) (λ s. refl))
any_in r kind.BindingIdent i h = pattern_any r (bound_name_of r) i (bound_any r)
any_in r kind.RestPat i h = pattern_any r (in_rest r) i (rest_any r)
any_in r kind.AssignPat i h = child_any (i == 0) (in_default r) (default_any r)
any_in r kind.KeyValuePatProp i h = child_any (i == 1) (by r role.AssignedValue role.DeclaredValue) (either_any (is_assigned r) role.AssignedValue role.DeclaredValue (λ s. refl) (λ s. refl))
any_in r kind.AssignPatProp i h = child_any (i == 0) (by r role.AssignedName role.DeclaredName) (either_any (is_assigned r) role.AssignedName role.DeclaredName (λ s. refl) (λ s. refl))
any_in r kind.SetterProp i h = either_any (i == 1) role.Parameter (at_child 2 i role.Parameter) (λ s. refl) (child_any (i == 2) role.Parameter (λ s. refl))
any_in r (kind.ArrowExpr is_async is_generator) i h = child_any (i == 0) role.Parameters (λ s. refl)
any_in r kind.CatchClause i h = child_any (i == 0) role.Declared (λ s. refl)
any_in r (kind.VarDeclarator definite) i h = child_any (i == 0) role.Declared (λ s. refl)
any_in r (kind.AssignExpr op) i h = child_any (i == 0) (left_of op) (either_any (is_plain op) role.Left role.Simple (λ s. refl) (λ s. refl))
any_in r kind.ForInStmt i h = child_any (i == 0) role.Head (λ s. refl)
any_in r (kind.ForOfStmt is_await) i h = child_any (i == 0) role.Head (λ s. refl)
any_in r (kind.BinExpr op) i h = child_any (i == 0) (operand_of op) (either_any (is_in op) role.Private role.Free (λ s. refl) (λ s. refl))
any_in r kind.MemberExpr i h = child_any (i == 1) role.Private (λ s. refl)
any_in r (kind.PrivateMethod k modifiers) i h = child_any (i == 0) role.Private (λ s. refl)
any_in r (kind.PrivateProp modifiers readonly declare definite) i h = child_any (i == 0) role.Private (λ s. refl)
any_in r (kind.ImportNamedSpecifier is_type_only) i h = child_any (i == 1) role.Key (λ s. refl)
any_in r kind.TsEnumMember i h = child_any (i == 0) role.Key (λ s. refl)
any_in r kind.TaggedTpl i h = child_any (i == 2) role.Tagged (λ s. refl)
any_in r kind.Tpl i h = child_any (i == 1) (in_template r) (template_any r)
any_in r _ i h = λ s. refl

pub suited : (r : Role) (k : Kind) (o : Shape) (n : ℕ) → suits r o ≡ true → AllSuit (role_in r k) (child_shapes k o n)
unfolding role_in
suited r kind.List o n h = all_alike (role_in r kind.List) (item_shape o) (λ i. list_suits r o h) n
suited r (kind.ObjectPat optional) o n h = (properties_suit (is_assigned r), (either_any (is_assigned r) role.Nothing role.Free (λ s. refl) (λ s. refl) (maybe sort.TsTypeAnn), tt))
suited r k o n h = all_suit (role_in r k) (λ i. any_in r k i refl) (child_shapes k o n)
