-- What the roles of finished trees ask of kinds, by what the raw ones and the sorts say.
use Rattle.std.proofs.Common.{◌≡◌, ◌∙◌, ℕ, Bool, true, false, not, ◌&&◌, ◌||◌, List, refl, sym}
use Rattle.std.proofs.lemmas.Bool.{and_parts}
use Rattle.ecma_kind.specs.Sorts.{belongs}
use Rattle.ecma_kind.specs.declared.kind.Kind.{Kind}
use Rattle.ecma_kind.specs.declared.kind.Kind.TheVariants as kind
use Rattle.ecma_kind.specs.declared.shapes.Shape.{Shape}
use Rattle.ecma_kind.specs.declared.shapes.Sort.TheVariants as sort
use Rattle.ecma_tree.specs.declared.node.Node.{Node}
use Rattle.ecma_tree.specs.Sorted.{allows, is_absent, is_list, item_shape, one, maybe, many}
use Rattle.ecma_rules.specs.Supers.{is_private_name}
use Rattle.ecma_rules.specs.Targets.{is_short_default, is_simple_target}
use Rattle.ecma_grammar_laws.specs.RawSorts.{is_parameter_property}
use Rattle.ecma_fits.specs.declared.role.Role.{Role}
use Rattle.ecma_fits.specs.declared.role.Role.TheVariants as role
use Rattle.ecma_fits.specs.Roles.{in_list, is_assigned, is_binding, is_default, is_free, is_rest, is_wrong_name, is_wrong_text, may_be, takes}
use Rattle.ecma_raw_roles.specs.RawRoles.{is_parameter, may_be_raw, may_say, may_stand as may_stand_raw, raw_role}
use Rattle.ecma_raw_roles.proofs.Walks.{not_true}
use Rattle.ecma_fits.proofs.Walks.{neither}

-- roles of what is declared, and of all else that is not assigned to
abbrev pub is_declared : Role → Bool
is_declared role.Left = false
is_declared role.Simple = false
is_declared role.Head = false
is_declared role.Nothing = false
is_declared role.Assigned = false
is_declared role.AssignedValue = false
is_declared role.AssignedElement = false
is_declared role.AssignedElements = false
is_declared role.AssignedProperty = false
is_declared role.AssignedProperties = false
is_declared role.AssignedName = false
is_declared _ = true

pub unassigned : (w : Role) → is_declared w ≡ true → is_assigned w ≡ false
unassigned role.Left h = not_true h
unassigned role.Head h = not_true h
unassigned role.Assigned h = not_true h
unassigned role.AssignedValue h = not_true h
unassigned role.AssignedElement h = not_true h
unassigned role.AssignedProperty h = not_true h
unassigned role.AssignedName h = not_true h
unassigned _ h = refl

-- what only the sorts keep out of a role
abbrev pub is_odd : Role → Kind → Bool
is_odd role.Parameter k = is_list k || is_parameter_property k
is_odd role.DefaultedParameter k = is_absent k
is_odd role.DeclaredValue k = is_absent k
is_odd role.DeclaredName k = is_absent k
is_odd _ k = false

-- a shape keeps it out, of its items too
abbrev pub Proper : Role → Shape → Type 0
Proper w o = ((k : Kind) → allows o k ≡ true → is_odd w k ≡ false) × ((k : Kind) → allows (item_shape o) k ≡ true → is_odd (in_list w) k ≡ false)

-- nothing has to be kept out
abbrev pub is_calm : Role → Bool
is_calm role.Parameter = false
is_calm role.Parameters = false
is_calm role.DefaultedParameter = false
is_calm role.DeclaredValue = false
is_calm role.DeclaredName = false
is_calm _ = true

calm_kind : (w : Role) → is_calm w ≡ true → (k : Kind) → is_odd w k ≡ false
calm_kind role.Parameter h k = not_true h
calm_kind role.DefaultedParameter h k = not_true h
calm_kind role.DeclaredValue h k = not_true h
calm_kind role.DeclaredName h k = not_true h
calm_kind _ h k = refl

calm_item : (w : Role) → is_calm w ≡ true → (k : Kind) → is_odd (in_list w) k ≡ false
calm_item role.Parameters h k = not_true h
calm_item role.DeclaredElements h k = refl
calm_item role.DeclaredProperties h k = refl
calm_item role.AssignedElements h k = refl
calm_item role.AssignedProperties h k = refl
calm_item role.TaggedTexts h k = refl
calm_item _ h k = refl

pub calm : (w : Role) (o : Shape) → is_calm w ≡ true → Proper w o
calm w o h = (λ k a. calm_kind w h k, λ k a. calm_item w h k)

-- patterns are no lists and no parameter properties, and not missing

pat_single : (k : Kind) → belongs sort.Pat k ≡ true → (is_list k || is_parameter_property k) ≡ false
pat_single kind.List h = not_true h
pat_single (kind.TsParamProp accessibility is_override readonly) h = not_true h
pat_single _ h = refl

pat_there : (k : Kind) → belongs sort.Pat k ≡ true → is_absent k ≡ false
pat_there kind.Absent h = not_true h
pat_there _ h = refl

pat_even : (w : Role) (k : Kind) → belongs sort.Pat k ≡ true → is_odd w k ≡ false
pat_even role.Parameter k h = pat_single k h
pat_even role.DefaultedParameter k h = pat_there k h
pat_even role.DeclaredValue k h = pat_there k h
pat_even role.DeclaredName k h = pat_there k h
pat_even _ k h = refl

maybe_single : (k : Kind) → (is_absent k || belongs sort.Pat k) ≡ true → (is_list k || is_parameter_property k) ≡ false
maybe_single kind.Absent h = refl
maybe_single k h = pat_single k h

property_single : (k : Kind) → belongs sort.TsParamPropParam k ≡ true → (is_list k || is_parameter_property k) ≡ false
property_single kind.List h = not_true h
property_single (kind.TsParamProp accessibility is_override readonly) h = not_true h
property_single _ h = refl

bound_there : (k : Kind) → belongs sort.BindingIdent k ≡ true → is_absent k ≡ false
bound_there kind.Absent h = not_true h
bound_there _ h = refl

-- the items of the items of a role of one node
pub items_even : (w : Role) (k : Kind) → is_odd (in_list (in_list w)) k ≡ false
items_even role.Parameters k = refl
items_even role.DeclaredElements k = refl
items_even role.DeclaredProperties k = refl
items_even role.AssignedElements k = refl
items_even role.AssignedProperties k = refl
items_even role.TaggedTexts k = refl
items_even _ k = refl

abbrev pub is_single : Role → Bool
is_single role.Parameters = false
is_single _ = true

single_items : (w : Role) → is_single w ≡ true → (k : Kind) → is_odd (in_list w) k ≡ false
single_items role.Parameters h k = not_true h
single_items role.DeclaredElements h k = refl
single_items role.DeclaredProperties h k = refl
single_items role.AssignedElements h k = refl
single_items role.AssignedProperties h k = refl
single_items role.TaggedTexts h k = refl
single_items _ h k = refl

pub one_pat : (w : Role) → is_single w ≡ true → Proper w (one sort.Pat)
one_pat w h = (λ k a. pat_even w k a, λ k a. single_items w h k)

pub maybe_parameter : Proper role.Parameter (maybe sort.Pat)
maybe_parameter = (λ k a. maybe_single k a, λ k a. refl)

pub property_parameter : Proper role.Parameter (one sort.TsParamPropParam)
property_parameter = (λ k a. property_single k a, λ k a. refl)

pub bound_name : Proper role.DeclaredName (one sort.BindingIdent)
bound_name = (λ k a. bound_there k a, λ k a. refl)

pub parameters : Proper role.Parameters (many sort.Pat)
parameters = (λ k a. refl, λ k a. pat_single k a)

-- tests of a node by its kind

abbrev pub out_by : Role → Kind → Node → Bool
out_by w k n = is_wrong_name w k || not (may_be w k || (takes w k && is_simple_target n))

pub may_stand : (w : Role) (k : Kind) (n : Node) → is_wrong_name w k ≡ false → may_be w k ≡ true → out_by w k n ≡ false
may_stand w k n name is = rw (name, is) refl

pub taken : (w : Role) (k : Kind) (n : Node) → is_wrong_name w k ≡ false → takes w k ≡ true → is_simple_target n ≡ true → out_by w k n ≡ false
taken w k n name takes_it simple = go (may_be w k)
  where
    go : (b : Bool) → (is_wrong_name w k || not (b || (takes w k && is_simple_target n))) ≡ false
    go true = rw name refl
    go false = rw (name, takes_it, simple) refl

-- names

wrong_text : (w : Role) (text : List ℕ) → is_wrong_text (raw_role w) text ≡ is_wrong_text w text
wrong_text role.Left text = refl
wrong_text role.Simple text = refl
wrong_text role.Head text = refl
wrong_text role.Nothing text = refl
wrong_text role.Assigned text = refl
wrong_text role.AssignedValue text = refl
wrong_text role.AssignedElement text = refl
wrong_text role.AssignedElements text = refl
wrong_text role.AssignedProperty text = refl
wrong_text role.AssignedProperties text = refl
wrong_text role.AssignedName text = refl
wrong_text role.Tagged text = refl
wrong_text role.TaggedTexts text = refl
wrong_text role.TaggedText text = refl
wrong_text role.Key text = refl
wrong_text role.NameOrThis text = refl
wrong_text _ text = refl

pub wrong_name : (w : Role) (k : Kind) → is_wrong_name (raw_role w) k ≡ is_wrong_name w k
wrong_name w (kind.Ident text ctxt optional) = wrong_text w text
wrong_name w _ = refl

-- where nothing is assigned to

missing_or : (b c : Bool) → (b || c) ≡ true → c ≡ false → b ≡ true
missing_or true c h e = refl
missing_or false c h e = not_true (sym e ∙ h)

or_twice : (b c : Bool) → ((b || c) || c) ≡ true → (b || c) ≡ true
or_twice true c h = refl
or_twice false true h = refl
or_twice false false h = h

or_last : (b c : Bool) → c ≡ true → (b || c) ≡ true
or_last true c h = refl
or_last false c h = h

element_missing : (a b c d : Bool) → ((a || (b || (c || d))) || d) ≡ true → (a || (b || (c || d))) ≡ true
element_missing true b c d h = refl
element_missing false true c d h = refl
element_missing false false true d h = refl
element_missing false false false true h = refl
element_missing false false false false h = h

free_stands : (k : Kind) → not (is_private_name k) ≡ true → is_short_default k ≡ false → is_free k ≡ true
free_stands (kind.PrivateName name) h e = not_true h
free_stands kind.AssignProp h e = not_true (sym e)
free_stands _ h e = refl

stands_so : (w : Role) (k : Kind) → is_declared w ≡ true → may_stand_raw (raw_role w) k ≡ true → is_odd w k ≡ false → is_short_default k ≡ false → may_be w k ≡ true
unfolding may_be
stands_so role.Free k d h odd short = free_stands k h short
stands_so role.Left k d h odd short = not_true d
stands_so role.Simple k d h odd short = not_true d
stands_so role.Head k d h odd short = not_true d
stands_so role.Nothing k d h odd short = not_true d
stands_so role.Assigned k d h odd short = not_true d
stands_so role.AssignedValue k d h odd short = not_true d
stands_so role.AssignedElement k d h odd short = not_true d
stands_so role.AssignedName k d h odd short = not_true d
stands_so role.Declared k d h odd short = or_twice (is_binding k) (is_absent k) h
stands_so role.DeclaredValue k d h odd short = missing_or _ _ h odd
stands_so role.DeclaredElement k d h odd short = element_missing (is_binding k) (is_default k) (is_rest k) (is_absent k) h
stands_so role.Parameter k d h odd short = missing_or _ _ h odd
stands_so role.DefaultedParameter k d h odd short = missing_or _ _ h odd
stands_so role.DeclaredName k d h odd short = missing_or _ _ h odd
stands_so _ k d h odd short = refl

pub stands : (w : Role) (k : Kind) → is_declared w ≡ true → may_be_raw (raw_role w) k ≡ true → is_odd w k ≡ false → is_short_default k ≡ false → may_be w k ≡ true
unfolding may_be_raw
stands w k d h odd short = stands_so w k d (and_parts (may_say (raw_role w) k) (may_stand_raw (raw_role w) k) h).1 odd short

-- a list where no parameter stands
pub no_list_parameter : (w : Role) (k : Kind) → is_odd w k ≡ false → (is_parameter (raw_role w) && is_list k) ≡ false
no_list_parameter role.Parameter k h = (neither (is_list k) (is_parameter_property k) h).0
no_list_parameter role.Left k h = refl
no_list_parameter role.Tagged k h = refl
no_list_parameter _ k h = refl
