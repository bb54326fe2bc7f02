-- Which roles children have in their places: where something is assigned to is a target, and where names are declared is none.
use Rattle.std.proofs.Common.{◌≡◌, ◌∙◌, ℕ, zero, suc, Bool, true, false, not, cond, ◌&&◌, ◌||◌, ◌==◌, List, [], ◌∷◌, map, Some, None, refl, sym, ap, subst, slice_get}
use Rattle.std.specs.List.{list_all}
use Rattle.std.specs.Option.{option_map_or}
use Rattle.ecma_kind.specs.Shapes.{field_shapes}
use Rattle.ecma_kind.specs.Sorts.{belongs}
use Rattle.ecma_kind.specs.declared.kind.Kind.{Kind}
use Rattle.ecma_kind.specs.declared.kind.Kind.TheVariants as kind
use Rattle.ecma_kind.specs.declared.operators.AssignOp.{AssignOp}
use Rattle.ecma_kind.specs.declared.operators.BinaryOp.{BinaryOp}
use Rattle.ecma_kind.specs.declared.operators.UnaryOp.{UnaryOp}
use Rattle.ecma_kind.specs.declared.operators.UnaryOp.TheVariants as unary
use Rattle.ecma_kind.specs.declared.shapes.Count.{Count}
use Rattle.ecma_kind.specs.declared.shapes.Count.TheVariants.{One, Maybe, Many, MaybeMany, Holes}
use Rattle.ecma_kind.specs.declared.shapes.FieldShape.{FieldShape}
use Rattle.ecma_kind.specs.declared.shapes.Shape.{Shape}
use Rattle.ecma_kind.specs.declared.shapes.Sort.{Sort}
use Rattle.ecma_kind.specs.declared.shapes.Sort.TheVariants as sort
use Rattle.ecma_tree.specs.Sorted.{allows, allows_by, child_shapes, is_absent, is_list, item_shape, many, one, with_holes}
use Rattle.ecma_rules.specs.Targets.{is_plain}
use Rattle.ecma_fits.specs.declared.role.Role.{Role}
use Rattle.ecma_fits.specs.declared.role.Role.TheVariants as role
use Rattle.ecma_fits.specs.Roles.{bound_name_of, by as either_role, in_default, in_list, in_rest, in_template, is_assigned, is_bound_name, is_in, left_of, may_be, operand_of, role_in, takes}
use Rattle.ecma_lower_enums.specs.declared.place.Place.{Place}
use Rattle.ecma_lower_enums.specs.declared.place.Place.TheVariants as place
use Rattle.ecma_lower_enums.specs.Places.{exported_place, inside_place, operand_place, pattern_place, place_in, place_of, statements}
use Rattle.ecma_lower_enums_sources.proofs.Relation.{suits, suits_sort}
use Rattle.ecma_lower_enums_sources.proofs.Suiting.{belongs-by, no, some-same, sort-suits}

none-some : {X Y : Type 0} (x : X) → None ≡ Some x → Y
none-some x e = absurd (by e)
  where
    by : None ≡ Some x → ⊥
    by e = cc

only-first : (t : Shape) (i : ℕ) (u : Shape) → slice_get (t ∷ []) i ≡ Some u → t ≡ u
only-first t zero u at = some-same at
only-first t (suc i) u at = none-some u at

-- ---- roles

-- where something is assigned to, or its parts stand
abbrev pub is_targeted : Role → Bool
is_targeted role.Left = true
is_targeted role.Simple = true
is_targeted role.Head = true
is_targeted role.Assigned = true
is_targeted role.AssignedValue = true
is_targeted role.AssignedElement = true
is_targeted role.AssignedElements = true
is_targeted role.AssignedProperties = true
is_targeted role.AssignedProperty = true
is_targeted role.AssignedName = true
is_targeted _ = false

abbrev pub is_free_role : Role → Bool
is_free_role role.Free = true
is_free_role _ = false

abbrev pub is_open_role : Role → Bool
is_open_role role.Free = true
is_open_role role.Private = true
is_open_role _ = false

abbrev is_name_role : Role → Bool
is_name_role role.AssignedName = true
is_name_role _ = false

abbrev pub is_simple_role : Role → Bool
is_simple_role role.Simple = true
is_simple_role _ = false

abbrev is_name_sort : Sort → Bool
is_name_sort sort.BindingIdent = true
is_name_sort _ = false

abbrev is_part_role : Role → Bool
is_part_role role.Assigned = true
is_part_role role.AssignedValue = true
is_part_role role.AssignedElement = true
is_part_role role.AssignedName = true
is_part_role _ = false

abbrev is_elements_role : Role → Bool
is_elements_role role.AssignedElements = true
is_elements_role _ = false

abbrev is_properties_role : Role → Bool
is_properties_role role.AssignedProperties = true
is_properties_role _ = false

abbrev is_property_role : Role → Bool
is_property_role role.AssignedProperty = true
is_property_role _ = false

abbrev is_left_role : Role → Bool
is_left_role role.Left = true
is_left_role role.Simple = true
is_left_role _ = false

abbrev is_head_role : Role → Bool
is_head_role role.Head = true
is_head_role _ = false

abbrev is_operand_role : Role → Bool
is_operand_role role.Free = true
is_operand_role role.Simple = true
is_operand_role _ = false

abbrev is_listed : Count → Bool
is_listed Many = true
is_listed MaybeMany = true
is_listed Holes = true
is_listed _ = false

-- of what is assigned to, by its sort
abbrev pub is_target_role : Sort → Count → Role → Bool
is_target_role sort.Expr c r = is_operand_role r
is_target_role sort.AssignTarget c r = cond (is_listed c) false (is_left_role r)
is_target_role sort.ForHead c r = cond (is_listed c) false (is_head_role r)
is_target_role sort.Pat c r = cond (is_listed c) (is_elements_role r) (is_part_role r)
is_target_role sort.ObjectPatProp c r = cond (is_listed c) (is_properties_role r) (is_property_role r)
is_target_role _ c r = false

-- the roles of nodes of a shape in a place
abbrev pub has_role : Place → Shape → Role → Bool
has_role place.Target t r = is_target_role t.sort t.count r
has_role place.Read t r = is_open_role r
has_role place.Property t r = is_free_role r
has_role (place.Item at_top exported) t r = is_free_role r
has_role (place.Member skips) t r = is_free_role r
has_role _ t r = not (is_targeted r) || (is_name_sort t.sort && is_name_role r)

abbrev is_target_place : Place → Bool
is_target_place place.Target = true
is_target_place _ = false

-- in all other places a role that is free may be
free-role : (q : Place) (u : Shape) → is_target_place q ≡ false → has_role q u role.Free ≡ true
free-role place.Target u h = no (sym h)
free-role _ u h = refl

-- ---- what is assigned to

-- a node of a shape that is neither a list nor missing has a kind of its sort
pub in-sort : (t : Shape) (k : Kind) → is_list k ≡ false → is_absent k ≡ false → allows t k ≡ true → belongs t.sort k ≡ true
in-sort = belongs-by

no-list : (c : Count) (σ : Sort) (k : Kind) → is_list k ≡ false → is_absent k ≡ false → allows_by c σ k ≡ true → is_listed c ≡ false
no-list One σ k l a h = refl
no-list Maybe σ k l a h = refl
no-list Many σ k l a h = no (sym l ∙ h)
no-list MaybeMany σ k l a h = let neither : (is_absent k || is_list k) ≡ false = rw (a, l) refl in no (sym neither ∙ h)
no-list Holes σ k l a h = no (sym l ∙ h)

-- a part of a pattern
abbrev is_pattern_part : Kind → Bool
is_pattern_part (kind.ArrayPat optional) = true
is_pattern_part (kind.ObjectPat optional) = true
is_pattern_part kind.RestPat = true
is_pattern_part kind.AssignPat = true
is_pattern_part kind.KeyValuePatProp = true
is_pattern_part kind.AssignPatProp = true
is_pattern_part kind.BindingIdent = true
is_pattern_part _ = false

part-there : (k : Kind) → is_pattern_part k ≡ true → (is_list k ≡ false) × (is_absent k ≡ false) × (belongs sort.Expr k ≡ false)
part-there (kind.ArrayPat optional) h = (refl, refl, refl)
part-there (kind.ObjectPat optional) h = (refl, refl, refl)
part-there kind.RestPat h = (refl, refl, refl)
part-there kind.AssignPat h = (refl, refl, refl)
part-there kind.KeyValuePatProp h = (refl, refl, refl)
part-there kind.AssignPatProp h = (refl, refl, refl)
part-there kind.BindingIdent h = (refl, refl, refl)
part-there _ h = no h

left-assigned : (r : Role) → is_left_role r ≡ true → is_simple_role r ≡ false → is_assigned r ≡ true
left-assigned role.Left h g = refl
left-assigned role.Simple h g = no (sym g)
left-assigned _ h g = no h

head-assigned : (r : Role) → is_head_role r ≡ true → is_assigned r ≡ true
head-assigned role.Head h = refl
head-assigned _ h = no h

part-assigned : (r : Role) → is_part_role r ≡ true → is_assigned r ≡ true
part-assigned role.Assigned h = refl
part-assigned role.AssignedValue h = refl
part-assigned role.AssignedElement h = refl
part-assigned role.AssignedName h = refl
part-assigned _ h = no h

property-assigned : (r : Role) → is_property_role r ≡ true → is_assigned r ≡ true
property-assigned role.AssignedProperty h = refl
property-assigned _ h = no h

not-listed : (b x y : Bool) → b ≡ false → cond b x y ≡ true → y ≡ true
not-listed true x y h g = no (sym h)
not-listed false x y h g = g

no-listed : (b x : Bool) → cond b false x ≡ true → x ≡ true
no-listed true x h = no h
no-listed false x h = h

-- a pattern that is assigned to has a role of one that is
assigned-by : (σ : Sort) (c : Count) (k : Kind) (r : Role) → is_pattern_part k ≡ true → allows_by c σ k ≡ true → belongs σ k ≡ true → is_simple_role r ≡ false → is_target_role σ c r ≡ true → is_assigned r ≡ true
assigned-by sort.Expr c k r pk a b s h = no (sym (part-there k pk).2 ∙ b)
assigned-by sort.AssignTarget c k r pk a b s h = left-assigned r (no-listed (is_listed c) (is_left_role r) h) s
assigned-by sort.ForHead c k r pk a b s h = head-assigned r (no-listed (is_listed c) (is_head_role r) h)
assigned-by sort.Pat c k r pk a b s h =
    part-assigned r (not-listed (is_listed c) (is_elements_role r) (is_part_role r) (no-list c sort.Pat k (part-there k pk).0 (part-there k pk).1 a) h)
assigned-by sort.ObjectPatProp c k r pk a b s h =
    property-assigned r (not-listed (is_listed c) (is_properties_role r) (is_property_role r) (no-list c sort.ObjectPatProp k (part-there k pk).0 (part-there k pk).1 a) h)
assigned-by _ c k r pk a b s h = no h

or-false : (a b : Bool) → b ≡ false → (a || b) ≡ true → a ≡ true
or-false true b g h = refl
or-false false b g h = no (sym g ∙ h)

not-true : (b : Bool) → not b ≡ true → b ≡ false
not-true true h = no h
not-true false h = refl

untargeted : (r : Role) → is_targeted r ≡ false → is_assigned r ≡ false
untargeted role.Left h = no (sym h)
untargeted role.Simple h = refl
untargeted role.Head h = no (sym h)
untargeted role.Assigned h = no (sym h)
untargeted role.AssignedValue h = no (sym h)
untargeted role.AssignedElement h = no (sym h)
untargeted role.AssignedElements h = refl
untargeted role.AssignedProperties h = refl
untargeted role.AssignedProperty h = no (sym h)
untargeted role.AssignedName h = no (sym h)
untargeted _ h = refl

-- a pattern, other than a name
abbrev pub is_composed : Kind → Bool
is_composed kind.BindingIdent = false
is_composed k = is_pattern_part k

composed-part : (k : Kind) → is_composed k ≡ true → is_pattern_part k ≡ true
composed-part kind.BindingIdent h = no h
composed-part _ h = h

not-name-sort : (σ : Sort) (k : Kind) → is_composed k ≡ true → belongs σ k ≡ true → is_name_sort σ ≡ false
not-name-sort sort.BindingIdent kind.BindingIdent h b = no h
not-name-sort sort.BindingIdent _ h b = no b
not-name-sort _ k h b = refl

open-unassigned : (r : Role) → is_open_role r ≡ true → is_assigned r ≡ false
open-unassigned role.Free h = refl
open-unassigned role.Private h = refl
open-unassigned _ h = no h

free-unassigned : (r : Role) → is_free_role r ≡ true → is_assigned r ≡ false
free-unassigned role.Free h = refl
free-unassigned _ h = no h

others-unassigned : (σ : Sort) (k : Kind) (r : Role) → is_composed k ≡ true → belongs σ k ≡ true → (not (is_targeted r) || (is_name_sort σ && is_name_role r)) ≡ true → is_assigned r ≡ false
others-unassigned σ k r c b h =
    untargeted r (not-true (is_targeted r)
    (or-false (not (is_targeted r)) (is_name_sort σ && is_name_role r) (ap (λ z. z && is_name_role r) (not-name-sort σ k c b)) h))

-- a pattern that is declared has a role of one that is
declared-by : (p : Place) (t : Shape) (k : Kind) (r : Role) → is_target_place p ≡ false → is_composed k ≡ true → belongs t.sort k ≡ true → has_role p t r ≡ true → is_assigned r ≡ false
declared-by place.Target t k r n c b h = no (sym n)
declared-by place.Read t k r n c b h = open-unassigned r h
declared-by place.Property t k r n c b h = free-unassigned r h
declared-by (place.Item at_top exported) t k r n c b h = free-unassigned r h
declared-by (place.Member skips) t k r n c b h = free-unassigned r h
declared-by place.Block t k r n c b h = others-unassigned t.sort k r c b h
declared-by place.Body t k r n c b h = others-unassigned t.sort k r c b h
declared-by place.Other t k r n c b h = others-unassigned t.sort k r c b h
declared-by place.Raw t k r n c b h = others-unassigned t.sort k r c b h

-- ---- patterns

composed-there : (t : Shape) (k : Kind) → is_composed k ≡ true → allows t k ≡ true → belongs t.sort k ≡ true
composed-there t k c a = let there = part-there k (composed-part k c) in in-sort t k there.0 there.1 a

-- a part of one, by the role of the pattern
abbrev Parts : Shape → (Role → Role) → Type 0
Parts u f = ((q : Role) → is_assigned q ≡ true → is_target_role u.sort u.count (f q) ≡ true) × ((q : Role) → is_assigned q ≡ false → is_targeted (f q) ≡ false)

undeclared : (u : Shape) (r : Role) → is_targeted r ≡ false → has_role place.Other u r ≡ true
undeclared u r h = ap (λ z. not z || (is_name_sort u.sort && is_name_role r)) h

pattern-role : (p : Place) (t : Shape) (k : Kind) (r : Role) (u : Shape) (f : Role → Role) → Parts u f → is_composed k ≡ true → allows t k ≡ true → is_simple_role r ≡ false → has_role p t r ≡ true
    → has_role (pattern_place p) u (f r) ≡ true
pattern-role place.Target t k r u f parts c a s h = parts.0 r (assigned-by t.sort t.count k r (composed-part k c) a (composed-there t k c a) s h)
pattern-role p t k r u f parts c a s h = undeclared u (f r) (parts.1 r (declared-by p t k r refl c (composed-there t k c a) h))

by-parts : (u : Shape) (x y : Role) → is_target_role u.sort u.count x ≡ true → is_targeted y ≡ false → Parts u (λ q. either_role q x y)
by-parts u x y h g = ((λ q e. ap (λ b. is_target_role u.sort u.count (cond b x y)) e ∙ h), (λ q e. ap (λ b. is_targeted (cond b x y)) e ∙ g))

rest-parts : Parts (one sort.Pat) in_rest
rest-parts = (assigned, declared)
  where
    assigned : (q : Role) → is_assigned q ≡ true → is_target_role sort.Pat One (in_rest q) ≡ true
    assigned role.DeclaredProperty h = no h
    assigned role.AssignedProperty h = refl
    assigned q h = ap (λ b. is_part_role (cond b role.Assigned role.Declared)) h

    declared : (q : Role) → is_assigned q ≡ false → is_targeted (in_rest q) ≡ false
    declared role.DeclaredProperty h = refl
    declared role.AssignedProperty h = no (sym h)
    declared q h = ap (λ b. is_targeted (cond b role.Assigned role.Declared)) h

default-parts : Parts (one sort.Pat) in_default
default-parts = (assigned, declared)
  where
    assigned : (q : Role) → is_assigned q ≡ true → is_target_role sort.Pat One (in_default q) ≡ true
    assigned role.Parameter h = no h
    assigned q h = ap (λ b. is_part_role (cond b role.Assigned role.Declared)) h

    declared : (q : Role) → is_assigned q ≡ false → is_targeted (in_default q) ≡ false
    declared role.Parameter h = refl
    declared q h = ap (λ b. is_targeted (cond b role.Assigned role.Declared)) h

-- the type of one
type-role : (u : Shape) (b : Bool) → has_role place.Other u (cond b role.Nothing role.Free) ≡ true
type-role u true = refl
type-role u false = refl

name-role : (b : Bool) → has_role place.Other (one sort.BindingIdent) (cond b role.AssignedName role.DeclaredName) ≡ true
name-role true = refl
name-role false = refl

bound-role : (u : Shape) (r : Role) → has_role place.Other u (bound_name_of r) ≡ true
bound-role u role.Parameter = refl
bound-role u _ = refl

-- where names are declared
declared-role : (p : Place) (t u : Shape) (k : Kind) (r : Role) → is_targeted r ≡ false → is_list k ≡ false → is_absent k ≡ false → suits p t ≡ true → allows t k ≡ true
    → (belongs sort.Expr k ≡ false) × (belongs sort.AssignTarget k ≡ false) × (belongs sort.ForHead k ≡ false) × (belongs sort.Pat k ≡ false) × (belongs sort.ObjectPatProp k ≡ false)
    → has_role (pattern_place p) u r ≡ true
declared-role place.Target t u k r h l g s a never = no (sym (by t.sort (sort-suits place.Target t s) (in-sort t k l g a)))
  where
    by : (σ : Sort) → suits_sort place.Target σ ≡ true → belongs σ k ≡ true → true ≡ false
    by sort.Expr s b = no (sym never.0 ∙ b)
    by sort.AssignTarget s b = no (sym never.1 ∙ b)
    by sort.ForHead s b = no (sym never.2 ∙ b)
    by sort.Pat s b = no (sym never.3 ∙ b)
    by sort.ObjectPatProp s b = no (sym never.4 ∙ b)
    by _ s b = no s
declared-role _ t u k r h l g s a never = undeclared u r h

-- ---- other nodes

abbrev is_pattern_sort : Sort → Bool
is_pattern_sort sort.AssignTarget = true
is_pattern_sort sort.ForHead = true
is_pattern_sort sort.Pat = true
is_pattern_sort sort.ObjectPatProp = true
is_pattern_sort _ = false

abbrev lacks_patterns : Kind → Bool
lacks_patterns k = list_all (λ (f : FieldShape). not (is_pattern_sort f.shape.sort)) (field_shapes k)

sort-role : (p : Place) (u : Shape) → not (is_pattern_sort u.sort) ≡ true → has_role (place_of p u.sort) u role.Free ≡ true
sort-role p u h = by u.sort u.count h
  where
    by : (σ : Sort) (c : Count) → not (is_pattern_sort σ) ≡ true → has_role (place_of p σ) (record { count = c; sort = σ }) role.Free ≡ true
    by sort.AssignTarget c h = no h
    by sort.ForHead c h = no h
    by sort.Pat c h = no h
    by sort.ObjectPatProp c h = no h
    by _ c h = refl

and-parts : (a b : Bool) → (a && b) ≡ true → (a ≡ true) × (b ≡ true)
and-parts true b h = (refl, h)
and-parts false b h = no h

fields-role : (p : Place) (fields : List FieldShape) → list_all (λ (f : FieldShape). not (is_pattern_sort f.shape.sort)) fields ≡ true → (i : ℕ) (u : Shape)
    → slice_get (map (λ child. child.shape) fields) i ≡ Some u → has_role (option_map_or (λ (f : FieldShape). place_of p f.shape.sort) (slice_get fields i) place.Other) u role.Free ≡ true
fields-role p [] h i u at = none-some u at
fields-role p (f ∷ fs) h zero u at =
    subst (λ (z : Shape). has_role (place_of p f.shape.sort) z role.Free ≡ true) (some-same at)
    (sort-role p f.shape (and-parts (not (is_pattern_sort f.shape.sort)) (list_all (λ (g : FieldShape). not (is_pattern_sort g.shape.sort)) fs) h).0)
fields-role p (f ∷ fs) h (suc i) u at = fields-role p fs (and-parts (not (is_pattern_sort f.shape.sort)) (list_all (λ (g : FieldShape). not (is_pattern_sort g.shape.sort)) fs) h).1 i u at

-- in a place that is none of a target
cond-role : (b : Bool) (x y : Place) (u : Shape) → is_target_place x ≡ false → is_target_place y ≡ false → has_role (cond b x y) u role.Free ≡ true
cond-role true x y u h g = free-role x u h
cond-role false x y u h g = free-role y u g

statements-role : (writes at_top : Bool) (u : Shape) → has_role (statements writes at_top) u role.Free ≡ true
statements-role true at_top u = refl
statements-role false at_top u = refl

statements-other : (writes at_top : Bool) → is_target_place (statements writes at_top) ≡ false
statements-other true at_top = refl
statements-other false at_top = refl

exported-other : (p : Place) → is_target_place (exported_place p) ≡ false
exported-other (place.Item at_top exported) = refl
exported-other _ = refl

inside-role : (p : Place) → has_role (inside_place p) (one sort.Expr) role.Free ≡ true
inside-role place.Target = refl
inside-role _ = refl

operand-role : (op : UnaryOp) → has_role (operand_place op) (one sort.Expr) role.Free ≡ true
operand-role unary.Delete = refl
operand-role _ = refl

expression-role : (p : Place) → has_role p (one sort.Expr) role.Free ≡ true
expression-role place.Target = refl
expression-role _ = refl

left-role : (op : AssignOp) → has_role place.Target (one sort.AssignTarget) (left_of op) ≡ true
left-role op = by (is_plain op)
  where
    by : (b : Bool) → has_role place.Target (one sort.AssignTarget) (cond b role.Left role.Simple) ≡ true
    by true = refl
    by false = refl

in-role : (op : BinaryOp) (u : Shape) → has_role place.Read u (operand_of op) ≡ true
in-role op u = by (is_in op)
  where
    by : (b : Bool) → has_role place.Read u (cond b role.Private role.Free) ≡ true
    by true = refl
    by false = refl

template-role : (r : Role) (u : Shape) → has_role place.Other u (in_template r) ≡ true
template-role role.Tagged u = refl
template-role _ u = refl

all-expressions : (n i : ℕ) (t u : Shape) → slice_get (child_shapes kind.SeqExpr t n) i ≡ Some u → one sort.Expr ≡ u
all-expressions zero zero t u at = some-same at
all-expressions zero (suc i) t u at = none-some u at
all-expressions (suc n) zero t u at = some-same at
all-expressions (suc zero) (suc i) t u at = none-some u at
all-expressions (suc (suc n)) (suc i) t u at = all-expressions (suc n) i t u at

module _ (writes : Bool) (p : Place) (t : Shape) (r : Role) where
  -- the roles of children suit their places
  pub child-role : (k : Kind) (n i : ℕ) (u : Shape) → is_list k ≡ false → suits p t ≡ true → has_role p t r ≡ true → allows t k ≡ true → (is_composed k ≡ true → is_simple_role r ≡ false)
      → slice_get (child_shapes k t n) i ≡ Some u → has_role (place_in writes p k i) u (role_in r k i) ≡ true
  unfolding place_in role_in
  child-role kind.List n i u l s h a pl at = no (sym l)
  child-role kind.SeqExpr n i u l s h a pl at = refl
  child-role (kind.Module shebang) n i u l s h a pl at = statements-role writes true u
  child-role (kind.Script shebang) n i u l s h a pl at = statements-role writes true u
  child-role kind.BlockStmt n i u l s h a pl at = statements-role writes false u
  child-role kind.TsModuleBlock n i u l s h a pl at = statements-role writes false u
  child-role kind.SwitchCase n i u l s h a pl at = cond-role (i == 1) (statements writes false) place.Read u (statements-other writes false) refl
  child-role kind.ExportDecl n i u l s h a pl at = cond-role (i == 0) (exported_place p) place.Other u (exported-other p) refl
  child-role (kind.TsModuleDecl declare global) n i u l s h a pl at = cond-role (i == 1) place.Block place.Other u refl refl
  child-role (kind.TsNamespaceDecl declare global) n i u l s h a pl at = cond-role (i == 1) place.Block place.Other u refl refl
  child-role kind.ParenExpr n i u l s h a pl at = subst (λ (z : Shape). has_role (inside_place p) z role.Free ≡ true) (only-first (one sort.Expr) i u at) (inside-role p)
  child-role (kind.UpdateExpr op prefix) n i u l s h a pl at = subst (λ (z : Shape). has_role place.Target z role.Simple ≡ true) (only-first (one sort.Expr) i u at) refl
  child-role (kind.UnaryExpr op) n i u l s h a pl at = subst (λ (z : Shape). has_role (operand_place op) z role.Free ≡ true) (only-first (one sort.Expr) i u at) (operand-role op)
  child-role (kind.ArrowExpr is_async is_generator) n zero u l s h a pl at = refl
  child-role (kind.ArrowExpr is_async is_generator) n (suc zero) u l s h a pl at = refl
  child-role (kind.ArrowExpr is_async is_generator) n (suc (suc zero)) u l s h a pl at = refl
  child-role (kind.ArrowExpr is_async is_generator) n (suc (suc (suc zero))) u l s h a pl at = refl
  child-role (kind.ArrowExpr is_async is_generator) n (suc (suc (suc (suc i)))) u l s h a pl at = none-some u at
  child-role kind.SetterProp n zero u l s h a pl at = refl
  child-role kind.SetterProp n (suc zero) u l s h a pl at = refl
  child-role kind.SetterProp n (suc (suc zero)) u l s h a pl at = refl
  child-role kind.SetterProp n (suc (suc (suc zero))) u l s h a pl at = refl
  child-role kind.SetterProp n (suc (suc (suc (suc i)))) u l s h a pl at = none-some u at
  child-role kind.TsTypeAssertion n zero u l s h a pl at = subst (λ (z : Shape). has_role p z role.Free ≡ true) (some-same at) (expression-role p)
  child-role kind.TsTypeAssertion n (suc zero) u l s h a pl at = refl
  child-role kind.TsTypeAssertion n (suc (suc i)) u l s h a pl at = none-some u at
  child-role kind.TsConstAssertion n zero u l s h a pl at = subst (λ (z : Shape). has_role p z role.Free ≡ true) (some-same at) (expression-role p)
  child-role kind.TsConstAssertion n (suc i) u l s h a pl at = none-some u at
  child-role kind.TsNonNullExpr n zero u l s h a pl at = subst (λ (z : Shape). has_role p z role.Free ≡ true) (some-same at) (expression-role p)
  child-role kind.TsNonNullExpr n (suc i) u l s h a pl at = none-some u at
  child-role kind.TsAsExpr n zero u l s h a pl at = subst (λ (z : Shape). has_role p z role.Free ≡ true) (some-same at) (expression-role p)
  child-role kind.TsAsExpr n (suc zero) u l s h a pl at = refl
  child-role kind.TsAsExpr n (suc (suc i)) u l s h a pl at = none-some u at
  child-role kind.TsInstantiation n zero u l s h a pl at = subst (λ (z : Shape). has_role p z role.Free ≡ true) (some-same at) (expression-role p)
  child-role kind.TsInstantiation n (suc zero) u l s h a pl at = refl
  child-role kind.TsInstantiation n (suc (suc i)) u l s h a pl at = none-some u at
  child-role kind.TsSatisfiesExpr n zero u l s h a pl at = subst (λ (z : Shape). has_role p z role.Free ≡ true) (some-same at) (expression-role p)
  child-role kind.TsSatisfiesExpr n (suc zero) u l s h a pl at = refl
  child-role kind.TsSatisfiesExpr n (suc (suc i)) u l s h a pl at = none-some u at
  -- patterns
  child-role (kind.ArrayPat optional) n zero u l s h a pl at =
      let v = with_holes sort.Pat in
      subst (λ (z : Shape). has_role (pattern_place p) z (either_role r role.AssignedElements role.DeclaredElements) ≡ true) (some-same at)
      (pattern-role p t (kind.ArrayPat optional) r v (λ q. either_role q role.AssignedElements role.DeclaredElements) (by-parts v role.AssignedElements role.DeclaredElements refl refl) refl a (pl refl) h)
  child-role (kind.ArrayPat optional) n (suc zero) u l s h a pl at = type-role u (is_assigned r)
  child-role (kind.ArrayPat optional) n (suc (suc i)) u l s h a pl at = none-some u at
  child-role (kind.ObjectPat optional) n zero u l s h a pl at =
      let v = many sort.ObjectPatProp in
      subst (λ (z : Shape). has_role (pattern_place p) z (either_role r role.AssignedProperties role.DeclaredProperties) ≡ true) (some-same at)
      (pattern-role p t (kind.ObjectPat optional) r v (λ q. either_role q role.AssignedProperties role.DeclaredProperties) (by-parts v role.AssignedProperties role.DeclaredProperties refl refl) refl a (pl refl) h)
  child-role (kind.ObjectPat optional) n (suc zero) u l s h a pl at = type-role u (is_assigned r)
  child-role (kind.ObjectPat optional) n (suc (suc i)) u l s h a pl at = none-some u at
  child-role kind.BindingIdent n zero u l s h a pl at = bound-role u r
  child-role kind.BindingIdent n (suc zero) u l s h a pl at = type-role u (is_assigned r)
  child-role kind.BindingIdent n (suc (suc i)) u l s h a pl at = none-some u at
  child-role kind.RestPat n zero u l s h a pl at =
      subst (λ (z : Shape). has_role (pattern_place p) z (in_rest r) ≡ true) (some-same at) (pattern-role p t kind.RestPat r (one sort.Pat) in_rest rest-parts refl a (pl refl) h)
  child-role kind.RestPat n (suc zero) u l s h a pl at = type-role u (is_assigned r)
  child-role kind.RestPat n (suc (suc i)) u l s h a pl at = none-some u at
  child-role kind.AssignPat n zero u l s h a pl at =
      subst (λ (z : Shape). has_role (pattern_place p) z (in_default r) ≡ true) (some-same at) (pattern-role p t kind.AssignPat r (one sort.Pat) in_default default-parts refl a (pl refl) h)
  child-role kind.AssignPat n (suc zero) u l s h a pl at = refl
  child-role kind.AssignPat n (suc (suc i)) u l s h a pl at = none-some u at
  child-role kind.KeyValuePatProp n zero u l s h a pl at = refl
  child-role kind.KeyValuePatProp n (suc zero) u l s h a pl at =
      let v = one sort.Pat in
      subst (λ (z : Shape). has_role (pattern_place p) z (either_role r role.AssignedValue role.DeclaredValue) ≡ true) (some-same at)
      (pattern-role p t kind.KeyValuePatProp r v (λ q. either_role q role.AssignedValue role.DeclaredValue) (by-parts v role.AssignedValue role.DeclaredValue refl refl) refl a (pl refl) h)
  child-role kind.KeyValuePatProp n (suc (suc i)) u l s h a pl at = none-some u at
  child-role kind.AssignPatProp n zero u l s h a pl at =
      subst (λ (z : Shape). has_role place.Other z (either_role r role.AssignedName role.DeclaredName) ≡ true) (some-same at) (name-role (is_assigned r))
  child-role kind.AssignPatProp n (suc zero) u l s h a pl at = refl
  child-role kind.AssignPatProp n (suc (suc i)) u l s h a pl at = none-some u at
  -- declarations
  child-role kind.Param n zero u l s h a pl at = declared-role p t u kind.Param role.Parameter refl refl refl s a (refl, refl, refl, refl, refl)
  child-role kind.Param n (suc i) u l s h a pl at = none-some u at
  child-role (kind.TsParamProp accessibility is_override readonly) n zero u l s h a pl at = refl
  child-role (kind.TsParamProp accessibility is_override readonly) n (suc i) u l s h a pl at = none-some u at
  child-role kind.CatchClause n zero u l s h a pl at = declared-role p t u kind.CatchClause role.Declared refl refl refl s a (refl, refl, refl, refl, refl)
  child-role kind.CatchClause n (suc zero) u l s h a pl at = refl
  child-role kind.CatchClause n (suc (suc i)) u l s h a pl at = none-some u at
  child-role (kind.VarDeclarator definite) n zero u l s h a pl at = declared-role p t u (kind.VarDeclarator definite) role.Declared refl refl refl s a (refl, refl, refl, refl, refl)
  child-role (kind.VarDeclarator definite) n (suc zero) u l s h a pl at = refl
  child-role (kind.VarDeclarator definite) n (suc (suc i)) u l s h a pl at = none-some u at
  -- targets
  child-role (kind.AssignExpr op) n zero u l s h a pl at = subst (λ (z : Shape). has_role place.Target z (left_of op) ≡ true) (some-same at) (left-role op)
  child-role (kind.AssignExpr op) n (suc zero) u l s h a pl at = refl
  child-role (kind.AssignExpr op) n (suc (suc i)) u l s h a pl at = none-some u at
  child-role kind.ForInStmt n zero u l s h a pl at = subst (λ (z : Shape). has_role place.Target z role.Head ≡ true) (some-same at) refl
  child-role kind.ForInStmt n (suc zero) u l s h a pl at = refl
  child-role kind.ForInStmt n (suc (suc zero)) u l s h a pl at = refl
  child-role kind.ForInStmt n (suc (suc (suc i))) u l s h a pl at = none-some u at
  child-role (kind.ForOfStmt is_await) n zero u l s h a pl at = subst (λ (z : Shape). has_role place.Target z role.Head ≡ true) (some-same at) refl
  child-role (kind.ForOfStmt is_await) n (suc zero) u l s h a pl at = refl
  child-role (kind.ForOfStmt is_await) n (suc (suc zero)) u l s h a pl at = refl
  child-role (kind.ForOfStmt is_await) n (suc (suc (suc i))) u l s h a pl at = none-some u at
  -- names
  child-role (kind.BinExpr op) n zero u l s h a pl at = in-role op u
  child-role (kind.BinExpr op) n (suc zero) u l s h a pl at = refl
  child-role (kind.BinExpr op) n (suc (suc i)) u l s h a pl at = none-some u at
  child-role kind.MemberExpr n zero u l s h a pl at = refl
  child-role kind.MemberExpr n (suc zero) u l s h a pl at = refl
  child-role kind.MemberExpr n (suc (suc i)) u l s h a pl at = none-some u at
  child-role (kind.PrivateMethod k modifiers) n zero u l s h a pl at = refl
  child-role (kind.PrivateMethod k modifiers) n (suc zero) u l s h a pl at = refl
  child-role (kind.PrivateMethod k modifiers) n (suc (suc i)) u l s h a pl at = none-some u at
  child-role (kind.PrivateProp modifiers readonly declare definite) n zero u l s h a pl at = refl
  child-role (kind.PrivateProp modifiers readonly declare definite) n (suc zero) u l s h a pl at = refl
  child-role (kind.PrivateProp modifiers readonly declare definite) n (suc (suc zero)) u l s h a pl at = refl
  child-role (kind.PrivateProp modifiers readonly declare definite) n (suc (suc (suc i))) u l s h a pl at = none-some u at
  child-role (kind.ImportNamedSpecifier is_type_only) n zero u l s h a pl at = refl
  child-role (kind.ImportNamedSpecifier is_type_only) n (suc zero) u l s h a pl at = refl
  child-role (kind.ImportNamedSpecifier is_type_only) n (suc (suc i)) u l s h a pl at = none-some u at
  child-role (kind.ExportNamedSpecifier is_type_only) n zero u l s h a pl at = refl
  child-role (kind.ExportNamedSpecifier is_type_only) n (suc zero) u l s h a pl at = refl
  child-role (kind.ExportNamedSpecifier is_type_only) n (suc (suc i)) u l s h a pl at = none-some u at
  child-role kind.ExportNamespaceSpecifier n zero u l s h a pl at = refl
  child-role kind.ExportNamespaceSpecifier n (suc i) u l s h a pl at = none-some u at
  child-role kind.TsEnumMember n zero u l s h a pl at = refl
  child-role kind.TsEnumMember n (suc zero) u l s h a pl at = refl
  child-role kind.TsEnumMember n (suc (suc i)) u l s h a pl at = none-some u at
  child-role kind.TaggedTpl n zero u l s h a pl at = refl
  child-role kind.TaggedTpl n (suc zero) u l s h a pl at = refl
  child-role kind.TaggedTpl n (suc (suc zero)) u l s h a pl at = refl
  child-role kind.TaggedTpl n (suc (suc (suc i))) u l s h a pl at = none-some u at
  child-role kind.Tpl n zero u l s h a pl at = refl
  child-role kind.Tpl n (suc zero) u l s h a pl at = template-role r u
  child-role kind.Tpl n (suc (suc i)) u l s h a pl at = none-some u at
  child-role k n i u l s h a pl at = fields-role p (field_shapes k) refl i u at

-- ---- lists

-- the items of a list
in-list-other : (r : Role) → is_targeted r ≡ false → is_targeted (in_list r) ≡ false
in-list-other role.AssignedElements h = no (sym h)
in-list-other role.AssignedProperties h = no (sym h)
in-list-other _ h = refl

in-list-name : (r : Role) → is_name_role r ≡ true → is_targeted (in_list r) ≡ false
in-list-name role.AssignedName h = refl
in-list-name _ h = no h

elements-item : (r : Role) → is_elements_role r ≡ true → is_part_role (in_list r) ≡ true
elements-item role.AssignedElements h = refl
elements-item _ h = no h

properties-item : (r : Role) → is_properties_role r ≡ true → is_property_role (in_list r) ≡ true
properties-item role.AssignedProperties h = refl
properties-item _ h = no h

open-item : (r : Role) → is_open_role r ≡ true → is_open_role (in_list r) ≡ true
open-item role.Free h = refl
open-item role.Private h = refl
open-item _ h = no h

free-item : (r : Role) → is_free_role r ≡ true → is_free_role (in_list r) ≡ true
free-item role.Free h = refl
free-item _ h = no h

-- of what is assigned to
target-item : (σ : Sort) (c : Count) (r : Role) → allows_by c σ kind.List ≡ true → is_target_role σ c r ≡ true → has_role place.Target (item_shape (record { count = c; sort = σ })) (in_list r) ≡ true
target-item sort.Pat Many r a h = elements-item r h
target-item sort.Pat MaybeMany r a h = elements-item r h
target-item sort.Pat Holes r a h = elements-item r h
target-item sort.Pat One r a h = no a
target-item sort.Pat Maybe r a h = no a
target-item sort.ObjectPatProp Many r a h = properties-item r h
target-item sort.ObjectPatProp MaybeMany r a h = properties-item r h
target-item sort.ObjectPatProp Holes r a h = properties-item r h
target-item sort.ObjectPatProp One r a h = no a
target-item sort.ObjectPatProp Maybe r a h = no a
target-item sort.Expr c r a h = operand r h
  where
    operand : (r : Role) → is_operand_role r ≡ true → is_operand_role (in_list r) ≡ true
    operand role.Free h = refl
    operand role.Simple h = refl
    operand _ h = no h
target-item sort.AssignTarget One r a h = no a
target-item sort.AssignTarget Maybe r a h = no a
target-item sort.AssignTarget _ r a h = no h
target-item sort.ForHead One r a h = no a
target-item sort.ForHead Maybe r a h = no a
target-item sort.ForHead _ r a h = no h
target-item _ c r a h = no h

others-item : (t : Shape) (r : Role) → (not (is_targeted r) || (is_name_sort t.sort && is_name_role r)) ≡ true → has_role place.Other (item_shape t) (in_list r) ≡ true
others-item t r h = undeclared (item_shape t) (in_list r) (by (is_targeted r) refl)
  where
    by : (b : Bool) → is_targeted r ≡ b → is_targeted (in_list r) ≡ false
    by false e = in-list-other r e
    by true e = in-list-name r (and-parts (is_name_sort t.sort) (is_name_role r) (sym (ap (λ z. not z || (is_name_sort t.sort && is_name_role r)) e) ∙ h)).1

pub item-role : (p : Place) (t : Shape) (r : Role) → allows t kind.List ≡ true → has_role p t r ≡ true → has_role p (item_shape t) (in_list r) ≡ true
item-role place.Target t r a h = target-item t.sort t.count r a h
item-role place.Read t r a h = open-item r h
item-role place.Property t r a h = free-item r h
item-role (place.Item at_top exported) t r a h = free-item r h
item-role (place.Member skips) t r a h = free-item r h
item-role place.Block t r a h = others-item t r h
item-role place.Body t r a h = others-item t r h
item-role place.Other t r a h = others-item t r h
item-role place.Raw t r a h = others-item t r h

-- ---- where a simple target may stand

takes-targeted : (r : Role) (k : Kind) → takes r k ≡ true → is_targeted r ≡ true
unfolding takes
takes-targeted role.Left k h = refl
takes-targeted role.Simple k h = refl
takes-targeted role.Head k h = refl
takes-targeted role.Assigned k h = refl
takes-targeted role.AssignedValue k h = refl
takes-targeted role.AssignedElement k h = refl
takes-targeted role.AssignedName k h = refl
takes-targeted _ k h = no h

open-untargeted : (r : Role) → is_open_role r ≡ true → is_targeted r ≡ false
open-untargeted role.Free h = refl
open-untargeted role.Private h = refl
open-untargeted _ h = no h

free-untargeted : (r : Role) → is_free_role r ≡ true → is_targeted r ≡ false
free-untargeted role.Free h = refl
free-untargeted _ h = no h

name-kind : (σ : Sort) (k : Kind) → is_name_sort σ ≡ true → belongs σ k ≡ true → is_bound_name k ≡ true
name-kind sort.BindingIdent kind.BindingIdent h b = refl
name-kind sort.BindingIdent _ h b = no b
name-kind _ k h b = no h

name-may : (r : Role) (k : Kind) → is_name_role r ≡ true → is_bound_name k ≡ true → may_be r k ≡ true
unfolding may_be
name-may role.AssignedName k h b = b
name-may _ k h b = no h

module _ (t : Shape) (r : Role) (k : Kind) (l : is_list k ≡ false) (a : is_absent k ≡ false) (allowed : allows t k ≡ true) (may : may_be r k ≡ false) (take : takes r k ≡ true) where
  never-takes : {X : Type 0} → is_targeted r ≡ false → X
  never-takes h = no (sym h ∙ takes-targeted r k take)

  others-never : {X : Type 0} → (not (is_targeted r) || (is_name_sort t.sort && is_name_role r)) ≡ true → X
  others-never h =
      let named = and-parts (is_name_sort t.sort) (is_name_role r) (sym (ap (λ z. not z || (is_name_sort t.sort && is_name_role r)) (takes-targeted r k take)) ∙ h) in
      no (sym may ∙ name-may r k named.1 (name-kind t.sort k named.0 (in-sort t k l a allowed)))

  pub taking-place : (p : Place) → has_role p t r ≡ true → p ≡ place.Target
  taking-place place.Target h = refl
  taking-place place.Read h = never-takes (open-untargeted r h)
  taking-place place.Property h = never-takes (free-untargeted r h)
  taking-place (place.Item at_top exported) h = never-takes (free-untargeted r h)
  taking-place (place.Member skips) h = never-takes (free-untargeted r h)
  taking-place place.Block h = others-never h
  taking-place place.Body h = others-never h
  taking-place place.Other h = others-never h
  taking-place place.Raw h = others-never h

-- where a member stands for a name
member-role : (r : Role) → is_targeted r ≡ true → (may_be r kind.MemberExpr || takes r kind.MemberExpr) ≡ true
unfolding may_be takes
member-role role.Left h = refl
member-role role.Simple h = refl
member-role role.Head h = refl
member-role role.Assigned h = refl
member-role role.AssignedValue h = refl
member-role role.AssignedElement h = refl
member-role role.AssignedElements h = refl
member-role role.AssignedProperties h = refl
member-role role.AssignedProperty h = refl
member-role role.AssignedName h = refl
member-role _ h = no h

free-member : (r : Role) → is_operand_role r ≡ true → (may_be r kind.MemberExpr || takes r kind.MemberExpr) ≡ true
unfolding may_be takes
free-member role.Free h = refl
free-member role.Simple h = refl
free-member _ h = no h

left-targeted : (r : Role) → is_left_role r ≡ true → is_targeted r ≡ true
left-targeted role.Left h = refl
left-targeted role.Simple h = refl
left-targeted _ h = no h

assigned-targeted : (r : Role) → is_assigned r ≡ true → is_targeted r ≡ true
assigned-targeted role.Left h = refl
assigned-targeted role.Head h = refl
assigned-targeted role.Assigned h = refl
assigned-targeted role.AssignedValue h = refl
assigned-targeted role.AssignedElement h = refl
assigned-targeted role.AssignedProperty h = refl
assigned-targeted role.AssignedName h = refl
assigned-targeted _ h = no h

elements-targeted : (r : Role) → is_elements_role r ≡ true → is_targeted r ≡ true
elements-targeted role.AssignedElements h = refl
elements-targeted _ h = no h

properties-targeted : (r : Role) → is_properties_role r ≡ true → is_targeted r ≡ true
properties-targeted role.AssignedProperties h = refl
properties-targeted _ h = no h

either-targeted : (b x y : Bool) (r : Role) → (x ≡ true → is_targeted r ≡ true) → (y ≡ true → is_targeted r ≡ true) → cond b x y ≡ true → is_targeted r ≡ true
either-targeted true x y r f g h = f h
either-targeted false x y r f g h = g h

pub target-member : (σ : Sort) (c : Count) (r : Role) → is_target_role σ c r ≡ true → (may_be r kind.MemberExpr || takes r kind.MemberExpr) ≡ true
target-member sort.Expr c r h = free-member r h
target-member sort.AssignTarget c r h = member-role r (left-targeted r (no-listed (is_listed c) (is_left_role r) h))
target-member sort.ForHead c r h = member-role r (assigned-targeted r (head-assigned r (no-listed (is_listed c) (is_head_role r) h)))
target-member sort.Pat c r h =
    member-role r (either-targeted (is_listed c) (is_elements_role r) (is_part_role r) r (elements-targeted r) (λ z. assigned-targeted r (part-assigned r z)) h)
target-member sort.ObjectPatProp c r h =
    member-role r (either-targeted (is_listed c) (is_properties_role r) (is_property_role r) r (properties-targeted r) (λ z. assigned-targeted r (property-assigned r z)) h)
target-member _ c r h = no h

-- a shorthand in a pattern
property-role : (r : Role) → is_property_role r ≡ true → r ≡ role.AssignedProperty
property-role role.AssignedProperty h = refl
property-role _ h = no h

pub short-role : (σ : Sort) (c : Count) (r : Role) → allows_by c σ kind.AssignPatProp ≡ true → belongs σ kind.AssignPatProp ≡ true → is_target_role σ c r ≡ true → r ≡ role.AssignedProperty
short-role sort.ObjectPatProp c r a b h =
    property-role r (not-listed (is_listed c) (is_properties_role r) (is_property_role r) (no-list c sort.ObjectPatProp kind.AssignPatProp refl refl a) h)
short-role sort.Expr c r a b h = no b
short-role sort.AssignTarget c r a b h = no b
short-role sort.ForHead c r a b h = no b
short-role sort.Pat c r a b h = no b
short-role _ c r a b h = no h

pub free-is : (r : Role) → is_free_role r ≡ true → r ≡ role.Free
free-is role.Free h = refl
free-is _ h = no h
