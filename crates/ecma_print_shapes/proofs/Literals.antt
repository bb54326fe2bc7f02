-- Patterns that are assigned to are covered by literals.
use Rattle.std.proofs.Common.{◌≡◌, ◌∙◌, refl, sym, ap, subst, Bool, true, false, List, [], ◌∷◌, map, length, replicate, cond}
use Rattle.std.proofs.lemmas.Bool.{false≢true}
use Rattle.ecma_kind.specs.Sorts.{belongs}
use Rattle.ecma_kind.specs.declared.span.Span.{Span}
use Rattle.ecma_kind.specs.declared.kind.Kind.{Kind}
use Rattle.ecma_kind.specs.declared.kind.Kind.TheVariants as kind
use Rattle.ecma_kind.specs.declared.operators.AssignOp.TheVariants.{Assign}
use Rattle.ecma_kind.specs.declared.shapes.Shape.{Shape}
use Rattle.ecma_kind.specs.declared.shapes.Sort.TheVariants as sort
use Rattle.ecma_tree.specs.declared.node.Node.{Node, out-Node}
use Rattle.ecma_tree.specs.declared.node.Node.TheViews.{roll-out-Node}
use Rattle.ecma_tree.specs.Nodes.{node_of}
use Rattle.ecma_tree.specs.Sorted.{is_absent, many, maybe, one, with_holes}
use Rattle.ecma_rules.specs.declared.target.Target.{Target}
use Rattle.ecma_rules.specs.declared.target.Target.TheVariants as target
use Rattle.ecma_rules.specs.Children.{kind_of}
use Rattle.ecma_rules.specs.Finishing.{each_in}
use Rattle.ecma_rules.specs.Targets.{in_literal, target_in}
use Rattle.ecma_covers.specs.Covering.{cover_at, cover_by, cover_in}
use Rattle.ecma_fits.specs.declared.role.Role.{Role}
use Rattle.ecma_fits.specs.declared.role.Role.TheVariants as role
use Rattle.ecma_fits.specs.Roles.{by, is_bound_name, is_default, is_pattern, is_rest, may_be, role_in}
use Rattle.ecma_print.specs.declared.place.Spot.{Spot}
use Rattle.ecma_print.specs.Places.{free}
use Rattle.ecma_shapes.specs.Shapes.{AreProperties, AreSlots, IsElement, IsExpression, IsProperty, array, assignment, assignment_expression, callee, filled, hole, initialized, key_value, more_properties, new_callee, no_properties, no_slots, object_literal, shorthand, spread, spread_property, values}
use Rattle.ecma_shapes.specs.Shapes as shapes
use Rattle.ecma_print_shapes.proofs.Bindings.{items_of, or_there}
use Rattle.ecma_print_shapes.proofs.Building.{absent_shape}
use Rattle.ecma_print_shapes.proofs.Claims.{AllFormed, CoveredList, Formed, IsCovered, as_element, as_part, as_value, covered_there, in_head, on_left, rest_there, seen, value_kind}
use Rattle.ecma_print_shapes.proofs.Covered.{cover_node, covered_children}
use Rattle.ecma_print_shapes.proofs.Ranks.{to_assignment}
use Rattle.ecma_print_shapes.proofs.Sound.{AllSound, Here, Sound, kind_made}
use Rattle.ecma_print_shapes.proofs.Spots.{assigned, child_value, proper_free}
use Rattle.ecma_print_shapes.proofs.Targets.{no_default_there, no_rest_there}

-- what stands in a pattern that is assigned to, and what covers it

covered_parts : {r : Role} {t : Target} → IsCovered r t → (a d : Role) → by r a d ≡ a
covered_parts on_left a d = refl
covered_parts in_head a d = refl
covered_parts as_part a d = refl
covered_parts as_value a d = refl
covered_parts as_element a d = refl

covered_items : {r : Role} {t : Target} → IsCovered r t → (items : Target) → in_literal t items ≡ items
covered_items on_left items = refl
covered_items in_head items = refl
covered_items as_part items = refl
covered_items as_value items = refl
covered_items as_element items = refl

array_cover : {r : Role} {t : Target} → IsCovered r t → (at : Span) (o : Bool) (x y : Node) → cover_by t (record { span = at; kind = kind.ArrayPat o; children = x ∷ y ∷ [] }) ≡ node_of at kind.ArrayLit (x ∷ [])
array_cover on_left at o x y = refl
array_cover in_head at o x y = refl
array_cover as_part at o x y = refl
array_cover as_value at o x y = refl
array_cover as_element at o x y = refl

object_cover : {r : Role} {t : Target} → IsCovered r t → (at : Span) (o : Bool) (x y : Node) → cover_by t (record { span = at; kind = kind.ObjectPat o; children = x ∷ y ∷ [] }) ≡ node_of at kind.ObjectLit (x ∷ [])
object_cover on_left at o x y = refl
object_cover in_head at o x y = refl
object_cover as_part at o x y = refl
object_cover as_value at o x y = refl
object_cover as_element at o x y = refl

-- array and object patterns

module _ {r : Role} {t : Target} {spot : Spot} {shape : Shape} (c : IsCovered r t) (at : Span) where
  array_by : (optional : Bool) (cs : List Node) → AllFormed cs → Here r spot shape at (kind.ArrayPat optional) cs → IsExpression new_callee (cover_at (node_of at (kind.ArrayPat optional) cs) t)
  unfolding cover_in target_in role_in
  array_by optional [] f h = absurd h.below
  array_by optional (a ∷ []) f h = absurd h.below.1
  array_by optional (a ∷ b ∷ []) f h =
      let l = f.0.assigned_slots (subst (λ z. Sound z (free 1) (with_holes sort.Pat) a) (covered_parts c role.AssignedElements role.DeclaredElements) h.below.0) in
      subst (IsExpression new_callee) (sym (cover_node at (kind.ArrayPat optional) (a ∷ b ∷ []) t ∙ array_cover c at optional (cover_at a (in_literal t target.Elements)) (cover_at b target.Free)))
      (subst (λ z. IsExpression new_callee (node_of at kind.ArrayLit (z ∷ []))) (sym (ap (cover_at a) (covered_items c target.Elements) ∙ l.cover_is)) (array at l.at l.hold))
  array_by optional (a ∷ b ∷ d ∷ cs) f h = absurd h.below.1.1

  object_by : (optional : Bool) (cs : List Node) → AllFormed cs → Here r spot shape at (kind.ObjectPat optional) cs → IsExpression new_callee (cover_at (node_of at (kind.ObjectPat optional) cs) t)
  unfolding cover_in target_in role_in
  object_by optional [] f h = absurd h.below
  object_by optional (a ∷ []) f h = absurd h.below.1
  object_by optional (a ∷ b ∷ []) f h =
      let l = f.0.assigned_properties (subst (λ z. Sound z (free 1) (many sort.ObjectPatProp) a) (covered_parts c role.AssignedProperties role.DeclaredProperties) h.below.0) in
      subst (IsExpression new_callee) (sym (cover_node at (kind.ObjectPat optional) (a ∷ b ∷ []) t ∙ object_cover c at optional (cover_at a (in_literal t target.Properties)) (cover_at b target.Free)))
      (subst (λ z. IsExpression new_callee (node_of at kind.ObjectLit (z ∷ []))) (sym (ap (cover_at a) (covered_items c target.Properties) ∙ l.cover_is)) (object_literal at l.at l.hold))
  object_by optional (a ∷ b ∷ d ∷ cs) f h = absurd h.below.1.1

  pub literal_formed : (k : Kind) (cs : List Node) → AllFormed cs → Here r spot shape at k cs → is_pattern k ≡ true → IsExpression new_callee (cover_at (node_of at k cs) t)
  literal_formed (kind.ArrayPat optional) cs f h is = array_by optional cs f h
  literal_formed (kind.ObjectPat optional) cs f h is = object_by optional cs f h
  literal_formed k cs f h is = absurd (false≢true is)

-- elements

-- where an element may have a default
data TakesDefault : Role → Type 0 where
  value_default : TakesDefault role.AssignedValue
  element_default : TakesDefault role.AssignedElement

before_default : {r : Role} → TakesDefault r → role_in r kind.AssignPat 0 ≡ role.Assigned
unfolding role_in
before_default value_default = refl
before_default element_default = refl

assigned_there : (n : Node) → Formed n → Sound role.Assigned (free 1) (one sort.Pat) n → IsExpression callee (cover_at n target.Part)
unfolding may_be
assigned_there n f s = f.assigned_target role.Assigned target.Part (one sort.Pat) (covered_there as_part refl) s (seen n s).allowed (no_default_there role.Assigned n s refl) (no_rest_there role.Assigned n s refl)

module _ (at : Span) where
  default_by : {r : Role} {shape : Shape} → TakesDefault r → (cs : List Node) → AllFormed cs → Here r (free 1) shape at kind.AssignPat cs → IsExpression assignment (cover_at (node_of at kind.AssignPat cs) target.Element)
  unfolding cover_in target_in role_in
  default_by t [] f h = absurd h.below
  default_by t (a ∷ []) f h = absurd h.below.1
  default_by t (a ∷ b ∷ []) f h =
      let s = subst (λ z. Sound z (free 1) (one sort.Pat) a) (before_default t) h.below.0 in
      subst (IsExpression assignment) (sym (cover_node at kind.AssignPat (a ∷ b ∷ []) target.Element))
      (assignment_expression at Assign (assigned_there a f.0 s) (assigned (child_value f.1.0 h.below.1.0 refl (proper_free 1)) refl))
  default_by t (a ∷ b ∷ c ∷ cs) f h = absurd h.below.1.1

  rest_by : {shape : Shape} (cs : List Node) → AllFormed cs → Here role.AssignedElement (free 1) shape at kind.RestPat cs → IsElement values (cover_at (node_of at kind.RestPat cs) target.Element)
  unfolding cover_in target_in role_in
  rest_by [] f h = absurd h.below
  rest_by (a ∷ []) f h = absurd h.below.1
  rest_by (a ∷ b ∷ []) f h =
      subst (IsElement values) (sym (cover_node at kind.RestPat (a ∷ b ∷ []) target.Element)) (spread at (to_assignment callee refl (assigned_there a f.0 h.below.0)))
  rest_by (a ∷ b ∷ c ∷ cs) f h = absurd h.below.1.1

  -- another one is a target
  abbrev pub OwnTarget : Kind → List Node → Type 0
  OwnTarget k cs = is_default k ≡ false → is_rest k ≡ false → IsExpression callee (cover_at (node_of at k cs) target.Element)

  pub assigned_value_formed : (k : Kind) (cs : List Node) → AllFormed cs → Here role.AssignedValue (free 1) (one sort.Pat) at k cs → is_rest k ≡ false → OwnTarget k cs → IsExpression assignment (cover_at (node_of at k cs) target.Element)
  assigned_value_formed kind.AssignPat cs f h e own = default_by value_default cs f h
  assigned_value_formed k cs f h e own = to_assignment callee refl (own refl e)

  pub assigned_element_formed : (k : Kind) (cs : List Node) → AllFormed cs → Here role.AssignedElement (free 1) (maybe sort.Pat) at k cs → OwnTarget k cs → IsElement values (cover_at (node_of at k cs) target.Element)
  assigned_element_formed kind.AssignPat cs f h own = shapes.IsElement.one (default_by element_default cs f h)
  assigned_element_formed kind.RestPat cs f h own = rest_by cs f h
  assigned_element_formed k cs f h own = shapes.IsElement.one (to_assignment callee refl (own refl refl))

-- properties

kept_by : (at : Span) (k : Kind) (cs : List Node) → kind_of (cover_at (node_of at k cs) target.Free) ≡ k
kept_by at k cs = ap kind_of (cover_node at k cs target.Free) ∙ kind_made at k (covered_children target.Free k cs)

kept_kind : (n : Node) → kind_of (cover_at n target.Free) ≡ kind_of n
kept_kind n = let x = out-Node n in ap (λ m. kind_of (cover_at m target.Free)) (sym (roll-out-Node n)) ∙ kept_by x.span x.kind x.children

short_by : (at : Span) (id b : Node) (missing : Bool) → is_absent (kind_of b) ≡ missing → shapes.IsIdent id → Formed b → Sound role.Free (free 1) (maybe sort.Expr) b
    → IsProperty values (cond missing id (node_of at kind.AssignProp (id ∷ cover_at b target.Free ∷ [])))
short_by at id b true e i f s = shorthand i
short_by at id b false e i f s =
    initialized at i (assigned (f.expression role.Free target.Free (free 1) (maybe sort.Expr) s (proper_free 1) refl (value_kind b s (or_there (is_absent (kind_of b)) _ (seen b s).allowed e))) refl)

only_name : (k : Kind) → belongs sort.BindingIdent k ≡ true → is_bound_name k ≡ true
only_name kind.BindingIdent h = refl
only_name k h = absurd (false≢true h)

module _ (at : Span) where
  renamed_by : (cs : List Node) → AllFormed cs → Here role.AssignedProperty (free 1) (one sort.ObjectPatProp) at kind.KeyValuePatProp cs → IsProperty values (cover_at (node_of at kind.KeyValuePatProp cs) target.Property)
  unfolding cover_in target_in role_in
  renamed_by [] f h = absurd h.below
  renamed_by (a ∷ []) f h = absurd h.below.1
  renamed_by (a ∷ b ∷ []) f h =
      subst (IsProperty values) (sym (cover_node at kind.KeyValuePatProp (a ∷ b ∷ []) target.Property)) (key_value at (f.0.property_name h.below.0) (f.1.0.assigned_value h.below.1.0))
  renamed_by (a ∷ b ∷ c ∷ cs) f h = absurd h.below.1.1

  named_by : (cs : List Node) → AllFormed cs → Here role.AssignedProperty (free 1) (one sort.ObjectPatProp) at kind.AssignPatProp cs → IsProperty values (cover_at (node_of at kind.AssignPatProp cs) target.Property)
  unfolding cover_in target_in role_in
  named_by [] f h = absurd h.below
  named_by (a ∷ []) f h = absurd h.below.1
  named_by (a ∷ b ∷ []) f h =
      let n = f.0.bound_name role.AssignedName (free 1) (one sort.BindingIdent) h.below.0 (only_name (kind_of a) (seen a h.below.0).allowed) in
      subst (IsProperty values) (sym (cover_node at kind.AssignPatProp (a ∷ b ∷ []) target.Property))
      (subst (λ z. IsProperty values (cond (is_absent (kind_of (cover_at b target.Free))) z (node_of at kind.AssignProp (z ∷ cover_at b target.Free ∷ [])))) (sym (n.assigned target.Name refl))
      (subst (λ k. IsProperty values (cond (is_absent k) n.id (node_of at kind.AssignProp (n.id ∷ cover_at b target.Free ∷ [])))) (sym (kept_kind b)) (short_by at n.id b (is_absent (kind_of b)) refl n.ident f.1.0 h.below.1.0)))
  named_by (a ∷ b ∷ c ∷ cs) f h = absurd h.below.1.1

  rest_property_by : (cs : List Node) → AllFormed cs → Here role.AssignedProperty (free 1) (one sort.ObjectPatProp) at kind.RestPat cs → IsProperty values (cover_at (node_of at kind.RestPat cs) target.Property)
  unfolding cover_in target_in role_in may_be
  rest_property_by [] f h = absurd h.below
  rest_property_by (a ∷ []) f h = absurd h.below.1
  rest_property_by (a ∷ b ∷ []) f h =
      let e = f.0.assigned_target role.AssignedName target.Rest (one sort.Pat) rest_there h.below.0 (seen a h.below.0).allowed (no_default_there role.AssignedName a h.below.0 refl) (no_rest_there role.AssignedName a h.below.0 refl) in
      subst (IsProperty values) (sym (cover_node at kind.RestPat (a ∷ b ∷ []) target.Property)) (spread_property at (to_assignment callee refl e))
  rest_property_by (a ∷ b ∷ c ∷ cs) f h = absurd h.below.1.1

  pub assigned_property_formed : (k : Kind) (cs : List Node) → AllFormed cs → Here role.AssignedProperty (free 1) (one sort.ObjectPatProp) at k cs → IsProperty values (cover_at (node_of at k cs) target.Property)
  assigned_property_formed kind.KeyValuePatProp cs f h = renamed_by cs f h
  assigned_property_formed kind.AssignPatProp cs f h = named_by cs f h
  assigned_property_formed kind.RestPat cs f h = rest_property_by cs f h
  assigned_property_formed k cs f h = absurd (false≢true h.allowed)

-- lists

slot_by : (n : Node) (missing : Bool) → is_absent (kind_of n) ≡ missing → Formed n → Sound role.AssignedElement (free 1) (maybe sort.Pat) n → (ns : List Node) → AreSlots values ns → AreSlots values (cover_at n target.Element ∷ ns)
slot_by n true e f s ns more = hole (absent_shape target.Element n s e) more
slot_by n false e f s ns more = filled (f.assigned_element s e) more

slots_of : (cs : List Node) → AllFormed cs → AllSound (λ i. role.AssignedElement) [] (free 1) (replicate (length cs) (maybe sort.Pat)) cs → AreSlots values (each_in (λ i. target.Element) (map cover_at cs))
slots_of [] f h = no_slots
slots_of (c ∷ cs) f h = slot_by c (is_absent (kind_of c)) refl f.0 h.0 (each_in (λ i. target.Element) (map cover_at cs)) (slots_of cs f.1 h.1)

pub assigned_slots_formed : (n : Node) → AllFormed (out-Node n).children → Sound role.AssignedElements (free 1) (with_holes sort.Pat) n → CoveredList target.Elements (AreSlots values) n
assigned_slots_formed n f s =
    let l = items_of n f s (seen n s).allowed in
    record { at = l.at; items = each_in (λ i. target.Element) (map cover_at l.nodes); cover_is = l.cover_is target.Elements; hold = slots_of l.nodes l.formed l.items }

properties_of : (cs : List Node) → AllFormed cs → AllSound (λ i. role.AssignedProperty) [] (free 1) (replicate (length cs) (one sort.ObjectPatProp)) cs → AreProperties values (each_in (λ i. target.Property) (map cover_at cs))
properties_of [] f h = no_properties
properties_of (c ∷ cs) f h = more_properties (f.0.assigned_property h.0) (properties_of cs f.1 h.1)

pub assigned_properties_formed : (n : Node) → AllFormed (out-Node n).children → Sound role.AssignedProperties (free 1) (many sort.ObjectPatProp) n → CoveredList target.Properties (AreProperties values) n
assigned_properties_formed n f s =
    let l = items_of n f s (seen n s).allowed in
    record { at = l.at; items = each_in (λ i. target.Property) (map cover_at l.nodes); cover_is = l.cover_is target.Properties; hold = properties_of l.nodes l.formed l.items }
