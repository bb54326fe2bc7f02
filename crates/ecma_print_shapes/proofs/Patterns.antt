-- Declared patterns have their shapes.
use Rattle.std.proofs.Common.{◌≡◌, ◌∙◌, refl, sym, subst, Bool, true, false, ◌||◌, List, [], ◌∷◌, map, length, replicate}
use Rattle.std.proofs.lemmas.Bool.{false≢true}
use Rattle.ecma_kind.specs.declared.span.Span.{Span}
use Rattle.ecma_kind.specs.declared.kind.Kind.{Kind}
use Rattle.ecma_kind.specs.declared.kind.Kind.TheVariants as kind
use Rattle.ecma_kind.specs.declared.shapes.Shape.{Shape}
use Rattle.ecma_kind.specs.declared.shapes.Sort.TheVariants as sort
use Rattle.ecma_tree.specs.declared.node.Node.{Node, out-Node}
use Rattle.ecma_tree.specs.Nodes.{node_of}
use Rattle.ecma_tree.specs.Sorted.{is_absent, many, maybe, one, with_holes}
use Rattle.ecma_rules.specs.declared.target.Target.{Target}
use Rattle.ecma_rules.specs.declared.target.Target.TheVariants as target
use Rattle.ecma_rules.specs.Children.{kind_of}
use Rattle.ecma_rules.specs.Finishing.{each_in}
use Rattle.ecma_rules.specs.Targets.{target_in}
use Rattle.ecma_covers.specs.Covering.{cover_at, cover_by, cover_in}
use Rattle.ecma_fits.specs.declared.role.Role.{Role}
use Rattle.ecma_fits.specs.declared.role.Role.TheVariants as role
use Rattle.ecma_fits.specs.Roles.{in_default, is_binding, is_bound_name, is_default, is_rest, may_be, role_in, takes}
use Rattle.ecma_print.specs.declared.place.Spot.{Spot}
use Rattle.ecma_print.specs.Places.{free}
use Rattle.ecma_shapes.specs.Shapes.{AreProperties, AreSlots, IsDefaulted, IsElement, IsPattern, IsProperty, array_pattern, bindings, bound, filled, hole, more_properties, name_pattern, named, no_default, no_properties, no_slots, object_pattern, renamed, rest, rest_property, with_default}
use Rattle.ecma_print_shapes.proofs.Bindings.{before_default, binding_there, declared_parts, default_declared, element_there, initializer_there, items_of, naming, no_rest_before, no_type, not_true, or_false, rest_declared, rest_taken, value_there}
use Rattle.ecma_print_shapes.proofs.Building.{absent_shape, stands_as}
use Rattle.ecma_print_shapes.proofs.Claims.{AllFormed, BoundName, Formed, ListOf, covers_name, is_declared, seen, takes_rest}
use Rattle.ecma_print_shapes.proofs.Covered.{cover_node, covered_children}
use Rattle.ecma_print_shapes.proofs.Sound.{AllSound, Here, Sound}
use Rattle.ecma_print_shapes.proofs.Spots.{assigned, child_value, proper_free}

-- a pattern that is declared stays
freely : (at : Span) (k : Kind) (cs : List Node) → cover_at (node_of at k cs) target.Free ≡ node_of at k (covered_children target.Free k cs)
freely at k cs = cover_node at k cs target.Free

-- names

name_covered : (at : Span) (x y : Node) (t : Target) → covers_name t ≡ true → cover_by t (record { span = at; kind = kind.BindingIdent; children = x ∷ y ∷ [] }) ≡ x
name_covered at x y target.Head h = refl
name_covered at x y target.Part h = refl
name_covered at x y target.Rest h = refl
name_covered at x y target.Name h = refl
name_covered at x y target.Element h = refl
name_covered at x y _ h = absurd (false≢true h)

module _ {r : Role} {spot : Spot} {shape : Shape} (at : Span) where
  bound_name_by : (cs : List Node) → AllFormed cs → Here r spot shape at kind.BindingIdent cs → BoundName (node_of at kind.BindingIdent cs)
  unfolding cover_in target_in role_in
  bound_name_by [] f h = absurd h.below
  bound_name_by (a ∷ []) f h = absurd h.below.1
  bound_name_by (a ∷ b ∷ []) f h =
      record {
        at = at;
        id = cover_at a target.Free;
        none = cover_at b target.Free;
        ident = f.0.ident _ (free 1) (one sort.Ident) h.below.0 (seen a h.below.0).allowed (naming r a h.usual);
        untyped = no_type b h.below.1.0;
        declared = freely at kind.BindingIdent (a ∷ b ∷ []);
        assigned = λ t e. cover_node at kind.BindingIdent (a ∷ b ∷ []) t ∙ name_covered at (cover_at a target.Free) (cover_at b target.Free) t e;
      }
  bound_name_by (a ∷ b ∷ c ∷ cs) f h = absurd h.below.1.1

  pub bound_name_formed : (k : Kind) (cs : List Node) → AllFormed cs → Here r spot shape at k cs → is_bound_name k ≡ true → BoundName (node_of at k cs)
  bound_name_formed kind.BindingIdent cs f h is = bound_name_by cs f h
  bound_name_formed k cs f h is = absurd (false≢true is)

-- patterns

module _ {r : Role} {shape : Shape} (at : Span) (d : is_declared r ≡ true) where
  array_by : (optional : Bool) (cs : List Node) → AllFormed cs → Here r (free 1) shape at (kind.ArrayPat optional) cs → IsPattern (cover_at (node_of at (kind.ArrayPat optional) cs) target.Free)
  unfolding cover_in target_in role_in
  array_by optional [] f h = absurd h.below
  array_by optional (a ∷ []) f h = absurd h.below.1
  array_by optional (a ∷ b ∷ []) f h =
      let l = f.0.bound_slots (subst (λ z. Sound z (free 1) (with_holes sort.Pat) a) (declared_parts r d role.AssignedElements role.DeclaredElements) h.below.0) in
      subst IsPattern (sym (freely at (kind.ArrayPat optional) (a ∷ b ∷ [])))
      (subst (λ o. IsPattern (node_of at (kind.ArrayPat o) (cover_at a target.Free ∷ cover_at b target.Free ∷ []))) (sym (not_true optional h.bare.1))
      (subst (λ z. IsPattern (node_of at (kind.ArrayPat false) (z ∷ cover_at b target.Free ∷ []))) (sym l.cover_is) (array_pattern at l.at l.hold (no_type b h.below.1.0))))
  array_by optional (a ∷ b ∷ c ∷ cs) f h = absurd h.below.1.1

  object_by : (optional : Bool) (cs : List Node) → AllFormed cs → Here r (free 1) shape at (kind.ObjectPat optional) cs → IsPattern (cover_at (node_of at (kind.ObjectPat optional) cs) target.Free)
  unfolding cover_in target_in role_in
  object_by optional [] f h = absurd h.below
  object_by optional (a ∷ []) f h = absurd h.below.1
  object_by optional (a ∷ b ∷ []) f h =
      let l = f.0.bound_properties (subst (λ z. Sound z (free 1) (many sort.ObjectPatProp) a) (declared_parts r d role.AssignedProperties role.DeclaredProperties) h.below.0) in
      subst IsPattern (sym (freely at (kind.ObjectPat optional) (a ∷ b ∷ [])))
      (subst (λ o. IsPattern (node_of at (kind.ObjectPat o) (cover_at a target.Free ∷ cover_at b target.Free ∷ []))) (sym (not_true optional h.bare.1))
      (subst (λ z. IsPattern (node_of at (kind.ObjectPat false) (z ∷ cover_at b target.Free ∷ []))) (sym l.cover_is) (object_pattern at l.at l.hold (no_type b h.below.1.0))))
  object_by optional (a ∷ b ∷ c ∷ cs) f h = absurd h.below.1.1

  pub pattern_formed : (k : Kind) (cs : List Node) → AllFormed cs → Here r (free 1) shape at k cs → is_binding k ≡ true → IsPattern (cover_at (node_of at k cs) target.Free)
  pattern_formed kind.BindingIdent cs f h is = let b = bound_name_by at cs f h in subst IsPattern (sym b.declared) (name_pattern b.at b.ident b.untyped)
  pattern_formed (kind.ArrayPat optional) cs f h is = array_by optional cs f h
  pattern_formed (kind.ObjectPat optional) cs f h is = object_by optional cs f h
  pattern_formed k cs f h is = absurd (false≢true is)

  -- with a default
  default_by : (cs : List Node) → AllFormed cs → Here r (free 1) shape at kind.AssignPat cs → IsDefaulted (cover_at (node_of at kind.AssignPat cs) target.Free)
  unfolding cover_in target_in role_in
  default_by [] f h = absurd h.below
  default_by (a ∷ []) f h = absurd h.below.1
  default_by (a ∷ b ∷ []) f h =
      let is = before_default r a d h.below.0 (no_rest_before at a (b ∷ []) h) in
      subst IsDefaulted (sym (freely at kind.AssignPat (a ∷ b ∷ [])))
      (with_default at (f.0.pattern (in_default r) (one sort.Pat) (default_declared r d) h.below.0 is) (assigned (child_value f.1.0 h.below.1.0 refl (proper_free 1)) refl))
  default_by (a ∷ b ∷ c ∷ cs) f h = absurd h.below.1.1

  pub defaulted_formed : (k : Kind) (cs : List Node) → AllFormed cs → Here r (free 1) shape at k cs → (is_binding k || is_default k) ≡ true → IsDefaulted (cover_at (node_of at k cs) target.Free)
  defaulted_formed kind.AssignPat cs f h is = default_by cs f h
  defaulted_formed k cs f h is = no_default (pattern_formed k cs f h (or_false (is_binding k) is))

-- elements and parameters

module _ {r : Role} {shape : Shape} (at : Span) (d : takes_rest r ≡ true) where
  rest_by : (cs : List Node) → AllFormed cs → Here r (free 1) shape at kind.RestPat cs → IsElement bindings (cover_at (node_of at kind.RestPat cs) target.Free)
  unfolding cover_in target_in role_in
  rest_by [] f h = absurd h.below
  rest_by (a ∷ []) f h = absurd h.below.1
  rest_by (a ∷ b ∷ []) f h =
      let s = subst (λ z. Sound z (free 1) (one sort.Pat) a) (rest_declared r d) h.below.0 in
      subst (IsElement bindings) (sym (freely at kind.RestPat (a ∷ b ∷ []))) (rest at (f.0.pattern role.Declared (one sort.Pat) refl s (binding_there a s)) (no_type b h.below.1.0))
  rest_by (a ∷ b ∷ c ∷ cs) f h = absurd h.below.1.1

  element_by : (k : Kind) (cs : List Node) → AllFormed cs → Here r (free 1) shape at k cs → (is_binding k || (is_default k || is_rest k)) ≡ true → IsElement bindings (cover_at (node_of at k cs) target.Free)
  element_by kind.RestPat cs f h is = rest_by cs f h
  element_by kind.AssignPat cs f h is = bound (defaulted_formed at (rest_taken r d) kind.AssignPat cs f h refl)
  element_by k cs f h is = bound (no_default (pattern_formed at (rest_taken r d) k cs f h (or_false (is_binding k) is)))

  pub bound_element_formed : (k : Kind) (cs : List Node) → AllFormed cs → Here r (free 1) shape at k cs → is_absent k ≡ false → IsElement bindings (cover_at (node_of at k cs) target.Free)
  bound_element_formed k cs f h e = element_by k cs f h (element_there r at k cs d h e)

-- properties

name_there : {spot : Spot} {shape : Shape} (n : Node) → Sound role.DeclaredName spot shape n → is_bound_name (kind_of n) ≡ true
unfolding may_be takes
name_there n s = let h = seen n s in or_false _ (stands_as role.DeclaredName (out-Node n).span (out-Node n).kind (out-Node n).children h).1

module _ (at : Span) where
  renamed_by : (cs : List Node) → AllFormed cs → Here role.DeclaredProperty (free 1) (one sort.ObjectPatProp) at kind.KeyValuePatProp cs → IsProperty bindings (cover_at (node_of at kind.KeyValuePatProp cs) target.Free)
  unfolding cover_in target_in role_in
  renamed_by [] f h = absurd h.below
  renamed_by (a ∷ []) f h = absurd h.below.1
  renamed_by (a ∷ b ∷ []) f h =
      subst (IsProperty bindings) (sym (freely at kind.KeyValuePatProp (a ∷ b ∷ [])))
      (renamed at (f.0.property_name h.below.0) (f.1.0.defaulted role.DeclaredValue (one sort.Pat) refl h.below.1.0 (value_there b h.below.1.0)))
  renamed_by (a ∷ b ∷ c ∷ cs) f h = absurd h.below.1.1

  named_by : (cs : List Node) → AllFormed cs → Here role.DeclaredProperty (free 1) (one sort.ObjectPatProp) at kind.AssignPatProp cs → IsProperty bindings (cover_at (node_of at kind.AssignPatProp cs) target.Free)
  unfolding cover_in target_in role_in
  named_by [] f h = absurd h.below
  named_by (a ∷ []) f h = absurd h.below.1
  named_by (a ∷ b ∷ []) f h =
      let n = f.0.bound_name role.DeclaredName (free 1) (one sort.BindingIdent) h.below.0 (name_there a h.below.0) in
      subst (IsProperty bindings) (sym (freely at kind.AssignPatProp (a ∷ b ∷ [])))
      (subst (λ z. IsProperty bindings (node_of at kind.AssignPatProp (z ∷ cover_at b target.Free ∷ []))) (sym n.declared) (named at n.at n.ident n.untyped (initializer_there b f.1.0 h.below.1.0)))
  named_by (a ∷ b ∷ c ∷ cs) f h = absurd h.below.1.1

  rest_property_by : (cs : List Node) → AllFormed cs → Here role.DeclaredProperty (free 1) (one sort.ObjectPatProp) at kind.RestPat cs → IsProperty bindings (cover_at (node_of at kind.RestPat cs) target.Free)
  unfolding cover_in target_in role_in
  rest_property_by [] f h = absurd h.below
  rest_property_by (a ∷ []) f h = absurd h.below.1
  rest_property_by (a ∷ b ∷ []) f h =
      let n = f.0.bound_name role.DeclaredName (free 1) (one sort.Pat) h.below.0 (name_there a h.below.0) in
      subst (IsProperty bindings) (sym (freely at kind.RestPat (a ∷ b ∷ [])))
      (subst (λ z. IsProperty bindings (node_of at kind.RestPat (z ∷ cover_at b target.Free ∷ []))) (sym n.declared) (rest_property at n.at n.ident n.untyped (no_type b h.below.1.0)))
  rest_property_by (a ∷ b ∷ c ∷ cs) f h = absurd h.below.1.1

  pub bound_property_formed : (k : Kind) (cs : List Node) → AllFormed cs → Here role.DeclaredProperty (free 1) (one sort.ObjectPatProp) at k cs → IsProperty bindings (cover_at (node_of at k cs) target.Free)
  bound_property_formed kind.KeyValuePatProp cs f h = renamed_by cs f h
  bound_property_formed kind.AssignPatProp cs f h = named_by cs f h
  bound_property_formed kind.RestPat cs f h = rest_property_by cs f h
  bound_property_formed k cs f h = absurd (false≢true h.allowed)

-- lists

slot_by : (n : Node) (missing : Bool) → is_absent (kind_of n) ≡ missing → Formed n → Sound role.DeclaredElement (free 1) (maybe sort.Pat) n → (ns : List Node) → AreSlots bindings ns → AreSlots bindings (cover_at n target.Free ∷ ns)
slot_by n true e f s ns more = hole (absent_shape target.Free n s e) more
slot_by n false e f s ns more = filled (f.bound_element role.DeclaredElement (maybe sort.Pat) refl s e) more

slots_of : (cs : List Node) → AllFormed cs → AllSound (λ i. role.DeclaredElement) [] (free 1) (replicate (length cs) (maybe sort.Pat)) cs → AreSlots bindings (each_in (λ i. target.Free) (map cover_at cs))
slots_of [] f h = no_slots
slots_of (c ∷ cs) f h = slot_by c (is_absent (kind_of c)) refl f.0 h.0 (each_in (λ i. target.Free) (map cover_at cs)) (slots_of cs f.1 h.1)

pub bound_slots_formed : (n : Node) → AllFormed (out-Node n).children → Sound role.DeclaredElements (free 1) (with_holes sort.Pat) n → ListOf (AreSlots bindings) n
bound_slots_formed n f s =
    let l = items_of n f s (seen n s).allowed in
    record { at = l.at; items = each_in (λ i. target.Free) (map cover_at l.nodes); cover_is = l.cover_is target.Free; hold = slots_of l.nodes l.formed l.items }

properties_of : (cs : List Node) → AllFormed cs → AllSound (λ i. role.DeclaredProperty) [] (free 1) (replicate (length cs) (one sort.ObjectPatProp)) cs → AreProperties bindings (each_in (λ i. target.Free) (map cover_at cs))
properties_of [] f h = no_properties
properties_of (c ∷ cs) f h = more_properties (f.0.bound_property h.0) (properties_of cs f.1 h.1)

pub bound_properties_formed : (n : Node) → AllFormed (out-Node n).children → Sound role.DeclaredProperties (free 1) (many sort.ObjectPatProp) n → ListOf (AreProperties bindings) n
bound_properties_formed n f s =
    let l = items_of n f s (seen n s).allowed in
    record { at = l.at; items = each_in (λ i. target.Free) (map cover_at l.nodes); cover_is = l.cover_is target.Free; hold = properties_of l.nodes l.formed l.items }
