-- Properties of objects have their shapes.
use Rattle.std.proofs.Common.{◌≡◌, refl, sym, subst, true, false, List, [], ◌∷◌, map}
use Rattle.ecma_kind.specs.declared.span.Span.{Span}
use Rattle.ecma_kind.specs.declared.kind.Kind.{Kind}
use Rattle.ecma_kind.specs.declared.kind.Kind.TheVariants as kind
use Rattle.ecma_kind.specs.declared.shapes.Shape.{Shape}
use Rattle.ecma_kind.specs.declared.shapes.Sort.TheVariants as sort
use Rattle.ecma_tree.specs.declared.node.Node.{Node, out-Node}
use Rattle.ecma_tree.specs.Nodes.{node_of}
use Rattle.ecma_tree.specs.Sorted.{many, one}
use Rattle.ecma_rules.specs.declared.target.Target.TheVariants as target
use Rattle.ecma_rules.specs.Finishing.{each_in}
use Rattle.ecma_rules.specs.Targets.{target_in}
use Rattle.ecma_covers.specs.Covering.{cover_at, cover_in}
use Rattle.ecma_fits.specs.declared.role.Role.{Role}
use Rattle.ecma_fits.specs.declared.role.Role.TheVariants as role
use Rattle.ecma_fits.specs.Roles.{may_be, role_in, takes}
use Rattle.ecma_print.specs.declared.place.Spot.{Spot}
use Rattle.ecma_print.specs.Places.{free}
use Rattle.ecma_shapes.specs.Shapes.{AreProperties, IsExpression, IsProperty, IsPropertyName, computed_name, key_name, key_value, more_properties, new_callee, no_properties, object_literal, shorthand, spread_property, values}
use Rattle.ecma_print_shapes.proofs.Building.{childless, stands_as}
use Rattle.ecma_print_shapes.proofs.Claims.{AllFormed, seen}
use Rattle.ecma_print_shapes.proofs.Covered.{covered, covered_children}
use Rattle.ecma_print_shapes.proofs.Keys.{plain_name}
use Rattle.ecma_print_shapes.proofs.Leaves.{big_int_name_shape, ident_shape, number_name_shape, string_name_shape}
use Rattle.ecma_print_shapes.proofs.Names.{leaf_as_is}
use Rattle.ecma_print_shapes.proofs.Lists.{Items, cover_of_list, list_items, list_there}
use Rattle.ecma_print_shapes.proofs.Methods.{getter_formed, method_formed, setter_formed}
use Rattle.ecma_print_shapes.proofs.Sound.{Here, Sound}
use Rattle.ecma_print_shapes.proofs.Spots.{assigned, child_value, proper_free}

module _ (at : Span) where
  computed_formed : (cs : List Node) → AllFormed cs → Here role.Free (free 1) (one sort.PropName) at kind.ComputedPropName cs → IsPropertyName (cover_at (node_of at kind.ComputedPropName cs) target.Free)
  unfolding cover_in target_in role_in
  computed_formed [] f h = absurd h.below
  computed_formed (a ∷ []) f h =
      subst IsPropertyName (sym (covered at kind.ComputedPropName (a ∷ []) target.Free refl)) (computed_name at (assigned (child_value f.0 h.below.0 refl (proper_free 1)) refl))
  computed_formed (a ∷ b ∷ cs) f h = absurd h.below.1

  pub property_name_formed : (k : Kind) (cs : List Node) → AllFormed cs → Here role.Free (free 1) (one sort.PropName) at k cs → IsPropertyName (cover_at (node_of at k cs) target.Free)
  property_name_formed (kind.IdentName word) cs f h = key_name (plain_name at word cs h)
  property_name_formed (kind.Str value raw) cs f h =
      subst IsPropertyName (sym (leaf_as_is at (kind.Str value raw) cs (childless (role_in role.Free (kind.Str value raw)) [] (free 0) cs h.below) refl)) (string_name_shape false at value raw h.spelled h.bare.0)
  property_name_formed (kind.Number value raw) cs f h =
      subst IsPropertyName (sym (leaf_as_is at (kind.Number value raw) cs (childless (role_in role.Free (kind.Number value raw)) [] (free 0) cs h.below) refl)) (number_name_shape false at value raw h.spelled h.bare.0)
  property_name_formed kind.ComputedPropName cs f h = computed_formed cs f h
  property_name_formed (kind.BigInt value raw) cs f h =
      subst IsPropertyName (sym (leaf_as_is at (kind.BigInt value raw) cs (childless (role_in role.Free (kind.BigInt value raw)) [] (free 0) cs h.below) refl)) (big_int_name_shape false at value raw h.spelled h.bare.0)
  property_name_formed k cs f h = let out = h.allowed in cc

  key_value_formed : (cs : List Node) → AllFormed cs → Here role.Free (free 1) (one sort.PropOrSpread) at kind.KeyValueProp cs → IsProperty values (cover_at (node_of at kind.KeyValueProp cs) target.Free)
  unfolding cover_in target_in role_in
  key_value_formed [] f h = absurd h.below
  key_value_formed (a ∷ []) f h = absurd h.below.1
  key_value_formed (a ∷ b ∷ []) f h =
      subst (IsProperty values) (sym (covered at kind.KeyValueProp (a ∷ b ∷ []) target.Free refl))
      (key_value at (f.0.property_name h.below.0) (assigned (child_value f.1.0 h.below.1.0 refl (proper_free 1)) refl))
  key_value_formed (a ∷ b ∷ c ∷ cs) f h = absurd h.below.1.1

  spread_formed : (cs : List Node) → AllFormed cs → Here role.Free (free 1) (one sort.PropOrSpread) at kind.SpreadElement cs → IsProperty values (cover_at (node_of at kind.SpreadElement cs) target.Free)
  unfolding cover_in target_in role_in
  spread_formed [] f h = absurd h.below
  spread_formed (a ∷ []) f h =
      subst (IsProperty values) (sym (covered at kind.SpreadElement (a ∷ []) target.Free refl)) (spread_property at (assigned (child_value f.0 h.below.0 refl (proper_free 1)) refl))
  spread_formed (a ∷ b ∷ cs) f h = absurd h.below.1

  -- `name = value` stands in no object
  no_default : {A : Type 0} (cs : List Node) → Here role.Free (free 1) (one sort.PropOrSpread) at kind.AssignProp cs → A
  unfolding may_be takes
  no_default cs h = let z = (stands_as role.Free at kind.AssignProp cs h).1 in absurd (no z)
    where
      no : false ≡ true → ⊥
      no e = cc

  pub property_formed : (k : Kind) (cs : List Node) → AllFormed cs → Here role.Free (free 1) (one sort.PropOrSpread) at k cs → IsProperty values (cover_at (node_of at k cs) target.Free)
  property_formed (kind.Ident word ctxt optional) cs f h =
      let k = kind.Ident word ctxt optional in
      subst (IsProperty values) (sym (leaf_as_is at k cs (childless (role_in role.Free k) [] (free 0) cs h.below) refl))
      (shorthand (ident_shape false at word ctxt optional h.spelled h.bare.0 (stands_as role.Free at k cs h).0))
  property_formed kind.KeyValueProp cs f h = key_value_formed cs f h
  property_formed kind.SpreadElement cs f h = spread_formed cs f h
  property_formed kind.AssignProp cs f h = no_default cs h
  property_formed kind.GetterProp cs f h = getter_formed at cs f h
  property_formed kind.SetterProp cs f h = setter_formed at cs f h
  property_formed kind.MethodProp cs f h = method_formed at cs f h
  property_formed k cs f h = let out = h.allowed in cc

-- lists of them

properties_of : (cs : List Node) → AllFormed cs → Items (one sort.PropOrSpread) cs → AreProperties values (each_in (λ i. target.Free) (map cover_at cs))
properties_of [] f h = no_properties
properties_of (c ∷ cs) f h = more_properties (f.0.property h.0) (properties_of cs f.1 h.1)

pub properties_formed : (n : Node) → AllFormed (out-Node n).children → Sound role.Free (free 1) (many sort.PropOrSpread) n → (at : Span) × (ns : List Node) × (cover_at n target.Free ≡ node_of at kind.List ns) × AreProperties values ns
properties_formed n below s =
    let x = out-Node n in
    let is = (seen n s).allowed in
    (x.span, each_in (λ i. target.Free) (map cover_at x.children), cover_of_list n is, properties_of x.children below (list_items x.span x.children (list_there n s is)))

module _ {r : Role} {spot : Spot} {shape : Shape} (at : Span) where
  pub object_formed : (cs : List Node) → AllFormed cs → Here r spot shape at kind.ObjectLit cs → IsExpression new_callee (node_of at kind.ObjectLit (covered_children target.Free kind.ObjectLit cs))
  unfolding cover_in target_in role_in
  object_formed [] f h = absurd h.below
  object_formed (a ∷ []) f h = let l = f.0.properties h.below.0 in subst (λ z. IsExpression new_callee (node_of at kind.ObjectLit (z ∷ []))) (sym l.2) (object_literal at l.0 l.3)
  object_formed (a ∷ b ∷ cs) f h = absurd h.below.1
