-- Methods and accessors of objects have their shapes.
use Rattle.std.proofs.Common.{◌≡◌, ◌∙◌, refl, sym, ap, subst, Bool, true, false, not, List, [], ◌∷◌, slice_get}
use Rattle.std.proofs.lemmas.Bool.{false≢true}
use Rattle.ecma_kind.specs.declared.span.Span.{Span}
use Rattle.ecma_kind.specs.declared.kind.Kind.TheVariants as kind
use Rattle.ecma_kind.specs.declared.shapes.Sort.TheVariants as sort
use Rattle.ecma_tree.specs.declared.node.Node.{Node}
use Rattle.ecma_tree.specs.Nodes.{node_of}
use Rattle.ecma_tree.specs.Sorted.{is_list, one}
use Rattle.ecma_rules.specs.declared.target.Target.TheVariants as target
use Rattle.ecma_rules.specs.Children.{child_is, has_child, kind_of, of_kind}
use Rattle.ecma_rules.specs.Lists.{is_rest_pattern}
use Rattle.ecma_rules.specs.Members.{misfits_by, takes_not_one}
use Rattle.ecma_rules.specs.Targets.{target_in}
use Rattle.ecma_covers.specs.Covering.{cover_at, cover_in}
use Rattle.ecma_fits.specs.declared.role.Role.TheVariants as role
use Rattle.ecma_fits.specs.Roles.{role_in}
use Rattle.ecma_print.specs.Places.{free}
use Rattle.ecma_shapes.specs.Shapes.{IsProperty, getter_property, method_property, setter_property, values}
use Rattle.ecma_plain.specs.Functions.{functions}
use Rattle.ecma_print_shapes.proofs.Bindings.{no_type, parameter_there}
use Rattle.ecma_print_shapes.proofs.Building.{absent_shape}
use Rattle.ecma_print_shapes.proofs.Claims.{AllFormed}
use Rattle.ecma_print_shapes.proofs.Covered.{covered}
use Rattle.ecma_print_shapes.proofs.Parameters.{body_there, missing_kind}
use Rattle.ecma_print_shapes.proofs.Seats.{either_parts}
use Rattle.ecma_print_shapes.proofs.Sound.{Here, children_made, fitting_here}

not_false : (b : Bool) → not b ≡ false → b ≡ true
not_false true h = refl
not_false false h = absurd (false≢true (sym h))

module _ (at : Span) where
  pub method_formed : (cs : List Node) → AllFormed cs → Here role.Free (free 1) (one sort.PropOrSpread) at kind.MethodProp cs → IsProperty values (cover_at (node_of at kind.MethodProp cs) target.Free)
  unfolding cover_in target_in role_in
  method_formed [] f h = absurd h.below
  method_formed (a ∷ []) f h = absurd h.below.1
  method_formed (a ∷ b ∷ []) f h =
      subst (IsProperty values) (sym (covered at kind.MethodProp (a ∷ b ∷ []) target.Free refl)) (method_property at (f.0.property_name h.below.0) (f.1.0.function h.below.1.0))
  method_formed (a ∷ b ∷ c ∷ cs) f h = absurd h.below.1.1

  pub getter_formed : (cs : List Node) → AllFormed cs → Here role.Free (free 1) (one sort.PropOrSpread) at kind.GetterProp cs → IsProperty values (cover_at (node_of at kind.GetterProp cs) target.Free)
  unfolding cover_in target_in role_in
  getter_formed [] f h = absurd h.below
  getter_formed (a ∷ []) f h = absurd h.below.1
  getter_formed (a ∷ b ∷ []) f h = absurd h.below.1.1
  getter_formed (a ∷ b ∷ c ∷ []) f h =
      subst (IsProperty values) (sym (covered at kind.GetterProp (a ∷ b ∷ c ∷ []) target.Free refl))
      (getter_property at (f.0.property_name h.below.0) (no_type b h.below.1.0) (body_there c f.1.1.0 h.below.1.1.0 (either_parts _ _ h.usual).0))
  getter_formed (a ∷ b ∷ c ∷ d ∷ cs) f h = absurd h.below.1.1.1

  one_taken : (cs : List Node) → Here role.Free (free 1) (one sort.PropOrSpread) at kind.SetterProp cs → of_kind takes_not_one (slice_get cs 2) ≡ false
  unfolding misfits_by
  one_taken cs h =
      let setter = node_of at kind.SetterProp cs in
      sym (ap (λ ns. of_kind takes_not_one (slice_get ns 2)) (children_made at kind.SetterProp cs)) ∙ (either_parts (child_is takes_not_one setter 2) (not (has_child setter 3)) (fitting_here h)).0

  pub setter_formed : (cs : List Node) → AllFormed cs → Here role.Free (free 1) (one sort.PropOrSpread) at kind.SetterProp cs → IsProperty values (cover_at (node_of at kind.SetterProp cs) target.Free)
  unfolding cover_in target_in role_in
  setter_formed [] f h = absurd h.below
  setter_formed (a ∷ []) f h = absurd h.below.1
  setter_formed (a ∷ b ∷ []) f h = absurd h.below.1.1
  setter_formed (a ∷ b ∷ c ∷ []) f h = absurd h.below.1.1.1
  setter_formed (a ∷ b ∷ c ∷ d ∷ []) f h =
      let u = either_parts (functions d).is_missing _ h.usual in
      let e = either_parts (is_list (kind_of c)) (is_rest_pattern (kind_of c)) (one_taken (a ∷ b ∷ c ∷ d ∷ []) h) in
      subst (IsProperty values) (sym (covered at kind.SetterProp (a ∷ b ∷ c ∷ d ∷ []) target.Free refl))
      (setter_property at (f.0.property_name h.below.0) (absent_shape target.Free b h.below.1.0 (sym (missing_kind b) ∙ not_false (functions b).is_missing u.1))
      (f.1.1.0.defaulted role.Parameter (one sort.Pat) refl h.below.1.1.0 (parameter_there c h.below.1.1.0 e.1)) (body_there d f.1.1.1.0 h.below.1.1.1.0 u.0))
  setter_formed (a ∷ b ∷ c ∷ d ∷ e ∷ cs) f h = absurd h.below.1.1.1.1
