-- What is shown of patterns, parameters and functions, of one node and from its children.
use Rattle.std.proofs.Common.{◌≡◌, ◌⊎◌, refl, sym, subst, Bool, true, false, ◌||◌, List}
use Rattle.ecma_kind.specs.declared.span.Span.{Span}
use Rattle.ecma_kind.specs.declared.kind.Kind.{Kind}
use Rattle.ecma_kind.specs.declared.kind.Kind.TheVariants as kind
use Rattle.ecma_kind.specs.declared.shapes.Shape.{Shape}
use Rattle.ecma_kind.specs.declared.shapes.Sort.TheVariants as sort
use Rattle.ecma_tree.specs.declared.node.Node.{Node, out-Node}
use Rattle.ecma_tree.specs.Nodes.{node_of}
use Rattle.ecma_tree.specs.Sorted.{allows, is_absent, is_list, item_shape, many, maybe, one, with_holes}
use Rattle.ecma_rules.specs.declared.target.Target.{Target}
use Rattle.ecma_rules.specs.declared.target.Target.TheVariants as target
use Rattle.ecma_rules.specs.Children.{kind_of}
use Rattle.ecma_covers.specs.Covering.{cover_at}
use Rattle.ecma_fits.specs.declared.role.Role.{Role}
use Rattle.ecma_fits.specs.declared.role.Role.TheVariants as role
use Rattle.ecma_fits.specs.Roles.{is_binding, is_bound_name, is_default, is_pattern, is_rest, may_be}
use Rattle.ecma_print.specs.Places.{free}
use Rattle.ecma_shapes.specs.Shapes.{AreProperties, AreSlots, IsArguments, IsDefaulted, IsElement, IsExpression, IsFunction, IsPattern, IsProperty, assignment, bindings, callee, values}
use Rattle.ecma_print_shapes.proofs.Bindings.{or_there}
use Rattle.ecma_print_shapes.proofs.Claims.{AllFormed, CoveredList, FormedExpression, IsTargeted, ListOf, ParameterOf, ParametersOf, as_element, as_value, covered_there, is_declared, seen, takes_rest}
use Rattle.ecma_print_shapes.proofs.Literals.{assigned_element_formed, assigned_properties_formed, assigned_property_formed, assigned_slots_formed, assigned_value_formed, literal_formed}
use Rattle.ecma_print_shapes.proofs.Parameters.{bound_arguments_formed, function_formed, parameter_formed, parameters_formed}
use Rattle.ecma_print_shapes.proofs.Patterns.{bound_element_formed, bound_name_formed, bound_properties_formed, bound_property_formed, bound_slots_formed, defaulted_formed, pattern_formed}
use Rattle.ecma_print_shapes.proofs.Sound.{Sound, children_made, here, kind_made}
use Rattle.ecma_print_shapes.proofs.Targets.{FormedLiteral, FormedName, assigned_target_formed, no_rest_there}

module _ (at : Span) (k : Kind) (cs : List Node) (f : AllFormed cs) where
  abbrev own : Node
  own = node_of at k cs

  by_kind : (P : Kind → Bool) {b : Bool} → P (kind_of own) ≡ b → P k ≡ b
  by_kind P {b} h = subst (λ z. P z ≡ b) (kind_made at k cs) h

  of_kind : (P : Kind → Bool) {b : Bool} → P k ≡ b → P (kind_of own) ≡ b
  of_kind P {b} h = subst (λ z. P z ≡ b) (sym (kind_made at k cs)) h

  children : AllFormed (out-Node own).children
  children = subst AllFormed (sym (children_made at k cs)) f

  -- declared patterns

  pub its_bound_name : FormedName own
  its_bound_name r spot shape s is = bound_name_formed at k cs f (here r spot shape at k cs s) (by_kind is_bound_name is)

  pub its_pattern : (r : Role) (shape : Shape) → is_declared r ≡ true → Sound r (free 1) shape own → is_binding (kind_of own) ≡ true → IsPattern (cover_at own target.Free)
  its_pattern r shape d s is = pattern_formed at d k cs f (here r (free 1) shape at k cs s) (by_kind is_binding is)

  pub its_defaulted : (r : Role) (shape : Shape) → is_declared r ≡ true → Sound r (free 1) shape own → (is_binding (kind_of own) || is_default (kind_of own)) ≡ true → IsDefaulted (cover_at own target.Free)
  its_defaulted r shape d s is = defaulted_formed at d k cs f (here r (free 1) shape at k cs s) (by_kind (λ z. is_binding z || is_default z) is)

  pub its_bound_element : (r : Role) (shape : Shape) → takes_rest r ≡ true → Sound r (free 1) shape own → is_absent (kind_of own) ≡ false → IsElement bindings (cover_at own target.Free)
  its_bound_element r shape d s is = bound_element_formed at d k cs f (here r (free 1) shape at k cs s) (by_kind is_absent is)

  pub its_bound_slots : Sound role.DeclaredElements (free 1) (with_holes sort.Pat) own → ListOf (AreSlots bindings) own
  its_bound_slots s = bound_slots_formed own children s

  pub its_bound_property : Sound role.DeclaredProperty (free 1) (one sort.ObjectPatProp) own → IsProperty bindings (cover_at own target.Free)
  its_bound_property s = bound_property_formed at k cs f (here role.DeclaredProperty (free 1) (one sort.ObjectPatProp) at k cs s)

  pub its_bound_properties : Sound role.DeclaredProperties (free 1) (many sort.ObjectPatProp) own → ListOf (AreProperties bindings) own
  its_bound_properties s = bound_properties_formed own children s

  -- parameters and functions

  pub its_bound_arguments : Sound role.Parameters (free 1) (many sort.Pat) own → IsArguments bindings (cover_at own target.Free)
  its_bound_arguments s = bound_arguments_formed own children s

  pub its_parameter : (shape : Shape) → Sound role.Free (free 1) shape own → kind_of own ≡ kind.Param → ParameterOf own
  its_parameter shape s e = parameter_formed own children shape s e

  pub its_parameters : (shape : Shape) → (item_shape shape ≡ one sort.Param) ⊎ (item_shape shape ≡ one sort.ParamOrTsParamProp) → Sound role.Free (free 1) shape own → is_list (kind_of own) ≡ true → ParametersOf own
  its_parameters shape e s is = parameters_formed own children shape e s is

  pub its_function : Sound role.Free (free 1) (one sort.Function) own → IsFunction (cover_at own target.Free)
  its_function s = function_formed at k cs f (here role.Free (free 1) (one sort.Function) at k cs s)

  -- patterns that are assigned to

  pub its_literal : FormedLiteral own
  its_literal r t spot shape c s is = literal_formed c at k cs f (here r spot shape at k cs s) (by_kind is_pattern is)

  pub its_assigned_property : Sound role.AssignedProperty (free 1) (one sort.ObjectPatProp) own → IsProperty values (cover_at own target.Property)
  its_assigned_property s = assigned_property_formed at k cs f (here role.AssignedProperty (free 1) (one sort.ObjectPatProp) at k cs s)

  pub its_assigned_properties : Sound role.AssignedProperties (free 1) (many sort.ObjectPatProp) own → CoveredList target.Properties (AreProperties values) own
  its_assigned_properties s = assigned_properties_formed own children s

  pub its_assigned_slots : Sound role.AssignedElements (free 1) (with_holes sort.Pat) own → CoveredList target.Elements (AreSlots values) own
  its_assigned_slots s = assigned_slots_formed own children s

  module _ (expression : FormedExpression own) where
    pub its_assigned_target : (r : Role) (t : Target) (shape : Shape) → IsTargeted r t → Sound r (free 1) shape own → allows (one sort.Pat) (kind_of own) ≡ true → is_default (kind_of own) ≡ false → is_rest (kind_of own) ≡ false
        → IsExpression callee (cover_at own t)
    its_assigned_target r t shape c s a d m = assigned_target_formed own expression its_literal its_bound_name r t shape c s a d m

    pub its_assigned_value : Sound role.AssignedValue (free 1) (one sort.Pat) own → IsExpression assignment (cover_at own target.Element)
    unfolding may_be
    its_assigned_value s =
        assigned_value_formed at k cs f (here role.AssignedValue (free 1) (one sort.Pat) at k cs s) (by_kind is_rest (no_rest_there role.AssignedValue own s refl))
        (λ d m. its_assigned_target role.AssignedValue target.Element (one sort.Pat) (covered_there as_value refl) s (seen own s).allowed (of_kind is_default d) (of_kind is_rest m))

    pub its_assigned_element : Sound role.AssignedElement (free 1) (maybe sort.Pat) own → is_absent (kind_of own) ≡ false → IsElement values (cover_at own target.Element)
    its_assigned_element s e =
        assigned_element_formed at k cs f (here role.AssignedElement (free 1) (maybe sort.Pat) at k cs s)
        (λ d m. its_assigned_target role.AssignedElement target.Element (maybe sort.Pat) (covered_there as_element refl) s (or_there (is_absent (kind_of own)) _ (seen own s).allowed e) (of_kind is_default d) (of_kind is_rest m))
