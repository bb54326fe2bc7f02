-- What the rules read of the children of a node that is itself there.
use Rattle.std.proofs.Common.{◌≡◌, ◌∙◌, ℕ, Bool, true, false, not, ◌&&◌, ◌||◌, List, [], ◌∷◌, map, None, refl, sym, ap, ap₂, slice_get}
use Rattle.std.specs.List.{list_any}
use Rattle.ecma_kind.specs.Sorts.{belongs}
use Rattle.ecma_kind.specs.declared.span.Span.{Span}
use Rattle.ecma_kind.specs.declared.kind.Kind.{Kind}
use Rattle.ecma_kind.specs.declared.kind.Kind.TheVariants as kind
use Rattle.ecma_kind.specs.declared.operators.MethodKind.{MethodKind}
use Rattle.ecma_kind.specs.declared.shapes.Shape.{Shape}
use Rattle.ecma_kind.specs.declared.shapes.Sort.TheVariants as sort
use Rattle.ecma_tree.specs.declared.node.Node.{Node, out-Node}
use Rattle.ecma_tree.specs.Laws.{HaveShapes}
use Rattle.ecma_tree.specs.Nodes.{node_of}
use Rattle.ecma_tree.specs.Sorted.{child_shapes, many, maybe, one}
use Rattle.ecma_rules.specs.declared.target.Target.{Target}
use Rattle.ecma_rules.specs.declared.target.Target.TheVariants as target
use Rattle.ecma_rules.specs.declared.standing.Standing.{Standing}
use Rattle.ecma_rules.specs.Children.{child_holds, children_of as items_of, holds_of, is_present, items_at, kind_of, of_kind}
use Rattle.ecma_rules.specs.Finishing.{each_in}
use Rattle.ecma_rules.specs.Lists.{is_head, is_one_without_value, is_rest_pattern}
use Rattle.ecma_rules.specs.Members.{behind_first, fits_kind, is_constructor_key, is_declaring, is_method, is_plain_parameter, is_property_kind, is_special_by, is_special_function, is_this_parameter, is_this_pattern, misfits_by, misplaces_this_by, second_by, takes_not_one, has_body}
use Rattle.ecma_rules.specs.Supers.{is_private_name}
use Rattle.ecma_rules.specs.Targets.{is_variables, target_in}
use Rattle.ecma_covers.specs.Covering.{cover_at}
use Rattle.ecma_print_fits.proofs.Parts.{children_made, not_true, shape_allows}
use Rattle.ecma_print_fits.proofs.Tests.{all_stay, further_stay, kind_at, kind_fits, list_single, patterns_stay, plain_parameter, second_in, test_at, this_pattern, without_value, body_stays}
use Rattle.ecma_print_fits.proofs.Fine.{and_no, head_by, no_and, private_by, property_by}

module _ (t : Target) (at : Span) where
  abbrev kids : Kind → List Node → List Node
  kids k cs = each_in (target_in t k) (map cover_at cs)

  abbrev was_node : Kind → List Node → Node
  was_node k cs = node_of at k cs

  abbrev now_node : Kind → List Node → Node
  now_node k cs = node_of at k (kids k cs)

  by_children : {A : Type 0} (read : List Node → A) (k : Kind) (cs : List Node) → read (kids k cs) ≡ read cs → read (out-Node (now_node k cs)).children ≡ read (out-Node (was_node k cs)).children
  by_children read k cs e =
      ap read (children_made (record { span = at; kind = k; children = kids k cs })) ∙ e ∙ sym (ap read (children_made (record { span = at; kind = k; children = cs })))

  -- a test that speaks of the children of some kinds alone
  one_stays : (k : Kind) (cs : List Node) (o : Shape) (n : ℕ) → is_variables k ≡ true → HaveShapes (child_shapes k o n) cs → is_one_without_value (items_at (now_node k cs) 0) ≡ is_one_without_value (items_at (was_node k cs) 0)
  unfolding target_in
  one_stays (kind.VarDecl d declare) [] o n h have = absurd have
  one_stays (kind.VarDecl d declare) (c ∷ cs) o n h have = by_children (λ z. is_one_without_value (items_of (slice_get z 0))) (kind.VarDecl d declare) (c ∷ cs) (without_value c have.0)
  one_stays _ cs o n h have = not_true h

  pub head_stays : (k : Kind) (cs : List Node) (o : Shape) (n : ℕ) (s u : Target) → is_head s ≡ is_head u → HaveShapes (child_shapes k o n) cs → head_by s k (was_node k cs) ≡ false → head_by u k (now_node k cs) ≡ false
  head_stays k cs o n s u e have h = go (is_variables k) refl
    where
      go : (b : Bool) → is_variables k ≡ b → head_by u k (now_node k cs) ≡ false
      go false v = no_and (is_head u && is_variables k) (not (is_one_without_value (items_at (now_node k cs) 0))) (and_no (is_head u) (is_variables k) v)
      go true v =
          ap₂ (λ a b. (a && is_variables k) && not b) (sym e) (one_stays k cs o n v have) ∙ h

  plain_stays : (k : Kind) (cs : List Node) → is_property_kind k ≡ true → child_holds is_plain_parameter (now_node k cs) 0 ≡ child_holds is_plain_parameter (was_node k cs) 0
  unfolding target_in
  plain_stays (kind.TsParamProp accessibility is_override readonly) cs h =
      by_children (λ z. holds_of is_plain_parameter (slice_get z 0)) (kind.TsParamProp accessibility is_override readonly) cs (test_at is_plain_parameter plain_parameter (λ i. target.Free) cs 0 refl)
  plain_stays _ cs h = not_true h

  pub property_stays : (k : Kind) (cs : List Node) (s : Standing) → property_by s k (was_node k cs) ≡ false → property_by s k (now_node k cs) ≡ false
  property_stays k cs s h = go (is_property_kind k) refl
    where
      go : (b : Bool) → is_property_kind k ≡ b → property_by s k (now_node k cs) ≡ false
      go false e = no_and (is_property_kind k) (not (is_declaring s && child_holds is_plain_parameter (now_node k cs) 0)) e
      go true e = ap (λ b. is_property_kind k && not (is_declaring s && b)) (plain_stays k cs e) ∙ h

  function_fits : (k : MethodKind) (cs : List Node) (p : Shape) → HaveShapes (p ∷ one sort.Function ∷ []) cs
      → holds_of (fits_kind k) (slice_get (each_in (λ i. target.Free) (map cover_at cs)) 1) ≡ holds_of (fits_kind k) (slice_get cs 1)
  function_fits k [] p h = refl
  function_fits k (c ∷ []) p h = refl
  function_fits k (c ∷ f ∷ cs) p h = kind_fits k f h.1.0

  function_bodied : (cs : List Node) (p : Shape) → HaveShapes (p ∷ one sort.Function ∷ []) cs
      → holds_of has_body (slice_get (each_in (λ i. target.Free) (map cover_at cs)) 1) ≡ holds_of has_body (slice_get cs 1)
  function_bodied [] p h = refl
  function_bodied (c ∷ []) p h = refl
  function_bodied (c ∷ f ∷ cs) p h = body_stays f h.1.0

  pub accessors_stay : (k : Kind) (cs : List Node) (o : Shape) (n : ℕ) → HaveShapes (child_shapes k o n) cs → misfits_by k (now_node k cs) ≡ misfits_by k (was_node k cs)
  unfolding misfits_by target_in
  accessors_stay kind.AssignPat cs o n h = by_children (λ z. of_kind is_rest_pattern (slice_get z 0)) kind.AssignPat cs (kind_at is_rest_pattern (λ i. target.Free) cs 0 refl)
  accessors_stay kind.GetterProp cs o n h =
      by_children (λ z. of_kind is_present (slice_get z 3) || not (of_kind is_present (slice_get z 2))) kind.GetterProp cs
      (ap₂ (λ a b. a || not b) (kind_at is_present (λ i. target.Free) cs 3 refl) (kind_at is_present (λ i. target.Free) cs 2 refl))
  accessors_stay kind.SetterProp cs o n h =
      by_children (λ z. of_kind takes_not_one (slice_get z 2) || not (of_kind is_present (slice_get z 3))) kind.SetterProp cs
      (ap₂ (λ a b. a || not b) (kind_at takes_not_one (λ i. target.Free) cs 2 refl) (kind_at is_present (λ i. target.Free) cs 3 refl))
  accessors_stay kind.MethodProp cs o n h = by_children (λ z. not (holds_of has_body (slice_get z 1))) kind.MethodProp cs (ap not (function_bodied cs (one sort.PropName) h))
  accessors_stay (kind.ClassMethod k modifiers) cs o n h = by_children (λ z. not (holds_of (fits_kind k) (slice_get z 1))) (kind.ClassMethod k modifiers) cs (ap not (function_fits k cs (one sort.PropName) h))
  accessors_stay (kind.PrivateMethod k modifiers) cs o n h = by_children (λ z. not (holds_of (fits_kind k) (slice_get z 1))) (kind.PrivateMethod k modifiers) cs (ap not (function_fits k cs (one sort.PrivateName) h))
  accessors_stay _ cs o n h = refl

  pub constructors_stay : (k : Kind) (cs : List Node) → is_special_by k (now_node k cs) ≡ is_special_by k (was_node k cs)
  unfolding target_in
  constructors_stay (kind.ClassMethod k modifiers) cs =
      by_children (λ z. not modifiers.is_static && (of_kind is_constructor_key (slice_get z 0) && (not (is_method k) || of_kind is_special_function (slice_get z 1)))) (kind.ClassMethod k modifiers) cs
      (ap₂ (λ a b. not modifiers.is_static && (a && (not (is_method k) || b))) (kind_at is_constructor_key (λ i. target.Free) cs 0 refl) (kind_at is_special_function (λ i. target.Free) cs 1 refl))
  constructors_stay _ cs = refl

  pub receivers_stay : (k : Kind) (cs : List Node) (o : Shape) (n : ℕ) → HaveShapes (child_shapes k o n) cs → misplaces_this_by k (now_node k cs) ≡ misplaces_this_by k (was_node k cs)
  unfolding misplaces_this_by target_in
  receivers_stay (kind.Function is_generator is_async) [] o n h = absurd h
  receivers_stay (kind.Function is_generator is_async) (c ∷ cs) o n h =
      by_children (λ z. list_any is_this_parameter (behind_first (items_of (slice_get z 0)))) (kind.Function is_generator is_async) (c ∷ cs) (further_stay c h.0)
  receivers_stay (kind.ArrowExpr is_async is_generator) [] o n h = absurd h
  receivers_stay (kind.ArrowExpr is_async is_generator) (c ∷ cs) o n h = by_children (λ z. list_any is_this_pattern (items_of (slice_get z 0))) (kind.ArrowExpr is_async is_generator) (c ∷ cs) (patterns_stay c h.0)
  receivers_stay (kind.Constructor accessibility is_optional) [] o n h = absurd h
  receivers_stay (kind.Constructor accessibility is_optional) (c ∷ []) o n h = absurd h.1
  receivers_stay (kind.Constructor accessibility is_optional) (c ∷ d ∷ cs) o n h =
      by_children (λ z. list_any is_this_parameter (items_of (slice_get z 1))) (kind.Constructor accessibility is_optional) (c ∷ d ∷ cs) (all_stay d h.1.0)
  receivers_stay kind.SetterProp cs o n h = by_children (λ z. holds_of is_this_pattern (slice_get z 2)) kind.SetterProp cs (test_at is_this_pattern this_pattern (λ i. target.Free) cs 2 refl)
  receivers_stay _ cs o n h = refl

  -- a member of `super` is no private name, by its sort
  no_private : (k : Kind) → belongs sort.SuperProp k ≡ true → is_private_name k ≡ false
  no_private (kind.PrivateName name) b = not_true b
  no_private _ b = refl

  pub private_stays : (k : Kind) (cs : List Node) (o : Shape) (n : ℕ) → HaveShapes (child_shapes k o n) cs → private_by k (now_node k cs) ≡ false
  unfolding target_in
  private_stays kind.SuperPropExpr [] o n h = absurd h
  private_stays kind.SuperPropExpr (c ∷ []) o n h = absurd h.1
  private_stays kind.SuperPropExpr (c ∷ d ∷ cs) o n h =
      ap (λ z. of_kind is_private_name (slice_get z 1)) (children_made (record { span = at; kind = kind.SuperPropExpr; children = kids kind.SuperPropExpr (c ∷ d ∷ cs) }))
      ∙ (kind_at is_private_name (λ i. target.Free) (c ∷ d ∷ cs) 1 refl ∙ no_private (kind_of d) (shape_allows d (one sort.SuperProp) h.1.0))
  private_stays _ cs o n h = refl

  members_single : (cs : List Node) (p : Shape) (ps : List Shape) → HaveShapes (p ∷ many sort.ClassMember ∷ ps) cs → second_in (items_of (slice_get cs 1)) ≡ None
      → second_in (items_of (slice_get (each_in (λ i. target.Free) (map cover_at cs)) 1)) ≡ None
  members_single [] p ps h single = refl
  members_single (c ∷ []) p ps h single = refl
  members_single (c ∷ l ∷ cs) p ps h single = list_single l h.1.0 single

  pub single_stays : (k : Kind) (cs : List Node) (o : Shape) (n : ℕ) → HaveShapes (child_shapes k o n) cs → second_by k (was_node k cs) ≡ None → second_by k (now_node k cs) ≡ None
  unfolding target_in
  single_stays (kind.Class is_abstract) cs o n h single =
      let was = sym (ap (λ z. second_in (items_of (slice_get z 1))) (children_made (record { span = at; kind = kind.Class is_abstract; children = cs }))) ∙ single in
      ap (λ z. second_in (items_of (slice_get z 1))) (children_made (record { span = at; kind = kind.Class is_abstract; children = kids (kind.Class is_abstract) cs }))
      ∙ members_single cs (maybe sort.Expr) (maybe sort.TsTypeParamDecl ∷ maybe sort.TsTypeParamInstantiation ∷ many sort.TsType ∷ []) h was
  single_stays _ cs o n h single = refl
