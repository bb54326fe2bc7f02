-- The rules that read a finished tree as they read a raw one are kept.
use Rattle.std.proofs.Common.{◌≡◌, ◌∙◌, ℕ, Bool, true, false, not, ◌&&◌, ◌||◌, List, [], ◌∷◌, map, length, refl, sym, ap, ap₂, subst, slice_get, None}
use Rattle.std.specs.List.{list_any}
use Rattle.ecma_kind.specs.declared.span.Span.{Span}
use Rattle.ecma_kind.specs.declared.kind.Kind.{Kind}
use Rattle.ecma_kind.specs.declared.kind.Kind.TheVariants as kind
use Rattle.ecma_kind.specs.declared.operators.MethodKind.{MethodKind}
use Rattle.ecma_kind.specs.declared.shapes.Shape.{Shape}
use Rattle.ecma_kind.specs.declared.shapes.Sort.TheVariants as sort
use Rattle.ecma_tree.specs.declared.node.Node.{Node, Node-F, out-Node, roll-Node}
use Rattle.ecma_tree.specs.declared.node.Node.TheViews.{out-roll-Node}
use Rattle.ecma_tree.specs.Laws.{HaveShapes}
use Rattle.ecma_tree.specs.Nodes.{node_of}
use Rattle.ecma_tree.specs.Sorted.{HasShape, child_shapes, one, HasSort}
use Rattle.ecma_tree.proofs.ShapeLaws.{node_has_shape}
use Rattle.ecma_rules.specs.declared.target.Target.{Target}
use Rattle.ecma_rules.specs.declared.target.Target.TheVariants as target
use Rattle.ecma_rules.specs.declared.standing.Around.{Around}
use Rattle.ecma_rules.specs.declared.standing.Standing.{Standing}
use Rattle.ecma_rules.specs.Children.{child_holds, child_is, children_of as items_of, holds_of, is_present, items_at, of_kind}
use Rattle.ecma_rules.specs.Finishing.{each_in, finished_at, finished}
use Rattle.ecma_rules.specs.Jumps.{first_stray}
use Rattle.ecma_rules.specs.Lists.{is_early_rest, is_head, is_item, is_one_without_value, is_rest, is_rest_pattern, is_wrong_head}
use Rattle.ecma_rules.specs.Members.{behind_first, fits_kind, is_constructor_key, is_declaring, is_method, is_misfit, is_plain_parameter, is_property_kind, is_special_by, is_special_constructor, is_special_function, is_stray_property, is_this_parameter, is_this_pattern, misfits_by, misplaces_this, misplaces_this_by, takes_not_one, has_body}
use Rattle.ecma_rules.specs.Rules.{first_misplaced, is_misplaced, first_broken}
use Rattle.ecma_rules.specs.Statements.{is_body, is_declaration, is_exported, is_text}
use Rattle.ecma_rules.specs.Surroundings.{at_root}
use Rattle.ecma_rules.specs.Targets.{is_spread, is_variables, target_in}
use Rattle.ecma_fits.specs.declared.unfit.Where.{Where}
use Rattle.ecma_fits.specs.Fitting.{at_top, breaks_rule, NoneFails}
use Rattle.ecma_raw_roles.proofs.Walks.{not_true, kind_made}
use Rattle.ecma_text_fits_finished.proofs.Standing.{Stands, as_last, keeps_last, kept_rules, presence, shown}
use Rattle.ecma_text_fits_finished.proofs.Tests.{all_stay, further_stay, kind_at, kind_fits, patterns_stay, plain_parameter, test_at, this_pattern, without_value, free_has_child}
use Rattle.ecma_text_fits_finished.proofs.Ruled.{is_made, ruled}
use Rattle.ecma_fits.proofs.Walks.{neither, neither_least}

either_no : (a b : Bool) → a ≡ false → b ≡ false → (a || b) ≡ false
either_no a b h g = rw (h, g) refl

and_no : (a b : Bool) → b ≡ false → (a && b) ≡ false
and_no true b h = h
and_no false b h = refl

no_and : (a b : Bool) → a ≡ false → (a && b) ≡ false
no_and a b h = rw h refl

-- a test by the node's kind
abbrev wrong_head_by : Target → Kind → Node → Bool
wrong_head_by t k n = (is_head t && is_variables k) && not (is_one_without_value (items_at n 0))

abbrev early_by : Target → Bool → Kind → Bool
early_by t last k = is_rest t k && not last

abbrev stray_property_by : Standing → Kind → Node → Bool
stray_property_by s k n = is_property_kind k && not (is_declaring s && child_holds is_plain_parameter n 0)

abbrev statement_by : Standing → Kind → Bool
statement_by s k = (is_exported s && is_text k) || (is_body s && is_declaration k)

abbrev member_by : Standing → Kind → Node → Bool
member_by s k n = stray_property_by s k n || (misfits_by k n || (is_special_by k n || misplaces_this_by k n))

abbrev breaks_by : Where → Kind → Node → Bool
breaks_by w k n = (wrong_head_by w.around.target k n || early_by w.around.target w.around.is_last k) || (member_by w.around.standing k n || statement_by w.around.standing k)

-- a kind of which no rule speaks
record Quiet (k : Kind) (n : Node) : Type 0 where
  variables : is_variables k ≡ false
  spread : is_spread k ≡ false
  property : is_property_kind k ≡ false
  accessor : misfits_by k n ≡ false
  constructor : is_special_by k n ≡ false
  receiver : misplaces_this_by k n ≡ false
  text : is_text k ≡ false
  declaration : is_declaration k ≡ false

quiet_breaks : (w : Where) (k : Kind) (n : Node) → Quiet k n → early_by w.around.target w.around.is_last k ≡ false → breaks_by w k n ≡ false
quiet_breaks w k n q early =
    let head = no_and (is_head w.around.target && is_variables k) (not (is_one_without_value (items_at n 0))) (and_no (is_head w.around.target) (is_variables k) q.variables) in
    let property = no_and (is_property_kind k) (not (is_declaring w.around.standing && child_holds is_plain_parameter n 0)) q.property in
    let member = either_no (stray_property_by w.around.standing k n) (misfits_by k n || (is_special_by k n || misplaces_this_by k n)) property
    (either_no (misfits_by k n) (is_special_by k n || misplaces_this_by k n) q.accessor (either_no (is_special_by k n) (misplaces_this_by k n) q.constructor q.receiver)) in
    let statement = either_no (is_exported w.around.standing && is_text k) (is_body w.around.standing && is_declaration k) (and_no (is_exported w.around.standing) (is_text k) q.text) (and_no (is_body w.around.standing) (is_declaration k) q.declaration) in
    either_no (wrong_head_by w.around.target k n || early_by w.around.target w.around.is_last k) (member_by w.around.standing k n || statement_by w.around.standing k)
    (either_no (wrong_head_by w.around.target k n) (early_by w.around.target w.around.is_last k) head early)
    (either_no (member_by w.around.standing k n) (statement_by w.around.standing k) member statement)

made_quiet : (k : Kind) (n : Node) → is_made k ≡ true → Quiet k n × (is_rest_pattern k ≡ false)
unfolding misfits_by misplaces_this_by is_declaration
made_quiet kind.Absent n h = (record { variables = refl; spread = refl; property = refl; accessor = refl; constructor = refl; receiver = refl; text = refl; declaration = refl }, refl)
made_quiet kind.BindingIdent n h = (record { variables = refl; spread = refl; property = refl; accessor = refl; constructor = refl; receiver = refl; text = refl; declaration = refl }, refl)
made_quiet (kind.Ident text ctxt optional) n h = (record { variables = refl; spread = refl; property = refl; accessor = refl; constructor = refl; receiver = refl; text = refl; declaration = refl }, refl)
made_quiet (kind.ArrayPat optional) n h = (record { variables = refl; spread = refl; property = refl; accessor = refl; constructor = refl; receiver = refl; text = refl; declaration = refl }, refl)
made_quiet (kind.ObjectPat optional) n h = (record { variables = refl; spread = refl; property = refl; accessor = refl; constructor = refl; receiver = refl; text = refl; declaration = refl }, refl)
made_quiet kind.KeyValuePatProp n h = (record { variables = refl; spread = refl; property = refl; accessor = refl; constructor = refl; receiver = refl; text = refl; declaration = refl }, refl)
made_quiet kind.AssignPatProp n h = (record { variables = refl; spread = refl; property = refl; accessor = refl; constructor = refl; receiver = refl; text = refl; declaration = refl }, refl)
made_quiet _ n h = not_true h

made_keeps : (w : Where) (x : Node-F Node) → is_made x.kind ≡ true → breaks_rule w (roll-Node x) ≡ false
made_keeps w x h =
    let n = roll-Node x in
    let q = made_quiet x.kind n h in
    let early = no_and (is_rest w.around.target x.kind) (not w.around.is_last) (either_no (is_rest_pattern x.kind) (is_item w.around.target && is_spread x.kind) q.1 (and_no (is_item w.around.target) (is_spread x.kind) q.0.spread)) in
    subst (λ k. breaks_by w k n ≡ false) (sym (kind_made x)) (quiet_breaks w x.kind n q.0 early)

rest_keeps : (w : Where) (span : Span) (cs : List Node) → w.around.is_last ≡ true → breaks_rule w (node_of span kind.RestPat cs) ≡ false
unfolding misfits_by misplaces_this_by is_declaration
rest_keeps w span cs last =
    let x : Node-F Node = record { span = span; kind = kind.RestPat; children = cs } in
    let n = roll-Node x in
    let q : Quiet kind.RestPat n = record { variables = refl; spread = refl; property = refl; accessor = refl; constructor = refl; receiver = refl; text = refl; declaration = refl } in
    subst (λ k. breaks_by w k n ≡ false) (sym (kind_made x)) (quiet_breaks w kind.RestPat n q (ap not last))

default_keeps : (w : Where) (span : Span) (cs : List Node) → child_is is_rest_pattern (node_of span kind.AssignPat cs) 0 ≡ false → breaks_rule w (node_of span kind.AssignPat cs) ≡ false
unfolding misfits_by misplaces_this_by is_declaration
default_keeps w span cs no_rest =
    let x : Node-F Node = record { span = span; kind = kind.AssignPat; children = cs } in
    let n = roll-Node x in
    let q : Quiet kind.AssignPat n = record { variables = refl; spread = refl; property = refl; accessor = no_rest; constructor = refl; receiver = refl; text = refl; declaration = refl } in
    subst (λ k. breaks_by w k n ≡ false) (sym (kind_made x))
    (quiet_breaks w kind.AssignPat n q (no_and (is_rest w.around.target kind.AssignPat) (not w.around.is_last) (and_no (is_item w.around.target) false refl)))

shown_head : (t : Target) → is_head (shown t) ≡ is_head t
shown_head target.Left = refl
shown_head target.Simple = refl
shown_head target.Head = refl
shown_head _ = refl

shown_item : (t : Target) → is_item (shown t) ≡ false
shown_item target.Left = refl
shown_item target.Simple = refl
shown_item target.Head = refl
shown_item _ = refl

rest_pattern_lasts : (k : Kind) → is_rest_pattern k ≡ true → keeps_last k ≡ true
rest_pattern_lasts kind.RestPat h = refl
rest_pattern_lasts _ h = not_true h

-- what the rules read of the children of a node that is not turned

pub children_made : (x : Node-F Node) → (out-Node (roll-Node x)).children ≡ x.children
children_made x = ap (λ (p : Node-F Node). p.children) (out-roll-Node x)

module _ (t : Target) (span : Span) where
  abbrev kids : Kind → List Node → List Node
  kids k cs = each_in (target_in t k) (map finished_at cs)

  abbrev was_node : Kind → List Node → Node
  was_node k cs = node_of span k cs

  abbrev now_node : Kind → List Node → Node
  now_node k cs = node_of span k (kids k cs)

  -- what is read of the children alone
  by_children : {A : Type 0} (read : List Node → A) (k : Kind) (cs : List Node) → read (kids k cs) ≡ read cs → read (out-Node (now_node k cs)).children ≡ read (out-Node (was_node k cs)).children
  by_children read k cs e =
      ap read (children_made (record { span = span; kind = k; children = kids k cs })) ∙ e ∙ sym (ap read (children_made (record { span = span; kind = k; children = cs })))

  value_stays : (k : Kind) (cs : List Node) (o : Shape) (n : ℕ) → is_variables k ≡ true → HaveShapes (child_shapes k o n) (kids k cs) → is_one_without_value (items_of (slice_get (kids k cs) 0)) ≡ is_one_without_value (items_of (slice_get cs 0))
  unfolding target_in
  value_stays (kind.VarDecl d declare) [] o n h have = refl
  value_stays (kind.VarDecl d declare) (c ∷ cs) o n h have = without_value c have.0
  value_stays _ cs o n h have = not_true h

  property_stays : (k : Kind) (cs : List Node) → is_property_kind k ≡ true → holds_of is_plain_parameter (slice_get (kids k cs) 0) ≡ holds_of is_plain_parameter (slice_get cs 0)
  unfolding target_in
  property_stays (kind.TsParamProp accessibility is_override readonly) cs h = test_at is_plain_parameter plain_parameter (λ i. target.Free) cs 0 refl
  property_stays _ cs h = not_true h

  function_fits : (k : MethodKind) (cs : List Node) (p : Shape) → HaveShapes (p ∷ one sort.Function ∷ []) (each_in (λ i. target.Free) (map finished_at cs))
      → holds_of (fits_kind k) (slice_get (each_in (λ i. target.Free) (map finished_at cs)) 1) ≡ holds_of (fits_kind k) (slice_get cs 1)
  function_fits k [] p h = refl
  function_fits k (c ∷ []) p h = refl
  function_fits k (c ∷ f ∷ cs) p h = kind_fits k f h.1.0

  function_bodied : (cs : List Node) (p : Shape) → HaveShapes (p ∷ one sort.Function ∷ []) (each_in (λ i. target.Free) (map finished_at cs))
      → holds_of has_body (slice_get (each_in (λ i. target.Free) (map finished_at cs)) 1) ≡ holds_of has_body (slice_get cs 1)
  function_bodied [] p h = refl
  function_bodied (c ∷ []) p h = refl
  function_bodied (c ∷ f ∷ cs) p h = free_has_child f 1

  accessors_stay : (k : Kind) (cs : List Node) (o : Shape) (n : ℕ) → HaveShapes (child_shapes k o n) (kids k cs) → misfits_by k (now_node k cs) ≡ misfits_by k (was_node k cs)
  unfolding misfits_by target_in
  accessors_stay kind.AssignPat cs o n h = by_children (λ z. of_kind is_rest_pattern (slice_get z 0)) kind.AssignPat cs (kind_at is_rest_pattern (λ i. target.Free) cs 0 refl)
  accessors_stay kind.GetterProp cs o n h =
      by_children (λ z. of_kind is_present (slice_get z 3) || not (of_kind is_present (slice_get z 2))) kind.GetterProp cs
      (ap₂ (λ a b. a || not b) (presence (λ i. target.Free) cs 3) (presence (λ i. target.Free) cs 2))
  accessors_stay kind.SetterProp cs o n h =
      by_children (λ z. of_kind takes_not_one (slice_get z 2) || not (of_kind is_present (slice_get z 3))) kind.SetterProp cs
      (ap₂ (λ a b. a || not b) (kind_at takes_not_one (λ i. target.Free) cs 2 refl) (presence (λ i. target.Free) cs 3))
  accessors_stay kind.MethodProp cs o n h = by_children (λ z. not (holds_of has_body (slice_get z 1))) kind.MethodProp cs (ap not (function_bodied cs (one sort.PropName) h))
  accessors_stay (kind.ClassMethod k modifiers) cs o n h = by_children (λ z. not (holds_of (fits_kind k) (slice_get z 1))) (kind.ClassMethod k modifiers) cs (ap not (function_fits k cs (one sort.PropName) h))
  accessors_stay (kind.PrivateMethod k modifiers) cs o n h = by_children (λ z. not (holds_of (fits_kind k) (slice_get z 1))) (kind.PrivateMethod k modifiers) cs (ap not (function_fits k cs (one sort.PrivateName) h))
  accessors_stay _ cs o n h = refl

  constructors_stay : (k : Kind) (cs : List Node) → is_special_by k (now_node k cs) ≡ is_special_by k (was_node k cs)
  unfolding target_in
  constructors_stay (kind.ClassMethod k modifiers) cs =
      by_children (λ z. not modifiers.is_static && (of_kind is_constructor_key (slice_get z 0) && (not (is_method k) || of_kind is_special_function (slice_get z 1)))) (kind.ClassMethod k modifiers) cs
      (ap₂ (λ a b. not modifiers.is_static && (a && (not (is_method k) || b))) (kind_at is_constructor_key (λ i. target.Free) cs 0 refl) (kind_at is_special_function (λ i. target.Free) cs 1 refl))
  constructors_stay _ cs = refl

  receivers_stay : (k : Kind) (cs : List Node) (o : Shape) (n : ℕ) → HaveShapes (child_shapes k o n) (kids k cs) → misplaces_this_by k (now_node k cs) ≡ misplaces_this_by k (was_node k cs)
  unfolding misplaces_this_by target_in
  receivers_stay (kind.Function is_generator is_async) [] o n h = refl
  receivers_stay (kind.Function is_generator is_async) (c ∷ cs) o n h =
      by_children (λ z. list_any is_this_parameter (behind_first (items_of (slice_get z 0)))) (kind.Function is_generator is_async) (c ∷ cs) (further_stay c h.0)
  receivers_stay (kind.ArrowExpr is_async is_generator) [] o n h = refl
  receivers_stay (kind.ArrowExpr is_async is_generator) (c ∷ cs) o n h = by_children (λ z. list_any is_this_pattern (items_of (slice_get z 0))) (kind.ArrowExpr is_async is_generator) (c ∷ cs) (patterns_stay c h.0)
  receivers_stay (kind.Constructor accessibility is_optional) [] o n h = refl
  receivers_stay (kind.Constructor accessibility is_optional) (c ∷ []) o n h = absurd h.1
  receivers_stay (kind.Constructor accessibility is_optional) (c ∷ d ∷ cs) o n h =
      by_children (λ z. list_any is_this_parameter (items_of (slice_get z 1))) (kind.Constructor accessibility is_optional) (c ∷ d ∷ cs) (all_stay d h.1.0)
  receivers_stay kind.SetterProp cs o n h = by_children (λ z. holds_of is_this_pattern (slice_get z 2)) kind.SetterProp cs (test_at is_this_pattern this_pattern (λ i. target.Free) cs 2 refl)
  receivers_stay _ cs o n h = refl

-- a node that is not turned
module _ (was : Around) (w : Where) (span : Span) (k : Kind) (cs : List Node) (o : Shape) (stands : Stands was k w.around)
    (fine : is_misplaced was (node_of span k cs) ≡ false) (shape : HasShape o (node_of span k (each_in (target_in was.target k) (map finished_at cs)))) where
  abbrev children : List Node
  children = each_in (target_in was.target k) (map finished_at cs)

  abbrev x : Node-F Node
  x = record { span = span; kind = k; children = cs }

  abbrev y : Node-F Node
  y = record { span = span; kind = k; children = children }

  have : HaveShapes (child_shapes k o (length children)) children
  have = ((node_has_shape span k children o).0 shape).1

  head_keeps : wrong_head_by w.around.target k (roll-Node y) ≡ false
  head_keeps = go (is_variables k) refl
    where
      was_one : ((is_head was.target && is_variables k) && not (is_one_without_value (items_of (slice_get cs 0)))) ≡ false
      was_one = subst (λ (p : Node-F Node). ((is_head was.target && is_variables p.kind) && not (is_one_without_value (items_of (slice_get p.children 0)))) ≡ false) (out-roll-Node x)
          (neither (is_wrong_head was.target (roll-Node x)) (is_early_rest was.target was.is_last (roll-Node x)) (kept_rules was (roll-Node x) fine).list).0

      go : (b : Bool) → is_variables k ≡ b → wrong_head_by w.around.target k (roll-Node y) ≡ false
      go false e = no_and (is_head w.around.target && is_variables k) (not (is_one_without_value (items_at (roll-Node y) 0))) (and_no (is_head w.around.target) (is_variables k) e)
      go true e =
          let value = ap (λ z. is_one_without_value (items_of (slice_get z 0))) (children_made y) ∙ value_stays was.target span k cs o (length children) e have in
          subst (λ z. ((z && is_variables k) && not (is_one_without_value (items_at (roll-Node y) 0))) ≡ false) (sym (ap is_head stands.target ∙ shown_head was.target))
          (subst (λ z. ((is_head was.target && is_variables k) && not z) ≡ false) (sym value) was_one)

  early_keeps : early_by w.around.target w.around.is_last k ≡ false
  early_keeps = go (is_rest_pattern k) refl
    where
      was_early : ((is_rest_pattern k || (is_item was.target && is_spread k)) && not was.is_last) ≡ false
      was_early = subst (λ z. (is_rest was.target z && not was.is_last) ≡ false) (kind_made x)
          (neither (is_wrong_head was.target (roll-Node x)) (is_early_rest was.target was.is_last (roll-Node x)) (kept_rules was (roll-Node x) fine).list).1

      go : (b : Bool) → is_rest_pattern k ≡ b → early_by w.around.target w.around.is_last k ≡ false
      go false e =
          no_and (is_rest w.around.target k) (not w.around.is_last)
          (either_no (is_rest_pattern k) (is_item w.around.target && is_spread k) e (no_and (is_item w.around.target) (is_spread k) (ap is_item stands.target ∙ shown_item was.target)))
      go true e =
          let last : not was.is_last ≡ false = subst (λ b. ((b || (is_item was.target && is_spread k)) && not was.is_last) ≡ false) e was_early in
          and_no (is_rest w.around.target k) (not w.around.is_last) (ap not (as_last was w.around x stands fine (rest_pattern_lasts k e)) ∙ last)

  property_keeps : stray_property_by w.around.standing k (roll-Node y) ≡ false
  property_keeps = go (is_property_kind k) refl
    where
      was_property : (is_property_kind k && not (is_declaring was.standing && holds_of is_plain_parameter (slice_get cs 0))) ≡ false
      was_property = subst (λ (p : Node-F Node). (is_property_kind p.kind && not (is_declaring was.standing && holds_of is_plain_parameter (slice_get p.children 0))) ≡ false) (out-roll-Node x)
          (neither (is_stray_property was.standing (roll-Node x)) (is_misfit (roll-Node x) || (is_special_constructor (roll-Node x) || misplaces_this (roll-Node x))) (kept_rules was (roll-Node x) fine).member).0

      go : (b : Bool) → is_property_kind k ≡ b → stray_property_by w.around.standing k (roll-Node y) ≡ false
      go false e = no_and (is_property_kind k) (not (is_declaring w.around.standing && child_holds is_plain_parameter (roll-Node y) 0)) e
      go true e =
          let plain = ap (λ z. holds_of is_plain_parameter (slice_get z 0)) (children_made y) ∙ property_stays was.target span k cs e in
          subst (λ z. (is_property_kind k && not (is_declaring z && child_holds is_plain_parameter (roll-Node y) 0)) ≡ false) (sym stands.standing)
          (subst (λ z. (is_property_kind k && not (is_declaring was.standing && z)) ≡ false) (sym plain) was_property)

  members_keep : (misfits_by k (roll-Node y) ≡ false) × (is_special_by k (roll-Node y) ≡ false) × (misplaces_this_by k (roll-Node y) ≡ false)
  members_keep =
      let n = roll-Node x in
      let m = (neither (is_stray_property was.standing n) (is_misfit n || (is_special_constructor n || misplaces_this n)) (kept_rules was n fine).member).1 in
      let more = neither (is_misfit n) (is_special_constructor n || misplaces_this n) m in
      let both = neither (is_special_constructor n) (misplaces_this n) more.1 in
      let accessor : misfits_by k n ≡ false = subst (λ z. misfits_by z n ≡ false) (kind_made x) more.0 in
      let constructor : is_special_by k n ≡ false = subst (λ z. is_special_by z n ≡ false) (kind_made x) both.0 in
      let receiver : misplaces_this_by k n ≡ false = subst (λ z. misplaces_this_by z n ≡ false) (kind_made x) both.1 in
      (accessors_stay was.target span k cs o (length children) have ∙ accessor, constructors_stay was.target span k cs ∙ constructor, receivers_stay was.target span k cs o (length children) have ∙ receiver)

  statement_keeps : statement_by w.around.standing k ≡ false
  statement_keeps =
      subst (λ z. statement_by z k ≡ false) (sym stands.standing)
      (subst (λ z. statement_by was.standing z ≡ false) (kind_made x) (kept_rules was (roll-Node x) fine).statement)

  same_keeps : breaks_rule w (roll-Node y) ≡ false
  same_keeps =
      let n = roll-Node y in
      subst (λ z. breaks_by w z n ≡ false) (sym (kind_made y))
      (either_no (wrong_head_by w.around.target k n || early_by w.around.target w.around.is_last k) (member_by w.around.standing k n || statement_by w.around.standing k)
      (either_no (wrong_head_by w.around.target k n) (early_by w.around.target w.around.is_last k) head_keeps early_keeps)
      (either_no (member_by w.around.standing k n) (statement_by w.around.standing k)
      (either_no (stray_property_by w.around.standing k n) (misfits_by k n || (is_special_by k n || misplaces_this_by k n)) property_keeps
      (either_no (misfits_by k n) (is_special_by k n || misplaces_this_by k n) members_keep.0 (either_no (is_special_by k n) (misplaces_this_by k n) members_keep.1 members_keep.2))) statement_keeps))

pub keeps_rules : (raw : Node) → first_broken raw ≡ None → HasSort sort.Module (finished raw) → NoneFails breaks_rule (finished raw)
keeps_rules raw kept sorted =
    let w = neither_least (first_misplaced raw at_root) (first_stray raw) kept in
    ruled breaks_rule made_keeps rest_keeps default_keeps (λ was w span k cs o stands stays fine single shape. same_keeps was w span k cs o stands fine shape) raw at_root at_top (one sort.Module)
    (record { standing = refl; target = refl; last = λ p q. refl }) sorted w.0
