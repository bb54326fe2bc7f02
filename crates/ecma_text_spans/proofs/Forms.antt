-- What a form makes of nodes that were read up to a place: no identifier of it is a leaf that ends where the text begins.
use Rattle.std.proofs.Common.{◌≡◌, ℕ, ◌-◌, Bool, true, false, ◌&&◌, List, [], ◌∷◌, ◌++◌, length, nat_le, refl, Some, None}
use Rattle.std.specs.Prelude.{slice_get, slice_set, unwrap_or, if◌then◌else◌, ◌==◌}
use Rattle.ecma_kind.specs.declared.span.Span.{Span}
use Rattle.ecma_kind.specs.declared.kind.Kind.{Kind}
use Rattle.ecma_kind.specs.declared.kind.Kind.TheVariants as kind
use Rattle.ecma_kind.specs.declared.operators.MethodKind.{MethodKind}
use Rattle.ecma_kind.specs.declared.operators.MethodKind.TheVariants.{Method, Getter, Setter}
use Rattle.ecma_kind.specs.declared.operators.MetaPropKind.TheVariants.{NewTarget}
use Rattle.ecma_kind.specs.declared.operators.MemberModifiers.{MemberModifiers}
use Rattle.ecma_tree.specs.declared.node.Node.{Node}
use Rattle.ecma_tree.specs.Nodes.{node_of, absent, list_node, dummy_span}
use Rattle.ecma_grammar.specs.declared.production.Plain.{Plain}
use Rattle.ecma_grammar.specs.declared.production.Plain.TheVariants as plain
use Rattle.ecma_grammar.specs.declared.production.Form.{Form}
use Rattle.ecma_grammar.specs.declared.production.Form.TheVariants as form
use Rattle.ecma_grammar.specs.trees.Parts.{kind_of, span_of, children_of, from_to, is_absent, is_present, in_front, framed}
use Rattle.ecma_grammar.specs.trees.Plain.{plain_kind}
use Rattle.ecma_grammar.specs.trees.Chains.{steps, all_steps, is_and, is_or, right_in_front, in_front_logical, goes_on, linked, Callee, instantiated, callee_by, callee_of, member_of, call_of, tagged_of, optional_of, link_by, in_front_link, new_expr, construction, template, is_substitution, is_text_part}
use Rattle.ecma_grammar.specs.trees.Functions.{questioned_kind, questioned, questioned_part, annotated_of, annotated_pattern, annotated, end_of, declarator, accessibility_of, parameter, wrapped_by, wrapped, parameters, function_of, function, arrow, yield_, getter, is_this, setter_of, setter_by, setter}
use Rattle.ecma_grammar.specs.trees.Classes.{class, is_private_name, no_modifiers, method_kind, method, field_kind, field, modified, is_constructor, constructor_of, method_by, member_by, member, index_signature, new_signature, type_signature}
use Rattle.ecma_grammar.specs.trees.Others.{swapped, missing, elements, the_one, sequence, headed, declared_kind, declared, nested, namespaces, namespace, import_equals, text_of, module_of, const_assertion, type_assertion, assertion}
use Rattle.ecma_grammar.specs.Made.{made}
use Rattle.ecma_text_leaves.proofs.Forms.{is_leaf}
use Rattle.ecma_text_spans.proofs.Trees.{Good, All, good_node, own_good, children_good, each_append, each_take, each_filter, each_map, each_set, each_swap, good_absent, good_framed, more, none}
use Rattle.ecma_text_spans.proofs.Placed.{IsPlaced, appended, declared_placed, ends, filled, front, others, questions}

plain_no_leaf : (k : Plain) → is_leaf (plain_kind k) ≡ false
plain_no_leaf plain.BindingIdent = refl
plain_no_leaf _ = refl

module _ (stop : ℕ) where
  abbrev P : Span → Kind → List Node → Type 0
  P = IsPlaced stop

  abbrev G : Node → Type 0
  G = Good P

  abbrev A : List Node → Type 0
  A = All P

  node : (at : Span) (k : Kind) {xs : List Node} → is_leaf k ≡ false → A xs → G (node_of at k xs)
  node at k {xs} e all = good_node P at k xs (others stop at k xs e) all

  missing_node : G absent
  missing_node = good_absent P tt

  list_of : {xs : List Node} → A xs → G (list_node xs)
  list_of h = node dummy_span kind.List refl h

  one_of : (b : Bool) (x y : Node) → G x → G y → G (if b then x else y)
  one_of true x y g k = g
  one_of false x y g k = k

  frames : {xs : List Node} (n : ℕ) (f : List Node → Node) → A xs → (A xs → G (f xs)) → G (framed n f xs)
  frames n f all g = good_framed P tt n f all g

  -- chains

  in_front_good : {x n : Node} → G x → G n → G (in_front x n)
  in_front_good {x} {n} g k = good_node P (from_to (span_of x).lo (span_of n).hi) (kind_of n) (slice_set (children_of n) 0 x) (front stop (span_of x).lo x (span_of n) (kind_of n) (children_of n) (own_good P k)) (each_set P 0 x g (children_good P k))

  module _ (step : Node → Node → Node) (keeps : (x n : Node) → G x → G n → G (step x n)) where
    steps_some : (x : Node) {xs : List Node} → G x → A xs → G (unwrap_or (steps step (Some x) xs) absent)
    steps_some x g none = g
    steps_some x g (more {n = n} a h) = steps_some (step x n) (keeps x n g a) h

    all_steps_good : {xs : List Node} → A xs → G (all_steps step xs)
    all_steps_good none = missing_node
    all_steps_good (more {n = n} a h) = steps_some n a h

  right_good : (at was : Span) (k : Kind) {n : Node} {children : List Node} → P was k children → G n → A children → G (right_in_front at k n children)
  right_good at was k p g none = missing_node
  right_good at was k p g (more a none) = missing_node
  right_good at was k {n} p g (more {n = x} a (more {n = y} b none)) = good_node P at k (x ∷ in_front y n ∷ []) (filled stop was at k (x ∷ y ∷ []) x (in_front y n ∷ []) p) (more a (more (in_front_good b g) none))
  right_good at was k p g (more a (more b (more c h))) = missing_node

  logical_good : {x n : Node} → G x → G n → G (in_front_logical x n)
  logical_good {x} {n} g k = one_of (is_and (kind_of n) && is_or (kind_of x)) _ _ (frames 2 (right_in_front (from_to (span_of x).lo (span_of n).hi) (kind_of x) n) (children_good P g) (λ h. right_good _ (span_of x) (kind_of x) (own_good P g) k h)) (in_front_good g k)

  linked_good : {n : Node} → G n → G (linked n)
  linked_good {n} g = node (span_of n) (kind.OptChainExpr false) refl (more g none)

  record CalleeGood (c : Callee) : Type 0 where
    callee : G c.0
    type_args : G c.1

  missing_callee : CalleeGood (absent, absent)
  missing_callee = record { callee = missing_node; type_args = missing_node }

  instantiated_good : (b : Bool) {xs : List Node} → A xs → CalleeGood (instantiated (if b then Some xs else None))
  instantiated_good true none = missing_callee
  instantiated_good true (more a none) = missing_callee
  instantiated_good true (more a (more b none)) = record { callee = a; type_args = b }
  instantiated_good true (more a (more b (more c h))) = missing_callee
  instantiated_good false h = missing_callee

  callee_by_good : (x : Node) (k : Kind) → G x → CalleeGood (callee_by x k)
  callee_by_good x kind.TsInstantiation g = instantiated_good (length (children_of x) == 2) (children_good P g)
  callee_by_good x _ g = record { callee = g; type_args = missing_node }

  callee_good : (x : Node) → G x → CalleeGood (callee_of x)
  callee_good x g = callee_by_good x (kind_of x) g

  member_good : (x n : Node) (k : Kind) → G x → G n → G (member_of x n k)
  member_good x n kind.Super g h = node (from_to (span_of x).lo (span_of n).hi) kind.SuperPropExpr refl (each_set P 0 x g (children_good P h))
  member_good x n _ g h = one_of (goes_on x) _ _ (linked_good (in_front_good g h)) (in_front_good g h)

  call_good : (at : Span) (c : Callee) → CalleeGood c → {xs : List Node} → A xs → G (call_of at c xs)
  call_good at (callee, type_args) c none = missing_node
  call_good at (callee, type_args) c (more x none) = missing_node
  call_good at (callee, type_args) c (more x (more y none)) = missing_node
  call_good at (callee, type_args) c (more x (more y (more z none))) =
      let all = more c.callee (more y (more c.type_args none)) in
      one_of (goes_on callee) _ _ (linked_good (node at kind.OptCall refl all)) (node at kind.CallExpr refl all)
  call_good at (callee, type_args) c (more x (more y (more z (more w h)))) = missing_node

  tagged_good : (at : Span) (c : Callee) → CalleeGood c → {xs : List Node} → A xs → G (tagged_of at c xs)
  tagged_good at (callee, type_args) c none = missing_node
  tagged_good at (callee, type_args) c (more x none) = missing_node
  tagged_good at (callee, type_args) c (more x (more y none)) = missing_node
  tagged_good at (callee, type_args) c (more x (more y (more z none))) = node at kind.TaggedTpl refl (more c.callee (more c.type_args (more z none)))
  tagged_good at (callee, type_args) c (more x (more y (more z (more w h)))) = missing_node

  optional_good : (at : Span) (x : Node) → G x → {xs : List Node} → A xs → G (optional_of at x xs)
  optional_good at x g none = missing_node
  optional_good at x g (more a none) = node at (kind.OptChainExpr true) refl (more (in_front_good g a) none)
  optional_good at x g (more a (more b h)) = missing_node

  link_by_good : (x n : Node) (k : Kind) → G x → G n → G (link_by x n k)
  link_by_good x n kind.MemberExpr g h = member_good x n (kind_of x) g h
  link_by_good x n kind.CallExpr g h = frames 3 _ (children_good P h) (λ c. call_good _ (callee_of x) (callee_good x g) c)
  link_by_good x n kind.TaggedTpl g h = frames 3 _ (children_good P h) (λ c. tagged_good _ (callee_of x) (callee_good x g) c)
  link_by_good x n (kind.OptChainExpr optional) g h = frames 1 _ (children_good P h) (λ c. optional_good _ x g c)
  link_by_good x n _ g h = in_front_good g h

  link_good : {x n : Node} → G x → G n → G (in_front_link x n)
  link_good {x} {n} g h = link_by_good x n (kind_of n) g h

  new_good : (at : Span) {xs : List Node} → A xs → G (new_expr at xs)
  new_good at none = missing_node
  new_good at (more a none) = missing_node
  new_good at (more a (more b none)) = missing_node
  new_good at (more a (more b (more c none))) = node at kind.NewExpr refl (more a (more c (more b none)))
  new_good at (more a (more b (more c (more d h)))) = missing_node

  construction_good : (at : Span) {xs : List Node} → A xs → G (construction at xs)
  construction_good at {xs} h = one_of (length xs == 0) _ _ (node at (kind.MetaPropExpr NewTarget) refl none) (frames 3 (new_expr at) h (λ k. new_good at k))

  template_good : (at : Span) {xs : List Node} → A xs → G (template at xs)
  template_good at h = node at kind.Tpl refl (more (list_of (each_filter P is_substitution h)) (more (list_of (each_filter P is_text_part h)) none))

  -- functions

  questioned_good : (optional : Bool) {n : Node} → G n → G (questioned optional n)
  questioned_good optional {n} g = good_node P (span_of n) (questioned_kind optional (kind_of n)) (children_of n) (questions stop optional (span_of n) (kind_of n) (children_of n) (own_good P g)) (children_good P g)

  questioned_part_good : (optional : Bool) (k : Kind) {n : Node} → G n → G (questioned_part optional k n)
  questioned_part_good optional kind.BindingIdent g = questioned_good optional g
  questioned_part_good optional _ g = g

  annotated_of_good : (at was : Span) (k : Kind) (optional : Bool) (annotation : Node) {xs : List Node} → P was k xs → G annotation → A xs → G (annotated_of at k optional annotation xs)
  annotated_of_good at was k optional annotation p g none = missing_node
  annotated_of_good at was k optional annotation p g (more a none) = missing_node
  annotated_of_good at was k optional annotation p g (more {n = x} a (more {n = y} b none)) =
      let part = questioned_part optional k x in
      good_node P at (questioned_kind optional k) (part ∷ annotation ∷ []) (questions stop optional at k (part ∷ annotation ∷ []) (filled stop was at k (x ∷ y ∷ []) part (annotation ∷ []) p)) (more (questioned_part_good optional k a) (more g none))
  annotated_of_good at was k optional annotation p g (more a (more b (more c h))) = missing_node

  annotated_pattern_good : (at : Span) (pattern : Node) (optional : Bool) (annotation : Node) → G pattern → G annotation → G (annotated_pattern at pattern optional annotation)
  annotated_pattern_good at pattern optional annotation g a = frames 2 _ (children_good P g) (λ h. annotated_of_good at (span_of pattern) (kind_of pattern) optional annotation (own_good P g) a h)

  annotated_good : (at : Span) {xs : List Node} → A xs → G (annotated at xs)
  annotated_good at none = missing_node
  annotated_good at (more a none) = missing_node
  annotated_good at (more a (more b none)) = missing_node
  annotated_good at (more a (more b (more c none))) = annotated_pattern_good at _ _ _ a c
  annotated_good at (more a (more b (more c (more d h)))) = missing_node

  declarator_good : (at : Span) {xs : List Node} → A xs → G (declarator at xs)
  declarator_good at none = missing_node
  declarator_good at (more a none) = missing_node
  declarator_good at (more a (more b none)) = missing_node
  declarator_good at (more a (more b (more c none))) = missing_node
  declarator_good at (more {n = x} a (more {n = y} b (more {n = z} c (more d none)))) = node at (kind.VarDeclarator (is_present y)) refl (more (annotated_pattern_good (from_to (span_of x).lo (end_of x z)) x false z a c) (more d none))
  declarator_good at (more a (more b (more c (more d (more e h))))) = missing_node

  parameter_good : (at : Span) {xs : List Node} → A xs → G (parameter at xs)
  parameter_good at none = missing_node
  parameter_good at (more a none) = missing_node
  parameter_good at (more {n = x} a (more {n = y} b none)) = one_of (is_absent x) y _ b (node at (kind.TsParamProp (accessibility_of x) _ _) refl (more b none))
  parameter_good at (more a (more b (more c h))) = missing_node

  wrapped_by_good : (n : Node) (k : Kind) → G n → G (wrapped_by n k)
  wrapped_by_good n (kind.TsParamProp accessibility is_override readonly) g = g
  wrapped_by_good n _ g = node (span_of n) kind.Param refl (more g none)

  wrapped_good : {n : Node} → G n → G (wrapped n)
  wrapped_good {n} g = wrapped_by_good n (kind_of n) g

  parameters_good : {n : Node} → G n → G (parameters n)
  parameters_good g = list_of (each_map P wrapped (λ n h. wrapped_good h) (children_good P g))

  function_of_good : (at : Span) (is_async is_generator : Bool) {type_params params return_type body : Node} → G type_params → G params → G return_type → G body → G (function_of at is_async is_generator type_params params return_type body)
  function_of_good at is_async is_generator a b c d = node at (kind.Function is_generator is_async) refl (more (parameters_good b) (more d (more a (more c none))))

  function_good : (at : Span) (k : Kind) → is_leaf k ≡ false → {xs : List Node} → A xs → G (function at k xs)
  function_good at k e none = missing_node
  function_good at k e (more a none) = missing_node
  function_good at k e (more a (more b none)) = missing_node
  function_good at k e (more a (more b (more c none))) = missing_node
  function_good at k e (more a (more b (more c (more d none)))) = missing_node
  function_good at k e (more a (more b (more c (more d (more f none))))) = missing_node
  function_good at k e (more a (more b (more c (more d (more f (more g none)))))) = missing_node
  function_good at k e (more a (more b (more c (more d (more f (more g (more i none))))))) = node at k e (more c (more (function_of_good at _ _ d f g i) none))
  function_good at k e (more a (more b (more c (more d (more f (more g (more i (more j h)))))))) = missing_node

  arrow_good : (at : Span) {xs : List Node} → A xs → G (arrow at xs)
  arrow_good at none = missing_node
  arrow_good at (more a none) = missing_node
  arrow_good at (more a (more b none)) = missing_node
  arrow_good at (more a (more b (more c none))) = missing_node
  arrow_good at (more a (more b (more c (more d none)))) = missing_node
  arrow_good at (more a (more b (more c (more d (more e none))))) = node at (kind.ArrowExpr _ false) refl (more c (more e (more b (more d none))))
  arrow_good at (more a (more b (more c (more d (more e (more f h)))))) = missing_node

  yield_good : (at : Span) {xs : List Node} → A xs → G (yield_ at xs)
  yield_good at none = missing_node
  yield_good at (more a none) = missing_node
  yield_good at (more a (more b none)) = node at (kind.YieldExpr _) refl (more b none)
  yield_good at (more a (more b (more c h))) = missing_node

  chosen : (b : Bool) {xs ys : List Node} → A xs → A ys → A (if b then xs else ys)
  chosen true g h = g
  chosen false g h = h

  getter_good : (at : Span) {xs : List Node} → A xs → G (getter at xs)
  getter_good at none = missing_node
  getter_good at (more a none) = missing_node
  getter_good at (more a (more b none)) = missing_node
  getter_good at (more a (more b (more c none))) = missing_node
  getter_good at (more a (more b (more c (more d none)))) = missing_node
  getter_good at (more a (more b (more {n = params} c (more d (more e none))))) = node at kind.GetterProp refl (chosen (length (children_of params) == 0) (more a (more d (more e none))) (more a (more d (more e (more c none)))))
  getter_good at (more a (more b (more c (more d (more e (more f h)))))) = missing_node

  setter_of_good : (at : Span) {key this_param param body : Node} → G key → G this_param → G param → G body → G (setter_of at key this_param param body)
  setter_of_good at a b c d = node at kind.SetterProp refl (more a (more b (more c (more d none))))

  setter_by_good : (at : Span) {key params body : Node} → G key → G params → G body → {xs : List Node} → A xs → G (setter_by at key params body xs)
  setter_by_good at a b c none = setter_of_good at a missing_node b c
  setter_by_good at a b c (more {n = x} d none) = one_of (is_this x) _ _ (setter_of_good at a missing_node b c) (setter_of_good at a missing_node d c)
  setter_by_good at a b c (more {n = x} d (more e none)) = one_of (is_this x) _ _ (setter_of_good at a d e c) (setter_of_good at a missing_node b c)
  setter_by_good at a b c (more d (more e (more f h))) = setter_of_good at a missing_node b c

  setter_good : (at : Span) {xs : List Node} → A xs → G (setter at xs)
  setter_good at none = missing_node
  setter_good at (more a none) = missing_node
  setter_good at (more a (more b none)) = missing_node
  setter_good at (more a (more b (more c none))) = missing_node
  setter_good at (more a (more b (more c (more d none)))) = missing_node
  setter_good at (more a (more b (more c (more d (more e none))))) = setter_by_good at a c e (children_good P c)
  setter_good at (more a (more b (more c (more d (more e (more f h)))))) = missing_node

  -- classes

  class_good : (at : Span) (k : Kind) (is_abstract : Bool) → is_leaf k ≡ false → {xs : List Node} → A xs → G (class at k is_abstract xs)
  class_good at k b e none = missing_node
  class_good at k b e (more a none) = missing_node
  class_good at k b e (more a (more c none)) = missing_node
  class_good at k b e (more a (more c (more d none))) = missing_node
  class_good at k b e (more a (more c (more d (more f none)))) = missing_node
  class_good at k b e (more a (more c (more d (more f (more g none))))) = missing_node
  class_good at k b e (more a (more c (more d (more f (more g (more i none)))))) = node at k e (more a (more (node at (kind.Class b) refl (more d (more i (more c (more f (more g none)))))) none))
  class_good at k b e (more a (more c (more d (more f (more g (more i (more j h))))))) = missing_node

  if_kind : (b : Bool) (k l : Kind) → is_leaf k ≡ false → is_leaf l ≡ false → is_leaf (if b then k else l) ≡ false
  if_kind true k l e f = e
  if_kind false k l e f = f

  method_good : (at : Span) (m : MethodKind) {xs : List Node} → A xs → G (method at m xs)
  method_good at m none = missing_node
  method_good at m (more a none) = missing_node
  method_good at m (more a (more b none)) = missing_node
  method_good at m (more a (more b (more c none))) = missing_node
  method_good at m (more a (more b (more c (more d none)))) = missing_node
  method_good at m (more a (more b (more c (more d (more e none))))) = missing_node
  method_good at m (more a (more b (more c (more d (more e (more f none)))))) = missing_node
  method_good at m (more a (more b (more c (more d (more e (more f (more g none))))))) = missing_node
  method_good at m (more a (more b (more c (more d (more e (more f (more g (more i none)))))))) = missing_node
  method_good at m (more a (more b (more {n = key} c (more {n = question} d (more e (more f (more g (more i (more j none))))))))) =
      node at (method_kind key m (no_modifiers (is_present question))) (if_kind (is_private_name (kind_of key)) (kind.PrivateMethod m _) (kind.ClassMethod m _) refl refl) (more c (more (function_of_good at _ _ f g i j) none))
  method_good at m (more a (more b (more c (more d (more e (more f (more g (more i (more j (more k h)))))))))) = missing_node

  field_good : (at : Span) {xs : List Node} → A xs → G (field at xs)
  field_good at none = missing_node
  field_good at (more a none) = missing_node
  field_good at (more a (more b none)) = missing_node
  field_good at (more a (more b (more c none))) = missing_node
  field_good at (more a (more b (more c (more d none)))) = missing_node
  field_good at (more {n = key} a (more b (more c (more d (more e none))))) =
      node at (field_kind key _ false false _) (if_kind (is_private_name (kind_of key)) (kind.PrivateProp _ false false _) (kind.ClassProp _ false false _) refl refl) (more a (more e (more d none)))
  field_good at (more a (more b (more c (more d (more e (more f h)))))) = missing_node

  constructor_good : (at : Span) (modifiers key : Node) (before : MemberModifiers) → G key → {xs : List Node} → A xs → G (constructor_of at modifiers before key xs)
  constructor_good at m key before g none = missing_node
  constructor_good at m key before g (more a none) = missing_node
  constructor_good at m key before g (more a (more b none)) = missing_node
  constructor_good at m key before g (more a (more b (more c none))) = missing_node
  constructor_good at m key before g (more a (more b (more c (more d none)))) = node at (kind.Constructor (accessibility_of m) before.is_optional) refl (more g (more a (more b none)))
  constructor_good at m key before g (more a (more b (more c (more d (more e h))))) = missing_node

  method_by_good : (at : Span) (modifiers : Node) (before : MemberModifiers) {xs : List Node} → A xs → G (method_by at modifiers before xs)
  method_by_good at m before none = missing_node
  method_by_good at m before (more a none) = missing_node
  method_by_good at m before (more {n = key} a (more {n = function} b none)) =
      one_of (is_constructor m key function) _ _
      (frames 4 (constructor_of at m before key) (children_good P b) (λ h. constructor_good at m key before a h))
      (node at (kind.ClassMethod Method (modified m before)) refl (more a (more b none)))
  method_by_good at m before (more a (more b (more c h))) = missing_node

  member_by_good : (at was : Span) → at.hi ≡ stop → (modifiers : Node) (k : Kind) {xs : List Node} → P was k xs → A xs → G (member_by at modifiers k xs)
  member_by_good at was e m (kind.ClassMethod Method before) p h = frames 2 (method_by at m before) h (λ k. method_by_good at m before k)
  member_by_good at was e m (kind.ClassMethod Getter before) p h = node at (kind.ClassMethod Getter _) refl h
  member_by_good at was e m (kind.ClassMethod Setter before) p h = node at (kind.ClassMethod Setter _) refl h
  member_by_good at was e m (kind.PrivateMethod k before) p h = node at (kind.PrivateMethod k _) refl h
  member_by_good at was e m (kind.ClassProp before readonly declare definite) p h = node at (kind.ClassProp _ _ _ definite) refl h
  member_by_good at was e m (kind.PrivateProp before readonly declare definite) p h = node at (kind.PrivateProp _ _ _ definite) refl h
  member_by_good at was e m k {xs} p h = good_node P at k xs (ends stop was at k xs e p) h

  member_form_good : (at : Span) → at.hi ≡ stop → {xs : List Node} → A xs → G (member at xs)
  member_form_good at e none = missing_node
  member_form_good at e (more a none) = missing_node
  member_form_good at e (more {n = m} a (more {n = n} b none)) = member_by_good at (span_of n) e m (kind_of n) (own_good P b) (children_good P b)
  member_form_good at e (more a (more b (more c h))) = missing_node

  index_good : (at : Span) {xs : List Node} → A xs → G (index_signature at xs)
  index_good at none = missing_node
  index_good at (more a none) = missing_node
  index_good at (more a (more b none)) = missing_node
  index_good at (more a (more b (more c none))) = node at (kind.TsIndexSignature _ _) refl none
  index_good at (more a (more b (more c (more d h)))) = missing_node

  type_signature_good : (at : Span) (m : MethodKind) {xs : List Node} → A xs → G (type_signature at m xs)
  type_signature_good at m none = missing_node
  type_signature_good at m (more a none) = missing_node
  type_signature_good at m (more a (more b none)) =
      node at (kind.ClassMethod m (no_modifiers false)) refl (more a (more (function_of_good at false false missing_node b missing_node missing_node) none))
  type_signature_good at m (more a (more b (more c h))) = missing_node

  new_signature_good : (at : Span) {xs : List Node} → A xs → G (new_signature at xs)
  new_signature_good at none = missing_node
  new_signature_good at (more a none) = missing_node
  new_signature_good at (more a (more b none)) = node at (kind.Constructor None false) refl (more a (more (parameters_good b) (more missing_node none)))
  new_signature_good at (more a (more b (more c h))) = missing_node

  -- lists, sequences, loops, ambient declarations, namespaces, imports by `=`, modules

  swapped_good : {xs : List Node} → A xs → A (swapped xs)
  swapped_good {xs} h = chosen (nat_le 2 (length xs)) (each_swap P _ _ h) h

  elements_good : {xs : List Node} → A xs → A (elements xs)
  elements_good {xs} h = chosen (missing (slice_get xs (length xs - 1))) (each_take P _ h) h

  the_one_good : {xs : List Node} → A xs → G (the_one xs)
  the_one_good none = missing_node
  the_one_good (more a none) = a
  the_one_good (more a (more b h)) = missing_node

  sequence_good : (at : Span) {xs : List Node} → A xs → G (sequence at xs)
  sequence_good at {xs} h = one_of (length xs == 1) _ _ (frames 1 the_one h (λ k. the_one_good k)) (node at kind.SeqExpr refl h)

  headed_good : (at : Span) {xs : List Node} → A xs → G (headed at xs)
  headed_good at none = missing_node
  headed_good at (more a none) = missing_node
  headed_good at (more {n = x} a (more {n = y} b none)) = good_node P at (kind_of x) (children_of x ++ y ∷ []) (appended stop (span_of x) at (kind_of x) (children_of x) y (own_good P a)) (each_append P (children_good P a) (more b none))
  headed_good at (more a (more b (more c h))) = missing_node

  declared_good : (at : Span) → at.hi ≡ stop → {xs : List Node} → A xs → G (declared at xs)
  declared_good at e none = missing_node
  declared_good at e (more {n = x} a none) = good_node P at (declared_kind (kind_of x)) (children_of x) (declared_placed stop at (kind_of x) (children_of x) (ends stop (span_of x) at (kind_of x) (children_of x) e (own_good P a))) (children_good P a)
  declared_good at e (more a (more b h)) = missing_node

  nested_good : (hi : ℕ) {name body : Node} → G name → G body → G (nested hi name body)
  nested_good hi a b = node _ (kind.TsNamespaceDecl false false) refl (more a (more b none))

  namespaces_good : (hi : ℕ) {xs : List Node} → A xs → G (namespaces hi xs)
  namespaces_good hi none = missing_node
  namespaces_good hi (more a none) = a
  namespaces_good hi (more a (more b h)) = nested_good hi a (namespaces_good hi (more b h))

  namespace_good : (at : Span) {xs : List Node} → A xs → G (namespace at xs)
  namespace_good at none = missing_node
  namespace_good at (more a none) = missing_node
  namespace_good at (more a (more b h)) = node at (kind.TsModuleDecl false false) refl (more a (more (namespaces_good at.hi (more b h)) none))

  import_equals_good : (at : Span) {xs : List Node} → A xs → G (import_equals at xs)
  import_equals_good at none = missing_node
  import_equals_good at (more a none) = missing_node
  import_equals_good at (more a (more b none)) = missing_node
  import_equals_good at (more a (more b (more c none))) = missing_node
  import_equals_good at (more a (more b (more c (more d none)))) = node at (kind.TsImportEqualsDecl _ _) refl (more c (more d none))
  import_equals_good at (more a (more b (more c (more d (more e h))))) = missing_node

  module_good : (at : Span) (hashbang : Node) {items : Node} → G items → G (module_of at (hashbang ∷ items ∷ []))
  module_good at hashbang g = node at (kind.Module (text_of (kind_of hashbang))) refl (more g none)

  module_form_good : (at : Span) {xs : List Node} → A xs → G (module_of at xs)
  module_form_good at none = missing_node
  module_form_good at (more a none) = missing_node
  module_form_good at (more {n = x} a (more b none)) = module_good at x b
  module_form_good at (more a (more b (more c h))) = missing_node

  const_good : (at : Span) {xs : List Node} → A xs → G (const_assertion at xs)
  const_good at none = missing_node
  const_good at (more a none) = node at kind.TsConstAssertion refl (more a none)
  const_good at (more a (more b h)) = missing_node

  type_assertion_good : (at : Span) {xs : List Node} → A xs → G (type_assertion at xs)
  type_assertion_good at none = missing_node
  type_assertion_good at (more a none) = missing_node
  type_assertion_good at (more a (more b none)) = node at kind.TsTypeAssertion refl (more b (more a none))
  type_assertion_good at (more a (more b (more c h))) = missing_node

  assertion_good : (at : Span) {xs : List Node} → A xs → G (assertion at xs)
  assertion_good at {xs} h = one_of (length xs == 1) _ _ (frames 1 (const_assertion at) h (λ k. const_good at k)) (frames 2 (type_assertion at) h (λ k. type_assertion_good at k))

  -- every form
  pub made_good : (f : Form) (lo : ℕ) {xs : List Node} → A xs → G (made f lo stop xs)
  made_good (form.Node k) lo h = node _ (plain_kind k) (plain_no_leaf k) h
  made_good (form.Bare k) lo h = node _ (plain_kind k) (plain_no_leaf k) none
  made_good (form.First k) lo h = node _ (plain_kind k) (plain_no_leaf k) (each_take P 1 h)
  made_good (form.Swapped k) lo h = node _ (plain_kind k) (plain_no_leaf k) (swapped_good h)
  made_good form.List lo h = list_of h
  made_good form.Elements lo h = list_of (elements_good h)
  made_good form.Sequence lo h = sequence_good _ h
  made_good form.Chain lo h = all_steps_good in_front (λ x n g k. in_front_good g k) h
  made_good form.Links lo h = all_steps_good in_front_link (λ x n g k. link_good g k) h
  made_good form.Logical lo h = all_steps_good in_front_logical (λ x n g k. logical_good g k) h
  made_good form.Template lo h = template_good _ h
  made_good form.Arrow lo h = frames 5 _ h (λ k. arrow_good _ k)
  made_good form.Yield lo h = frames 2 _ h (λ k. yield_good _ k)
  made_good form.New lo h = construction_good _ h
  made_good form.Assertion lo h = assertion_good _ h
  made_good form.Annotated lo h = frames 3 _ h (λ k. annotated_good _ k)
  made_good form.Declarator lo h = frames 4 _ h (λ k. declarator_good _ k)
  made_good form.Param lo h = frames 2 _ h (λ k. parameter_good _ k)
  made_good (form.Function k) lo h = frames 7 _ h (λ c. function_good _ (plain_kind k) (plain_no_leaf k) c)
  made_good form.Getter lo h = frames 5 _ h (λ k. getter_good _ k)
  made_good form.Setter lo h = frames 5 _ h (λ k. setter_good _ k)
  made_good (form.Class k is_abstract) lo h = frames 6 _ h (λ c. class_good _ (plain_kind k) is_abstract (plain_no_leaf k) c)
  made_good (form.Method k) lo h = frames 9 _ h (λ c. method_good _ k c)
  made_good form.Field lo h = frames 5 _ h (λ k. field_good _ k)
  made_good form.Modified lo h = frames 2 _ h (λ k. member_form_good _ refl k)
  made_good form.IndexSignature lo h = frames 3 _ h (λ k. index_good _ k)
  made_good (form.Signature k) lo h = frames 2 _ h (λ c. type_signature_good _ k c)
  made_good form.NewSignature lo h = frames 2 _ h (λ k. new_signature_good _ k)
  made_good form.Headed lo h = frames 2 _ h (λ k. headed_good _ k)
  made_good form.Declared lo h = frames 1 _ h (λ k. declared_good _ refl k)
  made_good form.Namespace lo h = namespace_good _ h
  made_good form.ImportEquals lo h = frames 4 _ h (λ k. import_equals_good _ k)
  made_good form.Module lo h = frames 2 _ h (λ k. module_form_good _ k)
