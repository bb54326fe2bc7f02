-- What a form makes of nodes that a reader of plain modules gives is such a node, where the form is plain and its flags are missing.
use Rattle.std.proofs.Common.{◌≡◌, ℕ, ◌-◌, Bool, true, false, not, ◌&&◌, List, [], ◌∷◌, codes, length, nat_le, refl, subst, sym, ap, Some, None}
use Rattle.std.specs.Prelude.{slice_get, slice_set, unwrap_or, if◌then◌else◌, ◌==◌}
use Rattle.ecma_kind.specs.declared.span.Span.{Span}
use Rattle.ecma_kind.specs.declared.kind.Kind.{Kind}
use Rattle.ecma_kind.specs.declared.kind.Kind.TheVariants as kind
use Rattle.ecma_kind.specs.declared.operators.MethodKind.{MethodKind}
use Rattle.ecma_kind.specs.declared.operators.MethodKind.TheVariants.{Method, Getter, Setter}
use Rattle.ecma_kind.specs.declared.operators.MetaPropKind.TheVariants.{NewTarget}
use Rattle.ecma_kind.specs.declared.operators.MemberModifiers.{MemberModifiers}
use Rattle.ecma_tree.specs.declared.node.Node.{Node}
use Rattle.ecma_tree.specs.Nodes.{node_of, absent, list_node, dummy_span}
use Rattle.ecma_grammar.specs.trees.Parts.{kind_of, span_of, children_of, from_to, is_present, in_front, framed}
use Rattle.ecma_grammar.specs.trees.Chains.{steps, all_steps, is_and, is_or, right_in_front, in_front_logical, goes_on, linked, Callee, instantiated, callee_by, callee_of, member_of, call_of, tagged_of, optional_of, link_by, in_front_link, new_expr, construction, template, is_substitution, is_text_part}
use Rattle.ecma_grammar.specs.trees.Functions.{questioned_kind, questioned, questioned_part, annotated_of, annotated_pattern, annotated, end_of, declarator, accessibility_of, has_word, parameter, wrapped_by, wrapped, parameters, function_of, function, arrow, yield_, getter, is_this, setter_of, setter_by, setter}
use Rattle.ecma_grammar.specs.trees.Classes.{class, is_private_name, no_modifiers, method_kind, method, field_kind, field, modified, is_constructor, constructor_of, method_by, member_by, member}
use Rattle.ecma_grammar.specs.trees.Others.{swapped, missing, elements, the_one, sequence, headed, import_equals, text_of, module_of}
use Rattle.ecma_text_leaves.specs.Everywhere.{none, more}
use Rattle.ecma_text_leaves.proofs.Trees.{Good, All, good_node, kind_good, children_good, each_append, each_take, each_filter, each_map, each_set, each_swap, good_absent, good_framed}
use Rattle.ecma_plain.specs.Forms.{has_type_modifiers}
use Rattle.ecma_text_plain.proofs.PlainKinds.{AbsentAt, AllStatic, IsPlain, StaticFirst, constructor_unmodified, field_plain, field_was, hashbang_read, is_missing, method_plain, modified_plain, not_present, private_field_plain, private_method_plain, unless_so, unquestioned, word_missing}

module _ (assignments : Bool) where
  abbrev pub P : Kind → Type 0
  P = IsPlain assignments

  abbrev G : Node → Type 0
  G = Good P

  abbrev A : List Node → Type 0
  A = All P

  pub node : (at : Span) (k : Kind) {xs : List Node} → P k → A xs → G (node_of at k xs)
  node at k {xs} e h = good_node P at k xs e h

  pub missing_node : G absent
  missing_node = good_absent P (tt, refl)

  pub list_of : {xs : List Node} → A xs → G (list_node xs)
  list_of h = node dummy_span kind.List (tt, refl) h

  one_of : (b : Bool) (x y : Node) → G x → G y → G (if b then x else y)
  one_of true x y g k = g
  one_of false x y g k = k

  pub frames : {xs : List Node} (n : ℕ) (f : List Node → Node) → A xs → (A xs → G (f xs)) → G (framed n f xs)
  frames n f h g = good_framed P (tt, refl) n f h g

  -- chains

  pub in_front_good : {x n : Node} → G x → G n → G (in_front x n)
  in_front_good {x} {n} g k = good_node P (from_to (span_of x).lo (span_of n).hi) (kind_of n) (slice_set (children_of n) 0 x) (kind_good P k) (each_set P 0 x g (children_good P k))

  module _ (step : Node → Node → Node) (keeps : (x n : Node) → G x → G n → G (step x n)) where
    steps_some : (x : Node) {xs : List Node} → G x → A xs → G (unwrap_or (steps step (Some x) xs) absent)
    steps_some x g none = g
    steps_some x g (more {n = n} a h) = steps_some (step x n) (keeps x n g a) h

    pub all_steps_good : {xs : List Node} → A xs → G (all_steps step xs)
    all_steps_good none = missing_node
    all_steps_good (more {n = n} a h) = steps_some n a h

  right_good : (at : Span) (k : Kind) {n : Node} → P k → G n → {children : List Node} → A children → G (right_in_front at k n children)
  right_good at k p g none = missing_node
  right_good at k p g (more a none) = missing_node
  right_good at k p g (more a (more b none)) = good_node P at k _ p (more a (more (in_front_good b g) none))
  right_good at k p g (more a (more b (more c h))) = missing_node

  pub logical_good : {x n : Node} → G x → G n → G (in_front_logical x n)
  logical_good {x} {n} g k = one_of (is_and (kind_of n) && is_or (kind_of x)) _ _ (frames 2 (right_in_front (from_to (span_of x).lo (span_of n).hi) (kind_of x) n) (children_good P g) (λ h. right_good _ (kind_of x) (kind_good P g) k h)) (in_front_good g k)

  linked_good : {n : Node} → G n → G (linked n)
  linked_good {n} g = node (span_of n) (kind.OptChainExpr false) (tt, refl) (more g none)

  record CalleeGood (c : Callee) : Type 0 where
    callee : G c.0
    type_args : G c.1

  missing_callee : CalleeGood (absent, absent)
  missing_callee = record { callee = missing_node; type_args = missing_node }

  instantiated_good : (b : Bool) {xs : List Node} → A xs → CalleeGood (instantiated (if b then Some xs else None))
  instantiated_good true none = missing_callee
  instantiated_good true (more a none) = missing_callee
  instantiated_good true (more a (more b none)) = record { callee = a; type_args = b }
  instantiated_good true (more a (more b (more c h))) = missing_callee
  instantiated_good false h = missing_callee

  callee_by_good : (x : Node) (k : Kind) → G x → CalleeGood (callee_by x k)
  callee_by_good x kind.TsInstantiation g = instantiated_good (length (children_of x) == 2) (children_good P g)
  callee_by_good x _ g = record { callee = g; type_args = missing_node }

  callee_good : (x : Node) → G x → CalleeGood (callee_of x)
  callee_good x g = callee_by_good x (kind_of x) g

  member_good : (x n : Node) (k : Kind) → G x → G n → G (member_of x n k)
  member_good x n kind.Super g h = node (from_to (span_of x).lo (span_of n).hi) kind.SuperPropExpr (tt, refl) (each_set P 0 x g (children_good P h))
  member_good x n _ g h = one_of (goes_on x) _ _ (linked_good (in_front_good g h)) (in_front_good g h)

  call_good : (at : Span) (c : Callee) → CalleeGood c → {xs : List Node} → A xs → G (call_of at c xs)
  call_good at (callee, type_args) c none = missing_node
  call_good at (callee, type_args) c (more x none) = missing_node
  call_good at (callee, type_args) c (more x (more y none)) = missing_node
  call_good at (callee, type_args) c (more x (more y (more z none))) =
      let all = more c.callee (more y (more c.type_args none)) in
      one_of (goes_on callee) _ _ (linked_good (node at kind.OptCall (tt, refl) all)) (node at kind.CallExpr (tt, refl) all)
  call_good at (callee, type_args) c (more x (more y (more z (more w h)))) = missing_node

  tagged_good : (at : Span) (c : Callee) → CalleeGood c → {xs : List Node} → A xs → G (tagged_of at c xs)
  tagged_good at (callee, type_args) c none = missing_node
  tagged_good at (callee, type_args) c (more x none) = missing_node
  tagged_good at (callee, type_args) c (more x (more y none)) = missing_node
  tagged_good at (callee, type_args) c (more x (more y (more z none))) = node at kind.TaggedTpl (tt, refl) (more c.callee (more c.type_args (more z none)))
  tagged_good at (callee, type_args) c (more x (more y (more z (more w h)))) = missing_node

  optional_good : (at : Span) (x : Node) → G x → {xs : List Node} → A xs → G (optional_of at x xs)
  optional_good at x g none = missing_node
  optional_good at x g (more a none) = node at (kind.OptChainExpr true) (tt, refl) (more (in_front_good g a) none)
  optional_good at x g (more a (more b h)) = missing_node

  link_by_good : (x n : Node) (k : Kind) → G x → G n → G (link_by x n k)
  link_by_good x n kind.MemberExpr g h = member_good x n (kind_of x) g h
  link_by_good x n kind.CallExpr g h = frames 3 _ (children_good P h) (λ c. call_good _ (callee_of x) (callee_good x g) c)
  link_by_good x n kind.TaggedTpl g h = frames 3 _ (children_good P h) (λ c. tagged_good _ (callee_of x) (callee_good x g) c)
  link_by_good x n (kind.OptChainExpr optional) g h = frames 1 _ (children_good P h) (λ c. optional_good _ x g c)
  link_by_good x n _ g h = in_front_good g h

  pub link_good : {x n : Node} → G x → G n → G (in_front_link x n)
  link_good {x} {n} g h = link_by_good x n (kind_of n) g h

  new_good : (at : Span) {xs : List Node} → A xs → G (new_expr at xs)
  new_good at none = missing_node
  new_good at (more a none) = missing_node
  new_good at (more a (more b none)) = missing_node
  new_good at (more a (more b (more c none))) = node at kind.NewExpr (tt, refl) (more a (more c (more b none)))
  new_good at (more a (more b (more c (more d h)))) = missing_node

  pub construction_good : (at : Span) {xs : List Node} → A xs → G (construction at xs)
  construction_good at {xs} h = one_of (length xs == 0) _ _ (node at (kind.MetaPropExpr NewTarget) (tt, refl) none) (frames 3 (new_expr at) h (λ k. new_good at k))

  pub template_good : (at : Span) {xs : List Node} → A xs → G (template at xs)
  template_good at h = node at kind.Tpl (tt, refl) (more (list_of (each_filter P is_substitution h)) (more (list_of (each_filter P is_text_part h)) none))

  -- functions

  questioned_good : {n : Node} → G n → G (questioned false n)
  questioned_good {n} g = good_node P (span_of n) (questioned_kind false (kind_of n)) (children_of n) (unquestioned assignments (kind_of n) (kind_good P g)) (children_good P g)

  questioned_part_good : (k : Kind) {n : Node} → G n → G (questioned_part false k n)
  questioned_part_good kind.BindingIdent g = questioned_good g
  questioned_part_good _ g = g

  annotated_of_good : (at : Span) (k : Kind) (annotation : Node) → P k → G annotation → {xs : List Node} → A xs → G (annotated_of at k false annotation xs)
  annotated_of_good at k annotation p g none = missing_node
  annotated_of_good at k annotation p g (more a none) = missing_node
  annotated_of_good at k annotation p g (more a (more b none)) = good_node P at (questioned_kind false k) _ (unquestioned assignments k p) (more (questioned_part_good k a) (more g none))
  annotated_of_good at k annotation p g (more a (more b (more c h))) = missing_node

  annotated_pattern_good : (at : Span) (pattern annotation : Node) → G pattern → G annotation → G (annotated_pattern at pattern false annotation)
  annotated_pattern_good at pattern annotation g a = frames 2 _ (children_good P g) (λ h. annotated_of_good at (kind_of pattern) annotation (kind_good P g) a h)

  pub annotated_good : (at : Span) {xs : List Node} → A xs → AbsentAt 1 xs → G (annotated at xs)
  annotated_good at none m = missing_node
  annotated_good at (more a none) m = missing_node
  annotated_good at (more a (more b none)) m = missing_node
  annotated_good at (more {n = x} a (more {n = y} b (more {n = z} c none))) m = subst (λ (o : Bool). G (annotated_pattern at x o z)) (sym (not_present y m)) (annotated_pattern_good at x z a c)
  annotated_good at (more a (more b (more c (more d h)))) m = missing_node

  pub declarator_good : (at : Span) {xs : List Node} → A xs → AbsentAt 1 xs → G (declarator at xs)
  declarator_good at none m = missing_node
  declarator_good at (more a none) m = missing_node
  declarator_good at (more a (more b none)) m = missing_node
  declarator_good at (more a (more b (more c none))) m = missing_node
  declarator_good at (more {n = x} a (more {n = y} b (more {n = z} c (more d none)))) m =
      node at (kind.VarDeclarator (is_present y)) (subst (λ (o : Bool). P (kind.VarDeclarator o)) (sym (not_present y m)) (tt, refl))
      (more (annotated_pattern_good (from_to (span_of x).lo (end_of x z)) x z a c) (more d none))
  declarator_good at (more a (more b (more c (more d (more e h))))) m = missing_node

  pub parameter_good : (at : Span) {xs : List Node} → A xs → AbsentAt 0 xs → G (parameter at xs)
  parameter_good at none m = missing_node
  parameter_good at (more a none) m = missing_node
  parameter_good at (more {n = x} a (more {n = y} b none)) m = rw (is_missing x m) b
  parameter_good at (more a (more b (more c h))) m = missing_node

  wrapped_by_good : (n : Node) (k : Kind) → G n → G (wrapped_by n k)
  wrapped_by_good n (kind.TsParamProp accessibility is_override readonly) g = g
  wrapped_by_good n _ g = node (span_of n) kind.Param (tt, refl) (more g none)

  wrapped_good : {n : Node} → G n → G (wrapped n)
  wrapped_good {n} g = wrapped_by_good n (kind_of n) g

  parameters_good : {n : Node} → G n → G (parameters n)
  parameters_good g = list_of (each_map P wrapped (λ n h. wrapped_good h) (children_good P g))

  function_of_good : (at : Span) (is_async is_generator : Bool) {type_params params return_type body : Node} → G type_params → G params → G return_type → G body → G (function_of at is_async is_generator type_params params return_type body)
  function_of_good at is_async is_generator a b c d = node at (kind.Function is_generator is_async) (tt, refl) (more (parameters_good b) (more d (more a (more c none))))

  pub function_good : (at : Span) (k : Kind) → P k → {xs : List Node} → A xs → G (function at k xs)
  function_good at k e none = missing_node
  function_good at k e (more a none) = missing_node
  function_good at k e (more a (more b none)) = missing_node
  function_good at k e (more a (more b (more c none))) = missing_node
  function_good at k e (more a (more b (more c (more d none)))) = missing_node
  function_good at k e (more a (more b (more c (more d (more f none))))) = missing_node
  function_good at k e (more a (more b (more c (more d (more f (more g none)))))) = missing_node
  function_good at k e (more a (more b (more c (more d (more f (more g (more i none))))))) = node at k e (more c (more (function_of_good at _ _ d f g i) none))
  function_good at k e (more a (more b (more c (more d (more f (more g (more i (more j h)))))))) = missing_node

  pub arrow_good : (at : Span) {xs : List Node} → A xs → G (arrow at xs)
  arrow_good at none = missing_node
  arrow_good at (more a none) = missing_node
  arrow_good at (more a (more b none)) = missing_node
  arrow_good at (more a (more b (more c none))) = missing_node
  arrow_good at (more a (more b (more c (more d none)))) = missing_node
  arrow_good at (more a (more b (more c (more d (more e none))))) = node at (kind.ArrowExpr _ false) (tt, refl) (more c (more e (more b (more d none))))
  arrow_good at (more a (more b (more c (more d (more e (more f h)))))) = missing_node

  pub yield_good : (at : Span) {xs : List Node} → A xs → G (yield_ at xs)
  yield_good at none = missing_node
  yield_good at (more a none) = missing_node
  yield_good at (more a (more b none)) = node at (kind.YieldExpr _) (tt, refl) (more b none)
  yield_good at (more a (more b (more c h))) = missing_node

  chosen : (b : Bool) {xs ys : List Node} → A xs → A ys → A (if b then xs else ys)
  chosen true g h = g
  chosen false g h = h

  pub getter_good : (at : Span) {xs : List Node} → A xs → G (getter at xs)
  getter_good at none = missing_node
  getter_good at (more a none) = missing_node
  getter_good at (more a (more b none)) = missing_node
  getter_good at (more a (more b (more c none))) = missing_node
  getter_good at (more a (more b (more c (more d none)))) = missing_node
  getter_good at (more a (more b (more {n = params} c (more d (more e none))))) = node at kind.GetterProp (tt, refl) (chosen (length (children_of params) == 0) (more a (more d (more e none))) (more a (more d (more e (more c none)))))
  getter_good at (more a (more b (more c (more d (more e (more f h)))))) = missing_node

  setter_of_good : (at : Span) {key this_param param body : Node} → G key → G this_param → G param → G body → G (setter_of at key this_param param body)
  setter_of_good at a b c d = node at kind.SetterProp (tt, refl) (more a (more b (more c (more d none))))

  setter_by_good : (at : Span) {key params body : Node} → G key → G params → G body → {xs : List Node} → A xs → G (setter_by at key params body xs)
  setter_by_good at a b c none = setter_of_good at a missing_node b c
  setter_by_good at a b c (more {n = x} d none) = one_of (is_this x) _ _ (setter_of_good at a missing_node b c) (setter_of_good at a missing_node d c)
  setter_by_good at a b c (more {n = x} d (more e none)) = one_of (is_this x) _ _ (setter_of_good at a d e c) (setter_of_good at a missing_node b c)
  setter_by_good at a b c (more d (more e (more f h))) = setter_of_good at a missing_node b c

  pub setter_good : (at : Span) {xs : List Node} → A xs → G (setter at xs)
  setter_good at none = missing_node
  setter_good at (more a none) = missing_node
  setter_good at (more a (more b none)) = missing_node
  setter_good at (more a (more b (more c none))) = missing_node
  setter_good at (more a (more b (more c (more d none)))) = missing_node
  setter_good at (more a (more b (more c (more d (more e none))))) = setter_by_good at a c e (children_good P c)
  setter_good at (more a (more b (more c (more d (more e (more f h)))))) = missing_node

  -- classes

  pub class_good : (at : Span) (k : Kind) (is_abstract : Bool) → P k → P (kind.Class is_abstract) → {xs : List Node} → A xs → G (class at k is_abstract xs)
  class_good at k b e q none = missing_node
  class_good at k b e q (more a none) = missing_node
  class_good at k b e q (more a (more c none)) = missing_node
  class_good at k b e q (more a (more c (more d none))) = missing_node
  class_good at k b e q (more a (more c (more d (more f none)))) = missing_node
  class_good at k b e q (more a (more c (more d (more f (more g none))))) = missing_node
  class_good at k b e q (more a (more c (more d (more f (more g (more i none)))))) = node at k e (more a (more (node at (kind.Class b) q (more d (more i (more c (more f (more g none)))))) none))
  class_good at k b e q (more a (more c (more d (more f (more g (more i (more j h))))))) = missing_node

  if_kind : (b : Bool) (k l : Kind) → P k → P l → P (if b then k else l)
  if_kind true k l e f = e
  if_kind false k l e f = f

  pub method_good : (at : Span) (m : MethodKind) {xs : List Node} → A xs → AbsentAt 3 xs → G (method at m xs)
  method_good at m none t = missing_node
  method_good at m (more a none) t = missing_node
  method_good at m (more a (more b none)) t = missing_node
  method_good at m (more a (more b (more c none))) t = missing_node
  method_good at m (more a (more b (more c (more d none)))) t = missing_node
  method_good at m (more a (more b (more c (more d (more e none))))) t = missing_node
  method_good at m (more a (more b (more c (more d (more e (more f none)))))) t = missing_node
  method_good at m (more a (more b (more c (more d (more e (more f (more g none))))))) t = missing_node
  method_good at m (more a (more b (more c (more d (more e (more f (more g (more i none)))))))) t = missing_node
  method_good at m (more a (more b (more {n = key} c (more {n = question} d (more e (more f (more g (more i (more j none))))))))) t =
      let plain : has_type_modifiers (no_modifiers (is_present question)) ≡ false = subst (λ (o : Bool). has_type_modifiers (no_modifiers o) ≡ false) (sym (not_present question t)) refl in
      node at (method_kind key m (no_modifiers (is_present question))) (if_kind (is_private_name (kind_of key)) _ _ (private_method_plain assignments m (no_modifiers (is_present question)) plain) (method_plain assignments m (no_modifiers (is_present question)) plain)) (more c (more (function_of_good at _ _ f g i j) none))
  method_good at m (more a (more b (more c (more d (more e (more f (more g (more i (more j (more k h)))))))))) t = missing_node

  pub field_good : (at : Span) {xs : List Node} → A xs → AbsentAt 1 xs → AbsentAt 2 xs → G (field at xs)
  field_good at none s t = missing_node
  field_good at (more a none) s t = missing_node
  field_good at (more a (more b none)) s t = missing_node
  field_good at (more a (more b (more c none))) s t = missing_node
  field_good at (more a (more b (more c (more d none)))) s t = missing_node
  field_good at (more {n = key} a (more {n = question} b (more {n = exclamation} c (more d (more e none))))) s t =
      let plain : has_type_modifiers (no_modifiers (is_present question)) ≡ false = subst (λ (o : Bool). has_type_modifiers (no_modifiers o) ≡ false) (sym (not_present question s)) refl in
      let no = not_present exclamation t in
      node at (field_kind key (no_modifiers (is_present question)) false false (is_present exclamation))
      (if_kind (is_private_name (kind_of key)) _ _ (private_field_plain assignments (no_modifiers (is_present question)) false false (is_present exclamation) plain refl refl no)
      (field_plain assignments (no_modifiers (is_present question)) false false (is_present exclamation) plain refl refl no)) (more a (more e (more d none)))
  field_good at (more a (more b (more c (more d (more e (more f h)))))) s t = missing_node

  constructor_good : (at : Span) (modifiers key : Node) (before : MemberModifiers) → AllStatic (children_of modifiers) → has_type_modifiers before ≡ false → G key → {xs : List Node} → A xs → G (constructor_of at modifiers before key xs)
  constructor_good at m key before s u g none = missing_node
  constructor_good at m key before s u g (more a none) = missing_node
  constructor_good at m key before s u g (more a (more b none)) = missing_node
  constructor_good at m key before s u g (more a (more b (more c none))) = missing_node
  constructor_good at m key before s u g (more a (more b (more c (more d none)))) = node at (kind.Constructor (accessibility_of m) before.is_optional) (tt, ap (λ b. not b && true) (constructor_unmodified m before s u)) (more g (more a (more b none)))
  constructor_good at m key before s u g (more a (more b (more c (more d (more e h))))) = missing_node

  method_by_good : (at : Span) (modifiers : Node) (before : MemberModifiers) → AllStatic (children_of modifiers) → has_type_modifiers before ≡ false → {xs : List Node} → A xs → G (method_by at modifiers before xs)
  method_by_good at m before s u none = missing_node
  method_by_good at m before s u (more a none) = missing_node
  method_by_good at m before s u (more {n = key} a (more {n = function} b none)) =
      one_of (is_constructor m key function) _ _
      (frames 4 (constructor_of at m before key) (children_good P b) (λ h. constructor_good at m key before s u a h))
      (node at (kind.ClassMethod Method (modified m before)) (method_plain assignments Method (modified m before) (modified_plain m s before u)) (more a (more b none)))
  method_by_good at m before s u (more a (more b (more c h))) = missing_node

  member_by_good : (at : Span) (modifiers : Node) (k : Kind) → AllStatic (children_of modifiers) → P k → {xs : List Node} → A xs → G (member_by at modifiers k xs)
  member_by_good at m (kind.ClassMethod Method before) s p h = frames 2 (method_by at m before) h (λ k. method_by_good at m before s (unless_so (has_type_modifiers before) p.1) k)
  member_by_good at m (kind.ClassMethod Getter before) s p h = node at (kind.ClassMethod Getter (modified m before)) (method_plain assignments Getter (modified m before) (modified_plain m s before (unless_so (has_type_modifiers before) p.1))) h
  member_by_good at m (kind.ClassMethod Setter before) s p h = node at (kind.ClassMethod Setter (modified m before)) (method_plain assignments Setter (modified m before) (modified_plain m s before (unless_so (has_type_modifiers before) p.1))) h
  member_by_good at m (kind.PrivateMethod k before) s p h = node at (kind.PrivateMethod k (modified m before)) (private_method_plain assignments k (modified m before) (modified_plain m s before (unless_so (has_type_modifiers before) p.1))) h
  member_by_good at m (kind.ClassProp before readonly declare definite) s p h =
      let was = field_was before readonly declare definite p.1 in
      node at (kind.ClassProp (modified m before) (has_word (codes "readonly") m) (has_word (codes "declare") m) definite)
      (field_plain assignments (modified m before) (has_word (codes "readonly") m) (has_word (codes "declare") m) definite (modified_plain m s before was.0) (word_missing m s (codes "readonly") refl) (word_missing m s (codes "declare") refl) was.1) h
  member_by_good at m (kind.PrivateProp before readonly declare definite) s p h =
      let was = field_was before readonly declare definite p.1 in
      node at (kind.PrivateProp (modified m before) (has_word (codes "readonly") m) (has_word (codes "declare") m) definite)
      (private_field_plain assignments (modified m before) (has_word (codes "readonly") m) (has_word (codes "declare") m) definite (modified_plain m s before was.0) (word_missing m s (codes "readonly") refl) (word_missing m s (codes "declare") refl) was.1) h
  member_by_good at m _ s p h = good_node P at _ _ p h

  pub member_form_good : (at : Span) {xs : List Node} → A xs → StaticFirst xs → G (member at xs)
  member_form_good at none s = missing_node
  member_form_good at (more a none) s = missing_node
  member_form_good at (more {n = m} a (more {n = n} b none)) s = member_by_good at m (kind_of n) s (kind_good P b) (children_good P b)
  member_form_good at (more a (more b (more c h))) s = missing_node

  -- lists, sequences, loops, ambient declarations, namespaces, imports by `=`, modules

  pub swapped_good : {xs : List Node} → A xs → A (swapped xs)
  swapped_good {xs} h = chosen (nat_le 2 (length xs)) (each_swap P _ _ h) h

  pub elements_good : {xs : List Node} → A xs → A (elements xs)
  elements_good {xs} h = chosen (missing (slice_get xs (length xs - 1))) (each_take P _ h) h

  the_one_good : {xs : List Node} → A xs → G (the_one xs)
  the_one_good none = missing_node
  the_one_good (more a none) = a
  the_one_good (more a (more b h)) = missing_node

  pub sequence_good : (at : Span) {xs : List Node} → A xs → G (sequence at xs)
  sequence_good at {xs} h = one_of (length xs == 1) _ _ (frames 1 the_one h (λ k. the_one_good k)) (node at kind.SeqExpr (tt, refl) h)

  pub headed_good : (at : Span) {xs : List Node} → A xs → G (headed at xs)
  headed_good at none = missing_node
  headed_good at (more a none) = missing_node
  headed_good at (more {n = x} a (more b none)) = good_node P at (kind_of x) _ (kind_good P a) (each_append P (children_good P a) (more b none))
  headed_good at (more a (more b (more c h))) = missing_node

  pub import_equals_good : (at : Span) → assignments ≡ true → {xs : List Node} → A xs → AbsentAt 1 xs → G (import_equals at xs)
  import_equals_good at e none m = missing_node
  import_equals_good at e (more a none) m = missing_node
  import_equals_good at e (more a (more b none)) m = missing_node
  import_equals_good at e (more a (more b (more c none))) m = missing_node
  import_equals_good at e (more {n = x} a (more {n = y} b (more c (more d none)))) m =
      node at (kind.TsImportEqualsDecl (is_present x) (is_present y)) (subst (λ (o : Bool). P (kind.TsImportEqualsDecl (is_present x) o)) (sym (not_present y m)) (tt, e)) (more c (more d none))
  import_equals_good at e (more a (more b (more c (more d (more f h))))) m = missing_node

  module_good : (at : Span) {hashbang items : Node} → G hashbang → G items → G (module_of at (hashbang ∷ items ∷ []))
  module_good at {hashbang} h g = node at (kind.Module (text_of (kind_of hashbang))) (hashbang_read (kind_of hashbang) (kind_good P h).0, refl) (more g none)

  pub module_form_good : (at : Span) {xs : List Node} → A xs → G (module_of at xs)
  module_form_good at none = missing_node
  module_form_good at (more a none) = missing_node
  module_form_good at (more a (more b none)) = module_good at a b
  module_form_good at (more a (more b (more c h))) = missing_node
