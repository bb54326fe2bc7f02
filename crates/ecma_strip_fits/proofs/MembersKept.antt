-- The rules of parameters and members are kept without types.
use Rattle.std.proofs.Common.{◌≡◌, ◌∙◌, inl, inr, ℕ, Bool, true, false, not, ◌&&◌, ◌||◌, List, [], ◌∷◌, length, Some, None, refl, sym, ap, ap₂, subst, slice_get}
use Rattle.std.specs.List.{list_any}
use Rattle.ecma_kind.specs.Sorts.{belongs}
use Rattle.ecma_kind.specs.declared.kind.Kind.{Kind}
use Rattle.ecma_kind.specs.declared.kind.Kind.TheVariants as kind
use Rattle.ecma_kind.specs.declared.operators.MethodKind.{MethodKind}
use Rattle.ecma_kind.specs.declared.operators.MethodKind.TheVariants.{Method, Getter, Setter}
use Rattle.ecma_kind.specs.declared.shapes.Shape.{Shape}
use Rattle.ecma_kind.specs.declared.shapes.Sort.TheVariants as sort
use Rattle.ecma_tree.specs.declared.node.Node.{Node}
use Rattle.ecma_tree.specs.Sorted.{HasShape, allows, child_shapes, one, maybe}
use Rattle.ecma_rules.specs.declared.standing.Standing.{Standing}
use Rattle.ecma_rules.specs.Children.{child_holds, holds_of, is_present, items_at, kind_of, of_kind, child_is, has_child}
use Rattle.ecma_rules.specs.Lists.{is_rest_pattern}
use Rattle.ecma_rules.specs.Members.{behind_first, fits_kind, is_declaring, is_empty_list, is_one_parameter, is_plain_parameter, is_property_kind, is_special_by, is_this_parameter, is_this_pattern, misfits_by, misplaces_this_by, takes_not_one, has_body}
use Rattle.ecma_strip.specs.Stripping.{changed_at, plain_children, plain_kind, stripped, without_this}
use Rattle.ecma_fits.specs.declared.unfit.Where.{Where}
use Rattle.ecma_strip_fits.proofs.Classes.{class_of}
use Rattle.ecma_strip_fits.proofs.Classes.Class.{Usual}
use Rattle.ecma_strip_fits.proofs.ChildrenKept.{Plain, child_by, child_kept, one_usual, AsUsual, kind_kept, maybe_usual}
use Rattle.ecma_strip_fits.proofs.FullNodes.{list_by}
use Rattle.ecma_strip_fits.proofs.Parameters.{no_further, no_others, no_patterns, none_empty, not_one_kept, one_left, plain_kept, rest_kept, this_kept}
use Rattle.ecma_strip_fits.proofs.RuleStanding.{How}
use Rattle.ecma_strip_fits.proofs.StaysAll.{items_have, left_of_list}
use Rattle.ecma_strip_fits.proofs.Tests.{special_kept}
use Rattle.ecma_strip_fits.proofs.Walk.{children_of, shape_parts}
use Rattle.ecma_strip_fits.proofs.Constructors.{present_plain}

some_same : {X : Type 0} {x y : X} → Some x ≡ Some y → x ≡ y
some_same e = cc

not_false : (b : Bool) → not b ≡ false → b ≡ true
not_false true h = refl
not_false false h = cc

negated : (b : Bool) → b ≡ false → not b ≡ true
negated b h = ap not h

not_true : (b : Bool) → not b ≡ true → b ≡ false
not_true true h = cc
not_true false h = refl

-- ---- parameters with modifiers

property_plain : Plain Bool is_property_kind
unfolding plain_kind
property_plain kind.Absent = refl
property_plain _ = refl

expression_property : (k : Kind) → belongs sort.Expr k ≡ true → is_property_kind k ≡ false
expression_property (kind.TsParamProp accessibility is_override readonly) b = cc
expression_property _ b = refl

plain_left : (n : Node) (s : Shape) → HasShape s n → class_of (kind_of n) ≡ Usual → (k : Kind) → kind_of n ≡ k → is_property_kind k ≡ true → child_holds is_plain_parameter n 0 ≡ true → child_holds is_plain_parameter (stripped n) 0 ≡ true
unfolding plain_children
plain_left n s h u (kind.TsParamProp accessibility is_override readonly) e p =
    child_by n s h u 0 (λ cs. ap (λ k. slice_get (plain_children k cs) 0) e) (λ x y. holds_of is_plain_parameter x ≡ true → holds_of is_plain_parameter y ≡ true) (λ g. g)
    (λ c o at has. plain_kept c o has)
plain_left n s h u _ e p = λ g. cc

declared : (a d x y : Bool) → (a ≡ true → x ≡ true → y ≡ true) → (a && not (d && x)) ≡ false → (a && not (d && y)) ≡ false
declared false d x y f h = refl
declared true false x y f h = cc
declared true true true y f h = ap not (f refl refl)
declared true true false y f h = cc

abbrev property_by : Standing → Kind → Node → Bool
property_by s k n = is_property_kind k && not (is_declaring s && child_holds is_plain_parameter n 0)

property_here : (n : Node) (s : Shape) (w v : Where) → class_of (kind_of n) ≡ Usual → HasShape s n → How n w v → property_by w.around.standing (kind_of n) n ≡ false → property_by v.around.standing (plain_kind (kind_of n)) (stripped n) ≡ false
property_here n s w v u h (inl d) none =
    ap₂ (λ k z. k && not (is_declaring z && child_holds is_plain_parameter (stripped n) 0)) (property_plain (kind_of n)) (sym d.1)
    ∙ declared (is_property_kind (kind_of n)) (is_declaring w.around.standing) (child_holds is_plain_parameter n 0) (child_holds is_plain_parameter (stripped n) 0) (plain_left n s h u (kind_of n) refl) none
property_here n s w v u h (inr d) none =
    ap (λ k. k && not (is_declaring v.around.standing && child_holds is_plain_parameter (stripped n) 0)) (property_plain (kind_of n) ∙ expression_property (kind_of n) d.0)

-- ---- accessors, and patterns with defaults

third_untouched : (cs : List Node) → slice_get (changed_at 1 without_this cs) 2 ≡ slice_get cs 2
third_untouched [] = refl
third_untouched (a ∷ []) = refl
third_untouched (a ∷ b ∷ cs) = refl

fourth_untouched : (cs : List Node) → slice_get (changed_at 1 without_this cs) 3 ≡ slice_get cs 3
fourth_untouched [] = refl
fourth_untouched (a ∷ []) = refl
fourth_untouched (a ∷ b ∷ cs) = refl

setter_untouched : (n : Node) → kind_of n ≡ kind.SetterProp → (cs : List Node) → slice_get (plain_children (kind_of n) cs) 2 ≡ slice_get cs 2
unfolding plain_children
setter_untouched n e cs = ap (λ k. slice_get (plain_children k cs) 2) e ∙ third_untouched cs

pattern_at : (n : Node) (s : Shape) (k : Kind) (i : ℕ) → kind_of n ≡ k → slice_get (child_shapes k s (length (children_of n))) i ≡ Some (one sort.Pat)
    → (c : Node) (o : Shape) → slice_get (child_shapes (kind_of n) s (length (children_of n))) i ≡ Some o → HasShape o c → belongs sort.Pat (kind_of c) ≡ true
pattern_at n s k i e pattern c o at has =
    let is : one sort.Pat ≡ o = some_same (sym pattern ∙ ap (λ k. slice_get (child_shapes k s (length (children_of n))) i) (sym e) ∙ at) in
    subst (λ z. allows z (kind_of c) ≡ true → belongs sort.Pat (kind_of c) ≡ true) is (λ x. x) (shape_parts c o has).0

setter_pattern : (n : Node) (s : Shape) → kind_of n ≡ kind.SetterProp → (c : Node) (o : Shape) → slice_get (child_shapes (kind_of n) s (length (children_of n))) 2 ≡ Some o → HasShape o c → belongs sort.Pat (kind_of c) ≡ true
setter_pattern n s e = pattern_at n s kind.SetterProp 2 e refl

function_left : (m : MethodKind) (f : Node) → HasShape (one sort.Function) f → fits_kind m f ≡ true → fits_kind m (stripped f) ≡ true
unfolding plain_children
function_left Method f has h = refl
function_left Getter f has h = by (kind_of f) refl (shape_parts f (one sort.Function) has).0
  where
    by : (k : Kind) → kind_of f ≡ k → belongs sort.Function k ≡ true → is_empty_list (items_at (stripped f) 0) ≡ true
    by (kind.Function is_generator is_async) e b =
        list_by f (one sort.Function) has (one_usual sort.Function refl (kind_of f) (shape_parts f (one sort.Function) has).0) (kind.Function is_generator is_async) e (λ cs. refl) is_empty_list 0 sort.Param refl
        (λ l list g. ap is_empty_list (left_of_list sort.Param l list) ∙ none_empty (children_of l) g) h
    by _ e b = cc
function_left Setter f has h = by (kind_of f) refl (shape_parts f (one sort.Function) has).0
  where
    by : (k : Kind) → kind_of f ≡ k → belongs sort.Function k ≡ true → is_one_parameter (items_at (stripped f) 0) ≡ true
    by (kind.Function is_generator is_async) e b =
        list_by f (one sort.Function) has (one_usual sort.Function refl (kind_of f) (shape_parts f (one sort.Function) has).0) (kind.Function is_generator is_async) e (λ cs. refl) is_one_parameter 0 sort.Param refl
        (λ l list g. ap is_one_parameter (left_of_list sort.Param l list) ∙ one_left (children_of l) (items_have sort.Param l list) g) h
    by _ e b = cc

neither : (a b : Bool) → (a || b) ≡ false → (a ≡ false) × (b ≡ false)
neither true b h = cc
neither false b h = (refl, h)

-- a function keeps its body
body_left : (f : Node) → HasShape (one sort.Function) f → has_body (stripped f) ≡ has_body f
unfolding plain_children
body_left f has = by (kind_of f) refl (shape_parts f (one sort.Function) has).0
  where
    by : (k : Kind) → kind_of f ≡ k → belongs sort.Function k ≡ true → has_body (stripped f) ≡ has_body f
    by (kind.Function is_generator is_async) e b =
        kind_kept f (one sort.Function) has (one_usual sort.Function refl (kind_of f) (shape_parts f (one sort.Function) has).0) 1 (λ cs. ap (λ k. slice_get (plain_children k cs) 1) e) is_present present_plain
        (λ o at. subst AsUsual (some_same (ap (λ k. slice_get (child_shapes k (one sort.Function) (length (children_of f))) 1) (sym e) ∙ at)) (maybe_usual sort.BlockStmt refl))
    by _ e b = cc

module _ (n : Node) (s : Shape) (h : HasShape s n) (u : class_of (kind_of n) ≡ Usual) where
  method_left : (k : Kind) → kind_of n ≡ k → (m : MethodKind) → ((cs : List Node) → slice_get (plain_children k cs) 1 ≡ slice_get cs 1) → slice_get (child_shapes k s (length (children_of n))) 1 ≡ Some (one sort.Function)
      → not (child_holds (fits_kind m) n 1) ≡ false → not (child_holds (fits_kind m) (stripped n) 1) ≡ false
  method_left k e m same is none =
      ap not (child_by n s h u 1 (λ cs. ap (λ z. slice_get (plain_children z cs) 1) e ∙ same cs) (λ x y. holds_of (fits_kind m) x ≡ true → holds_of (fits_kind m) y ≡ true) (λ g. g)
      (λ f o at has. function_left m f (subst (λ z. HasShape z f) (some_same (sym at ∙ (ap (λ z. slice_get (child_shapes z s (length (children_of n))) 1) e ∙ is))) has)) (not_false (child_holds (fits_kind m) n 1) none))

  body_kept : (i : ℕ) → ((cs : List Node) → slice_get (plain_children (kind_of n) cs) i ≡ slice_get cs i) → slice_get (child_shapes (kind_of n) s (length (children_of n))) i ≡ Some (maybe sort.BlockStmt)
      → has_child (stripped n) i ≡ has_child n i
  body_kept i same is = kind_kept n s h u i same is_present present_plain (λ o at. subst AsUsual (some_same (sym is ∙ at)) (maybe_usual sort.BlockStmt refl))

  misfit_here : (k : Kind) → kind_of n ≡ k → misfits_by k n ≡ false → misfits_by (plain_kind k) (stripped n) ≡ false
  unfolding misfits_by plain_kind plain_children
  misfit_here kind.AssignPat e none =
      child_kept n s h u 0 (λ cs. ap (λ k. slice_get (plain_children k cs) 0) e) Bool (of_kind is_rest_pattern) (λ c o at has. rest_kept c o has (pattern_at n s kind.AssignPat 0 e refl c o at has)) ∙ none
  misfit_here kind.GetterProp e none =
      let both = neither (has_child n 3) (not (has_child n 2)) none in
      let parameters = child_kept n s h u 3 (λ cs. ap (λ k. slice_get (plain_children k cs) 3) e) Bool (of_kind is_present)
      (λ c o at has. (let no : None ≡ Some o = ap (λ k. slice_get (child_shapes k s (length (children_of n))) 3) (sym e) ∙ at in cc)) in
      let body = body_kept 2 (λ cs. ap (λ k. slice_get (plain_children k cs) 2) e) (ap (λ k. slice_get (child_shapes k s (length (children_of n))) 2) e) in
      λ j. (parameters ∙ both.0) j || (ap not body ∙ both.1) j
  misfit_here kind.SetterProp e none =
      let both = neither (child_is takes_not_one n 2) (not (has_child n 3)) none in
      let parameter = child_kept n s h u 2 (setter_untouched n e) Bool (of_kind takes_not_one) (λ c o at has. not_one_kept c o has (setter_pattern n s e c o at has)) in
      let body = body_kept 3 (λ cs. ap (λ k. slice_get (plain_children k cs) 3) e ∙ fourth_untouched cs) (ap (λ k. slice_get (child_shapes k s (length (children_of n))) 3) e) in
      λ j. (parameter ∙ both.0) j || (ap not body ∙ both.1) j
  misfit_here kind.MethodProp e none =
      ap not (child_kept n s h u 1 (λ cs. ap (λ k. slice_get (plain_children k cs) 1) e) Bool (holds_of has_body)
      (λ f o at has. body_left f (subst (λ z. HasShape z f) (sym (some_same (ap (λ k. slice_get (child_shapes k s (length (children_of n))) 1) (sym e) ∙ at))) has))) ∙ none
  misfit_here (kind.ClassMethod m modifiers) e none = method_left (kind.ClassMethod m modifiers) e m (λ cs. refl) refl none
  misfit_here (kind.PrivateMethod m modifiers) e none = method_left (kind.PrivateMethod m modifiers) e m (λ cs. refl) refl none
  misfit_here _ e none = refl

  -- ---- the parameter `this`

  receiver_here : (k : Kind) → kind_of n ≡ k → misplaces_this_by k n ≡ false → misplaces_this_by (plain_kind k) (stripped n) ≡ false
  unfolding misplaces_this_by plain_kind plain_children
  receiver_here (kind.Function is_generator is_async) e none =
      not_true (list_any is_this_parameter (behind_first (items_at (stripped n) 0)))
      (list_by n s h u (kind.Function is_generator is_async) e (λ cs. refl) (λ z. not (list_any is_this_parameter (behind_first z))) 0 sort.Param refl
      (λ l list g. ap (λ (z : List Node). not (list_any is_this_parameter (behind_first z))) (left_of_list sort.Param l list) ∙ ap not (no_further (children_of l) (items_have sort.Param l list)))
      (ap not none))
  receiver_here (kind.ArrowExpr is_async is_generator) e none =
      not_true (list_any is_this_pattern (items_at (stripped n) 0))
      (list_by n s h u (kind.ArrowExpr is_async is_generator) e (λ cs. refl) (λ z. not (list_any is_this_pattern z)) 0 sort.Pat refl
      (λ l list g. ap (λ (z : List Node). not (list_any is_this_pattern z)) (left_of_list sort.Pat l list) ∙ ap not (no_patterns (children_of l) (items_have sort.Pat l list)))
      (ap not none))
  receiver_here (kind.Constructor accessibility is_optional) e none =
      not_true (list_any is_this_parameter (items_at (stripped n) 1))
      (list_by n s h u (kind.Constructor accessibility is_optional) e (λ cs. refl) (λ z. not (list_any is_this_parameter z)) 1 sort.ParamOrTsParamProp refl
      (λ l list g. ap (λ (z : List Node). not (list_any is_this_parameter z)) (left_of_list sort.ParamOrTsParamProp l list)
      ∙ ap not (no_others (children_of l) (items_have sort.ParamOrTsParamProp l list) (not_true (list_any is_this_parameter (children_of l)) g)))
      (ap not none))
  receiver_here kind.SetterProp e none = child_kept n s h u 2 (setter_untouched n e) Bool (holds_of is_this_pattern) (λ c o at has. this_kept c o has (setter_pattern n s e c o at has)) ∙ none
  receiver_here _ e none = refl

-- ---- together

abbrev pub membering : Where → Kind → Node → Bool
membering w k n = property_by w.around.standing k n || (misfits_by k n || (is_special_by k n || misplaces_this_by k n))

pub member_here : (n : Node) (s : Shape) (w v : Where) → class_of (kind_of n) ≡ Usual → HasShape s n → How n w v → membering w (kind_of n) n ≡ false → membering v (plain_kind (kind_of n)) (stripped n) ≡ false
member_here n s w v u h how none =
    let k = kind_of n in
    let a = neither (property_by w.around.standing k n) (misfits_by k n || (is_special_by k n || misplaces_this_by k n)) none in
    let b = neither (misfits_by k n) (is_special_by k n || misplaces_this_by k n) a.1 in
    let c = neither (is_special_by k n) (misplaces_this_by k n) b.1 in
    λ j. property_here n s w v u h how a.0 j || (misfit_here n s h u k refl b.0 j || ((special_kept n s h u ∙ c.0) j || receiver_here n s h u k refl c.1 j))

pub never_member : (w : Where) (n : Node) → (membering w kind.Absent n ≡ false) × (membering w kind.EmptyStmt n ≡ false) × (membering w kind.List n ≡ false)
unfolding misfits_by misplaces_this_by
never_member w n = (refl, refl, refl)
