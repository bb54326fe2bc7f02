-- What the context rules ask of a node is the same of what is left of it.
use Rattle.std.proofs.Common.{◌≡◌, ◌∙◌, ℕ, suc, Bool, true, false, not, cond, codes, ◌&&◌, ◌||◌, List, [], ◌∷◌, filter, length, Some, refl, sym, ap, ap₂, subst, slice_get}
use Rattle.std.specs.Prelude.{is_some}
use Rattle.std.specs.List.{list_any}
use Rattle.ecma_kind.specs.declared.kind.Kind.{Kind}
use Rattle.ecma_kind.specs.declared.kind.Kind.TheVariants as kind
use Rattle.ecma_kind.specs.declared.operators.MethodKind.{MethodKind}
use Rattle.ecma_kind.specs.declared.operators.MethodKind.TheVariants.{Method, Getter, Setter}
use Rattle.ecma_kind.specs.declared.shapes.Shape.{Shape}
use Rattle.ecma_kind.specs.declared.shapes.Sort.TheVariants as sort
use Rattle.ecma_tree.specs.Sorted.{HasShape, allows, child_shapes, many, one}
use Rattle.ecma_tree.specs.declared.node.Node.{Node, out-Node}
use Rattle.ecma_rules.specs.declared.standing.Standing.{Standing}
use Rattle.ecma_rules.specs.declared.target.Target.{Target}
use Rattle.ecma_rules.specs.Children.{child_holds, child_is, has_child, is_named, items_at, kind_of}
use Rattle.ecma_rules.specs.Lists.{is_head, is_one_without_value, is_rest_pattern, is_wrong_head}
use Rattle.ecma_rules.specs.Members.{behind_first, fits_kind, has_body, has_second_constructor, is_binding_name, is_constructor, is_constructor_key, is_declaring, is_empty_list, is_full_constructor, is_method, is_misfit, is_named_pattern, is_one_parameter, is_plain_parameter, is_property_kind, is_special_by, is_special_constructor, is_special_function, is_stray_property, is_this_by, is_this_parameter, is_this_pattern, misfits_by, misplaces_this, misplaces_this_by, second_by, second_of, takes_not_one, takes_one}
use Rattle.ecma_rules.specs.Targets.{is_variables}
use Rattle.ecma_elide_fits.specs.Dropping.{Dropping}
use Rattle.ecma_elide_fits.proofs.Dropped.{Same, below, any_same, by_kind, child_same, each, has_same, holds_by, holds_same, items_of_list, items_same, kind_to, loses_at, seats_at, some_same, to, whole}
use Rattle.ecma_elide_fits.proofs.Tests.{closed}
use Rattle.ecma_elide_fits.proofs.Walks.{have_at, shape_parts}

-- ---- shapes of children

pub allowed : (t : Shape) (n : Node) → HasShape t n → allows t (kind_of n) ≡ true
allowed t n h = (shape_parts n t h).0

pub shape_at : (t : Shape) (n : Node) (k : Kind) (i : ℕ) (u : Shape) → kind_of n ≡ k → HasShape t n → slice_get (child_shapes k t (length (below n))) i ≡ Some u → (c : Node)
    → slice_get (below n) i ≡ Some c → HasShape u c
shape_at t n k i u e h get c at =
    let v = have_at (child_shapes (kind_of n) t (length (below n))) (below n) (shape_parts n t h).1 i c at in
    subst (λ z. HasShape z c) (some_same v.0 u (sym v.1 ∙ ap (λ z. slice_get (child_shapes z t (length (below n))) i) e ∙ get)) v.2

-- what the rules of members ask
abbrev pub fails_by : Standing → Node → Bool
fails_by st n = is_stray_property st n || (is_misfit n || (is_special_constructor n || misplaces_this n))

module _ {S : Type 0} (d : Dropping S) where
  -- ---- heads of loops

  one_same : (g : ℕ → S) (ns : List Node) → is_one_without_value (each d (λ j. false) g ns) ≡ is_one_without_value ns
  one_same g [] = refl
  one_same g (n ∷ []) = ap not (has_same d false (g 0) n 1 refl)
  one_same g (n ∷ m ∷ ns) = refl

  head_by : (target : Target) (t : Shape) (k : Kind) (loses : Bool) (s : S) (n : Node) → kind_of n ≡ k → HasShape t n
      → ((is_head target && is_variables k) && not (is_one_without_value (items_at (to d loses s n) 0))) ≡ ((is_head target && is_variables k) && not (is_one_without_value (items_at n 0)))
  head_by target t (kind.VarDecl v declare) loses s n e h =
      let k = kind.VarDecl v declare in
      ap (λ a. (is_head target && true) && not a)
      (items_of_list d is_one_without_value one_same loses s n 0 (whole d loses n k e refl) (closed d loses n 0 k e refl)
      (λ c at. allowed (many sort.VarDeclarator) c (shape_at t n k 0 (many sort.VarDeclarator) e h refl c at)))
  head_by target t _ loses s n e h = none (is_head target)
    where
      none : (a : Bool) → ((a && false) && not (is_one_without_value (items_at (to d loses s n) 0))) ≡ ((a && false) && not (is_one_without_value (items_at n 0)))
      none true = refl
      none false = refl

  pub head_same : (target : Target) (t : Shape) (loses : Bool) (s : S) (n : Node) → HasShape t n → is_wrong_head target (to d loses s n) ≡ is_wrong_head target n
  head_same target t loses s n h =
      ap (λ k. (is_head target && is_variables k) && not (is_one_without_value (items_at (to d loses s n) 0))) (kind_to d loses s n) ∙ head_by target t (kind_of n) loses s n refl h

  -- ---- parameters

  named_by : (k : Kind) (loses : Bool) (s : S) (n : Node) → kind_of n ≡ k → is_named_pattern k (to d loses s n) ≡ is_named_pattern k n
  named_by kind.BindingIdent loses s n e = refl
  named_by kind.AssignPat loses s n e = child_same d is_binding_name loses s n 0 (whole d loses n kind.AssignPat e refl)
  named_by _ loses s n e = refl

  plain_same : Same d is_plain_parameter
  plain_same = by_kind d is_named_pattern named_by

  property_by : (st : Standing) (k : Kind) (loses : Bool) (s : S) (n : Node) → kind_of n ≡ k
      → (is_property_kind k && not (is_declaring st && child_holds is_plain_parameter (to d loses s n) 0)) ≡ (is_property_kind k && not (is_declaring st && child_holds is_plain_parameter n 0))
  property_by st (kind.TsParamProp accessibility is_override readonly) loses s n e =
      ap (λ a. not (is_declaring st && a)) (holds_same d is_plain_parameter plain_same loses s n 0 (whole d loses n (kind.TsParamProp accessibility is_override readonly) e refl))
  property_by st _ loses s n e = refl

  property_same : (st : Standing) → Same d (is_stray_property st)
  property_same st = by_kind d (λ k n. is_property_kind k && not (is_declaring st && child_holds is_plain_parameter n 0)) (property_by st)

  this_by : (k : Kind) (loses : Bool) (s : S) (n : Node) → kind_of n ≡ k → is_this_by k (to d loses s n) ≡ is_this_by k n
  this_by kind.BindingIdent loses s n e = child_same d (is_named (codes "this")) loses s n 0 (whole d loses n kind.BindingIdent e refl)
  this_by _ loses s n e = refl

  this_pattern_same : Same d is_this_pattern
  this_pattern_same = by_kind d is_this_by this_by

  this_parameter_same : (s : S) (n : Node) → is_this_parameter (to d false s n) ≡ is_this_parameter n
  this_parameter_same s n = holds_same d is_this_pattern this_pattern_same false s n 0 refl

  takes_one_same : (s : S) (n : Node) → takes_one (to d false s n) ≡ takes_one n
  takes_one_same s n = ap₂ (λ x y. not x && not y) (this_parameter_same s n) (child_same d is_rest_pattern false s n 0 refl)

  one_parameter_same : (g : ℕ → S) (ns : List Node) → is_one_parameter (each d (λ j. false) g ns) ≡ is_one_parameter ns
  one_parameter_same g [] = refl
  one_parameter_same g (n ∷ []) = takes_one_same (g 0) n
  one_parameter_same g (n ∷ m ∷ []) = ap₂ (λ x y. x && y) (this_parameter_same (g 0) n) (takes_one_same (g 1) m)
  one_parameter_same g (n ∷ m ∷ l ∷ ns) = refl

  none_same : (f : ℕ → Bool) (g : ℕ → S) (ns : List Node) → is_empty_list (each d f g ns) ≡ is_empty_list ns
  none_same f g [] = refl
  none_same f g (n ∷ ns) = refl

  -- ---- members

  fits_by : (m : MethodKind) (k : Kind) (s : S) (n : Node) → kind_of n ≡ k → allows (one sort.Function) k ≡ true → HasShape (one sort.Function) n → fits_kind m (to d false s n) ≡ fits_kind m n
  fits_by Method k s n e is h = refl
  fits_by Getter (kind.Function is_generator is_async) s n e is h =
      items_same d is_empty_list none_same false s n 0 refl (closed d false n 0 (kind.Function is_generator is_async) e refl)
  fits_by Setter (kind.Function is_generator is_async) s n e is h =
      let k = kind.Function is_generator is_async in
      items_of_list d is_one_parameter one_parameter_same false s n 0 refl (closed d false n 0 k e refl)
      (λ c at. allowed (many sort.Param) c (shape_at (one sort.Function) n k 0 (many sort.Param) e h refl c at))
  fits_by Getter _ s n e is h = cc
  fits_by Setter _ s n e is h = cc

  accessor_fits : (m : MethodKind) (t : Shape) (k : Kind) (loses : Bool) (s : S) (n : Node) → kind_of n ≡ k → loses_at d loses n 1 ≡ false → HasShape t n
      → slice_get (child_shapes k t (length (below n))) 1 ≡ Some (one sort.Function) → (c : Node) → slice_get (below n) 1 ≡ Some c
      → fits_kind m (to d (loses_at d loses n 1) (seats_at d s n 1) c) ≡ fits_kind m c
  accessor_fits m t k loses s n e shut h get c at =
      let has = shape_at t n k 1 (one sort.Function) e h get c at in
      ap (λ o. fits_kind m (to d o (seats_at d s n 1) c)) shut ∙ fits_by m (kind_of c) (seats_at d s n 1) c refl (allowed (one sort.Function) c has) has

  misfits_kept : (t : Shape) (k : Kind) (loses : Bool) (s : S) (n : Node) → kind_of n ≡ k → HasShape t n → misfits_by k (to d loses s n) ≡ misfits_by k n
  unfolding misfits_by
  misfits_kept t kind.AssignPat loses s n e h = child_same d is_rest_pattern loses s n 0 (whole d loses n kind.AssignPat e refl)
  misfits_kept t kind.GetterProp loses s n e h =
      let w = whole d loses n kind.GetterProp e refl in
      ap₂ (λ x y. x || not y) (has_same d loses s n 3 w) (has_same d loses s n 2 w)
  misfits_kept t kind.SetterProp loses s n e h =
      let w = whole d loses n kind.SetterProp e refl in
      ap₂ (λ x y. x || not y) (child_same d takes_not_one loses s n 2 w) (has_same d loses s n 3 w)
  misfits_kept t kind.MethodProp loses s n e h =
      ap not (holds_by d has_body loses s n 1 (whole d loses n kind.MethodProp e refl)
      (λ c at. ap (λ o. has_body (to d o (seats_at d s n 1) c)) (closed d loses n 1 kind.MethodProp e refl) ∙ has_same d false (seats_at d s n 1) c 1 refl))
  misfits_kept t (kind.ClassMethod m modifiers) loses s n e h =
      let k = kind.ClassMethod m modifiers in
      ap not (holds_by d (fits_kind m) loses s n 1 (whole d loses n k e refl) (accessor_fits m t k loses s n e (closed d loses n 1 k e refl) h refl))
  misfits_kept t (kind.PrivateMethod m modifiers) loses s n e h =
      let k = kind.PrivateMethod m modifiers in
      ap not (holds_by d (fits_kind m) loses s n 1 (whole d loses n k e refl) (accessor_fits m t k loses s n e (closed d loses n 1 k e refl) h refl))
  misfits_kept t _ loses s n e h = refl

  special_by : (k : Kind) (loses : Bool) (s : S) (n : Node) → kind_of n ≡ k → is_special_by k (to d loses s n) ≡ is_special_by k n
  special_by (kind.ClassMethod m modifiers) loses s n e =
      let w = whole d loses n (kind.ClassMethod m modifiers) e refl in
      ap₂ (λ x y. not modifiers.is_static && (x && (not (is_method m) || y))) (child_same d is_constructor_key loses s n 0 w) (child_same d is_special_function loses s n 1 w)
  special_by _ loses s n e = refl

  special_same : Same d is_special_constructor
  special_same = by_kind d is_special_by special_by

  behind_same : (g : ℕ → S) (ns : List Node) → list_any is_this_parameter (behind_first (each d (λ j. false) g ns)) ≡ list_any is_this_parameter (behind_first ns)
  behind_same g [] = refl
  behind_same g (n ∷ ns) = any_same d is_this_parameter (λ j. false) (λ i. g (suc i)) ns (λ i s m. this_parameter_same s m)

  misplaced_by : (t : Shape) (k : Kind) (loses : Bool) (s : S) (n : Node) → kind_of n ≡ k → HasShape t n → misplaces_this_by k (to d loses s n) ≡ misplaces_this_by k n
  unfolding misplaces_this_by
  misplaced_by t (kind.Function is_generator is_async) loses s n e h =
      let k = kind.Function is_generator is_async in
      items_of_list d (λ ns. list_any is_this_parameter (behind_first ns)) behind_same loses s n 0 (whole d loses n k e refl) (closed d loses n 0 k e refl)
      (λ c at. allowed (many sort.Param) c (shape_at t n k 0 (many sort.Param) e h refl c at))
  misplaced_by t (kind.ArrowExpr is_async is_generator) loses s n e h =
      let k = kind.ArrowExpr is_async is_generator in
      items_same d (list_any is_this_pattern) (λ f g ns. any_same d is_this_pattern f g ns (λ i s m. this_pattern_same (f i) s m)) loses s n 0 (whole d loses n k e refl) (closed d loses n 0 k e refl)
  misplaced_by t (kind.Constructor accessibility is_optional) loses s n e h =
      let k = kind.Constructor accessibility is_optional in
      items_of_list d (list_any is_this_parameter) (λ g ns. any_same d is_this_parameter (λ j. false) g ns (λ i s m. this_parameter_same s m)) loses s n 1 (whole d loses n k e refl)
      (closed d loses n 1 k e refl) (λ c at. allowed (many sort.ParamOrTsParamProp) c (shape_at t n k 1 (many sort.ParamOrTsParamProp) e h refl c at))
  misplaced_by t kind.SetterProp loses s n e h = holds_same d is_this_pattern this_pattern_same loses s n 2 (whole d loses n kind.SetterProp e refl)
  misplaced_by t _ loses s n e h = refl

  pub members_same : (st : Standing) (t : Shape) (loses : Bool) (s : S) (n : Node) → HasShape t n → fails_by st (to d loses s n) ≡ fails_by st n
  members_same st t loses s n h =
      ap₂ (λ a b. a || b) (property_same st loses s n)
      (ap₂ (λ a b. a || b) (ap (λ k. misfits_by k (to d loses s n)) (kind_to d loses s n) ∙ misfits_kept t (kind_of n) loses s n refl h)
      (ap₂ (λ a b. a || b) (special_same loses s n) (ap (λ k. misplaces_this_by k (to d loses s n)) (kind_to d loses s n) ∙ misplaced_by t (kind_of n) loses s n refl h)))

  -- ---- constructors

  full_by : (k : Kind) (loses : Bool) (s : S) (n : Node) → kind_of n ≡ k → (is_constructor k && has_child (to d loses s n) 2) ≡ (is_constructor k && has_child n 2)
  full_by (kind.Constructor accessibility is_optional) loses s n e = has_same d loses s n 2 (whole d loses n (kind.Constructor accessibility is_optional) e refl)
  full_by _ loses s n e = refl

  full_same : Same d is_full_constructor
  full_same = by_kind d (λ k n. is_constructor k && has_child n 2) full_by

  found : (f : ℕ → Bool) (g : ℕ → S) (ns : List Node) → length (filter is_full_constructor (each d f g ns)) ≡ length (filter is_full_constructor ns)
  found f g [] = refl
  found f g (n ∷ ns) = by (is_full_constructor (to d (f 0) (g 0) n)) (is_full_constructor n) (full_same (f 0) (g 0) n) (found (λ i. f (suc i)) (λ i. g (suc i)) ns)
    where
      by : (a b : Bool) → a ≡ b → length (filter is_full_constructor (each d (λ i. f (suc i)) (λ i. g (suc i)) ns)) ≡ length (filter is_full_constructor ns)
          → length (cond a (to d (f 0) (g 0) n ∷ filter is_full_constructor (each d (λ i. f (suc i)) (λ i. g (suc i)) ns)) (filter is_full_constructor (each d (λ i. f (suc i)) (λ i. g (suc i)) ns)))
          ≡ length (cond b (n ∷ filter is_full_constructor ns) (filter is_full_constructor ns))
      by true true e rest = ap suc rest
      by false false e rest = rest
      by true false e rest = cc
      by false true e rest = cc

  -- whether there is a second of as many
  second_alike : (ms ns : List Node) → length ms ≡ length ns → is_some (second_of ms) ≡ is_some (second_of ns)
  second_alike [] [] e = refl
  second_alike [] (n ∷ ns) e = cc
  second_alike (m ∷ ms) [] e = cc
  second_alike (m ∷ []) (n ∷ []) e = refl
  second_alike (m ∷ []) (n ∷ o ∷ ns) e = cc
  second_alike (m ∷ l ∷ ms) (n ∷ []) e = cc
  second_alike (m ∷ l ∷ ms) (n ∷ o ∷ ns) e = refl

  second_kept : (k : Kind) (loses : Bool) (s : S) (n : Node) → kind_of n ≡ k → is_some (second_by k (to d loses s n)) ≡ is_some (second_by k n)
  second_kept (kind.Class is_abstract) loses s n e =
      let k = kind.Class is_abstract in
      items_same d (λ ns. is_some (second_of (filter is_full_constructor ns)))
      (λ f g ns. second_alike (filter is_full_constructor (each d f g ns)) (filter is_full_constructor ns) (found f g ns)) loses s n 1 (whole d loses n k e refl) (closed d loses n 1 k e refl)
  second_kept _ loses s n e = refl

  pub constructors_same : Same d has_second_constructor
  constructors_same = by_kind d (λ k n. is_some (second_by k n)) second_kept
