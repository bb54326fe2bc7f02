-- In a tree that fits, and in which all that is TypeScript is types, it is clear what is declared, wherever names are looked for.
use Rattle.std.proofs.Common.{◌≡◌, ℕ, zero, suc, ◌+◌, ◌==◌, arith, Bool, true, false, ◌&&◌, ◌||◌, not, cond, List, [], ◌∷◌, map, length, replicate, Option, Some, None, refl, sym, ap, ◌∙◌, subst, slice_get}
use Rattle.std.proofs.lemmas.Bool.{eqb-true}
use Rattle.ecma_kind.specs.Sorts.{belongs, is_type_wrapper}
use Rattle.ecma_kind.specs.declared.kind.Kind.{Kind}
use Rattle.ecma_kind.specs.declared.kind.Kind.TheVariants as kind
use Rattle.ecma_kind.specs.declared.shapes.Shape.{Shape}
use Rattle.ecma_kind.specs.declared.shapes.Sort.TheVariants as sort
use Rattle.ecma_tree.specs.declared.node.Node.{Node, out-Node}
use Rattle.ecma_tree.specs.Laws.{HaveShapes}
use Rattle.ecma_tree.specs.Sorted.{HasShape, allows, child_shapes, is_list, item_shape, one}
use Rattle.ecma_fits.specs.declared.role.Role.{Role}
use Rattle.ecma_fits.specs.declared.unfit.Where.{Where}
use Rattle.ecma_fits.specs.Fitting.{first_unfit_in, is_misplaced, is_misshapen, is_unfit, breaks_rule, unfit_here, where_in}
use Rattle.ecma_fits.specs.Roles.{in_list, is_out_of_role, is_tagged, role_in}
use Rattle.ecma_fits.specs.Strays.{is_stray_target}
use Rattle.ecma_leaves.specs.Words.{is_spelled}
use Rattle.ecma_rules.specs.Failing.{failing_here, failing_step, least_from}
use Rattle.ecma_rules.specs.Members.{second_constructor}
use Rattle.ecma_scope.specs.declared.form.Part.{Part}
use Rattle.ecma_scope.specs.declared.form.Part.TheVariants as part
use Rattle.ecma_scope.specs.declared.form.Sought.{Sought}
use Rattle.ecma_scope.specs.Declarations.{in_default, in_item, in_member, in_name, in_scope, in_var, sought_by, sought_in}
use Rattle.ecma_strip.specs.Staying.{is_this_ident, is_this_param, stays}
use Rattle.ecma_strip.specs.Stripping.{stripped}
use Rattle.ecma_strip_runs.specs.UsualBodies.{declares_no_body, has_usual_bodies}
use Rattle.ecma_hygiene.proofs.Telling.{and-both, true-false}
use Rattle.ecma_hygiene_scopes.specs.DeclaredIds.{DeclaredId, ids_declared}
use Rattle.ecma_strip_scopes.specs.Standing.{bodies_stay, clear_at, clear_here, clear_in, clear_step, has_value, is_clear, is_none, same}
use Rattle.ecma_strip_scopes.proofs.Going.{is_named, parts-have}
use Rattle.ecma_strip_scopes.proofs.Seeking.{setter-seeks}
use Rattle.ecma_strip_scopes.proofs.Standing.{list-kind}
use Rattle.ecma_strip_fits.proofs.Walk.{each_none, neither_least}
use Rattle.ecma_sources.specs.TypesAlone.{adds_types_alone, is_lowered, is_receiver}
use Rattle.ecma_pipeline_runs.proofs.Expressions.{expression-item, expression-var, expressive, wrapper-expression}
use Rattle.ecma_pipeline_runs.proofs.Nodes.{StaysIn, alone-below, by-children, child-shape, in-no-list, neither, no-ambient-head, none-some, not-lowered, some-same, test-below, test-here}
use Rattle.ecma_strip_scopes.proofs.Wrapping.{takes_types}
use Rattle.ecma_pipeline_runs.proofs.Remaining.{children-remain, first_declared, holds_items, is_many, remains, remains_by, stays-remains}
use Rattle.ecma_pipeline_runs.proofs.Asking.{Asked, Got, Valued, declares-no-wrapper, default-got, got-some, is_default_export, item-got, list-declaring, name-got, scope-got, unassigned, var-got}
use Rattle.ecma_pipeline_runs.proofs.Strays.{child-other, is_spared, item-other}
use Rattle.ecma_pipeline_runs.proofs.Values.{bodies-stay, named-kept}
use Rattle.ecma_tree.proofs.Layers.{from_leaves_out}
use Rattle.ecma_tree.specs.Values.{is_value, is_value_where, value_by, values_in}
use Rattle.ecma_tree.proofs.Valuing.{is_value-out}

-- ---- a node that fits

not-failing : (b : Bool) (n : Node) → failing_here b n ≡ None → b ≡ false
not-failing true n h = absurd (cc)
not-failing false n h = refl

pub misplaced-none : (w : Where) (n : Node) → unfit_here w n ≡ None → is_misplaced w n ≡ false
unfolding is_unfit
misplaced-none w n h =
    let unfit = not-failing (is_unfit w n) n (neither_least (failing_here (is_unfit w n) n) (second_constructor n) h).0 in
    (neither (is_misplaced w n) (not (is_spelled (is_tagged w.role) (out-Node n).kind)) (neither (is_misshapen n) (is_misplaced w n || not (is_spelled (is_tagged w.role) (out-Node n).kind)) unfit).1).0

module _ (w : Where) (n : Node) (fits : first_unfit_in n w ≡ None) where
  told : (unfit_here w n ≡ None) × (least_from Where (where_in w n) 0 (map first_unfit_in (out-Node n).children) ≡ None)
  told =
      neither_least (unfit_here w n) (least_from Where (where_in w n) 0 (map first_unfit_in (out-Node n).children))
      (sym (ap (λ f. f w) (from_leaves_out (Where → Option ℕ) (failing_step Where unfit_here where_in) n)) ∙ fits)

  pub fits-here : is_misplaced w n ≡ false
  fits-here = misplaced-none w n told.0

  pub in-role : is_out_of_role w.role n ≡ false
  in-role = (neither (is_out_of_role w.role n) (is_stray_target w.role w.arguments n || breaks_rule w n) fits-here).0

  pub fits-below : (i : ℕ) (c : Node) → slice_get (out-Node n).children i ≡ Some c → first_unfit_in c (where_in w n i) ≡ None
  fits-below = each_none Where first_unfit_in (out-Node n).children (where_in w n) told.1

-- a node in its place in such a tree
pub record Stands (n : Node) (s : Shape) (w : Where) : Type 0 where
  pub has : HasShape s n
  pub fits : first_unfit_in n w ≡ None
  pub usual : has_usual_bodies n ≡ true
  pub alone : adds_types_alone n ≡ true

pub stands-below : (n : Node) (s : Shape) (w : Where) → Stands n s w → (i : ℕ) (c : Node) → slice_get (out-Node n).children i ≡ Some c → StaysIn (out-Node n).kind c
    → (o : Shape) × (slice_get (child_shapes (out-Node n).kind s (length (out-Node n).children)) i ≡ Some o) × Stands c o (where_in w n i)
stands-below n s w is i c at st =
    let shape = child-shape (child_shapes (out-Node n).kind s (length (out-Node n).children)) (out-Node n).children (parts-have n s is.has).1 i c at in
    (shape.0, shape.1, record { has = shape.2; fits = fits-below w n is.fits i c at; usual = test-below declares_no_body n is.usual i c at; alone = alone-below n is.alone i c at st })

-- ---- the children

abbrev pub Clears : Node → Type 0
Clears n = (s : Shape) (w : Where) (q : Sought) → Stands n s w → is_receiver n ≡ false → q.stays ≡ true → Asked q.part n s w.role → is_clear true n q ≡ true

-- of what is no list
clear-each : (into : ℕ → Option Sought) (i : ℕ) (cs : List Node) → ((j : ℕ) (c : Node) (q : Sought) → slice_get cs j ≡ Some c → into (i + j) ≡ Some q → (q.stays ≡ true) × (is_clear true c q ≡ true)) → clear_in true false into i cs (map (is_clear true) cs) ≡ true
clear-each into i [] each = refl
clear-each into i (c ∷ cs) each = and-both (clear_at (into i) (is_clear true c)) (clear_in true false into (suc i) cs (map (is_clear true) cs)) (by (into i) refl) (clear-each into (suc i) cs (λ j d q at h. each (suc j) d q at (ap into (shift i j) ∙ h)))
  where
    shift : (i j : ℕ) → i + suc j ≡ suc i + j
    shift i j = omega arith

    none : (i : ℕ) → i + 0 ≡ i
    none i = omega arith

    by : (o : Option Sought) → into i ≡ o → clear_at o (is_clear true c) ≡ true
    by None is = refl
    by (Some q) is = let h = each 0 c q refl (ap into (none i) ∙ is) in and-both q.stays (is_clear true c q) h.0 h.1

-- of a list
clear-items : (into : ℕ → Option Sought) (i : ℕ) (cs : List Node)
    → ((j : ℕ) (c : Node) → slice_get cs j ≡ Some c → (l : ℕ) (q : Sought) → stays c ≡ true → into l ≡ Some q → (q.stays ≡ true) × (is_clear true c q ≡ true)) → clear_in true true into i cs (map (is_clear true) cs) ≡ true
clear-items into i [] each = refl
clear-items into i (c ∷ cs) each =
    and-both (cond (not (stays c)) true (clear_at (into i) (is_clear true c))) (clear_in true true into (suc i) cs (map (is_clear true) cs)) (by (stays c) refl) (clear-items into (suc i) cs (λ j d at. each (suc j) d at))
  where
    at : (o : Option Sought) → stays c ≡ true → into i ≡ o → clear_at o (is_clear true c) ≡ true
    at None st is = refl
    at (Some q) st is = let h = each 0 c refl i q st is in and-both q.stays (is_clear true c q) h.0 h.1

    by : (b : Bool) → stays c ≡ b → cond (not b) true (clear_at (into i) (is_clear true c)) ≡ true
    by true st = at (into i) st refl
    by false st = refl

-- ---- a node

chosen : (t a b : Bool) → (t ≡ true → a ≡ true) → (t ≡ false → b ≡ true) → cond t a b ≡ true
chosen true a b h g = h refl
chosen false a b h g = g refl

none-of : (ds : List DeclaredId) → ds ≡ [] → is_none ds ≡ true
none-of ds h = ap is_none h

same-of : (a b : Bool) → a ≡ b → same a b ≡ true
same-of true b h = sym h
same-of false b h = ap not (sym h)

implied : (a b : Bool) → (a ≡ true → b ≡ true) → (not a || b) ≡ true
implied true b h = h refl
implied false b h = refl

valued-named : (k : Kind) → is_lowered k ≡ false → has_value k ≡ true → is_named k ≡ true
valued-named (kind.FnDecl d) l h = refl
valued-named kind.FnExpr l h = refl
valued-named (kind.TsModuleDecl d g) l h = absurd (true-false refl l)
valued-named (kind.TsNamespaceDecl d g) l h = absurd (true-false refl l)
valued-named _ l h = absurd (true-false h refl)

default-unwrapped : (k : Kind) → belongs sort.DefaultDecl k ≡ true → is_type_wrapper k ≡ false
default-unwrapped kind.ClassExpr h = refl
default-unwrapped kind.FnExpr h = refl
default-unwrapped (kind.TsInterfaceDecl d) h = refl
default-unwrapped _ h = absurd (true-false h refl)

-- what is exported as the default
pub default-child : (k : Kind) (cs : List Node) (s : Shape) (m : ℕ) → is_default_export k ≡ true → HaveShapes (child_shapes k s m) cs → remains_by k (value_by k (values_in true k cs)) (first_declared cs) ≡ true
    → (i : ℕ) (c : Node) → slice_get cs i ≡ Some c → (belongs sort.DefaultDecl (out-Node c).kind ≡ true) × (is_value c ≡ true)
unfolding value_by
default-child kind.ExportDefaultDecl (x ∷ []) s m e have h zero c at =
    let same : x ≡ c = some-same at in (ap (λ (z : Node). belongs sort.DefaultDecl (out-Node z).kind) (sym same) ∙ (parts-have x (one sort.DefaultDecl) have.0).0, ap is_value (sym same) ∙ h)
default-child kind.ExportDefaultDecl (x ∷ []) s m e have h (suc i) c at = none-some at
default-child kind.ExportDefaultDecl [] s m e have h i c at = none-some at
default-child kind.ExportDefaultDecl (x ∷ y ∷ cs) s m e have h i c at = absurd have.1
default-child _ cs s m e have h i c at = absurd (true-false e refl)

module _ (n : Node) (s : Shape) (w : Where) (is : Stands n s w) where
  abbrev k : Kind
  k = (out-Node n).kind

  abbrev cs : List Node
  cs = (out-Node n).children

  abbrev m : ℕ
  m = length cs

  have : HaveShapes (child_shapes k s m) cs
  have = (parts-have n s is.has).1

  valued : Valued k (is_value n) (is_value n)
  valued = λ named. refl

  by-parts : remains n ≡ true → remains_by k (value_by k (values_in true k cs)) (first_declared cs) ≡ true
  by-parts h = ap (λ (v : Bool). remains_by k v (first_declared cs)) (sym (is_value-out n)) ∙ h

  remain : remains n ≡ true → holds_items k ≡ true → (i : ℕ) (c : Node) → slice_get cs i ≡ Some c → remains c ≡ true
  remain h p = children-remain k cs s m p have (test-here declares_no_body n is.usual) (no-ambient-head n is.alone) (by-parts h)

  -- what is looked for in a child of what is no list
  got-by : (p : Part) → is_list k ≡ false → Asked p n s w.role → (i : ℕ) (c : Node) (o : Shape) (q : Sought) → slice_get cs i ≡ Some c → HasShape o c → slice_get (child_shapes k s m) i ≡ Some o
      → sought_by p true (is_value n) k i ≡ Some q → Got c o (role_in w.role k i) q
  got-by part.Scope l asked i c o q there has at h =
      scope-got k (is_value n) (is_value n) (first_declared cs) s m w.role i c o q (not-lowered n is.alone) (λ r p. remain r p i c there) at h
  got-by part.Item l asked i c o q there has at h =
      item-got k (is_value n) (is_value n) (first_declared cs) s m w.role i c o q l (not-lowered n is.alone) valued asked (λ p. remain asked p i c there) (λ e. default-child k cs s m e have (by-parts asked) i c there) at h
  got-by part.Default l asked i c o q there has at h = default-got k (is_value n) (is_value n) s m w.role i c o q valued asked.1 at h
  got-by part.Member l asked i c o q there has at h = absurd asked
  got-by part.Var l asked i c o q there has at h = var-got k (is_value n) (first_declared cs) s m w.role i c o q l asked (λ p. remain asked p i c there) at h
  got-by (part.Name f) l asked i c o q there has at h = name-got f k s m w.role i c o q l (unassigned (is_many s.count) (takes_types s.sort) w.role asked) at h

  -- what is looked for in an item of a list
  list-got : (p : Part) → allows s kind.List ≡ true → Asked p n s w.role → (l : ℕ) (c : Node) (q : Sought) → stays c ≡ true → sought_by p true (is_value n) kind.List l ≡ Some q → Got c (item_shape s) (in_list w.role) q
  unfolding in_scope in_item in_default in_member in_var in_name
  list-got part.Scope a asked l c q st h = none-some h
  list-got part.Default a asked l c q st h = none-some h
  list-got part.Member a asked l c q st h = absurd asked
  list-got part.Item a asked l c q st h = got-some c (item_shape s) (in_list w.role) part.Item true q refl (stays-remains c st) h
  list-got part.Var a asked l c q st h = got-some c (item_shape s) (in_list w.role) part.Var true q refl (stays-remains c st) h
  list-got (part.Name f) a asked l c q st h = got-some c (item_shape s) (in_list w.role) (part.Name f) true q refl (list-declaring s w.role a asked) h

  wrapped-by : (p : Part) (st : Bool) → st ≡ true → Asked p n s w.role → is_type_wrapper k ≡ true → is_none (ids_declared (stripped n) (record { part = p; stays = st })) ≡ true
  wrapped-by (part.Name f) st stay asked wrap = absurd (declares-no-wrapper n s w.role is.has asked (in-role w n is.fits) wrap)
  wrapped-by part.Item true stay asked wrap = none-of _ (expression-item (stripped n) (expressive n s is.has (wrapper-expression k wrap)))
  wrapped-by part.Var true stay asked wrap = none-of _ (expression-var (stripped n) (expressive n s is.has (wrapper-expression k wrap)))
  wrapped-by part.Item false stay asked wrap = absurd (true-false stay refl)
  wrapped-by part.Var false stay asked wrap = absurd (true-false stay refl)
  wrapped-by part.Default st stay asked wrap = absurd (true-false wrap (default-unwrapped k asked.0))
  wrapped-by part.Scope st stay asked wrap = absurd (true-false wrap asked)
  wrapped-by part.Member st stay asked wrap = absurd asked

  clear-kind : (q : Sought) → q.stays ≡ true → Asked q.part n s w.role
      → cond (is_type_wrapper k) (is_none (ids_declared (stripped n) q)) ((not (has_value k) || same (is_value (stripped n)) (is_value n)) && bodies_stay k (map stripped cs)) ≡ true
  clear-kind q stay asked =
      chosen (is_type_wrapper k) (is_none (ids_declared (stripped n) q)) ((not (has_value k) || same (is_value (stripped n)) (is_value n)) && bodies_stay k (map stripped cs)) (wrapped-by q.part q.stays stay asked)
      (λ other. and-both (not (has_value k) || same (is_value (stripped n)) (is_value n)) (bodies_stay k (map stripped cs))
      (implied (has_value k) (same (is_value (stripped n)) (is_value n)) (λ v. same-of (is_value (stripped n)) (is_value n) (named-kept n s is.has (valued-named k (not-lowered n is.alone) v))))
      (bodies-stay k cs s have (test-here declares_no_body n is.usual)))

  here : (q : Sought) → is_receiver n ≡ false → q.stays ≡ true → Asked q.part n s w.role → clear_here true n q ≡ true
  here q free stay asked =
      and-both (not (is_this_ident k)) (cond (is_type_wrapper k) (is_none (ids_declared (stripped n) q)) ((not (has_value k) || same (is_value (stripped n)) (is_value n)) && bodies_stay k (map stripped cs)))
      (ap not (neither (is_this_ident k) (is_this_param n) free).0) (clear-kind q stay asked)

front : (j : ℕ) → j ≡ 0 + j
front j = omega arith

layer-clears : (n : Node) → ((i : ℕ) (c : Node) → slice_get (out-Node n).children i ≡ Some c → Clears c) → Clears n
unfolding sought_in role_in
layer-clears n below s w q is free stay asked =
    ap (λ f. f q) (from_leaves_out (Sought → Bool) (clear_step true) n)
    ∙ and-both (clear_here true n q) (clear_in true (is_list (out-Node n).kind) (sought_in q n) 0 (out-Node n).children (map (is_clear true) (out-Node n).children)) (here n s w is q free stay asked) (by (is_list (out-Node n).kind) refl)
  where
    -- nothing is looked for in the `this` of a setter
    unspared : (j : ℕ) (p : Sought) → sought_in q n j ≡ Some p → is_spared (out-Node n).kind j ≡ false
    unspared j p h = by (out-Node n).kind refl (j == 1) refl
      where
        by : (k : Kind) → (out-Node n).kind ≡ k → (b : Bool) → (j == 1) ≡ b → is_spared k j ≡ false
        by kind.SetterProp e false is = is
        by kind.SetterProp e true is =
            none-some (sym (ap (λ (z : Kind). sought_by q.part q.stays (is_value_where q.stays n) z 1) e ∙ setter-seeks q.part q.stays (is_value_where q.stays n)) ∙ sym (ap (sought_in q n) (eqb-true j 1 is)) ∙ h)
        by k e b is = refl

    true-stays : (i : ℕ) (o : Option Sought) → sought_in q n i ≡ o → sought_by q.part true (is_value n) (out-Node n).kind i ≡ o
    true-stays i o h = ap (λ (b : Bool). sought_by q.part b (is_value_where b n) (out-Node n).kind i) (sym stay) ∙ h

    by : (b : Bool) → is_list (out-Node n).kind ≡ b → clear_in true b (sought_in q n) 0 (out-Node n).children (map (is_clear true) (out-Node n).children) ≡ true
    by false l =
        clear-each (sought_in q n) 0 (out-Node n).children (λ j c p at h. (
        let t = stands-below n s w is j c at (in-no-list (out-Node n).kind c l) in
        let found = ap (sought_in q n) (front j) ∙ h in
        let g = got-by n s w is q.part l asked j c t.0 p at t.2.has t.1 (true-stays j (Some p) found) in
        (g.0, below j c at t.0 (where_in w n j) p t.2 (child-other n s is.has is.alone free l j c at (unspared j p found)) g.0 g.1)))
    by true l =
        let e : (out-Node n).kind ≡ kind.List = list-kind (out-Node n).kind l in
        clear-items (sought_in q n) 0 (out-Node n).children (λ j c at i p st h. (
        let g = list-got n s w is q.part (ap (allows s) (sym e) ∙ (parts-have n s is.has).0) asked i c p st (ap (λ (z : Kind). sought_by q.part true (is_value n) z i) (sym e) ∙ true-stays i (Some p) h) in
        (g.0, below j c at (item_shape s) (where_in w n j) p (item-stands e j c at st) (item-other n is.alone l j c at st) g.0 (subst (λ (r : Role). Asked p.part c (item_shape s) r) (ap (λ (z : Kind). role_in w.role z j) (sym e)) g.1))))
      where
        item-at : (count i : ℕ) (o : Shape) → slice_get (replicate count (item_shape s)) i ≡ Some o → o ≡ item_shape s
        item-at zero i o at = none-some at
        item-at (suc count) zero o at = sym (some-same at)
        item-at (suc count) (suc i) o at = item-at count i o at

        item-stands : (out-Node n).kind ≡ kind.List → (j : ℕ) (c : Node) → slice_get (out-Node n).children j ≡ Some c → stays c ≡ true → Stands c (item_shape s) (where_in w n j)
        item-stands e j c at st =
            let t = stands-below n s w is j c at (λ listed. st) in
            subst (λ (o : Shape). Stands c o (where_in w n j)) (item-at (length (out-Node n).children) j t.0 (ap (λ (z : Kind). slice_get (child_shapes z s (length (out-Node n).children)) j) (sym e) ∙ t.1)) t.2

pub clears : (n : Node) → Clears n
clears = by-children Clears layer-clears
