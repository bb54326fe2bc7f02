-- A tree that fits is a module by its sorts without its types.
use Rattle.std.proofs.Common.{◌≡◌, ◌∙◌, ℕ, zero, suc, Bool, true, false, not, ◌&&◌, ◌||◌, cond, List, [], ◌∷◌, map, length, replicate, Option, Some, None, refl, sym, ap, ap₂, subst, slice_get}
use Rattle.std.proofs.lemmas.List.{length-map}
use Rattle.ecma_kind.specs.Sorts.{belongs, is_assign_target_pat, is_pattern, is_simple_assign_target, is_type_wrapper}
use Rattle.ecma_kind.specs.declared.kind.Kind.{Kind}
use Rattle.ecma_kind.specs.declared.kind.Kind.TheVariants as kind
use Rattle.ecma_kind.specs.declared.operators.AssignOp.{AssignOp}
use Rattle.ecma_kind.specs.declared.shapes.Count.{Count}
use Rattle.ecma_kind.specs.declared.shapes.Count.TheVariants.{One, Maybe, Many, MaybeMany, Holes}
use Rattle.ecma_kind.specs.declared.shapes.Shape.{Shape}
use Rattle.ecma_kind.specs.declared.shapes.Sort.{Sort}
use Rattle.ecma_kind.specs.declared.shapes.Sort.TheVariants as sort
use Rattle.ecma_tree.specs.declared.node.Node.{Node, Node-F, fold_out-Node, ind-Node, roll-Node}
use Rattle.ecma_tree.specs.declared.node.Node.TheViews.{out-roll-Node}
use Rattle.ecma_tree.specs.Laws.{HaveShapes}
use Rattle.ecma_tree.specs.Sorted.{HasShape, all_have_shapes, allows, allows_by, child_shapes, is_absent, item_shape, one}
use Rattle.ecma_rules.specs.Children.{kind_of}
use Rattle.ecma_rules.specs.Failing.{failing_step, least_from}
use Rattle.ecma_rules.specs.Targets.{first_is, is_plain, is_plain_target, is_simple_target, is_wrapper}
use Rattle.ecma_strip.specs.Laws.{HasSortUnderTypes, first_has, has_shape_under_types, shape_under_types_by}
use Rattle.ecma_strip.proofs.Sorting.{sorts_are_kept}
use Rattle.ecma_fits.specs.declared.role.Role.{Role}
use Rattle.ecma_fits.specs.declared.role.Role.TheVariants as role
use Rattle.ecma_fits.specs.declared.unfit.Where.{Where}
use Rattle.ecma_fits.specs.Fitting.{Fits, at_top, first_unfit_in, unfit_here, where_in}
use Rattle.ecma_fits.specs.Roles.{is_out_of_role, is_wrong_name, left_of, may_be, role_in, takes}
use Rattle.ecma_strip_fits.specs.Laws.{StrippingKeepsSorts}
use Rattle.ecma_strip_fits.proofs.Classes.{Class, class_of, wrapped_front}
use Rattle.ecma_strip_fits.proofs.Classes.Class.{Listed, Wrapped}
use Rattle.ecma_strip_fits.proofs.Ruled.{left_expression, must_take, simple-out, simple_under, wrapped_expression, wrapped_no_list, wrapped_there}
use Rattle.ecma_strip_fits.proofs.RulesKept.{in_role}
use Rattle.ecma_strip_fits.proofs.Walk.{NoneTells, children_of, each_none, neither_least, shape_parts}
use Rattle.ecma_tree.proofs.Layers.{from_leaves_out}
use Rattle.ecma_fits.proofs.Clauses.{none_unfit}

some_same : {X : Type 0} {x y : X} → Some x ≡ Some y → x ≡ y
some_same e = cc

-- ---- sorts that expressions have

-- what is assigned to
abbrev is_target_sort : Sort → Bool
is_target_sort sort.AssignTarget = true
is_target_sort sort.SimpleAssignTarget = true
is_target_sort _ = false

-- any expression
abbrev is_wide : Sort → Bool
is_wide sort.Expr = true
is_wide sort.Pat = true
is_wide sort.Callee = true
is_wide sort.ExprOrSpread = true
is_wide sort.BlockStmtOrExpr = true
is_wide sort.VarDeclOrExpr = true
is_wide sort.ForHead = true
is_wide _ = false

wide : (σ : Sort) → is_wide σ ≡ true → (k : Kind) → belongs sort.Expr k ≡ true → belongs σ k ≡ true
wide sort.Expr w k b = b
wide sort.Pat w k b = ap (λ x. x || is_pattern k) b
wide sort.Callee w kind.Super b = refl
wide sort.Callee w kind.Import b = refl
wide sort.Callee w _ b = b
wide sort.ExprOrSpread w kind.SpreadElement b = refl
wide sort.ExprOrSpread w _ b = b
wide sort.BlockStmtOrExpr w kind.BlockStmt b = refl
wide sort.BlockStmtOrExpr w _ b = b
wide sort.VarDeclOrExpr w (kind.VarDecl k declare) b = refl
wide sort.VarDeclOrExpr w _ b = b
wide sort.ForHead w (kind.VarDecl k declare) b = refl
wide sort.ForHead w kind.BindingIdent b = cc
wide sort.ForHead w _ b = cc
wide _ w k b = cc

-- no other sort has an expression with a type round it
narrow : (σ : Sort) → is_wide σ ≡ false → is_target_sort σ ≡ false → (k : Kind) → class_of k ≡ Wrapped → belongs σ k ≡ true → ⊥
unfolding class_of
narrow σ w t kind.TsTypeAssertion c b = by σ w t b
  where
    by : (σ : Sort) → is_wide σ ≡ false → is_target_sort σ ≡ false → belongs σ kind.TsTypeAssertion ≡ true → ⊥
    by sort.Program w t b = cc
    by _ w t b = cc
narrow σ w t kind.TsConstAssertion c b = by σ w t b
  where
    by : (σ : Sort) → is_wide σ ≡ false → is_target_sort σ ≡ false → belongs σ kind.TsConstAssertion ≡ true → ⊥
    by sort.Program w t b = cc
    by _ w t b = cc
narrow σ w t kind.TsNonNullExpr c b = by σ w t b
  where
    by : (σ : Sort) → is_wide σ ≡ false → is_target_sort σ ≡ false → belongs σ kind.TsNonNullExpr ≡ true → ⊥
    by sort.Program w t b = cc
    by _ w t b = cc
narrow σ w t kind.TsAsExpr c b = by σ w t b
  where
    by : (σ : Sort) → is_wide σ ≡ false → is_target_sort σ ≡ false → belongs σ kind.TsAsExpr ≡ true → ⊥
    by sort.Program w t b = cc
    by _ w t b = cc
narrow σ w t kind.TsInstantiation c b = by σ w t b
  where
    by : (σ : Sort) → is_wide σ ≡ false → is_target_sort σ ≡ false → belongs σ kind.TsInstantiation ≡ true → ⊥
    by sort.Program w t b = cc
    by _ w t b = cc
narrow σ w t kind.TsSatisfiesExpr c b = by σ w t b
  where
    by : (σ : Sort) → is_wide σ ≡ false → is_target_sort σ ≡ false → belongs σ kind.TsSatisfiesExpr ≡ true → ⊥
    by sort.Program w t b = cc
    by _ w t b = cc
narrow σ w t _ c b = cc

simple_kind : (k : Kind) (c : Bool) → (is_plain_target k || (is_wrapper k && c)) ≡ true → is_simple_assign_target k ≡ true
simple_kind (kind.Ident text ctxt optional) c h = refl
simple_kind kind.MemberExpr c h = refl
simple_kind kind.SuperPropExpr c h = refl
simple_kind kind.ParenExpr c h = refl
simple_kind kind.TsTypeAssertion c h = refl
simple_kind kind.TsConstAssertion c h = refl
simple_kind kind.TsNonNullExpr c h = refl
simple_kind kind.TsAsExpr c h = refl
simple_kind kind.TsInstantiation c h = refl
simple_kind kind.TsSatisfiesExpr c h = refl
simple_kind _ c h = cc

target_kind : (σ : Sort) → is_target_sort σ ≡ true → (n : Node) → is_simple_target n ≡ true → belongs σ (kind_of n) ≡ true
target_kind sort.SimpleAssignTarget t n h = simple_kind (kind_of n) (first_is (map is_simple_target (children_of n))) (sym (simple-out n) ∙ h)
target_kind sort.AssignTarget t n h = ap (λ x. x || is_assign_target_pat (kind_of n)) (simple_kind (kind_of n) (first_is (map is_simple_target (children_of n))) (sym (simple-out n) ∙ h))
target_kind _ t n h = cc

-- where an expression with a type round it may stand, the expression may, as far as it is a target where it has to be
sort_under : (σ : Sort) (k : Kind) → class_of k ≡ Wrapped → belongs σ k ≡ true → (e : Node) → belongs sort.Expr (kind_of e) ≡ true → (is_target_sort σ ≡ true → is_simple_target e ≡ true) → belongs σ (kind_of e) ≡ true
sort_under σ k c b e x simple = by (is_target_sort σ) refl
  where
    broad : (w : Bool) → is_wide σ ≡ w → is_target_sort σ ≡ false → belongs σ (kind_of e) ≡ true
    broad true w t = wide σ w (kind_of e) x
    broad false w t = absurd (narrow σ w t k c b)

    by : (t : Bool) → is_target_sort σ ≡ t → belongs σ (kind_of e) ≡ true
    by true t = target_kind σ t e (simple t)
    by false t = broad (is_wide σ) refl t

allow_under : (c : Count) (σ : Sort) (k : Kind) → class_of k ≡ Wrapped → allows_by c σ k ≡ true → (e : Node) → belongs sort.Expr (kind_of e) ≡ true → (is_target_sort σ ≡ true → is_simple_target e ≡ true) → allows_by c σ (kind_of e) ≡ true
allow_under One σ k w a e x simple = sort_under σ k w a e x simple
allow_under Maybe σ k w a e x simple = or_true (is_absent (kind_of e)) (sort_under σ k w (sym (ap (λ z. z || belongs σ k) (wrapped_there k w)) ∙ a) e x simple)
  where
    or_true : (a : Bool) {b : Bool} → b ≡ true → (a || b) ≡ true
    or_true true h = refl
    or_true false h = h
allow_under Many σ k w a e x simple = let clash : false ≡ true = sym (wrapped_no_list k w) ∙ a in cc
allow_under MaybeMany σ k w a e x simple = let clash : false ≡ true = sym (ap₂ (λ y z. y || z) (wrapped_there k w) (wrapped_no_list k w)) ∙ a in cc
allow_under Holes σ k w a e x simple = let clash : false ≡ true = sym (wrapped_no_list k w) ∙ a in cc

-- an expression asks the same of its children, whatever is asked of it
asked_same : (k : Kind) → belongs sort.Expr k ≡ true → (s t : Shape) (n : ℕ) → child_shapes k s n ≡ child_shapes k t n
asked_same kind.List b s t n = cc
asked_same kind.SeqExpr b s t zero = refl
asked_same kind.SeqExpr b s t (suc n) = refl
asked_same _ b s t n = refl

-- ---- where a target stands

abbrev is_assignment : Kind → Bool
is_assignment (kind.AssignExpr op) = true
is_assignment _ = false

other_child : (k : Kind) (s : Shape) (m : ℕ) (i : ℕ) (o : Shape) → class_of k ≡ Listed → slice_get (child_shapes k s m) i ≡ Some o → o ≡ item_shape s
unfolding class_of
other_child kind.List s m i o l at = item m i at
  where
    item : (m i : ℕ) → slice_get (replicate m (item_shape s)) i ≡ Some o → o ≡ item_shape s
    item zero i at = cc
    item (suc m) zero at = sym (some_same at)
    item (suc m) (suc i) at = item m i at
other_child _ s m i o l at = cc

-- no sort of what is assigned to
is_other : Shape → Bool
is_other o = not (is_target_sort o.sort)

all_other : List Shape → Bool
all_other [] = true
all_other (o ∷ os) = is_other o && all_other os

others_at : (os : List Shape) (i : ℕ) (o : Shape) → all_other os ≡ true → slice_get os i ≡ Some o → is_target_sort o.sort ≡ true → ⊥
unfolding all_other is_other
others_at [] i o a at t = cc
others_at (x ∷ xs) zero o a at t = let same : x ≡ o = some_same at in let h : is_target_sort x.sort ≡ true = ap (λ z. is_target_sort z.sort) same ∙ t in by (is_target_sort x.sort) h a
  where
    by : (b : Bool) → b ≡ true → (not b && all_other xs) ≡ true → ⊥
    by true h a = cc
    by false h a = cc
others_at (x ∷ xs) (suc i) o a at t = others_at xs i o (by (is_target_sort x.sort) a) at t
  where
    by : (b : Bool) → (not b && all_other xs) ≡ true → all_other xs ≡ true
    by true a = cc
    by false a = a

replicate_other : (n : ℕ) → all_other (replicate n (one sort.Expr)) ≡ true
unfolding all_other is_other
replicate_other zero = refl
replicate_other (suc n) = replicate_other n

others : (k : Kind) (s : Shape) (m : ℕ) → (class_of k ≡ Listed → ⊥) → is_assignment k ≡ false → all_other (child_shapes k s m) ≡ true
unfolding class_of all_other is_other
others kind.List s m l a = absurd (l refl)
others (kind.AssignExpr op) s m l a = cc
others kind.SeqExpr s zero l a = refl
others kind.SeqExpr s (suc n) l a = replicate_other n
others _ s m l a = refl

out_of_it : (b : Bool) (k : Kind) → belongs sort.Expr k ≡ true → may_be (cond b role.Left role.Simple) k ≡ false
unfolding may_be
out_of_it true k x = left_expression role.Left refl k x
out_of_it false k x = refl

assigned_simple : (op : AssignOp) (c : Node) → is_out_of_role (left_of op) c ≡ false → class_of (kind_of c) ≡ Wrapped → is_simple_target c ≡ true
assigned_simple op c fits w =
    must_take (is_wrong_name (left_of op) (kind_of c)) (may_be (left_of op) (kind_of c)) (takes (left_of op) (kind_of c)) (is_simple_target c) fits
    (out_of_it (is_plain op) (kind_of c) (wrapped_expression (kind_of c) w))

-- the left of an assignment
left_role : (r : Role) (op : AssignOp) (s : Shape) (m i : ℕ) (o : Shape) → slice_get (child_shapes (kind.AssignExpr op) s m) i ≡ Some o → is_target_sort o.sort ≡ true → (role_in r (kind.AssignExpr op) i ≡ left_of op) × (one sort.AssignTarget ≡ o)
unfolding role_in
left_role r op s m zero o at t = (refl, some_same at)
left_role r op s m (suc zero) o at t = let same : one sort.Expr ≡ o = some_same at in let clash : false ≡ true = ap (λ z. is_target_sort z.sort) same ∙ t in absurd (cc)
left_role r op s m (suc (suc i)) o at t = absurd (cc)

no_target_list : (k : Kind) → class_of k ≡ Listed → allows (one sort.AssignTarget) k ≡ true → ⊥
unfolding class_of
no_target_list kind.List l a = cc
no_target_list _ l a = cc

-- what is a target where it has to be
abbrev Sound : Node → Shape → Type 0
Sound n s = is_target_sort s.sort ≡ true → (class_of (kind_of n) ≡ Wrapped → is_simple_target n ≡ true) × (class_of (kind_of n) ≡ Listed → ⊥)

sound_child : (n : Node) (s : Shape) (w : Where) → Sound n s → (c : Node) (o : Shape) (i : ℕ) → slice_get (child_shapes (kind_of n) s (length (children_of n))) i ≡ Some o → HasShape o c → is_out_of_role (role_in w.role (kind_of n) i) c ≡ false → Sound c o
sound_child n s w sound c o i at has fits t = by (kind_of n) refl
  where
    listed : (k : Kind) → kind_of n ≡ k → (b : Bool) → is_assignment k ≡ b → (class_of (kind_of c) ≡ Wrapped → is_simple_target c ≡ true) × (class_of (kind_of c) ≡ Listed → ⊥)
    listed (kind.AssignExpr op) e b a =
        let l = left_role w.role op s (length (children_of n)) i o (ap (λ k. slice_get (child_shapes k s (length (children_of n))) i) (sym e) ∙ at) t in (
          (λ x. assigned_simple op c (ap (λ z. is_out_of_role z c) (sym (ap (λ k. role_in w.role k i) e ∙ l.0)) ∙ fits) x),
          (λ x. no_target_list (kind_of c) x (subst (λ z. allows z (kind_of c) ≡ true) (sym l.1) (shape_parts c o has).0)),
        )
    listed k e true a = absurd (cc)
    listed k e false a = absurd (others_at (child_shapes (kind_of n) s (length (children_of n))) i o (others (kind_of n) s (length (children_of n)) (λ l. (sound (subst (λ z. is_target_sort z.sort ≡ true) (other_child (kind_of n) s (length (children_of n)) i o l at) t)).1 l) (ap is_assignment e ∙ a)) at t)

    by : (k : Kind) → kind_of n ≡ k → (class_of (kind_of c) ≡ Wrapped → is_simple_target c ≡ true) × (class_of (kind_of c) ≡ Listed → ⊥)
    by k e = listed k e (is_assignment k) refl

-- ---- shapes under types

wrapper_true : (k : Kind) → class_of k ≡ Wrapped → is_type_wrapper k ≡ true
unfolding class_of
wrapper_true kind.TsTypeAssertion w = refl
wrapper_true kind.TsConstAssertion w = refl
wrapper_true kind.TsNonNullExpr w = refl
wrapper_true kind.TsAsExpr w = refl
wrapper_true kind.TsInstantiation w = refl
wrapper_true kind.TsSatisfiesExpr w = refl
wrapper_true _ w = cc

wrapper_false : (k : Kind) → (class_of k ≡ Wrapped → ⊥) → is_type_wrapper k ≡ false
unfolding class_of
wrapper_false kind.TsTypeAssertion f = absurd (f refl)
wrapper_false kind.TsConstAssertion f = absurd (f refl)
wrapper_false kind.TsNonNullExpr f = absurd (f refl)
wrapper_false kind.TsAsExpr f = absurd (f refl)
wrapper_false kind.TsInstantiation f = absurd (f refl)
wrapper_false kind.TsSatisfiesExpr f = absurd (f refl)
wrapper_false _ f = refl

abbrev is_wrapped : Class → Bool
is_wrapped Wrapped = true
is_wrapped _ = false

wrapped_is : (c : Class) → is_wrapped c ≡ true → c ≡ Wrapped
wrapped_is Wrapped e = refl
wrapped_is _ e = cc

unwrapped : (c : Class) → is_wrapped c ≡ false → c ≡ Wrapped → ⊥
unwrapped Wrapped e f = cc
unwrapped _ e f = cc

abbrev under : Node → Shape → Bool
under = has_shape_under_types

under-out : (n : Node) (s : Shape) → under n s
    ≡ cond (is_type_wrapper (kind_of n)) (allows s (kind_of n) && first_has (map under (children_of n)) s) (allows s (kind_of n) && all_have_shapes (child_shapes (kind_of n) s (length (children_of n))) (map under (children_of n)))
under-out n s =
    ap (λ f. f s) (fold_out-Node (Shape → Bool) shape_under_types_by n)
    ∙ ap (λ m. cond (is_type_wrapper (kind_of n)) (allows s (kind_of n) && first_has (map under (children_of n)) s) (allows s (kind_of n) && all_have_shapes (child_shapes (kind_of n) s m) (map under (children_of n)))) (length-map (children_of n) under)

all_from : (os : List Shape) (cs : List Node) → HaveShapes os cs → ((i : ℕ) (c : Node) (o : Shape) → slice_get cs i ≡ Some c → slice_get os i ≡ Some o → HasShape o c → under c o ≡ true) → all_have_shapes os (map under cs) ≡ true
all_from [] [] h each = refl
all_from [] (c ∷ cs) h each = absurd h
all_from (o ∷ os) [] h each = absurd h
all_from (o ∷ os) (c ∷ cs) h each = ap₂ (λ a b. a && b) (each 0 c o refl refl h.0) (all_from os cs h.1 (λ i d p at there has. each (suc i) d p at there has))

no_expression_list : (k : Kind) → belongs sort.Expr k ≡ true → class_of k ≡ Listed → ⊥
unfolding class_of
no_expression_list kind.List b l = cc
no_expression_list _ b l = cc

abbrev Right : Node → Type 0
Right n = (t s : Shape) (w : Where) → HasShape t n → allows s (kind_of n) ≡ true → (child_shapes (kind_of n) s (length (children_of n)) ≡ child_shapes (kind_of n) t (length (children_of n))) → Sound n s → first_unfit_in n w ≡ None → under n s ≡ true

node_right : (n : Node) → ((i : ℕ) (c : Node) → slice_get (children_of n) i ≡ Some c → Right c) → Right n
node_right n below t s w h a asked sound none = by (is_wrapped (class_of (kind_of n))) refl
  where
    told : (unfit_here w n ≡ None) × (least_from Where (where_in w n) 0 (map first_unfit_in (children_of n)) ≡ None)
    told = neither_least (unfit_here w n) (least_from Where (where_in w n) 0 (map first_unfit_in (children_of n))) (sym (ap (λ f. f w) (from_leaves_out (Where → Option ℕ) (failing_step Where unfit_here where_in) n)) ∙ none)

    each : NoneTells Where first_unfit_in (where_in w n) (children_of n)
    each = each_none Where first_unfit_in (children_of n) (where_in w n) told.1

    here_of : (c : Node) (v : Where) → first_unfit_in c v ≡ None → unfit_here v c ≡ None
    here_of c v e = (neither_least (unfit_here v c) (least_from Where (where_in v c) 0 (map first_unfit_in (children_of c))) (sym (ap (λ f. f v) (from_leaves_out (Where → Option ℕ) (failing_step Where unfit_here where_in) c)) ∙ e)).0

    by : (b : Bool) → is_wrapped (class_of (kind_of n)) ≡ b → under n s ≡ true
    by true e =
        let c = wrapped_is (class_of (kind_of n)) e in
        let front = wrapped_front (kind_of n) t (length (children_of n)) (children_of n) c (shape_parts n t h).1 in
        let is : children_of n ≡ front.0 ∷ front.1 = front.2 in
        let at : slice_get (children_of n) 0 ≡ Some front.0 = ap (λ (z : List Node). slice_get z 0) is in
        let x = (shape_parts front.0 (one sort.Expr) front.3).0 in
        let simple : is_target_sort s.sort ≡ true → is_simple_target front.0 ≡ true = λ g. simple_under n front.0 c at ((sound g).0 c) in
        let inner : under front.0 s ≡ true =
        below 0 front.0 at (one sort.Expr) s (where_in w n 0) front.3 (allow_under s.count s.sort (kind_of n) c a front.0 x simple) (asked_same (kind_of front.0) x s (one sort.Expr) (length (children_of front.0)))
        (λ g. ((λ y. simple g), no_expression_list (kind_of front.0) x)) (each 0 front.0 at) in
        under-out n s
        ∙ ap (λ z. cond z (allows s (kind_of n) && first_has (map under (children_of n)) s) (allows s (kind_of n) && all_have_shapes (child_shapes (kind_of n) s (length (children_of n))) (map under (children_of n)))) (wrapper_true (kind_of n) c)
        ∙ ap₂ (λ y z. y && z) a (ap (λ (z : List Node). first_has (map under z) s) is ∙ inner)
    by false e =
        under-out n s
        ∙ ap (λ z. cond z (allows s (kind_of n) && first_has (map under (children_of n)) s) (allows s (kind_of n) && all_have_shapes (child_shapes (kind_of n) s (length (children_of n))) (map under (children_of n)))) (wrapper_false (kind_of n) (unwrapped (class_of (kind_of n)) e))
        ∙ ap₂ (λ y z. y && z) a
        (all_from (child_shapes (kind_of n) s (length (children_of n))) (children_of n) (subst (λ os. HaveShapes os (children_of n)) (sym asked) (shape_parts n t h).1) (λ i c o at there has.
        below i c at o o (where_in w n i) has (shape_parts c o has).0 refl (sound_child n s w sound c o i there has (in_role (where_in w n i) c (here_of c (where_in w n i) (each i c at)))) (each i c at)))

each_right : (es : List ((n : Node) × Right n)) (i : ℕ) (c : Node) → slice_get (map (λ e. e.0) es) i ≡ Some c → Right c
each_right [] i c at = cc
each_right (e ∷ es) zero c at = let same : e.0 ≡ c = cc in subst Right same e.1
each_right (e ∷ es) (suc i) c at = each_right es i c at

right : (n : Node) → Right n
right = ind-Node Right (λ x y is. node_right (roll-Node x) (λ i c at.
    each_right y.children i c (ap (λ (z : Node-F Node). slice_get z.children i) is ∙ (sym (ap (λ (z : Node-F Node). slice_get z.children i) (out-roll-Node x)) ∙ at))))

-- also where the types round its expressions are looked through
pub fits_under_types : (tree : Node) → Fits tree → HasSortUnderTypes sort.Module tree
fits_under_types tree f = right tree (one sort.Module) (one sort.Module) at_top f.sorted (shape_parts tree (one sort.Module) f.sorted).0 refl (λ g. absurd (cc)) (none_unfit tree f)

pub sorts_kept : StrippingKeepsSorts
sorts_kept tree f = sorts_are_kept tree sort.Module refl (fits_under_types tree f)
