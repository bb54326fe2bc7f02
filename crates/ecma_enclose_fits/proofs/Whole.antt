-- A tree that fits, fits with parentheses added.
use Rattle.std.proofs.Common.{◌≡◌, ◌∙◌, ℕ, zero, suc, Bool, true, false, not, ◌&&◌, ◌||◌, codes, cond, List, [], ◌∷◌, length, map, Option, Some, None, refl, sym, ap, ap₂, subst, slice_get}
use Rattle.ecma_kind.specs.Sorts.{is_type_wrapper}
use Rattle.ecma_kind.specs.declared.kind.Kind.{Kind}
use Rattle.ecma_kind.specs.declared.kind.Kind.TheVariants as kind
use Rattle.ecma_kind.specs.declared.shapes.Shape.{Shape}
use Rattle.ecma_kind.specs.declared.shapes.Sort.TheVariants as sort
use Rattle.ecma_tree.specs.declared.node.Node.{Node, Node-F, fold_out-Node, out-Node}
use Rattle.ecma_tree.specs.declared.node.Node.TheViews.{out-roll-Node, roll-out-Node}
use Rattle.ecma_tree.specs.Laws.{HaveShapes}
use Rattle.ecma_tree.specs.Sorted.{HasShape, HasSort, allows, child_shapes, one}
use Rattle.ecma_tree.proofs.ShapeLaws.{node_has_shape}
use Rattle.ecma_leaves.specs.Words.{is_spelled}
use Rattle.ecma_rules.specs.declared.standing.Around.{Around}
use Rattle.ecma_rules.specs.declared.standing.Standing.{Standing}
use Rattle.ecma_rules.specs.declared.standing.Standing.TheVariants as standing
use Rattle.ecma_rules.specs.declared.target.Target.{Target}
use Rattle.ecma_rules.specs.declared.target.Target.TheVariants as target
use Rattle.ecma_rules.specs.Children.{child_is, has_child, is_named, kind_of}
use Rattle.ecma_rules.specs.Failing.{failing_here, least}
use Rattle.ecma_rules.specs.Members.{second_constructor}
use Rattle.ecma_rules.specs.Jumps.{Held, ends_jumps, first_held_stray, held_behind, held_in, label_of, not_held, own_label, stray_here}
use Rattle.ecma_rules.specs.Lists.{last_by}
use Rattle.ecma_rules.specs.Strays.{in_named, strays_in}
use Rattle.ecma_rules.specs.Surroundings.{around_in, standing_by, standing_in}
use Rattle.ecma_rules.specs.Targets.{first_is, is_plain_target, is_simple_target, is_wrapper, simple_step, target_in}
use Rattle.ecma_fits.specs.declared.role.Role.{Role}
use Rattle.ecma_fits.specs.declared.role.Role.TheVariants as role
use Rattle.ecma_fits.specs.declared.strays.Arguments.{Arguments}
use Rattle.ecma_fits.specs.declared.unfit.Where.{Where}
use Rattle.ecma_fits.specs.Fitting.{Fits, at_top, breaks_rule, first_unfit_in, is_misplaced, is_misshapen, is_unfit, unfit_here, where_in}
use Rattle.ecma_fits.specs.Roles.{is_assigned, is_bound_name, is_name, is_out_of_role, is_tagged, is_wrong_name, may_be, role_in, takes}
use Rattle.ecma_fits.specs.Strays.{arguments_in, is_stray_target}
use Rattle.ecma_fits.proofs.Clauses.{fits_of, none_unfit}
use Rattle.ecma_fits.proofs.Walks.{neither}
use Rattle.ecma_strip_fits.proofs.Strays.{not_failing}
use Rattle.ecma_strip_fits.proofs.Walk.{NoneTells, neither_least, shape_parts}
use Rattle.ecma_bind_fits.proofs.Bound.{parts_none, whole_none}
use Rattle.ecma_enclose.specs.Enclosing.{enclosed, in_parentheses, is_async_under_types}
use Rattle.ecma_enclose_fits.specs.Laws.{EnclosedTreesAreSorted, EnclosedTreesFit}
use Rattle.ecma_enclose_fits.proofs.Adding.{Adds, All, Alone, Below, adds, children_of, enclosed_adds, every, first, is_open, more, none}
use Rattle.ecma_enclose_fits.proofs.Alike.{Keeps, all_length, alone_lone, by_kind, child_usual, is_lone, is_same, kind_same, paren_parts, seven_at, span_same}
use Rattle.ecma_enclose_fits.proofs.Round.{eight_at, is_round, lone_round, round_fits, round_shapen, round_stray}
use Rattle.ecma_enclose_fits.proofs.Rules.{around_same, constructors_same, held_same, lists_same, members_same, statements_same, stray_place_same}
use Rattle.ecma_enclose_fits.proofs.Tests.{chains_same, dangling_same, members_same as misread_same, short_same, simple_same}
use Rattle.ecma_enclose_fits.proofs.Walk.{walk_kept}

both : (a b : Bool) → (a && b) ≡ true → (a ≡ true) × (b ≡ true)
both true b h = (refl, h)
both false b h = cc

-- ---- sorts

paren_shape : (k : Kind) (e : Node) → Alone k e → (shape o : Shape) (count : ℕ) → slice_get (child_shapes k shape count) 0 ≡ Some o → HasShape o e → HasShape o (in_parentheses e)
paren_shape k e alone shape o count at has = (node_has_shape (out-Node e).span kind.ParenExpr (e ∷ []) o).1 (allowed k alone at, (plain, tt))
  where
    some_same : {X : Type 0} {x y : X} → Some x ≡ Some y → x ≡ y
    some_same e = cc

    -- parentheses stand where the expression of a statement and what stands before `of` may
    allowed : (k : Kind) → Alone k e → slice_get (child_shapes k shape count) 0 ≡ Some o → allows o kind.ParenExpr ≡ true
    allowed kind.ExprStmt a at = ap (λ z. allows z kind.ParenExpr) (sym (some_same at))
    allowed (kind.ForOfStmt is_await) a at = ap (λ z. allows z kind.ParenExpr) (sym (some_same at))
    allowed _ a at = absurd a

    parts : (allows o (kind_of e) ≡ true) × HaveShapes (child_shapes (kind_of e) o (length (children_of e))) (children_of e)
    parts = shape_parts e o has

    -- an expression in parentheses is one
    belong : allows (one sort.Expr) (kind_of e) ≡ true
    belong = seven_at Bool (allows (one sort.Expr)) true ((λ value raw. refl), refl, refl, refl, refl, refl, refl) (kind_of e) (alone_lone k e alone)

    same_shapes : child_shapes (kind_of e) o (length (children_of e)) ≡ child_shapes (kind_of e) (one sort.Expr) (length (children_of e))
    same_shapes = lone_shapes (kind_of e) (alone_lone k e alone)
      where
        lone_shapes : (k : Kind) → is_lone k ≡ true → child_shapes k o (length (children_of e)) ≡ child_shapes k (one sort.Expr) (length (children_of e))
        lone_shapes (kind.Str value raw) l = refl
        lone_shapes kind.TsTypeAssertion l = refl
        lone_shapes kind.TsConstAssertion l = refl
        lone_shapes kind.TsNonNullExpr l = refl
        lone_shapes kind.TsAsExpr l = refl
        lone_shapes kind.TsInstantiation l = refl
        lone_shapes kind.TsSatisfiesExpr l = refl
        lone_shapes _ l = cc

    plain : HasShape (one sort.Expr) e
    plain =
        subst (HasShape (one sort.Expr)) (roll-out-Node e)
        ((node_has_shape (out-Node e).span (kind_of e) (children_of e) (one sort.Expr)).1 (belong, subst (λ z. HaveShapes z (children_of e)) same_shapes parts.1))

mutual
  pub shape_kept : {a b : Node} → Adds a b → (shape : Shape) → HasShape shape a → HasShape shape b
  shape_kept {a} {b} (adds s k at below) shape has =
      let t = shape_parts a shape has in
      let same : length (children_of b) ≡ length (children_of a) = below_length below in
      subst (HasShape shape) (roll-out-Node b)
      ((node_has_shape (out-Node b).span (kind_of b) (children_of b) shape).1 (
        ap (allows shape) k ∙ t.0,
        subst (λ z. HaveShapes (child_shapes z shape (length (children_of b))) (children_of b)) (sym k)
            (subst (λ z. HaveShapes (child_shapes (kind_of a) shape z) (children_of b)) (sym same)
            (below_shapes (kind_of a) shape (length (children_of a)) below (child_shapes (kind_of a) shape (length (children_of a))) refl t.1)),
      ))

  below_shapes : (k : Kind) (shape : Shape) (count : ℕ) {ns ms : List Node} → Below k ns ms → (os : List Shape) → child_shapes k shape count ≡ os → HaveShapes os ns → HaveShapes os ms
  below_shapes k shape count (every all) os is have = all_shapes all os have
  below_shapes k shape count (first e alone all) [] is have = absurd have
  below_shapes k shape count (first e alone all) (o ∷ os) is have = (paren_shape k e alone shape o count (ap (λ z. slice_get z 0) is) have.0, all_shapes all os have.1)

  all_shapes : {ns ms : List Node} → All ns ms → (os : List Shape) → HaveShapes os ns → HaveShapes os ms
  all_shapes none os have = have
  all_shapes (more r all) [] have = absurd have
  all_shapes (more r all) (o ∷ os) have = (shape_kept r o have.0, all_shapes all os have.1)

  below_length : {k : Kind} {ns ms : List Node} → Below k ns ms → length ms ≡ length ns
  below_length (every all) = all_length all
  below_length (first e alone all) = ap suc (all_length all)

-- ---- what each node tells

misshapen_same : {a b : Node} → Adds a b → Keeps is_misshapen a b
misshapen_same r = ap₂ (λ a b. a || b) (short_same r) (ap₂ (λ a b. a || b) (dangling_same r) (ap₂ (λ a b. a || b) (chains_same r) (misread_same r)))

role_same : (q : Role) → {a b : Node} → Adds a b → Keeps (is_out_of_role q) a b
role_same q r =
    ap₂ (λ a b. a || not b) (is_same (is_wrong_name q) r) (ap₂ (λ a b. a || b) (is_same (may_be q) r) (ap₂ (λ a b. a && b) (is_same (takes q) r) (simple_same r)))

target_same : (w : Where) → {a b : Node} → Adds a b → Keeps (is_stray_target w.role w.arguments) a b
target_same w r = by_kind (λ k n. w.arguments.stray && (is_assigned w.role && (is_bound_name k && child_is (is_named (codes "arguments")) n 0))) (λ k a b q e. by k q e) r
  where
    by : (k : Kind) {a b : Node} → Adds a b → kind_of a ≡ k
        → (w.arguments.stray && (is_assigned w.role && (is_bound_name k && child_is (is_named (codes "arguments")) b 0))) ≡ (w.arguments.stray && (is_assigned w.role && (is_bound_name k && child_is (is_named (codes "arguments")) a 0)))
    by kind.BindingIdent r e = ap (λ x. w.arguments.stray && (is_assigned w.role && x)) (child_usual (is_named (codes "arguments")) 0 r (ap is_open e))
    by _ r e = refl

rules_same : (w : Where) → {a b : Node} → Adds a b → Keeps (breaks_rule w) a b
rules_same w r = ap₂ (λ a b. a || b) (lists_same w.around r) (ap₂ (λ a b. a || b) (members_same w.around r) (statements_same w.around r))

misplaced_same : (w : Where) → {a b : Node} → Adds a b → Keeps (is_misplaced w) a b
misplaced_same w r = ap₂ (λ a b. a || b) (role_same w.role r) (ap₂ (λ a b. a || b) (target_same w r) (rules_same w r))

unfit_same : (w : Where) → {a b : Node} → Adds a b → Keeps (is_unfit w) a b
unfolding is_unfit
unfit_same w r = ap₂ (λ a b. a || b) (misshapen_same r) (ap₂ (λ a b. a || not b) (misplaced_same w r) (is_same (is_spelled (is_tagged w.role)) r))

place_same : (w : Where) {a b : Node} → Adds a b → unfit_here w b ≡ unfit_here w a
place_same w r = ap₂ least (ap₂ (λ b s. cond b (Some s.lo) None) (unfit_same w r) (span_same r)) (constructors_same r)

where_same : (w : Where) (i : ℕ) {a b : Node} → Adds a b → where_in w b i ≡ where_in w a i
where_same w i r = λ j. record { role = role_in w.role (kind_same r j) i; around = around_same w.around i r j; arguments = arguments_in w.arguments (kind_same r j) i }

-- ---- what gets parentheses

paren_kind : (e : Node) → kind_of (in_parentheses e) ≡ kind.ParenExpr
paren_kind e = ap (λ (z : Node-F Node). z.kind) (paren_parts e)

paren_children : (e : Node) → children_of (in_parentheses e) ≡ e ∷ []
paren_children e = ap (λ (z : Node-F Node). z.children) (paren_parts e)

only_child : (P : ℕ → Node → Type 0) (e : Node) → P 0 e → (i : ℕ) (c : Node) → slice_get (children_of (in_parentheses e)) i ≡ Some c → P i c
only_child P e p i c at = by i (sym (ap (λ (z : List Node). slice_get z i) (paren_children e)) ∙ at)
  where
    by : (i : ℕ) → slice_get (e ∷ []) i ≡ Some c → P i c
    by zero at = let same : e ≡ c = cc in subst (P 0) same p
    by (suc i) at = cc

-- where what stands in them, or in what gets them, stands
abbrev plainly : Arguments → Where
plainly arguments = record { role = role.Free; around = record { target = target.Free; standing = standing.Plain; is_last = true }; arguments = arguments }

module _ (k : Kind) (r : is_round k ≡ true) where
  round_role : (q : Role) (i : ℕ) → role_in q k i ≡ role.Free
  unfolding role_in
  round_role q i = eight_at Role (λ k. role_in q k i) role.Free (((λ value raw. refl), refl, refl, refl, refl, refl, refl), refl) k r

  round_target : (t : Target) (i : ℕ) → target_in t k i ≡ target.Free
  unfolding target_in
  round_target t i = eight_at Target (λ k. target_in t k i) target.Free (((λ value raw. refl), refl, refl, refl, refl, refl, refl), refl) k r

  round_standing : (s : Standing) (f g : Bool) (i : ℕ) → standing_by s k f g i ≡ standing.Plain
  unfolding standing_by
  round_standing s f g i = eight_at Standing (λ k. standing_by s k f g i) standing.Plain (((λ value raw. refl), refl, refl, refl, refl, refl, refl), refl) k r

  round_last : (l : Bool) (count i : ℕ) → last_by l k count i ≡ true
  unfolding last_by
  round_last l count i = eight_at Bool (λ k. last_by l k count i) true (((λ value raw. refl), refl, refl, refl, refl, refl, refl), refl) k r

  round_arguments : (a : Arguments) (i : ℕ) → arguments_in a k i ≡ a
  unfolding arguments_in
  round_arguments a i = eight_at Arguments (λ k. arguments_in a k i) a (((λ value raw. refl), refl, refl, refl, refl, refl, refl), refl) k r

where_round : (w : Where) (n : Node) (i : ℕ) → is_round (kind_of n) ≡ true → where_in w n i ≡ plainly w.arguments
where_round w n i r = λ j. record {
  role = round_role (kind_of n) r w.role i j;
  around = record { target = round_target (kind_of n) r w.around.target i j; standing = round_standing (kind_of n) r w.around.standing (has_child n 1) (has_child n 2) i j; is_last = round_last (kind_of n) r w.around.is_last (length (children_of n)) i j };
  arguments = round_arguments (kind_of n) r w.arguments i j;
}

paren_round : (e : Node) → is_round (kind_of (in_parentheses e)) ≡ true
paren_round e = ap is_round (paren_kind e)

open_standing : (k : Kind) (e : Node) → Alone k e → (s : Standing) (f g : Bool) → standing_by s k f g 0 ≡ standing.Plain
unfolding standing_by
open_standing kind.ExprStmt e alone s f g = refl
open_standing (kind.ForOfStmt is_await) e alone s f g = refl
open_standing _ e alone s f g = absurd alone

lone_spelled : (k : Kind) → is_lone k ≡ true → (a b : Bool) → is_spelled a k ≡ is_spelled b k
lone_spelled (kind.Str value raw) l a b = refl
lone_spelled kind.TsTypeAssertion l a b = refl
lone_spelled kind.TsConstAssertion l a b = refl
lone_spelled kind.TsNonNullExpr l a b = refl
lone_spelled kind.TsAsExpr l a b = refl
lone_spelled kind.TsInstantiation l a b = refl
lone_spelled kind.TsSatisfiesExpr l a b = refl
lone_spelled _ l a b = cc

lone_free : (e : Node) → is_lone (kind_of e) ≡ true → is_out_of_role role.Free e ≡ false
unfolding may_be
lone_free e l =
    seven_at Bool (λ k. is_wrong_name role.Free k || not (may_be role.Free k || (takes role.Free k && is_simple_target e))) false ((λ value raw. refl), refl, refl, refl, refl, refl, refl) (kind_of e) l

simple_inside : (e : Node) → is_simple_target (in_parentheses e) ≡ is_simple_target e
simple_inside e = fold_out-Node Bool simple_step (in_parentheses e) ∙ ap₂ (λ k (cs : List Node). is_plain_target k || (is_wrapper k && first_is (map is_simple_target cs))) (paren_kind e) (paren_children e)

paren_role : (k : Kind) (e : Node) → Alone k e → (q : Role) → is_out_of_role (role_in q k 0) e ≡ false → is_out_of_role (role_in q k 0) (in_parentheses e) ≡ false
unfolding role_in may_be takes
paren_role kind.ExprStmt e alone q h = ap (λ k. is_wrong_name role.Free k || not (may_be role.Free k || (takes role.Free k && is_simple_target (in_parentheses e)))) (paren_kind e)
paren_role (kind.ForOfStmt is_await) e alone q h =
    ap (λ k. is_wrong_name role.Head k || not (may_be role.Head k || (takes role.Head k && is_simple_target (in_parentheses e)))) (paren_kind e)
    ∙ ap not (simple_inside e)
    ∙ sym (wrapper (kind_of e) (wrapper_of is_await alone) (is_simple_target e))
    ∙ h
  where
    wrapper_of : (b : Bool) → Alone (kind.ForOfStmt b) e → is_type_wrapper (kind_of e) ≡ true
    wrapper_of false alone = (both (is_type_wrapper (kind_of e)) (is_async_under_types e) alone).0
    wrapper_of true alone = absurd alone

    wrapper : (k : Kind) → is_type_wrapper k ≡ true → (x : Bool) → (is_wrong_name role.Head k || not (may_be role.Head k || (takes role.Head k && x))) ≡ not x
    wrapper kind.TsTypeAssertion w x = refl
    wrapper kind.TsConstAssertion w x = refl
    wrapper kind.TsNonNullExpr w x = refl
    wrapper kind.TsAsExpr w x = refl
    wrapper kind.TsInstantiation w x = refl
    wrapper kind.TsSatisfiesExpr w x = refl
    wrapper _ w x = cc
paren_role _ e alone q h = absurd alone

-- a node that tells nothing is well made, in its role, and spelled
unfit_none : (w : Where) (n : Node) → unfit_here w n ≡ None → (is_misshapen n ≡ false) × (is_out_of_role w.role n ≡ false) × (is_spelled (is_tagged w.role) (kind_of n) ≡ true)
unfolding is_unfit
unfit_none w n h =
    let a = neither_least (failing_here (is_unfit w n) n) (second_constructor n) h in
    let b = neither (is_misshapen n) (is_misplaced w n || not (is_spelled (is_tagged w.role) (kind_of n))) (not_failing (is_unfit w n) n a.0) in
    let c = neither (is_misplaced w n) (not (is_spelled (is_tagged w.role) (kind_of n))) b.1 in
    let d = neither (is_out_of_role w.role n) (is_stray_target w.role w.arguments n || breaks_rule w n) c.0 in
    (b.0, d.0, spelled (is_spelled (is_tagged w.role) (kind_of n)) c.1)
  where
    spelled : (b : Bool) → not b ≡ false → b ≡ true
    spelled true h = refl
    spelled false h = cc

closed_fits : (w : Where) (n e : Node) → Alone (kind_of n) e → first_unfit_in e (where_in w n 0) ≡ None → first_unfit_in (in_parentheses e) (where_in w n 0) ≡ None
closed_fits w n e alone h =
    whole_none Where unfit_here where_in (in_parentheses e) u
    (round_fits u (in_parentheses e) (paren_round e) (open_standing (kind_of n) e alone w.around.standing (has_child n 1) (has_child n 2)) (round_shapen (in_parentheses e) (paren_kind e)) (paren_role (kind_of n) e alone w.role here.1) (ap (is_spelled (is_tagged u.role)) (paren_kind e)))
    (only_child (λ i c. first_unfit_in c (where_in u (in_parentheses e) i) ≡ None) e (subst (λ v. first_unfit_in e v ≡ None) (sym (where_round u (in_parentheses e) 0 (paren_round e))) inner))
  where
    u : Where
    u = where_in w n 0

    lone : is_lone (kind_of e) ≡ true
    lone = alone_lone (kind_of n) e alone

    parts : (unfit_here u e ≡ None) × NoneTells Where first_unfit_in (where_in u e) (children_of e)
    parts = parts_none Where unfit_here where_in e u h

    here : (is_misshapen e ≡ false) × (is_out_of_role u.role e ≡ false) × (is_spelled (is_tagged u.role) (kind_of e) ≡ true)
    here = unfit_none u e parts.0

    inner : first_unfit_in e (plainly u.arguments) ≡ None
    inner =
        whole_none Where unfit_here where_in e (plainly u.arguments)
        (round_fits (plainly u.arguments) e (lone_round (kind_of e) lone) refl here.0 (lone_free e lone) (lone_spelled (kind_of e) lone (is_tagged role.Free) (is_tagged u.role) ∙ here.2))
        (λ i c at. subst (λ v. first_unfit_in c v ≡ None) (where_round u e i (lone_round (kind_of e) lone) ∙ sym (where_round (plainly u.arguments) e i (lone_round (kind_of e) lone))) (parts.1 i c at))

-- ---- what belongs to nothing

held_paren : (h : Held) (k : Kind) (label : Option (List ℕ)) (i : ℕ) → k ≡ kind.ParenExpr → held_behind (strays_in h.strays k i) (ends_jumps k) (own_label k label) h.labels ≡ h
unfolding strays_in in_named ends_jumps
held_paren h k label i e = ap (λ k. held_behind (strays_in h.strays k i) (ends_jumps k) (own_label k label) h.labels) e

closed_held : (x : Held) (n e : Node) → Alone (kind_of n) e → first_held_stray e (held_in x n 0) ≡ None → first_held_stray (in_parentheses e) (held_in x n 0) ≡ None
closed_held x n e alone h =
    let y = held_in x n 0 in
    whole_none Held stray_here held_in (in_parentheses e) y (round_stray y (in_parentheses e) (paren_round e))
    (only_child (λ i c. first_held_stray c (held_in y (in_parentheses e) i) ≡ None) e
    (subst (λ v. first_held_stray e v ≡ None) (sym (held_paren y (kind_of (in_parentheses e)) (label_of (in_parentheses e)) 0 (paren_kind e))) h))

-- ---- the whole tree

fits_added : {a b : Node} → Adds a b → Fits a → Fits b
fits_added {a} {b} r f =
    fits_of b (shape_kept r (one sort.Module) f.sorted) (walk_kept Where unfit_here where_in (λ w c d q. place_same w q) (λ w i c d q. where_same w i q) closed_fits r at_top (none_unfit a f))
    (walk_kept Held stray_here held_in (λ h c d q. stray_place_same h q) (λ h i c d q. held_same h i q) closed_held r not_held f.strays)

pub trees_fit : EnclosedTreesFit
trees_fit tree f = fits_added (enclosed_adds tree (one sort.Module, f.sorted)) f

pub trees_are_sorted : EnclosedTreesAreSorted
trees_are_sorted tree sorted = shape_kept (enclosed_adds tree (one sort.Module, sorted)) (one sort.Module) sorted
