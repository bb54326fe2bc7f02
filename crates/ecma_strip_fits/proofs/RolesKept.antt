-- Each node is what its role asks without types, where no name is bound with a type round it.
use Rattle.std.proofs.Common.{◌≡◌, ◌∙◌, ◌⊎◌, ◌==◌, inl, inr, ℕ, zero, suc, Bool, true, false, not, ◌&&◌, ◌||◌, cond, List, [], ◌∷◌, map, length, Option, Some, None, refl, sym, ap, ap₂, subst, slice_get, arith}
use Rattle.std.proofs.lemmas.Bool.{eqb-true}
use Rattle.ecma_kind.specs.Sorts.{belongs, is_type_wrapper}
use Rattle.ecma_kind.specs.declared.kind.Kind.{Kind}
use Rattle.ecma_kind.specs.declared.kind.Kind.TheVariants as kind
use Rattle.ecma_kind.specs.declared.shapes.Shape.{Shape}
use Rattle.ecma_kind.specs.declared.shapes.Sort.TheVariants as sort
use Rattle.ecma_tree.specs.declared.node.Node.{Node, Node-F, fold_out-Node, ind-Node, roll-Node}
use Rattle.ecma_tree.specs.declared.node.Node.TheViews.{out-roll-Node}
use Rattle.ecma_tree.specs.Nodes.{absent, dummy_span, node_of}
use Rattle.ecma_tree.specs.Sorted.{HasShape, child_shapes, is_absent, is_list, one}
use Rattle.ecma_rules.specs.Children.{kind_of}
use Rattle.ecma_rules.specs.Failing.{failing_here, failing_step, first_failing, least_from}
use Rattle.ecma_rules.specs.Targets.{first_is, is_plain_target, is_simple_target, is_wrapper}
use Rattle.ecma_strip.specs.Stripping.{plain_children, plain_kind, stripped}
use Rattle.ecma_strip.proofs.Sorting.{list-kind}
use Rattle.ecma_fits.specs.declared.role.Role.{Role}
use Rattle.ecma_fits.specs.declared.role.Role.TheVariants as role
use Rattle.ecma_fits.specs.declared.unfit.Where.{Where}
use Rattle.ecma_fits.specs.Fitting.{Fits, at_top, unfit_here, where_in, NoneFails}
use Rattle.ecma_fits.specs.Roles.{at_child, is_binding, is_bound_name, is_default, is_free, is_name, is_out_of_role, is_pattern, is_rest, is_variables, is_wrong_name, may_be, role_in, takes}
use Rattle.ecma_strip_fits.specs.Targets.{HasPlainTargets, is_typed_target}
use Rattle.ecma_bind.specs.Binding.{binds, is_name_under_types, names_step}
use Rattle.ecma_strip_fits.proofs.Classes.{Class, class_of, is_body_at, is_receiver_at, only_list, wrapped_front}
use Rattle.ecma_strip_fits.proofs.Classes.Class.{Listed, Typed, Usual, Wrapped}
use Rattle.ecma_strip_fits.proofs.ChildrenKept.{Plain}
use Rattle.ecma_strip_fits.proofs.FullNodes.{no_type}
use Rattle.ecma_strip_fits.proofs.Lists.{have_at}
use Rattle.ecma_strip_fits.proofs.NamesKept.{name_here}
use Rattle.ecma_strip_fits.proofs.Ruled.{simple-out, simple_under}
use Rattle.ecma_strip_fits.proofs.RulesKept.{in_role}
use Rattle.ecma_strip_fits.proofs.Standing as standing
use Rattle.ecma_strip_fits.proofs.Standing.{role_below, role_item, wrapped_role}
use Rattle.ecma_strip_fits.proofs.Strays.{kind_node, none_failing, not_failing}
use Rattle.ecma_strip_fits.proofs.Tests.{neither}
use Rattle.ecma_strip_fits.proofs.Walk.{Carries, NoneTells, children_of, each_none, kept, neither_least, shape_parts, usual_children, usual_kind, wrapped_is}
use Rattle.ecma_tree.proofs.Layers.{from_leaves_out}
use Rattle.ecma_fits.proofs.Clauses.{none_unfit}

some_same : {X : Type 0} {x y : X} → Some x ≡ Some y → x ≡ y
some_same e = cc

-- ---- targets stay targets

no_plain_target : (k : Kind) → class_of k ≡ Typed → (c : Bool) → (is_plain_target k || (is_wrapper k && c)) ≡ false
unfolding class_of
no_plain_target kind.TsTypeAnn t c = refl
no_plain_target kind.TsType t c = refl
no_plain_target kind.TsTypeParamDecl t c = refl
no_plain_target kind.TsTypeParamInstantiation t c = refl
no_plain_target _ t c = cc

typed_not_simple : {A : Type 0} (n : Node) → class_of (kind_of n) ≡ Typed → is_simple_target n ≡ true → A
typed_not_simple n t h =
    let no : false ≡ true = sym (simple-out n ∙ no_plain_target (kind_of n) t (first_is (map is_simple_target (children_of n)))) ∙ h in
    absurd (cc)

list_not_simple : {A : Type 0} (n : Node) → is_list (kind_of n) ≡ true → is_simple_target n ≡ true → A
list_not_simple n l h =
    let no : false ≡ true = sym (simple-out n ∙ ap (λ k. is_plain_target k || (is_wrapper k && first_is (map is_simple_target (children_of n)))) (list-kind (kind_of n) l)) ∙ h in
    absurd (cc)

target_plain : Plain Bool is_plain_target
unfolding plain_kind
target_plain (kind.Ident text ctxt optional) = refl
target_plain _ = refl

wrapper_plain : Plain Bool is_wrapper
unfolding plain_kind
wrapper_plain kind.Absent = refl
wrapper_plain _ = refl

paren_only : (k : Kind) → class_of k ≡ Usual → is_wrapper k ≡ true → k ≡ kind.ParenExpr
unfolding class_of
paren_only kind.ParenExpr u w = refl
paren_only kind.TsTypeAssertion u w = cc
paren_only kind.TsConstAssertion u w = cc
paren_only kind.TsNonNullExpr u w = cc
paren_only kind.TsAsExpr u w = cc
paren_only kind.TsInstantiation u w = cc
paren_only kind.TsSatisfiesExpr u w = cc
paren_only _ u w = cc

abbrev StaysTarget : Node → Type 0
StaysTarget n = (s : Shape) → HasShape s n → is_simple_target n ≡ true → is_simple_target (stripped n) ≡ true

split_or : (a b c : Bool) → (a || (b && c)) ≡ true → (a ≡ true) ⊎ ((b ≡ true) × (c ≡ true))
split_or true b c h = inl refl
split_or false true true h = inr (refl, refl)
split_or false true false h = cc
split_or false false c h = cc

paren_children : (cs : List Node) → plain_children kind.ParenExpr cs ≡ cs
unfolding plain_children
paren_children cs = refl

or_true : (b : Bool) → (b || true) ≡ true
or_true true = refl
or_true false = refl

node_target : (n : Node) → ((i : ℕ) (c : Node) → slice_get (children_of n) i ≡ Some c → StaysTarget c) → StaysTarget n
node_target n below s h t = by (class_of (kind_of n)) refl
  where
    first_left : (cs : List Node) → ((i : ℕ) (c : Node) → slice_get cs i ≡ Some c → (is_simple_target c ≡ true → is_simple_target (stripped c) ≡ true)) → first_is (map is_simple_target cs) ≡ true → first_is (map is_simple_target (map stripped cs)) ≡ true
    first_left [] keeps f = f
    first_left (c ∷ cs) keeps f = keeps 0 c refl f

    child_keeps : (i : ℕ) (c : Node) → slice_get (children_of n) i ≡ Some c → is_simple_target c ≡ true → is_simple_target (stripped c) ≡ true
    child_keeps i c at = let w = have_at (child_shapes (kind_of n) s (length (children_of n))) (children_of n) (shape_parts n s h).1 i c at in below i c at w.0 w.2

    usual : class_of (kind_of n) ≡ Usual → (is_plain_target (kind_of n) ≡ true) ⊎ ((is_wrapper (kind_of n) ≡ true) × (first_is (map is_simple_target (children_of n)) ≡ true)) → is_simple_target (stripped n) ≡ true
    usual u (inl p) =
        simple-out (stripped n) ∙ ap (λ z. z || (is_wrapper (kind_of (stripped n)) && first_is (map is_simple_target (children_of (stripped n))))) (ap is_plain_target (usual_kind n u) ∙ (target_plain (kind_of n) ∙ p))
    usual u (inr (w, f)) =
        let kids : children_of (stripped n) ≡ map stripped (children_of n) = usual_children n u ∙ (ap (λ k. plain_children k (map stripped (children_of n))) (paren_only (kind_of n) u w) ∙ paren_children (map stripped (children_of n))) in
        simple-out (stripped n)
        ∙ (ap₂ (λ x y. is_plain_target (kind_of (stripped n)) || (x && y)) (ap is_wrapper (usual_kind n u) ∙ (wrapper_plain (kind_of n) ∙ w))
        (ap (λ (z : List Node). first_is (map is_simple_target z)) kids ∙ first_left (children_of n) child_keeps f)
        ∙ or_true (is_plain_target (kind_of (stripped n))))

    by : (k : Class) → class_of (kind_of n) ≡ k → is_simple_target (stripped n) ≡ true
    by Typed e = typed_not_simple n e t
    by Wrapped e =
        let front = wrapped_front (kind_of n) s (length (children_of n)) (children_of n) e (shape_parts n s h).1 in
        let is : children_of n ≡ front.0 ∷ front.1 = front.2 in
        let at : slice_get (children_of n) 0 ≡ Some front.0 = ap (λ (z : List Node). slice_get z 0) is in
        ap is_simple_target (wrapped_is n e front.0 front.1 is) ∙ below 0 front.0 at (one sort.Expr) front.3 (simple_under n front.0 e at t)
    by Listed e = list_not_simple n (ap is_list (only_list (kind_of n) e)) t
    by Usual e = usual e (split_or (is_plain_target (kind_of n)) (is_wrapper (kind_of n)) (first_is (map is_simple_target (children_of n))) (sym (simple-out n) ∙ t))

each_target : (es : List ((n : Node) × StaysTarget n)) (i : ℕ) (c : Node) → slice_get (map (λ e. e.0) es) i ≡ Some c → StaysTarget c
each_target [] i c at = cc
each_target (e ∷ es) zero c at = let same : e.0 ≡ c = cc in subst StaysTarget same e.1
each_target (e ∷ es) (suc i) c at = each_target es i c at

target_kept : (n : Node) → StaysTarget n
target_kept = ind-Node StaysTarget (λ x y is. node_target (roll-Node x) (λ i c at.
    each_target y.children i c (ap (λ (z : Node-F Node). slice_get z.children i) is ∙ (sym (ap (λ (z : Node-F Node). slice_get z.children i) (out-roll-Node x)) ∙ at))))

-- ---- what a role takes

name_plain : Plain Bool is_name
unfolding plain_kind
name_plain kind.Absent = refl
name_plain _ = refl

takes_plain : (r : Role) → Plain Bool (takes r)
unfolding takes
takes_plain role.Left k = refl
takes_plain role.Simple k = refl
takes_plain role.Head k = ap not (name_plain k)
takes_plain role.Assigned k = ap not (name_plain k)
takes_plain role.AssignedValue k = ap not (name_plain k)
takes_plain role.AssignedElement k = ap not (name_plain k)
takes_plain role.AssignedName k = ap not (name_plain k)
takes_plain _ k = refl

free_plain : Plain Bool is_free
unfolding plain_kind
free_plain kind.Absent = refl
free_plain _ = refl

pattern_plain : Plain Bool is_pattern
unfolding plain_kind
pattern_plain kind.Absent = refl
pattern_plain _ = refl

binding_plain : Plain Bool is_binding
unfolding plain_kind
binding_plain kind.Absent = refl
binding_plain _ = refl

variables_plain : Plain Bool is_variables
unfolding plain_kind
variables_plain kind.Absent = refl
variables_plain _ = refl

absent_plain : Plain Bool is_absent
unfolding plain_kind
absent_plain kind.Absent = refl
absent_plain _ = refl

default_plain : Plain Bool is_default
unfolding plain_kind
default_plain kind.Absent = refl
default_plain _ = refl

rest_plain : Plain Bool is_rest
unfolding plain_kind
rest_plain kind.Absent = refl
rest_plain _ = refl

bound_plain : Plain Bool is_bound_name
unfolding plain_kind
bound_plain kind.Absent = refl
bound_plain _ = refl

may_plain : (r : Role) → Plain Bool (may_be r)
unfolding may_be
may_plain role.Free k = free_plain k
may_plain role.Private k = refl
may_plain role.Left k = pattern_plain k
may_plain role.Simple k = refl
may_plain role.Head k = λ j. binding_plain k j || variables_plain k j
may_plain role.Nothing k = absent_plain k
may_plain role.Declared k = λ j. binding_plain k j || absent_plain k j
may_plain role.DeclaredValue k = λ j. binding_plain k j || default_plain k j
may_plain role.DeclaredElement k = λ j. binding_plain k j || (default_plain k j || (rest_plain k j || absent_plain k j))
may_plain role.Parameter k = λ j. binding_plain k j || (default_plain k j || (rest_plain k j || absent_plain k j))
may_plain role.DefaultedParameter k = λ j. binding_plain k j || rest_plain k j
may_plain role.DeclaredName k = bound_plain k
may_plain role.Assigned k = binding_plain k
may_plain role.AssignedValue k = λ j. binding_plain k j || default_plain k j
may_plain role.AssignedElement k = λ j. binding_plain k j || (default_plain k j || (rest_plain k j || absent_plain k j))
may_plain role.AssignedName k = bound_plain k
may_plain _ k = refl

-- a kind of which no role that declares or assigns speaks
record Unspoken (k : Kind) : Type 0 where
  binding : is_binding k ≡ false
  pattern : is_pattern k ≡ false
  variables : is_variables k ≡ false
  missing : is_absent k ≡ false
  default : is_default k ≡ false
  rest : is_rest k ≡ false
  bound : is_bound_name k ≡ false

wrapped_unspoken : (k : Kind) → class_of k ≡ Wrapped → Unspoken k
unfolding class_of
wrapped_unspoken kind.TsTypeAssertion w = record { binding = refl; pattern = refl; variables = refl; missing = refl; default = refl; rest = refl; bound = refl }
wrapped_unspoken kind.TsConstAssertion w = record { binding = refl; pattern = refl; variables = refl; missing = refl; default = refl; rest = refl; bound = refl }
wrapped_unspoken kind.TsNonNullExpr w = record { binding = refl; pattern = refl; variables = refl; missing = refl; default = refl; rest = refl; bound = refl }
wrapped_unspoken kind.TsAsExpr w = record { binding = refl; pattern = refl; variables = refl; missing = refl; default = refl; rest = refl; bound = refl }
wrapped_unspoken kind.TsInstantiation w = record { binding = refl; pattern = refl; variables = refl; missing = refl; default = refl; rest = refl; bound = refl }
wrapped_unspoken kind.TsSatisfiesExpr w = record { binding = refl; pattern = refl; variables = refl; missing = refl; default = refl; rest = refl; bound = refl }
wrapped_unspoken _ w = cc

typed_unspoken : (k : Kind) → class_of k ≡ Typed → Unspoken k
unfolding class_of
typed_unspoken kind.TsTypeAnn t = record { binding = refl; pattern = refl; variables = refl; missing = refl; default = refl; rest = refl; bound = refl }
typed_unspoken kind.TsType t = record { binding = refl; pattern = refl; variables = refl; missing = refl; default = refl; rest = refl; bound = refl }
typed_unspoken kind.TsTypeParamDecl t = record { binding = refl; pattern = refl; variables = refl; missing = refl; default = refl; rest = refl; bound = refl }
typed_unspoken kind.TsTypeParamInstantiation t = record { binding = refl; pattern = refl; variables = refl; missing = refl; default = refl; rest = refl; bound = refl }
typed_unspoken _ t = cc

-- such a kind stands only where any may, but one that is an expression only as the name of a member
abbrev is_open : Role → Bool
is_open role.Left = false
is_open role.Simple = false
is_open role.Head = false
is_open role.Nothing = false
is_open role.Declared = false
is_open role.DeclaredValue = false
is_open role.DeclaredElement = false
is_open role.Parameter = false
is_open role.DefaultedParameter = false
is_open role.DeclaredName = false
is_open role.Assigned = false
is_open role.AssignedValue = false
is_open role.AssignedElement = false
is_open role.AssignedName = false
is_open _ = true

clash : {A : Type 0} (b : Bool) → b ≡ false → b ≡ true → A
clash b f t = let no : false ≡ true = sym f ∙ t in absurd (cc)

unspoken_open : (r : Role) (k : Kind) → Unspoken k → may_be r k ≡ true → is_open r ≡ true
unfolding may_be
unspoken_open role.Left k u h = clash (is_pattern k) u.pattern h
unspoken_open role.Simple k u h = cc
unspoken_open role.Head k u h = clash (is_binding k || is_variables k) (λ j. u.binding j || u.variables j) h
unspoken_open role.Nothing k u h = clash (is_absent k) u.missing h
unspoken_open role.Declared k u h = clash (is_binding k || is_absent k) (λ j. u.binding j || u.missing j) h
unspoken_open role.DeclaredValue k u h = clash (is_binding k || is_default k) (λ j. u.binding j || u.default j) h
unspoken_open role.DeclaredElement k u h = clash (is_binding k || (is_default k || (is_rest k || is_absent k))) (λ j. u.binding j || (u.default j || (u.rest j || u.missing j))) h
unspoken_open role.Parameter k u h = clash (is_binding k || (is_default k || (is_rest k || is_absent k))) (λ j. u.binding j || (u.default j || (u.rest j || u.missing j))) h
unspoken_open role.DefaultedParameter k u h = clash (is_binding k || is_rest k) (λ j. u.binding j || u.rest j) h
unspoken_open role.DeclaredName k u h = clash (is_bound_name k) u.bound h
unspoken_open role.Assigned k u h = clash (is_binding k) u.binding h
unspoken_open role.AssignedValue k u h = clash (is_binding k || is_default k) (λ j. u.binding j || u.default j) h
unspoken_open role.AssignedElement k u h = clash (is_binding k || (is_default k || (is_rest k || is_absent k))) (λ j. u.binding j || (u.default j || (u.rest j || u.missing j))) h
unspoken_open role.AssignedName k u h = clash (is_bound_name k) u.bound h
unspoken_open _ k u h = refl

open_may : (r : Role) (k : Kind) → is_open r ≡ true → is_free k ≡ true → may_be r k ≡ true
unfolding may_be
open_may role.Free k o f = f
open_may role.Left k o f = cc
open_may role.Simple k o f = cc
open_may role.Head k o f = cc
open_may role.Nothing k o f = cc
open_may role.Declared k o f = cc
open_may role.DeclaredValue k o f = cc
open_may role.DeclaredElement k o f = cc
open_may role.Parameter k o f = cc
open_may role.DefaultedParameter k o f = cc
open_may role.DeclaredName k o f = cc
open_may role.Assigned k o f = cc
open_may role.AssignedValue k o f = cc
open_may role.AssignedElement k o f = cc
open_may role.AssignedName k o f = cc
open_may _ k o f = refl

-- where simple targets stand
abbrev is_taking : Role → Bool
is_taking role.Left = true
is_taking role.Simple = true
is_taking r = binds r

taking : (r : Role) (k : Kind) → takes r k ≡ true → is_taking r ≡ true
unfolding takes
taking role.Left k h = refl
taking role.Simple k h = refl
taking role.Head k h = refl
taking role.Assigned k h = refl
taking role.AssignedValue k h = refl
taking role.AssignedElement k h = refl
taking role.AssignedName k h = refl
taking _ k h = cc

taken : (r : Role) (k : Kind) → is_taking r ≡ true → (binds r ≡ true → is_name k ≡ false) → takes r k ≡ true
unfolding takes
taken role.Left k h named = refl
taken role.Simple k h named = refl
taken role.Head k h named = ap not (named refl)
taken role.Assigned k h named = ap not (named refl)
taken role.AssignedValue k h named = ap not (named refl)
taken role.AssignedElement k h named = ap not (named refl)
taken role.AssignedName k h named = ap not (named refl)
taken _ k h named = cc

-- ---- a node that is what its role asks

either : (m t s : Bool) → not (m || (t && s)) ≡ false → (m ≡ true) ⊎ ((t ≡ true) × (s ≡ true))
either true t s h = inl refl
either false true true h = inr (refl, refl)
either false true false h = cc
either false false s h = cc

must : (r : Role) (n : Node) → is_out_of_role r n ≡ false → (may_be r (kind_of n) ≡ true) ⊎ ((takes r (kind_of n) ≡ true) × (is_simple_target n ≡ true))
must r n h = either (may_be r (kind_of n)) (takes r (kind_of n)) (is_simple_target n) (neither (is_wrong_name r (kind_of n)) (not (may_be r (kind_of n) || (takes r (kind_of n) && is_simple_target n))) h).1

in_place : (r : Role) (n : Node) (k : Kind) → kind_of n ≡ k → is_wrong_name r k ≡ false → may_be r k ≡ true → is_out_of_role r n ≡ false
in_place r n k e wrong may = ap (λ z. is_wrong_name r z || not (may_be r z || (takes r z && is_simple_target n))) e ∙ (λ j. wrong j || not (may j || (takes r k && is_simple_target n)))

in_target : (r : Role) (n : Node) (k : Kind) → kind_of n ≡ k → is_wrong_name r k ≡ false → takes r k ≡ true → is_simple_target n ≡ true → is_out_of_role r n ≡ false
in_target r n k e wrong t s =
    ap (λ z. is_wrong_name r z || not (may_be r z || (takes r z && is_simple_target n))) e
    ∙ ((λ j. wrong j || not (may_be r k || (t j && s j))) ∙ ap not (or_true (may_be r k)))

-- ---- names with types round them

named_out : (n : Node) → is_name_under_types n ≡ (is_name (kind_of n) || (is_type_wrapper (kind_of n) && first_is (map is_name_under_types (children_of n))))
named_out = fold_out-Node Bool names_step

named_kind : (n : Node) → is_name_under_types n ≡ false → is_name (kind_of n) ≡ false
named_kind n h = (neither (is_name (kind_of n)) (is_type_wrapper (kind_of n) && first_is (map is_name_under_types (children_of n))) (sym (named_out n) ∙ h)).0

wrapper_type : (k : Kind) → class_of k ≡ Wrapped → is_type_wrapper k ≡ true
unfolding class_of
wrapper_type kind.TsTypeAssertion w = refl
wrapper_type kind.TsConstAssertion w = refl
wrapper_type kind.TsNonNullExpr w = refl
wrapper_type kind.TsAsExpr w = refl
wrapper_type kind.TsInstantiation w = refl
wrapper_type kind.TsSatisfiesExpr w = refl
wrapper_type _ w = cc

wrapper_name : (k : Kind) → class_of k ≡ Wrapped → is_name k ≡ false
unfolding class_of
wrapper_name (kind.Ident text ctxt optional) w = cc
wrapper_name _ w = refl

first_named : (cs : List Node) (e : Node) → slice_get cs 0 ≡ Some e → first_is (map is_name_under_types cs) ≡ is_name_under_types e
first_named [] e at = cc
first_named (c ∷ cs) e at = let same : c ≡ e = cc in ap is_name_under_types same

named_under : (n e : Node) → class_of (kind_of n) ≡ Wrapped → slice_get (children_of n) 0 ≡ Some e → is_name_under_types n ≡ is_name_under_types e
named_under n e w at =
    named_out n ∙ (λ j. wrapper_name (kind_of n) w j || (wrapper_type (kind_of n) w j && first_named (children_of n) e at j))

-- ---- how a node stands

abbrev tell : Where → Node → Option ℕ
tell w n = failing_here (is_typed_target w n) n

abbrev walk : Node → Where → Option ℕ
walk = first_failing Where tell where_in

untyped : (n : Node) (w : Where) → walk n w ≡ None → (is_typed_target w n ≡ false) × NoneTells Where walk (where_in w n) (children_of n)
untyped n w h =
    let e = ap (λ f. f w) (from_leaves_out (Where → Option ℕ) (failing_step Where tell where_in) n) in
    let t = neither_least (tell w n) (least_from Where (where_in w n) 0 (map walk (children_of n))) (sym e ∙ h) in
    (not_failing (is_typed_target w n) n t.0, each_none Where walk (children_of n) (where_in w n) t.1)

-- an expression from which types went: any may stand there, or a simple target, which is no name where names are bound
abbrev Met : Node → Role → Type 0
Met n r = (is_open r ≡ true) ⊎ ((is_taking r ≡ true) × (is_simple_target n ≡ true) × (binds r ≡ true → is_name_under_types n ≡ false))

abbrev Meets : Node → Where → Where → Type 0
Meets n w v = (w.role ≡ v.role) ⊎ ((belongs sort.Expr (kind_of n) ≡ true) × (w.role ≡ role.Free) × Met n v.role)

record Stands (n : Node) (s : Shape) (w v : Where) : Type 0 where
  base : standing.Stands n s w v
  meets : Meets n w v
  walked : walk n w ≡ None

both_named : (a b c : Bool) → (a && (b && c)) ≡ false → a ≡ true → b ≡ true → c ≡ false
both_named true true c h x y = h
both_named true false c h x y = cc
both_named false b c h x y = cc

under : (n : Node) (s : Shape) (w v : Where) → class_of (kind_of n) ≡ Wrapped → HasShape s n → Stands n s w v → unfit_here w n ≡ None → (e : Node) → slice_get (children_of n) 0 ≡ Some e → HasShape (one sort.Expr) e → Stands e (one sort.Expr) (where_in w n 0) v
under n s w v c h r none e at has = record {
  base = standing.under n s w v c h r.base e has;
  meets = inr ((shape_parts e (one sort.Expr) has).0, wrapped_role (kind_of n) c w.role 0, met r.meets);
  walked = (untyped n w r.walked).1 0 e at;
}
  where
    unnamed : w.role ≡ v.role → binds v.role ≡ true → is_name_under_types e ≡ false
    unnamed same b =
        sym (named_under n e c at)
        ∙ both_named (binds w.role) (is_type_wrapper (kind_of n)) (is_name_under_types n) (untyped n w r.walked).0 (ap binds same ∙ b) (wrapper_type (kind_of n) c)

    direct : w.role ≡ v.role → (may_be w.role (kind_of n) ≡ true) ⊎ ((takes w.role (kind_of n) ≡ true) × (is_simple_target n ≡ true)) → Met e v.role
    direct same (inl m) = inl (unspoken_open v.role (kind_of n) (wrapped_unspoken (kind_of n) c) (ap (λ z. may_be z (kind_of n)) (sym same) ∙ m))
    direct same (inr (t, simple)) = inr (taking v.role (kind_of n) (ap (λ z. takes z (kind_of n)) (sym same) ∙ t), simple_under n e c at simple, unnamed same)

    met : Meets n w v → Met e v.role
    met (inl same) = direct same (must w.role n (in_role w n none))
    met (inr (x, f, inl o)) = inl o
    met (inr (x, f, inr (t, simple, named))) = inr (t, simple_under n e c at simple, λ b. sym (named_under n e c at) ∙ named b)

-- ---- a node without types

free_there : (w : Where) (n : Node) → w.role ≡ role.Free → is_out_of_role w.role n ≡ false → is_free (kind_of n) ≡ true
unfolding may_be takes
free_there w n e h = by (must role.Free n (ap (λ z. is_out_of_role z n) (sym e) ∙ h))
  where
    by : (may_be role.Free (kind_of n) ≡ true) ⊎ ((takes role.Free (kind_of n) ≡ true) × (is_simple_target n ≡ true)) → is_free (kind_of n) ≡ true
    by (inl m) = m
    by (inr (t, s)) = cc

role_here : (n : Node) (s : Shape) (w v : Where) → class_of (kind_of n) ≡ Usual → HasShape s n → Stands n s w v → unfit_here w n ≡ None → is_out_of_role v.role (stripped n) ≡ false
role_here n s w v u h r none = by r.meets
  where
    wrong : is_wrong_name v.role (plain_kind (kind_of n)) ≡ false
    wrong = name_here n s w v u h r.base none

    direct : w.role ≡ v.role → (may_be w.role (kind_of n) ≡ true) ⊎ ((takes w.role (kind_of n) ≡ true) × (is_simple_target n ≡ true)) → is_out_of_role v.role (stripped n) ≡ false
    direct same (inl m) = in_place v.role (stripped n) (plain_kind (kind_of n)) (usual_kind n u) wrong (may_plain v.role (kind_of n) ∙ (ap (λ z. may_be z (kind_of n)) (sym same) ∙ m))
    direct same (inr (t, simple)) =
        in_target v.role (stripped n) (plain_kind (kind_of n)) (usual_kind n u) wrong (takes_plain v.role (kind_of n) ∙ (ap (λ z. takes z (kind_of n)) (sym same) ∙ t)) (target_kept n s h simple)

    by : Meets n w v → is_out_of_role v.role (stripped n) ≡ false
    by (inl same) = direct same (must w.role n (in_role w n none))
    by (inr (e, f, inl o)) =
        in_place v.role (stripped n) (plain_kind (kind_of n)) (usual_kind n u) wrong (may_plain v.role (kind_of n) ∙ open_may v.role (kind_of n) o (free_there w n f (in_role w n none)))
    by (inr (e, f, inr (t, simple, named))) =
        in_target v.role (stripped n) (plain_kind (kind_of n)) (usual_kind n u) wrong (takes_plain v.role (kind_of n) ∙ taken v.role (kind_of n) t (λ b. named_kind n (named b))) (target_kept n s h simple)

missing_here : (n : Node) (w v : Where) → class_of (kind_of n) ≡ Typed → Meets n w v → is_out_of_role w.role n ≡ false → is_out_of_role v.role absent ≡ false
missing_here n w v t (inl same) h = by (must w.role n h)
  where
    by : (may_be w.role (kind_of n) ≡ true) ⊎ ((takes w.role (kind_of n) ≡ true) × (is_simple_target n ≡ true)) → is_out_of_role v.role absent ≡ false
    by (inl m) =
        in_place v.role absent kind.Absent (kind_node dummy_span kind.Absent []) refl
        (open_may v.role kind.Absent (unspoken_open v.role (kind_of n) (typed_unspoken (kind_of n) t) (ap (λ z. may_be z (kind_of n)) (sym same) ∙ m)) refl)
    by (inr (x, simple)) = typed_not_simple n t simple
missing_here n w v t (inr (e, f, met)) h = no_type (kind_of n) t e

no_listed : {A : Type 0} (k : Kind) → is_list k ≡ true → belongs sort.Expr k ≡ true → A
no_listed kind.List l b = absurd (cc)
no_listed _ l b = absurd (cc)

list_here : (n m : Node) (w v : Where) → is_list (kind_of n) ≡ true → kind_of m ≡ kind.List → Meets n w v → is_out_of_role w.role n ≡ false → is_out_of_role v.role m ≡ false
list_here n m w v l e (inl same) h = by (must w.role n h)
  where
    by : (may_be w.role (kind_of n) ≡ true) ⊎ ((takes w.role (kind_of n) ≡ true) × (is_simple_target n ≡ true)) → is_out_of_role v.role m ≡ false
    by (inl m') = in_place v.role m kind.List e refl (ap₂ may_be (sym same) (sym (list-kind (kind_of n) l)) ∙ m')
    by (inr (x, simple)) = list_not_simple n l simple
list_here n m w v l e (inr (b, f, met)) h = no_listed (kind_of n) l b

second_not_first : (i : ℕ) → (i == 2) ≡ true → (i == 0) ≡ false
second_not_first i h = go (i == 0) refl
  where
    go : (b : Bool) → (i == 0) ≡ b → (i == 0) ≡ false
    go false e = e
    go true e =
        let two : i ≡ 2 = eqb-true i 2 h in
        let none : i ≡ 0 = eqb-true i 0 e in
        let no : ⊥ = omega (arith, two, none) in
        absurd no

body_role : (k : Kind) (i : ℕ) → is_body_at k i ≡ true → (r : Role) → role_in r (plain_kind k) i ≡ role.Free
unfolding role_in plain_kind
body_role kind.IfStmt i b r = refl
body_role kind.LabeledStmt i b r = refl
body_role kind.WhileStmt i b r = refl
body_role kind.DoWhileStmt i b r = refl
body_role kind.ForStmt i b r = refl
body_role kind.ForInStmt i b r = ap (λ z. cond z role.Head role.Free) (second_not_first i b)
body_role (kind.ForOfStmt is_await) i b r = ap (λ z. cond z role.Head role.Free) (second_not_first i b)
body_role _ i b r = cc

receiver_role : (k : Kind) (i : ℕ) → is_receiver_at k i ≡ true → (r : Role) → role_in r (plain_kind k) i ≡ role.Parameter
unfolding role_in plain_kind
receiver_role kind.SetterProp i b r = ap (λ z. cond z role.Parameter (at_child 2 i role.Parameter)) b
receiver_role _ i b r = cc

role_now : (n : Node) (v : Where) (i : ℕ) → class_of (kind_of n) ≡ Usual → role_in v.role (kind_of (stripped n)) i ≡ role_in v.role (plain_kind (kind_of n)) i
role_now n v i u = ap (λ k. role_in v.role k i) (usual_kind n u)

empty_passes : (m : Node) (r : Role) → kind_of m ≡ kind.EmptyStmt → r ≡ role.Free → is_out_of_role r m ≡ false
unfolding may_be
empty_passes m r e f = ap (λ z. is_out_of_role z m) f ∙ in_place role.Free m kind.EmptyStmt e refl refl

lone_passes : (m : Node) (r : Role) → kind_of m ≡ kind.Absent → r ≡ role.Parameter → is_out_of_role r m ≡ false
unfolding may_be
lone_passes m r e f = ap (λ z. is_out_of_role z m) f ∙ in_place role.Parameter m kind.Absent e refl refl

carries : Carries Where where_in unfit_here (λ w n. failing_here (is_out_of_role w.role n) n) Stands
carries = record {
  missing = λ n s a b t h r none. none_failing (is_out_of_role b.role absent) absent (missing_here n a b t r.meets (in_role a n none));
  empty = λ n s a b u h r none i is span. (let m = node_of span kind.EmptyStmt [] in
      let v = where_in b (stripped n) i in none_failing (is_out_of_role v.role m) m (empty_passes m v.role (kind_node span kind.EmptyStmt []) (role_now n b i u ∙ body_role (kind_of n) i is b.role)));
  lone = λ n s a b u h r none i is. (let v = where_in b (stripped n) i in
      none_failing (is_out_of_role v.role absent) absent (lone_passes absent v.role (kind_node dummy_span kind.Absent []) (role_now n b i u ∙ receiver_role (kind_of n) i is b.role)));
  lists = λ n s a b l h r none span cs. (let m = node_of span kind.List cs in none_failing (is_out_of_role b.role m) m (list_here n m a b l (kind_node span kind.List cs) r.meets (in_role a n none)));
  under = under;
  here = λ n s a b u h r none. none_failing (is_out_of_role b.role (stripped n)) (stripped n) (role_here n s a b u h r none);
  items = λ n s a b l r m list c i j at last. record {
    base = standing.items n s a b l r.base m list c i j;
    meets = inl (role_item n a b l r.base.how m list i j);
    walked = (untyped n a r.walked).1 i c at;
  };
  below = λ n s a b u h r none c o i at shape. record {
    base = standing.below n s a b u r.base c o i shape;
    meets = inl (role_below n a b u r.base.how i);
    walked = (untyped n a r.walked).1 i c at;
  };
}

pub roles_kept : (tree : Node) → Fits tree → HasPlainTargets tree → NoneFails (λ w n. is_out_of_role w.role n) (stripped tree)
roles_kept tree f plain =
    (kept Where where_in unfit_here (λ w n. failing_here (is_out_of_role w.role n) n) Stands carries tree (one sort.Module) at_top at_top f.sorted
    (record { base = record { arguments = refl; tagged = λ t. absurd (cc); how = inl refl }; meets = inl refl; walked = plain }) (none_unfit tree f)).0
