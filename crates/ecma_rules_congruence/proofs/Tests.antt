-- Each rule holds of a node as it does without spans.
use Rattle.std.proofs.Common.{◌≡◌, ◌∙◌, Bool, true, false, not, cond, codes, ◌&&◌, ◌||◌, List, [], ◌∷◌, map, refl, sym, ap, ap₂, subst}
use Rattle.std.specs.Prelude.{filter, is_some}
use Rattle.std.specs.List.{list_any}
use Rattle.ecma_kind.specs.declared.kind.Kind.{Kind}
use Rattle.ecma_kind.specs.declared.kind.Kind.TheVariants as kind
use Rattle.ecma_kind.specs.declared.operators.MethodKind.{MethodKind}
use Rattle.ecma_kind.specs.declared.operators.MethodKind.TheVariants.{Method, Getter, Setter}
use Rattle.ecma_tree.specs.declared.node.Node.{Node, Node-F, fold_out-Node, ind-Node, out-Node, roll-Node}
use Rattle.ecma_tree.specs.declared.node.Node.TheViews.{out-roll-Node}
use Rattle.ecma_tree.specs.Spans.{without_spans}
use Rattle.ecma_rules.specs.declared.target.Target.{Target}
use Rattle.ecma_rules.specs.declared.standing.Around.{Around}
use Rattle.ecma_rules.specs.declared.standing.Standing.{Standing}
use Rattle.ecma_rules.specs.Children.{is_named, items_at, kind_of}
use Rattle.ecma_rules.specs.Lists.{is_head, is_one_without_value, is_rest, is_rest_pattern, is_wrong_head}
use Rattle.ecma_rules.specs.Members.{behind_first, fits_kind, is_binding_name, is_constructor_key, is_declaring, is_empty_list, is_full_constructor, is_constructor, is_method, is_misfit, is_named_pattern, is_one_parameter, is_plain_parameter, is_property_kind, is_special_by, is_special_constructor, is_special_function, is_stray_property, is_this_by, is_this_parameter, is_this_pattern, misfits_by, misplaces_this, misplaces_this_by, parameters_of, second_by, second_constructor, second_of, takes_not_one, takes_one, has_body}
use Rattle.ecma_rules.specs.Rules.{fails_list, fails_member, fails_statement, fails_super, fails_target, is_misplaced}
use Rattle.ecma_rules.specs.Statements.{is_declaration, is_exported, is_body, is_text}
use Rattle.ecma_rules.specs.Supers.{is_private_name, is_super, is_linked, is_super_member}
use Rattle.ecma_rules.specs.Targets.{first_is, is_plain_target, is_simple_target, is_variables, is_wrapper, simple_step}
use Rattle.ecma_rules_congruence.proofs.Bare.{IsBare, bare-child_holds, bare-child_is, bare-children, bare-has_child, bare-items, bare-kind}

-- targets

simple-out : (n : Node) → is_simple_target n ≡ (is_plain_target (kind_of n) || (is_wrapper (kind_of n) && first_is (map is_simple_target (out-Node n).children)))
simple-out = fold_out-Node Bool simple_step

abbrev FirstSame : List Node → Type 0
FirstSame ns = first_is (map is_simple_target (map without_spans ns)) ≡ first_is (map is_simple_target ns)

first-same : (ns : List ((n : Node) × (is_simple_target (without_spans n) ≡ is_simple_target n))) → FirstSame (map (λ e. e.0) ns)
first-same [] = refl
first-same (n ∷ ns) = n.1

simple-layer : (n : Node) → FirstSame (out-Node n).children → is_simple_target (without_spans n) ≡ is_simple_target n
simple-layer n first =
    simple-out (without_spans n)
    ∙ ap₂ (λ k is. is_plain_target k || (is_wrapper k && is)) (bare-kind n) (ap (λ ns. first_is (map is_simple_target ns)) (bare-children n) ∙ first)
    ∙ sym (simple-out n)

pub simple-bare : IsBare is_simple_target
simple-bare = ind-Node (λ n. is_simple_target (without_spans n) ≡ is_simple_target n) (λ x y is.
    simple-layer (roll-Node x) (subst (λ (z : Node-F Node). FirstSame z.children) (is ∙ sym (out-roll-Node x)) (first-same y.children)))

target-bare : (around : Around) (n : Node) → fails_target around (without_spans n) ≡ fails_target around n
target-bare around n = rw (bare-kind n, simple-bare n) refl

-- lists

one-bare : (ns : List Node) → is_one_without_value (map without_spans ns) ≡ is_one_without_value ns
one-bare [] = refl
one-bare (n ∷ []) = ap not (bare-has_child n 1)
one-bare (n ∷ n' ∷ ns) = refl

head-bare : (t : Target) (n : Node) → is_wrong_head t (without_spans n) ≡ is_wrong_head t n
head-bare t n = ap₂ (λ k one. (is_head t && is_variables k) && not one) (bare-kind n) (ap is_one_without_value (bare-items n 0) ∙ one-bare (items_at n 0))

list-bare : (around : Around) (n : Node) → fails_list around (without_spans n) ≡ fails_list around n
list-bare around n = ap₂ (λ wrong k. wrong || (is_rest around.target k && not around.is_last)) (head-bare around.target n) (bare-kind n)

-- members

named-bare : (k : Kind) (n : Node) → is_named_pattern k (without_spans n) ≡ is_named_pattern k n
named-bare kind.BindingIdent n = refl
named-bare kind.AssignPat n = bare-child_is is_binding_name n 0
named-bare k n = refl

plain-bare : IsBare is_plain_parameter
plain-bare n = ap (λ k. is_named_pattern k (without_spans n)) (bare-kind n) ∙ named-bare (kind_of n) n

property-bare : (s : Standing) (n : Node) → is_stray_property s (without_spans n) ≡ is_stray_property s n
property-bare s n = ap₂ (λ k holds. is_property_kind k && not (is_declaring s && holds)) (bare-kind n) (bare-child_holds is_plain_parameter plain-bare n 0)

this-by-bare : (k : Kind) (n : Node) → is_this_by k (without_spans n) ≡ is_this_by k n
this-by-bare kind.BindingIdent n = bare-child_is (is_named (codes "this")) n 0
this-by-bare k n = refl

this-bare : IsBare is_this_pattern
this-bare n = ap (λ k. is_this_by k (without_spans n)) (bare-kind n) ∙ this-by-bare (kind_of n) n

this-parameter-bare : IsBare is_this_parameter
this-parameter-bare n = bare-child_holds is_this_pattern this-bare n 0

takes-one-bare : IsBare takes_one
takes-one-bare n = ap₂ (λ a b. not a && not b) (this-parameter-bare n) (bare-child_is is_rest_pattern n 0)

one-parameter-bare : (ns : List Node) → is_one_parameter (map without_spans ns) ≡ is_one_parameter ns
one-parameter-bare [] = refl
one-parameter-bare (n ∷ []) = takes-one-bare n
one-parameter-bare (n ∷ n' ∷ []) = ap₂ (λ a b. a && b) (this-parameter-bare n) (takes-one-bare n')
one-parameter-bare (n ∷ n' ∷ n'' ∷ ns) = refl

empty-bare : (ns : List Node) → is_empty_list (map without_spans ns) ≡ is_empty_list ns
empty-bare [] = refl
empty-bare (n ∷ ns) = refl

fits-bare : (k : MethodKind) → IsBare (fits_kind k)
fits-bare Method n = refl
fits-bare Getter n = ap is_empty_list (bare-items n 0) ∙ empty-bare (parameters_of n)
fits-bare Setter n = ap is_one_parameter (bare-items n 0) ∙ one-parameter-bare (parameters_of n)

misfits-bare : (k : Kind) (n : Node) → misfits_by k (without_spans n) ≡ misfits_by k n
unfolding misfits_by
misfits-bare kind.AssignPat n = bare-child_is is_rest_pattern n 0
misfits-bare kind.GetterProp n = ap₂ (λ a b. a || not b) (bare-has_child n 3) (bare-has_child n 2)
misfits-bare kind.SetterProp n = ap₂ (λ a b. a || not b) (bare-child_is takes_not_one n 2) (bare-has_child n 3)
misfits-bare kind.MethodProp n = ap not (bare-child_holds has_body (λ m. bare-has_child m 1) n 1)
misfits-bare (kind.ClassMethod k modifiers) n = ap not (bare-child_holds (fits_kind k) (fits-bare k) n 1)
misfits-bare (kind.PrivateMethod k modifiers) n = ap not (bare-child_holds (fits_kind k) (fits-bare k) n 1)
misfits-bare k n = refl

misfit-bare : IsBare is_misfit
misfit-bare n = ap (λ k. misfits_by k (without_spans n)) (bare-kind n) ∙ misfits-bare (kind_of n) n

special-by-bare : (k : Kind) (n : Node) → is_special_by k (without_spans n) ≡ is_special_by k n
special-by-bare (kind.ClassMethod k modifiers) n =
    ap₂ (λ key function. not modifiers.is_static && (key && (not (is_method k) || function))) (bare-child_is is_constructor_key n 0) (bare-child_is is_special_function n 1)
special-by-bare k n = refl

special-bare : IsBare is_special_constructor
special-bare n = ap (λ k. is_special_by k (without_spans n)) (bare-kind n) ∙ special-by-bare (kind_of n) n

any-bare : (test : Node → Bool) → IsBare test → (ns : List Node) → list_any test (map without_spans ns) ≡ list_any test ns
any-bare test same [] = refl
any-bare test same (n ∷ ns) = ap₂ (λ a b. a || b) (same n) (any-bare test same ns)

behind-bare : (ns : List Node) → behind_first (map without_spans ns) ≡ map without_spans (behind_first ns)
behind-bare [] = refl
behind-bare (n ∷ ns) = refl

receiver-bare : (k : Kind) (n : Node) → misplaces_this_by k (without_spans n) ≡ misplaces_this_by k n
unfolding misplaces_this_by
receiver-bare (kind.Function is_generator is_async) n =
    ap (λ (ns : List Node). list_any is_this_parameter (behind_first ns)) (bare-items n 0) ∙ ap (list_any is_this_parameter) (behind-bare (items_at n 0))
    ∙ any-bare is_this_parameter this-parameter-bare (behind_first (items_at n 0))
receiver-bare (kind.ArrowExpr is_async is_generator) n = ap (list_any is_this_pattern) (bare-items n 0) ∙ any-bare is_this_pattern this-bare (items_at n 0)
receiver-bare (kind.Constructor accessibility is_optional) n = ap (list_any is_this_parameter) (bare-items n 1) ∙ any-bare is_this_parameter this-parameter-bare (items_at n 1)
receiver-bare kind.SetterProp n = bare-child_holds is_this_pattern this-bare n 2
receiver-bare k n = refl

misplaces-bare : IsBare misplaces_this
misplaces-bare n = ap (λ k. misplaces_this_by k (without_spans n)) (bare-kind n) ∙ receiver-bare (kind_of n) n

member-bare : (around : Around) (n : Node) → fails_member around (without_spans n) ≡ fails_member around n
member-bare around n = ap₂ (λ a b. a || b) (property-bare around.standing n) (ap₂ (λ a b. a || b) (misfit-bare n) (ap₂ (λ a b. a || b) (special-bare n) (misplaces-bare n)))

-- statements, and `super`

statement-bare : (around : Around) (n : Node) → fails_statement around (without_spans n) ≡ fails_statement around n
statement-bare around n = ap (λ k. (is_exported around.standing && is_text k) || (is_body around.standing && is_declaration k)) (bare-kind n)

super-bare : (around : Around) (n : Node) → fails_super around (without_spans n) ≡ fails_super around n
super-bare around n =
    ap₂ (λ k private. (is_super k && not (is_linked around.standing)) || (is_super_member k && private)) (bare-kind n) (bare-child_is is_private_name n 1)

pub misplaced-bare : (around : Around) (n : Node) → is_misplaced around (without_spans n) ≡ is_misplaced around n
unfolding is_misplaced
misplaced-bare around n =
    ap₂ (λ a b. a || b) (target-bare around n)
    (ap₂ (λ a b. a || b) (list-bare around n) (ap₂ (λ a b. a || b) (member-bare around n) (ap₂ (λ a b. a || b) (statement-bare around n) (super-bare around n))))

-- the second constructor of a class

full-bare : IsBare is_full_constructor
full-bare n = ap₂ (λ k there. is_constructor k && there) (bare-kind n) (bare-has_child n 2)

full-filter : (ns : List Node) → filter is_full_constructor (map without_spans ns) ≡ map without_spans (filter is_full_constructor ns)
full-filter [] = refl
full-filter (n ∷ ns) = rw (full-bare n, full-filter ns) (go (is_full_constructor n))
  where
    go : (b : Bool) → cond b (without_spans n ∷ map without_spans (filter is_full_constructor ns)) (map without_spans (filter is_full_constructor ns)) ≡ map without_spans (cond b (n ∷ filter is_full_constructor ns) (filter is_full_constructor ns))
    go true = refl
    go false = refl

second-of : (ns : List Node) → is_some (second_of (map without_spans ns)) ≡ is_some (second_of ns)
second-of [] = refl
second-of (n ∷ []) = refl
second-of (n ∷ n' ∷ ns) = refl

second-by : (k : Kind) (n : Node) → is_some (second_by k (without_spans n)) ≡ is_some (second_by k n)
second-by (kind.Class is_abstract) n =
    ap (λ (ns : List Node). is_some (second_of (filter is_full_constructor ns))) (bare-items n 1) ∙ ap (λ (ns : List Node). is_some (second_of ns)) (full-filter (items_at n 1)) ∙ second-of (filter is_full_constructor (items_at n 1))
second-by k n = refl

pub second-bare : (n : Node) → is_some (second_constructor (without_spans n)) ≡ is_some (second_constructor n)
second-bare n = ap (λ k. is_some (second_by k (without_spans n))) (bare-kind n) ∙ second-by (kind_of n) n
