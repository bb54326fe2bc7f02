-- Each rule holds of a node as it does without what types hold.
use Rattle.std.proofs.Common.{◌≡◌, ◌∙◌, ℕ, Bool, true, false, not, cond, codes, ◌&&◌, ◌||◌, List, [], ◌∷◌, map, Option, Some, None, refl, sym, ap, ap₂, slice_get, subst}
use Rattle.std.specs.Prelude.{filter, is_some}
use Rattle.std.specs.List.{list_any}
use Rattle.ecma_kind.specs.declared.kind.Kind.{Kind}
use Rattle.ecma_kind.specs.declared.kind.Kind.TheVariants as kind
use Rattle.ecma_kind.specs.declared.operators.MethodKind.{MethodKind}
use Rattle.ecma_kind.specs.declared.operators.MethodKind.TheVariants.{Method, Getter, Setter}
use Rattle.ecma_kind.specs.declared.shapes.Sort.TheVariants as sort
use Rattle.ecma_tree.specs.declared.node.Node.{Node, Node-F, fold_out-Node, ind-Node, out-Node, roll-Node}
use Rattle.ecma_tree.specs.declared.node.Node.TheViews.{out-roll-Node}
use Rattle.ecma_grammar_laws.specs.RawSorts.{RawShape, RawSort, belongs_raw, many, one, parameter, sorted}
use Rattle.ecma_rules.specs.declared.target.Target.{Target}
use Rattle.ecma_rules.specs.declared.standing.Around.{Around}
use Rattle.ecma_rules.specs.declared.standing.Standing.{Standing}
use Rattle.ecma_rules.specs.Baring.{bared}
use Rattle.ecma_rules.specs.Children.{child_holds, child_is, children_of, has_child, holds_of, is_named, items_at, kind_of}
use Rattle.ecma_rules.specs.Lists.{is_head, is_one_without_value, is_rest, is_rest_pattern, is_wrong_head}
use Rattle.ecma_rules.specs.Members.{behind_first, fits_kind, is_binding_name, is_constructor_key, is_declaring, is_empty_list, is_full_constructor, is_constructor, is_method, is_misfit, is_named_pattern, is_one_parameter, is_plain_parameter, is_property_kind, is_special_by, is_special_constructor, is_special_function, is_stray_property, is_this_by, is_this_parameter, is_this_pattern, misfits_by, misplaces_this, misplaces_this_by, second_by, second_constructor, second_of, takes_not_one, takes_one, has_body}
use Rattle.ecma_rules.specs.Rules.{fails_list, fails_member, fails_statement, fails_super, fails_target, is_misplaced}
use Rattle.ecma_rules.specs.Statements.{is_declaration, is_exported, is_body, is_text}
use Rattle.ecma_rules.specs.Supers.{is_private_name, is_super, is_linked, is_super_member}
use Rattle.ecma_rules.specs.Targets.{first_is, is_plain_target, is_simple_target, is_variables, is_wrapper, simple_step}
use Rattle.ecma_text_types.proofs.Bared.{IsBared, Mapped, MappedAs, bared-child, bared-child_holds, bared-child_is, bared-has_child, bared-items, bared-kind, bared_of, mapped}
use Rattle.ecma_text_types.proofs.Shaped.{BelowAs, EachShaped, Shaped, declarator_mapped, function_mapped, list_items, list_mapped, parameter_mapped, shaped_below, shaped_kind}

-- targets

simple-out : (n : Node) → is_simple_target n ≡ (is_plain_target (kind_of n) || (is_wrapper (kind_of n) && first_is (map is_simple_target (out-Node n).children)))
simple-out = fold_out-Node Bool simple_step

abbrev FirstSame : List Node → Type 0
FirstSame ns = first_is (map is_simple_target (map bared ns)) ≡ first_is (map is_simple_target ns)

first-same : (ns : List ((n : Node) × (is_simple_target (bared n) ≡ is_simple_target n))) → FirstSame (map (λ e. e.0) ns)
first-same [] = refl
first-same (n ∷ ns) = n.1

-- a wrapper holds no types
wrapped-same : (k : Kind) (n : Node) → MappedAs k n → FirstSame (out-Node n).children
    → (is_wrapper k && first_is (map is_simple_target (out-Node (bared n)).children)) ≡ (is_wrapper k && first_is (map is_simple_target (out-Node n).children))
wrapped-same kind.TsType n m first = refl
wrapped-same kind.TsTypeParamDecl n m first = refl
wrapped-same kind.TsTypeParamInstantiation n m first = refl
wrapped-same (kind.TsIndexSignature readonly is_static) n m first = refl
wrapped-same (kind.TsInterfaceDecl declare) n m first = refl
wrapped-same (kind.TsTypeAliasDecl declare) n m first = refl
wrapped-same k n m first = ap (λ b. is_wrapper k && b) (ap (λ (ns : List Node). first_is (map is_simple_target ns)) (m refl) ∙ first)

simple-layer : (n : Node) → FirstSame (out-Node n).children → is_simple_target (bared n) ≡ is_simple_target n
simple-layer n first =
    simple-out (bared n)
    ∙ ap (λ k. is_plain_target k || (is_wrapper k && first_is (map is_simple_target (out-Node (bared n)).children))) (bared-kind n)
    ∙ ap (λ is. is_plain_target (kind_of n) || is) (wrapped-same (kind_of n) n (mapped n) first)
    ∙ sym (simple-out n)

simple-bared : IsBared is_simple_target
simple-bared = ind-Node (λ n. is_simple_target (bared n) ≡ is_simple_target n) (λ x y is.
    simple-layer (roll-Node x) (subst (λ (z : Node-F Node). FirstSame z.children) (is ∙ sym (out-roll-Node x)) (first-same y.children)))

target-bared : (around : Around) (n : Node) → fails_target around (bared n) ≡ fails_target around n
target-bared around n = rw (bared-kind n, simple-bared n) refl

-- lists

abbrev parameters : RawSort
parameters = sorted sort.ParamOrTsParamProp

-- a list of these stands at an index
abbrev Listed : RawSort → Node → ℕ → Type 0
Listed r n i = (c : Node) → slice_get (out-Node n).children i ≡ Some c → Shaped (many r) c

-- what is asked of its items
items-alike : {A : Type 0} (test : List Node → A) (r : RawSort) → ((ns : List Node) → EachShaped r ns → test (map bared ns) ≡ test ns)
    → (n : Node) (i : ℕ) → Mapped n → Listed r n i → test (items_at (bared n) i) ≡ test (items_at n i)
items-alike test r same n i m lists = ap test (bared-items n m i (λ c at. list_mapped r c (lists c at))) ∙ go (slice_get (out-Node n).children i) lists
  where
    go : (child : Option Node) → ((c : Node) → child ≡ Some c → Shaped (many r) c) → test (map bared (children_of child)) ≡ test (children_of child)
    go None lists = same [] tt
    go (Some c) lists = same (out-Node c).children (list_items r c (lists c refl))

-- what is asked of a child of a shape
child-alike : (test : Node → Bool) (t : RawShape) → ((c : Node) → Shaped t c → test (bared c) ≡ test c)
    → (n : Node) (i : ℕ) → Mapped n → ((c : Node) → slice_get (out-Node n).children i ≡ Some c → Shaped t c) → child_holds test (bared n) i ≡ child_holds test n i
child-alike test t same n i m below = ap (holds_of test) (bared-child n m i) ∙ go (slice_get (out-Node n).children i) below
  where
    go : (child : Option Node) → ((c : Node) → child ≡ Some c → Shaped t c) → holds_of test (bared_of child) ≡ holds_of test child
    go None below = refl
    go (Some c) below = same c (below c refl)

one-bared : (ns : List Node) → EachShaped (sorted sort.VarDeclarator) ns → is_one_without_value (map bared ns) ≡ is_one_without_value ns
one-bared [] each = refl
one-bared (n ∷ []) each = ap not (bared-has_child n (declarator_mapped n each.0) 1)
one-bared (n ∷ n' ∷ ns) each = refl

no-head : (a b c : Bool) → ((a && false) && b) ≡ ((a && false) && c)
no-head true b c = refl
no-head false b c = refl

head-by : (t : Target) (k : Kind) (s : RawShape) (n : Node) → MappedAs k n → BelowAs k s n
    → ((is_head t && is_variables k) && not (is_one_without_value (items_at (bared n) 0))) ≡ ((is_head t && is_variables k) && not (is_one_without_value (items_at n 0)))
head-by t (kind.VarDecl k declare) s n m b =
    ap (λ one. (is_head t && true) && not one) (items-alike is_one_without_value (sorted sort.VarDeclarator) one-bared n 0 (m refl) (b refl 0 (many (sorted sort.VarDeclarator)) refl))
head-by t k s n m b = no-head (is_head t) (not (is_one_without_value (items_at (bared n) 0))) (not (is_one_without_value (items_at n 0)))

head-bared : (t : Target) (s : RawShape) (n : Node) → Shaped s n → is_wrong_head t (bared n) ≡ is_wrong_head t n
head-bared t s n h =
    ap (λ k. (is_head t && is_variables k) && not (is_one_without_value (items_at (bared n) 0))) (bared-kind n) ∙ head-by t (kind_of n) s n (mapped n) (shaped_below s n h)

list-bared : (around : Around) (s : RawShape) (n : Node) → Shaped s n → fails_list around (bared n) ≡ fails_list around n
list-bared around s n h = ap₂ (λ wrong k. wrong || (is_rest around.target k && not around.is_last)) (head-bared around.target s n h) (bared-kind n)

-- members

named-by : (k : Kind) (n : Node) → MappedAs k n → is_named_pattern k (bared n) ≡ is_named_pattern k n
named-by kind.BindingIdent n m = refl
named-by kind.AssignPat n m = bared-child_is is_binding_name n (m refl) 0
named-by k n m = refl

plain-bared : IsBared is_plain_parameter
plain-bared n = ap (λ k. is_named_pattern k (bared n)) (bared-kind n) ∙ named-by (kind_of n) n (mapped n)

property-by : (s : Standing) (k : Kind) (n : Node) → MappedAs k n
    → (is_property_kind k && not (is_declaring s && child_holds is_plain_parameter (bared n) 0)) ≡ (is_property_kind k && not (is_declaring s && child_holds is_plain_parameter n 0))
property-by s (kind.TsParamProp accessibility is_override readonly) n m = ap (λ holds. not (is_declaring s && holds)) (bared-child_holds is_plain_parameter plain-bared n (m refl) 0)
property-by s k n m = refl

property-bared : (s : Standing) (n : Node) → is_stray_property s (bared n) ≡ is_stray_property s n
property-bared s n =
    ap (λ k. is_property_kind k && not (is_declaring s && child_holds is_plain_parameter (bared n) 0)) (bared-kind n) ∙ property-by s (kind_of n) n (mapped n)

this-by : (k : Kind) (n : Node) → MappedAs k n → is_this_by k (bared n) ≡ is_this_by k n
this-by kind.BindingIdent n m = bared-child_is (is_named (codes "this")) n (m refl) 0
this-by k n m = refl

this-bared : IsBared is_this_pattern
this-bared n = ap (λ k. is_this_by k (bared n)) (bared-kind n) ∙ this-by (kind_of n) n (mapped n)

-- a test of a parameter
abbrev ParameterAlike : (Node → Bool) → Type 0
ParameterAlike test = (n : Node) → Shaped (one parameters) n → test (bared n) ≡ test n

this-parameter-bared : ParameterAlike is_this_parameter
this-parameter-bared n h = bared-child_holds is_this_pattern this-bared n (parameter_mapped n h) 0

takes-one-bared : ParameterAlike takes_one
takes-one-bared n h = ap₂ (λ a b. not a && not b) (this-parameter-bared n h) (bared-child_is is_rest_pattern n (parameter_mapped n h) 0)

one-parameter-bared : (ns : List Node) → EachShaped parameters ns → is_one_parameter (map bared ns) ≡ is_one_parameter ns
one-parameter-bared [] each = refl
one-parameter-bared (n ∷ []) each = takes-one-bared n each.0
one-parameter-bared (n ∷ n' ∷ []) each = ap₂ (λ a b. a && b) (this-parameter-bared n each.0) (takes-one-bared n' each.1.0)
one-parameter-bared (n ∷ n' ∷ n'' ∷ ns) each = refl

empty-bared : (ns : List Node) → EachShaped parameters ns → is_empty_list (map bared ns) ≡ is_empty_list ns
empty-bared [] each = refl
empty-bared (n ∷ ns) each = refl

fits-by : (k : MethodKind) (n : Node) → Mapped n → Listed parameters n 0 → fits_kind k (bared n) ≡ fits_kind k n
fits-by Method n m lists = refl
fits-by Getter n m lists = items-alike is_empty_list parameters empty-bared n 0 m lists
fits-by Setter n m lists = items-alike is_one_parameter parameters one-parameter-bared n 0 m lists

function-by : (k : Kind) (s : RawShape) (n : Node) → belongs_raw (sorted sort.Function) k ≡ true → BelowAs k s n → Listed parameters n 0
function-by (kind.Function is_generator is_async) s n is b = b refl 0 (many parameters) refl
function-by k s n is b = absurd (cc)

abbrev function : RawShape
function = one (sorted sort.Function)

fits-bared : (k : MethodKind) (n : Node) → Shaped function n → fits_kind k (bared n) ≡ fits_kind k n
fits-bared k n h = fits-by k n (function_mapped n h) (function-by (kind_of n) function n (shaped_kind function n h) (shaped_below function n h))

body-bared : (n : Node) → Shaped function n → has_body (bared n) ≡ has_body n
body-bared n h = bared-has_child n (function_mapped n h) 1

misfits-by : (k : Kind) (s : RawShape) (n : Node) → MappedAs k n → BelowAs k s n → misfits_by k (bared n) ≡ misfits_by k n
unfolding misfits_by
misfits-by kind.AssignPat s n m b = bared-child_is is_rest_pattern n (m refl) 0
misfits-by kind.GetterProp s n m b = ap₂ (λ a b. a || not b) (bared-has_child n (m refl) 3) (bared-has_child n (m refl) 2)
misfits-by kind.SetterProp s n m b = ap₂ (λ a b. a || not b) (bared-child_is takes_not_one n (m refl) 2) (bared-has_child n (m refl) 3)
misfits-by kind.MethodProp s n m b = ap not (child-alike has_body function body-bared n 1 (m refl) (b refl 1 function refl))
misfits-by (kind.ClassMethod k modifiers) s n m b = ap not (child-alike (fits_kind k) function (fits-bared k) n 1 (m refl) (b refl 1 function refl))
misfits-by (kind.PrivateMethod k modifiers) s n m b = ap not (child-alike (fits_kind k) function (fits-bared k) n 1 (m refl) (b refl 1 function refl))
misfits-by k s n m b = refl

misfit-bared : (s : RawShape) (n : Node) → Shaped s n → is_misfit (bared n) ≡ is_misfit n
misfit-bared s n h = ap (λ k. misfits_by k (bared n)) (bared-kind n) ∙ misfits-by (kind_of n) s n (mapped n) (shaped_below s n h)

special-by : (k : Kind) (n : Node) → MappedAs k n → is_special_by k (bared n) ≡ is_special_by k n
special-by (kind.ClassMethod k modifiers) n m =
    ap₂ (λ key function. not modifiers.is_static && (key && (not (is_method k) || function)))
    (bared-child_is is_constructor_key n (m refl) 0) (bared-child_is is_special_function n (m refl) 1)
special-by k n m = refl

special-bared : IsBared is_special_constructor
special-bared n = ap (λ k. is_special_by k (bared n)) (bared-kind n) ∙ special-by (kind_of n) n (mapped n)

any-bared : (test : Node → Bool) → IsBared test → (ns : List Node) → list_any test (map bared ns) ≡ list_any test ns
any-bared test same [] = refl
any-bared test same (n ∷ ns) = ap₂ (λ a b. a || b) (same n) (any-bared test same ns)

any-this-bared : (ns : List Node) → EachShaped parameters ns → list_any is_this_parameter (map bared ns) ≡ list_any is_this_parameter ns
any-this-bared [] each = refl
any-this-bared (n ∷ ns) each = ap₂ (λ a b. a || b) (this-parameter-bared n each.0) (any-this-bared ns each.1)

behind-bared : (ns : List Node) → EachShaped parameters ns → list_any is_this_parameter (behind_first (map bared ns)) ≡ list_any is_this_parameter (behind_first ns)
behind-bared [] each = refl
behind-bared (n ∷ ns) each = any-this-bared ns each.1

receiver-by : (k : Kind) (s : RawShape) (n : Node) → MappedAs k n → BelowAs k s n → misplaces_this_by k (bared n) ≡ misplaces_this_by k n
unfolding misplaces_this_by
receiver-by (kind.Function is_generator is_async) s n m b =
    items-alike (λ (ns : List Node). list_any is_this_parameter (behind_first ns)) parameters behind-bared n 0 (m refl) (b refl 0 (many parameters) refl)
receiver-by (kind.ArrowExpr is_async is_generator) s n m b =
    items-alike (list_any is_this_pattern) parameter (λ ns each. any-bared is_this_pattern this-bared ns) n 0 (m refl) (b refl 0 (many parameter) refl)
receiver-by (kind.Constructor accessibility is_optional) s n m b = items-alike (list_any is_this_parameter) parameters any-this-bared n 1 (m refl) (b refl 1 (many parameters) refl)
receiver-by kind.SetterProp s n m b = bared-child_holds is_this_pattern this-bared n (m refl) 2
receiver-by k s n m b = refl

misplaces-bared : (s : RawShape) (n : Node) → Shaped s n → misplaces_this (bared n) ≡ misplaces_this n
misplaces-bared s n h = ap (λ k. misplaces_this_by k (bared n)) (bared-kind n) ∙ receiver-by (kind_of n) s n (mapped n) (shaped_below s n h)

member-bared : (around : Around) (s : RawShape) (n : Node) → Shaped s n → fails_member around (bared n) ≡ fails_member around n
member-bared around s n h =
    ap₂ (λ a b. a || b) (property-bared around.standing n)
    (ap₂ (λ a b. a || b) (misfit-bared s n h) (ap₂ (λ a b. a || b) (special-bared n) (misplaces-bared s n h)))

-- statements, and `super`

statement-bared : (around : Around) (n : Node) → fails_statement around (bared n) ≡ fails_statement around n
statement-bared around n = ap (λ k. (is_exported around.standing && is_text k) || (is_body around.standing && is_declaration k)) (bared-kind n)

private-by : (k : Kind) (n : Node) → MappedAs k n → (is_super_member k && child_is is_private_name (bared n) 1) ≡ (is_super_member k && child_is is_private_name n 1)
private-by kind.SuperPropExpr n m = bared-child_is is_private_name n (m refl) 1
private-by k n m = refl

super-bared : (around : Around) (n : Node) → fails_super around (bared n) ≡ fails_super around n
super-bared around n =
    ap (λ k. (is_super k && not (is_linked around.standing)) || (is_super_member k && child_is is_private_name (bared n) 1)) (bared-kind n)
    ∙ ap (λ private. (is_super (kind_of n) && not (is_linked around.standing)) || private) (private-by (kind_of n) n (mapped n))

pub misplaced-bared : (around : Around) (s : RawShape) (n : Node) → Shaped s n → is_misplaced around (bared n) ≡ is_misplaced around n
unfolding is_misplaced
misplaced-bared around s n h =
    ap₂ (λ a b. a || b) (target-bared around n)
    (ap₂ (λ a b. a || b) (list-bared around s n h) (ap₂ (λ a b. a || b) (member-bared around s n h) (ap₂ (λ a b. a || b) (statement-bared around n) (super-bared around n))))

-- the second constructor of a class

full-by : (k : Kind) (n : Node) → MappedAs k n → (is_constructor k && has_child (bared n) 2) ≡ (is_constructor k && has_child n 2)
full-by (kind.Constructor accessibility is_optional) n m = bared-has_child n (m refl) 2
full-by k n m = refl

full-bared : IsBared is_full_constructor
full-bared n = ap (λ k. is_constructor k && has_child (bared n) 2) (bared-kind n) ∙ full-by (kind_of n) n (mapped n)

full-filter : (ns : List Node) → filter is_full_constructor (map bared ns) ≡ map bared (filter is_full_constructor ns)
full-filter [] = refl
full-filter (n ∷ ns) = rw (full-bared n, full-filter ns) (go (is_full_constructor n))
  where
    go : (b : Bool) → cond b (bared n ∷ map bared (filter is_full_constructor ns)) (map bared (filter is_full_constructor ns)) ≡ map bared (cond b (n ∷ filter is_full_constructor ns) (filter is_full_constructor ns))
    go true = refl
    go false = refl

second-of : (ns : List Node) → is_some (second_of (map bared ns)) ≡ is_some (second_of ns)
second-of [] = refl
second-of (n ∷ []) = refl
second-of (n ∷ n' ∷ ns) = refl

second-by : (k : Kind) (s : RawShape) (n : Node) → MappedAs k n → BelowAs k s n → is_some (second_by k (bared n)) ≡ is_some (second_by k n)
second-by (kind.Class is_abstract) s n m b =
    items-alike (λ (ns : List Node). is_some (second_of (filter is_full_constructor ns))) (sorted sort.ClassMember)
    (λ ns each. ap (λ (ms : List Node). is_some (second_of ms)) (full-filter ns) ∙ second-of (filter is_full_constructor ns)) n 1 (m refl) (b refl 1 (many (sorted sort.ClassMember)) refl)
second-by k s n m b = refl

pub second-bared : (s : RawShape) (n : Node) → Shaped s n → is_some (second_constructor (bared n)) ≡ is_some (second_constructor n)
second-bared s n h = ap (λ k. is_some (second_by k (bared n))) (bared-kind n) ∙ second-by (kind_of n) s n (mapped n) (shaped_below s n h)
