-- What the rules ask of a node, and where its children stand, looks at no source text.
use Rattle.std.proofs.Common.{◌≡◌, ◌∙◌, ℕ, Bool, true, false, not, ◌&&◌, ◌||◌, codes, cond, List, [], ◌∷◌, map, filter, length, Option, Some, None, refl, ap, ap₂, slice_get}
use Rattle.std.specs.List.{list_any}
use Rattle.ecma_kind.specs.declared.kind.Kind.{Kind}
use Rattle.ecma_kind.specs.declared.kind.Kind.TheVariants as kind
use Rattle.ecma_kind.specs.declared.operators.MethodKind.{MethodKind}
use Rattle.ecma_kind.specs.declared.operators.MethodKind.TheVariants.{Method, Getter, Setter}
use Rattle.ecma_tree.specs.declared.node.Node.{Node, out-Node}
use Rattle.ecma_rules.specs.declared.standing.Around.{Around}
use Rattle.ecma_rules.specs.declared.standing.Standing.{Standing}
use Rattle.ecma_rules.specs.declared.target.Target.{Target}
use Rattle.ecma_rules.specs.declared.strays.Strays.{Strays}
use Rattle.ecma_rules.specs.Children.{has_child, is_named, items_at, kind_of}
use Rattle.ecma_rules.specs.Jumps.{Held, ends_jumps, held_behind, held_in, is_held_stray, is_stray_in, label_of, own_label, stray_here, text_by, text_of}
use Rattle.ecma_rules.specs.Lists.{is_head, is_one_without_value, is_rest, is_rest_pattern, last_by, last_in}
use Rattle.ecma_rules.specs.Members.{behind_first, fits_kind, is_binding_name, is_constructor_key, is_declaring, is_empty_list, is_full_constructor, is_constructor, is_method, is_named_pattern, is_one_parameter, is_plain_parameter, is_property_kind, is_special_by, is_special_function, is_this_by, is_this_parameter, is_this_pattern, misfits_by, misplaces_this_by, second_by, second_constructor, second_of, takes_not_one, takes_one, has_body}
use Rattle.ecma_rules.specs.Rules.{fails_list, fails_member, fails_statement}
use Rattle.ecma_rules.specs.Statements.{is_body, is_declaration, is_exported, is_text}
use Rattle.ecma_rules.specs.Strays.{in_named, is_stray, strays_in}
use Rattle.ecma_rules.specs.Surroundings.{around_in, standing_by, standing_in}
use Rattle.ecma_rules.specs.Targets.{is_variables, target_in}
use Rattle.ecma_round_trip_literals.proofs.Moved.{Blind, Same, child_same, children_moved, has_same, holds_same, items_same, kind_same, length_same, span_moved, to}
use Rattle.ecma_round_trip_literals.proofs.Tests.{by_kind}

is_same : (is : Kind → Bool) → Blind Bool is → (n : Node) → is (kind_of (to n)) ≡ is (kind_of n)
is_same = kind_same Bool

-- ---- lists

one_same : (ns : List Node) → is_one_without_value (map to ns) ≡ is_one_without_value ns
one_same [] = refl
one_same (n ∷ []) = ap not (has_same n 1)
one_same (n ∷ m ∷ ns) = refl

pub lists_same : (a : Around) → Same (fails_list a)
lists_same a n =
    ap₂ (λ x y. x || y)
    (ap₂ (λ x y. (is_head a.target && x) && not y) (is_same is_variables (λ v r s. refl, λ v r s. refl, λ v r s. refl) n) (ap is_one_without_value (items_same n 0) ∙ one_same (items_at n 0)))
    (ap (λ x. x && not a.is_last) (is_same (is_rest a.target) (λ v r s. refl, λ v r s. refl, λ v r s. refl) n))

-- ---- members

named_same : (k : Kind) (n : Node) → is_named_pattern k (to n) ≡ is_named_pattern k n
named_same kind.BindingIdent n = refl
named_same kind.AssignPat n = child_same is_binding_name (λ v r s. refl, λ v r s. refl, λ v r s. refl) n 0
named_same _ n = refl

plain_same : Same is_plain_parameter
plain_same = by_kind is_named_pattern (λ n. (λ v r s. refl, λ v r s. refl, λ v r s. refl)) named_same

this_same : (k : Kind) (n : Node) → is_this_by k (to n) ≡ is_this_by k n
this_same kind.BindingIdent n = child_same (is_named (codes "this")) (λ v r s. refl, λ v r s. refl, λ v r s. refl) n 0
this_same _ n = refl

this_pattern_same : Same is_this_pattern
this_pattern_same = by_kind is_this_by (λ n. (λ v r s. refl, λ v r s. refl, λ v r s. refl)) this_same

this_parameter_same : Same is_this_parameter
this_parameter_same n = holds_same is_this_pattern this_pattern_same n 0

takes_one_same : Same takes_one
takes_one_same n = ap₂ (λ x y. not x && not y) (this_parameter_same n) (child_same is_rest_pattern (λ v r s. refl, λ v r s. refl, λ v r s. refl) n 0)

one_parameter_same : (ns : List Node) → is_one_parameter (map to ns) ≡ is_one_parameter ns
one_parameter_same [] = refl
one_parameter_same (n ∷ []) = takes_one_same n
one_parameter_same (n ∷ m ∷ []) = ap₂ (λ x y. x && y) (this_parameter_same n) (takes_one_same m)
one_parameter_same (n ∷ m ∷ l ∷ ns) = refl

none_same : (ns : List Node) → is_empty_list (map to ns) ≡ is_empty_list ns
none_same [] = refl
none_same (n ∷ ns) = refl

accessor_fits : (k : MethodKind) → Same (fits_kind k)
accessor_fits Method n = refl
accessor_fits Getter n = ap is_empty_list (items_same n 0) ∙ none_same (items_at n 0)
accessor_fits Setter n = ap is_one_parameter (items_same n 0) ∙ one_parameter_same (items_at n 0)

misfits_same : (k : Kind) (n : Node) → misfits_by k (to n) ≡ misfits_by k n
unfolding misfits_by
misfits_same kind.AssignPat n = child_same is_rest_pattern (λ v r s. refl, λ v r s. refl, λ v r s. refl) n 0
misfits_same kind.GetterProp n = ap₂ (λ x y. x || not y) (has_same n 3) (has_same n 2)
misfits_same kind.SetterProp n = ap₂ (λ x y. x || not y) (child_same takes_not_one (λ v r s. refl, λ v r s. refl, λ v r s. refl) n 2) (has_same n 3)
misfits_same kind.MethodProp n = ap not (holds_same has_body (λ m. has_same m 1) n 1)
misfits_same (kind.ClassMethod k modifiers) n = ap not (holds_same (fits_kind k) (accessor_fits k) n 1)
misfits_same (kind.PrivateMethod k modifiers) n = ap not (holds_same (fits_kind k) (accessor_fits k) n 1)
misfits_same _ n = refl

misfits_blind : (n : Node) → Blind Bool (λ k. misfits_by k n)
unfolding misfits_by
misfits_blind n = (λ v r s. refl, λ v r s. refl, λ v r s. refl)

special_same : (k : Kind) (n : Node) → is_special_by k (to n) ≡ is_special_by k n
special_same (kind.ClassMethod k modifiers) n =
    ap₂ (λ x y. not modifiers.is_static && (x && (not (is_method k) || y))) (child_same is_constructor_key (λ v r s. refl, λ v r s. refl, λ v r s. refl) n 0)
    (child_same is_special_function (λ v r s. refl, λ v r s. refl, λ v r s. refl) n 1)
special_same _ n = refl

any_same : (test : Node → Bool) → Same test → (ns : List Node) → list_any test (map to ns) ≡ list_any test ns
any_same test same [] = refl
any_same test same (n ∷ ns) = ap₂ (λ x y. x || y) (same n) (any_same test same ns)

behind_same : (ns : List Node) → behind_first (map to ns) ≡ map to (behind_first ns)
behind_same [] = refl
behind_same (n ∷ ns) = refl

misplaced_same : (k : Kind) (n : Node) → misplaces_this_by k (to n) ≡ misplaces_this_by k n
unfolding misplaces_this_by
misplaced_same (kind.Function is_generator is_async) n =
    ap (λ (z : List Node). list_any is_this_parameter (behind_first z)) (items_same n 0) ∙ ap (list_any is_this_parameter) (behind_same (items_at n 0))
    ∙ any_same is_this_parameter this_parameter_same (behind_first (items_at n 0))
misplaced_same (kind.ArrowExpr is_async is_generator) n = ap (list_any is_this_pattern) (items_same n 0) ∙ any_same is_this_pattern this_pattern_same (items_at n 0)
misplaced_same (kind.Constructor accessibility is_optional) n = ap (list_any is_this_parameter) (items_same n 1) ∙ any_same is_this_parameter this_parameter_same (items_at n 1)
misplaced_same kind.SetterProp n = holds_same is_this_pattern this_pattern_same n 2
misplaced_same _ n = refl

misplaced_blind : (n : Node) → Blind Bool (λ k. misplaces_this_by k n)
unfolding misplaces_this_by
misplaced_blind n = (λ v r s. refl, λ v r s. refl, λ v r s. refl)

pub members_same : (a : Around) → Same (fails_member a)
members_same a n =
    ap₂ (λ x y. x || y)
    (ap₂ (λ x y. x && not (is_declaring a.standing && y)) (is_same is_property_kind (λ v r s. refl, λ v r s. refl, λ v r s. refl) n) (holds_same is_plain_parameter plain_same n 0))
    (ap₂ (λ x y. x || y) (by_kind misfits_by misfits_blind misfits_same n)
    (ap₂ (λ x y. x || y) (by_kind is_special_by (λ m. (λ v r s. refl, λ v r s. refl, λ v r s. refl)) special_same n) (by_kind misplaces_this_by misplaced_blind misplaced_same n)))

full_same : Same is_full_constructor
full_same n = ap₂ (λ x y. x && y) (is_same is_constructor (λ v r s. refl, λ v r s. refl, λ v r s. refl) n) (has_same n 2)

filtered_step : (ns : List Node) (n : Node) (a b : Bool) → a ≡ b → filter is_full_constructor (map to ns) ≡ map to (filter is_full_constructor ns)
    → cond a (to n ∷ filter is_full_constructor (map to ns)) (filter is_full_constructor (map to ns)) ≡ map to (cond b (n ∷ filter is_full_constructor ns) (filter is_full_constructor ns))
filtered_step ns n true true is below = ap (λ (z : List Node). to n ∷ z) below
filtered_step ns n false false is below = below
filtered_step ns n true false is below = cc
filtered_step ns n false true is below = cc

filtered : (ns : List Node) → filter is_full_constructor (map to ns) ≡ map to (filter is_full_constructor ns)
filtered [] = refl
filtered (n ∷ ns) = filtered_step ns n (is_full_constructor (to n)) (is_full_constructor n) (full_same n) (filtered ns)

second_same : (ns : List Node) → second_of (map to ns) ≡ second_of ns
second_same [] = refl
second_same (n ∷ []) = refl
second_same (n ∷ m ∷ ns) = ap (λ z. Some z.lo) (span_moved m)

second_by_same : (k : Kind) (n : Node) → second_by k (to n) ≡ second_by k n
second_by_same (kind.Class is_abstract) n = ap (λ (z : List Node). second_of (filter is_full_constructor z)) (items_same n 1) ∙ ap second_of (filtered (items_at n 1)) ∙ second_same (filter is_full_constructor (items_at n 1))
second_by_same _ n = refl

pub constructors_same : (n : Node) → second_constructor (to n) ≡ second_constructor n
constructors_same n = kind_same (Option ℕ) (λ k. second_by k (to n)) (λ v r s. refl, λ v r s. refl, λ v r s. refl) n ∙ second_by_same (kind_of n) n

-- ---- statements

declaration_blind : Blind Bool is_declaration
unfolding is_declaration
declaration_blind = (λ v r s. refl, λ v r s. refl, λ v r s. refl)

pub statements_same : (a : Around) → Same (fails_statement a)
statements_same a n =
    ap₂ (λ x y. (is_exported a.standing && x) || (is_body a.standing && y)) (is_same is_text (λ v r s. refl, λ v r s. refl, λ v r s. refl) n) (is_same is_declaration declaration_blind n)

-- ---- what stands around the children

target_blind : (t : Target) (i : ℕ) → Blind Target (λ k. target_in t k i)
unfolding target_in
target_blind t i = (λ v r s. refl, λ v r s. refl, λ v r s. refl)

standing_blind : (s : Standing) (first second : Bool) (i : ℕ) → Blind Standing (λ k. standing_by s k first second i)
unfolding standing_by
standing_blind s first second i = (λ v r s. refl, λ v r s. refl, λ v r s. refl)

last_blind : (is_last : Bool) (count i : ℕ) → Blind Bool (λ k. last_by is_last k count i)
unfolding last_by
last_blind is_last count i = (λ v r s. refl, λ v r s. refl, λ v r s. refl)

target_same : (t : Target) (n : Node) (i : ℕ) → target_in t (kind_of (to n)) i ≡ target_in t (kind_of n) i
target_same t n i = kind_same Target (λ k. target_in t k i) (target_blind t i) n

standing_same : (s : Standing) (n : Node) (i : ℕ) → standing_in s (to n) i ≡ standing_in s n i
standing_same s n i =
    ap₂ (λ x y. standing_by s (kind_of (to n)) x y i) (has_same n 1) (has_same n 2)
    ∙ kind_same Standing (λ k. standing_by s k (has_child n 1) (has_child n 2) i) (standing_blind s (has_child n 1) (has_child n 2) i) n

last_same : (is_last : Bool) (n : Node) (i : ℕ) → last_in is_last (to n) i ≡ last_in is_last n i
last_same is_last n i =
    ap (λ (z : ℕ). last_by is_last (kind_of (to n)) z i) (length_same n)
    ∙ kind_same Bool (λ k. last_by is_last k (length (out-Node n).children) i) (last_blind is_last (length (out-Node n).children) i) n

pub around_same : (a : Around) (n : Node) (i : ℕ) → around_in a (to n) i ≡ around_in a n i
around_same a n i = λ j. record { target = target_same a.target n i j; standing = standing_same a.standing n i j; is_last = last_same a.is_last n i j }

-- ---- strays

text_at : (ns : List Node) → text_of (slice_get (map to ns) 0) ≡ text_of (slice_get ns 0)
text_at [] = refl
text_at (n ∷ ns) = kind_same (Option (List ℕ)) text_by (λ v r s. refl, λ v r s. refl, λ v r s. refl) n

label_same : (n : Node) → label_of (to n) ≡ label_of n
label_same n = ap (λ (z : List Node). text_of (slice_get z 0)) (children_moved n) ∙ text_at (out-Node n).children

stray_blind : (held : Held) (label : Option (List ℕ)) → Blind Bool (λ k. is_stray_in held k label)
unfolding is_stray_in is_stray
stray_blind held label = (λ v r s. refl, λ v r s. refl, λ v r s. refl)

stray_same : (held : Held) → Same (is_held_stray held)
stray_same held n =
    ap (is_stray_in held (kind_of (to n))) (label_same n)
    ∙ kind_same Bool (λ k. is_stray_in held k (label_of n)) (stray_blind held (label_of n)) n

pub stray_place_same : (held : Held) (n : Node) → stray_here held (to n) ≡ stray_here held n
stray_place_same held n = ap₂ (λ b s. cond b (Some s.lo) None) (stray_same held n) (span_moved n)

strays_blind : (s : Strays) (i : ℕ) → Blind Strays (λ k. strays_in s k i)
unfolding strays_in in_named
strays_blind s i = (λ v r s. refl, λ v r s. refl, λ v r s. refl)

ends_blind : Blind Bool ends_jumps
unfolding ends_jumps
ends_blind = (λ v r s. refl, λ v r s. refl, λ v r s. refl)

own_label_same : (n : Node) → own_label (kind_of (to n)) (label_of (to n)) ≡ own_label (kind_of n) (label_of n)
own_label_same n =
    ap (own_label (kind_of (to n))) (label_same n)
    ∙ kind_same (Option (List ℕ)) (λ k. own_label k (label_of n)) (λ v r s. refl, λ v r s. refl, λ v r s. refl) n

pub held_same : (held : Held) (n : Node) (i : ℕ) → held_in held (to n) i ≡ held_in held n i
held_same held n i = λ j.
    held_behind (kind_same Strays (λ k. strays_in held.strays k i) (strays_blind held.strays i) n j) (kind_same Bool ends_jumps ends_blind n j) (own_label_same n j) held.labels
