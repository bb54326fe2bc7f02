-- What the rules ask of a node, and where its children stand, is the same with parentheses added.
use Rattle.std.proofs.Common.{◌≡◌, ◌∙◌, ℕ, zero, suc, Bool, true, false, not, ◌&&◌, ◌||◌, codes, cond, List, [], ◌∷◌, filter, length, Option, Some, None, refl, sym, ap, ap₂, slice_get}
use Rattle.std.specs.List.{list_any}
use Rattle.ecma_kind.specs.Sorts.{belongs}
use Rattle.ecma_kind.specs.declared.kind.Kind.{Kind}
use Rattle.ecma_kind.specs.declared.kind.Kind.TheVariants as kind
use Rattle.ecma_kind.specs.declared.operators.MethodKind.{MethodKind}
use Rattle.ecma_kind.specs.declared.operators.MethodKind.TheVariants.{Method, Getter, Setter}
use Rattle.ecma_kind.specs.declared.shapes.Shape.{Shape}
use Rattle.ecma_kind.specs.declared.shapes.Sort.TheVariants as sort
use Rattle.ecma_tree.specs.declared.node.Node.{Node, Node-F, out-Node}
use Rattle.ecma_tree.specs.Sorted.{child_shapes, one}
use Rattle.ecma_rules.specs.declared.standing.Around.{Around}
use Rattle.ecma_rules.specs.declared.standing.Standing.{Standing}
use Rattle.ecma_rules.specs.Children.{child_holds, child_is, has_child, is_named, items_at, kind_of}
use Rattle.ecma_rules.specs.Jumps.{Held, ends_jumps, held_behind, held_in, is_held_stray, is_stray_in, label_of, own_label, stray_here, text_by, text_of}
use Rattle.ecma_rules.specs.Lists.{is_head, is_one_without_value, is_rest, is_rest_pattern, last_by, last_in}
use Rattle.ecma_rules.specs.Members.{has_body, behind_first, fits_kind, is_binding_name, is_constructor_key, is_declaring, is_empty_list, is_full_constructor, is_constructor, is_method, is_named_pattern, is_one_parameter, is_plain_parameter, is_property_kind, is_special_by, is_special_function, is_this_by, is_this_parameter, is_this_pattern, misfits_by, misplaces_this_by, second_by, second_constructor, second_of, takes_not_one, takes_one}
use Rattle.ecma_rules.specs.Rules.{fails_list, fails_member, fails_statement}
use Rattle.ecma_rules.specs.Statements.{is_body, is_declaration, is_exported, is_text}
use Rattle.ecma_rules.specs.Strays.{strays_in}
use Rattle.ecma_rules.specs.Surroundings.{around_in, standing_by, standing_in}
use Rattle.ecma_rules.specs.Targets.{is_variables, target_in}
use Rattle.ecma_enclose.specs.Enclosing.{in_parentheses}
use Rattle.ecma_enclose_fits.proofs.Adding.{Adds, All, Alone, Below, children_of, every, first, is_open, more, none}
use Rattle.ecma_enclose_fits.proofs.Alike.{Closed, Keeps, alone_lone, any_same, below_of, by_kind, child_allowed, child_same, child_usual, has_same, holds_same, holds_usual, holds_where, is_lone, is_same, items_same, kind_same, length_same, paren_parts, seven_at, span_same}
use Rattle.ecma_enclose_fits.proofs.Tests.{list_at}

-- ---- lists

one_same : {ns ms : List Node} → All ns ms → is_one_without_value ms ≡ is_one_without_value ns
one_same none = refl
one_same (more r none) = ap not (has_same 1 r)
one_same (more r (more q all)) = refl

head_by : (h : Bool) (k : Kind) {a b : Node} → Adds a b → kind_of a ≡ k → ((h && is_variables k) && not (is_one_without_value (items_at b 0))) ≡ ((h && is_variables k) && not (is_one_without_value (items_at a 0)))
head_by h (kind.VarDecl k declare) {a} r e = ap (λ x. (h && true) && not x) (one_same (items_same 0 r (ap is_open e) (list_at sort.VarDeclarator 0 (kind.VarDecl k declare) a e (λ s n. refl))))
head_by true _ r e = refl
head_by false _ r e = refl

pub lists_same : (a : Around) → {c d : Node} → Adds c d → Keeps (fails_list a) c d
lists_same a r =
    ap₂ (λ x y. x || y) (by_kind (λ k n. (is_head a.target && is_variables k) && not (is_one_without_value (items_at n 0))) (λ k c d q e. head_by (is_head a.target) k q e) r)
    (ap (λ x. x && not a.is_last) (is_same (is_rest a.target) r))

-- ---- members

named_same : (k : Kind) {a b : Node} → Adds a b → kind_of a ≡ k → is_named_pattern k b ≡ is_named_pattern k a
named_same kind.BindingIdent r e = refl
named_same kind.AssignPat r e = child_usual is_binding_name 0 r (ap is_open e)
named_same _ r e = refl

plain_same : {a b : Node} → Adds a b → Keeps is_plain_parameter a b
plain_same r = by_kind is_named_pattern (λ k a b q e. named_same k q e) r

this_same : (k : Kind) {a b : Node} → Adds a b → kind_of a ≡ k → is_this_by k b ≡ is_this_by k a
this_same kind.BindingIdent r e = child_usual (is_named (codes "this")) 0 r (ap is_open e)
this_same _ r e = refl

this_pattern_same : {a b : Node} → Adds a b → Keeps is_this_pattern a b
this_pattern_same r = by_kind is_this_by (λ k a b q e. this_same k q e) r

this_pattern_closed : Closed is_this_pattern
this_pattern_closed e l =
    ap (λ (z : Node-F Node). is_this_by z.kind (in_parentheses e)) (paren_parts e)
    ∙ sym (seven_at Bool (λ k. is_this_by k e) false ((λ value raw. refl), refl, refl, refl, refl, refl, refl) (kind_of e) l)

this_parameter_same : {a b : Node} → Adds a b → Keeps is_this_parameter a b
this_parameter_same r = holds_same is_this_pattern (λ a b q. this_pattern_same q) this_pattern_closed 0 r

takes_one_same : {a b : Node} → Adds a b → Keeps takes_one a b
takes_one_same r = ap₂ (λ x y. not x && not y) (this_parameter_same r) (child_same is_rest_pattern ((λ value raw. refl), refl, refl, refl, refl, refl, refl) 0 r)

one_parameter_same : {ns ms : List Node} → All ns ms → is_one_parameter ms ≡ is_one_parameter ns
one_parameter_same none = refl
one_parameter_same (more r none) = takes_one_same r
one_parameter_same (more r (more q none)) = ap₂ (λ x y. x && y) (this_parameter_same r) (takes_one_same q)
one_parameter_same (more r (more q (more p all))) = refl

none_same : {ns ms : List Node} → All ns ms → is_empty_list ms ≡ is_empty_list ns
none_same none = refl
none_same (more r all) = refl

-- the parameters of a function
parameters_same : (k : Kind) {a b : Node} → Adds a b → kind_of a ≡ k → belongs sort.Function k ≡ true → All (items_at a 0) (items_at b 0)
parameters_same (kind.Function is_generator is_async) {a} r e h = items_same 0 r (ap is_open e) (list_at sort.Param 0 (kind.Function is_generator is_async) a e (λ s n. refl))
parameters_same _ r e h = cc

accessor_fits : (k : MethodKind) {a b : Node} → Adds a b → belongs sort.Function (kind_of a) ≡ true → fits_kind k b ≡ fits_kind k a
accessor_fits Method r h = refl
accessor_fits Getter {a} r h = none_same (parameters_same (kind_of a) r refl h)
accessor_fits Setter {a} r h = one_parameter_same (parameters_same (kind_of a) r refl h)

method_fits : (m : MethodKind) (k : Kind) {a b : Node} → Adds a b → kind_of a ≡ k → is_open k ≡ false → ((shape : Shape) (count : ℕ) → slice_get (child_shapes k shape count) 1 ≡ Some (one sort.Function))
    → child_holds (fits_kind m) b 1 ≡ child_holds (fits_kind m) a 1
method_fits m k {a} r e o is =
    holds_where (fits_kind m) 1 r (ap is_open e ∙ o)
    (λ c d at q. accessor_fits m q (child_allowed r 1 (one sort.Function) (λ shape. ap (λ z. slice_get (child_shapes z shape (length (children_of a))) 1) e ∙ is shape (length (children_of a))) c at))

misfits_same : (k : Kind) {a b : Node} → Adds a b → kind_of a ≡ k → misfits_by k b ≡ misfits_by k a
unfolding misfits_by
misfits_same kind.AssignPat r e = child_usual is_rest_pattern 0 r (ap is_open e)
misfits_same kind.GetterProp r e = ap₂ (λ x y. x || not y) (has_same 3 r) (has_same 2 r)
misfits_same kind.SetterProp r e = ap₂ (λ x y. x || not y) (child_usual takes_not_one 2 r (ap is_open e)) (has_same 3 r)
misfits_same kind.MethodProp r e = ap not (holds_usual has_body (λ a b q. has_same 1 q) 1 r (ap is_open e))
misfits_same (kind.ClassMethod k modifiers) r e = ap not (method_fits k (kind.ClassMethod k modifiers) r e refl (λ s n. refl))
misfits_same (kind.PrivateMethod k modifiers) r e = ap not (method_fits k (kind.PrivateMethod k modifiers) r e refl (λ s n. refl))
misfits_same _ r e = refl

special_same : (k : Kind) {a b : Node} → Adds a b → kind_of a ≡ k → is_special_by k b ≡ is_special_by k a
special_same (kind.ClassMethod k modifiers) r e =
    ap₂ (λ x y. not modifiers.is_static && (x && (not (is_method k) || y))) (child_usual is_constructor_key 0 r (ap is_open e)) (child_usual is_special_function 1 r (ap is_open e))
special_same _ r e = refl

behind_all : {ns ms : List Node} → All ns ms → All (behind_first ns) (behind_first ms)
behind_all none = none
behind_all (more r all) = all

misplaced_same : (k : Kind) {a b : Node} → Adds a b → kind_of a ≡ k → misplaces_this_by k b ≡ misplaces_this_by k a
unfolding misplaces_this_by
misplaced_same (kind.Function is_generator is_async) {a} r e = any_same is_this_parameter (λ a b q. this_parameter_same q) (behind_all (items_same 0 r (ap is_open e) (list_at sort.Param 0 (kind.Function is_generator is_async) a e (λ s n. refl))))
misplaced_same (kind.ArrowExpr is_async is_generator) {a} r e = any_same is_this_pattern (λ a b q. this_pattern_same q) (items_same 0 r (ap is_open e) (list_at sort.Pat 0 (kind.ArrowExpr is_async is_generator) a e (λ s n. refl)))
misplaced_same (kind.Constructor accessibility is_optional) {a} r e =
    any_same is_this_parameter (λ a b q. this_parameter_same q) (items_same 1 r (ap is_open e) (list_at sort.ParamOrTsParamProp 1 (kind.Constructor accessibility is_optional) a e (λ s n. refl)))
misplaced_same kind.SetterProp r e = holds_usual is_this_pattern (λ a b q. this_pattern_same q) 2 r (ap is_open e)
misplaced_same _ r e = refl

property_by : (d : Bool) (k : Kind) {a b : Node} → Adds a b → kind_of a ≡ k → (is_property_kind k && not (d && child_holds is_plain_parameter b 0)) ≡ (is_property_kind k && not (d && child_holds is_plain_parameter a 0))
property_by d (kind.TsParamProp accessibility is_override readonly) r e = ap (λ x. not (d && x)) (holds_usual is_plain_parameter (λ a b q. plain_same q) 0 r (ap is_open e))
property_by d _ r e = refl

pub members_same : (a : Around) → {c d : Node} → Adds c d → Keeps (fails_member a) c d
members_same a r =
    ap₂ (λ x y. x || y) (by_kind (λ k n. is_property_kind k && not (is_declaring a.standing && child_holds is_plain_parameter n 0)) (λ k c d q e. property_by (is_declaring a.standing) k q e) r)
    (ap₂ (λ x y. x || y) (by_kind misfits_by (λ k c d q e. misfits_same k q e) r)
    (ap₂ (λ x y. x || y) (by_kind is_special_by (λ k c d q e. special_same k q e) r) (by_kind misplaces_this_by (λ k c d q e. misplaced_same k q e) r)))

-- ---- constructors

full_same : {a b : Node} → Adds a b → Keeps is_full_constructor a b
full_same r = ap₂ (λ x y. x && y) (is_same is_constructor r) (has_same 2 r)

kept_or_not : {n m : Node} {ns ms : List Node} (x y : Bool) → y ≡ x → Adds n m → All ns ms → All (cond x (n ∷ ns) ns) (cond y (m ∷ ms) ms)
kept_or_not true true is r all = more r all
kept_or_not false false is r all = all
kept_or_not true false is r all = cc
kept_or_not false true is r all = cc

filtered : {ns ms : List Node} → All ns ms → All (filter is_full_constructor ns) (filter is_full_constructor ms)
filtered none = none
filtered (more {n} {m} r all) = kept_or_not (is_full_constructor n) (is_full_constructor m) (full_same r) r (filtered all)

second_same : {ns ms : List Node} → All ns ms → second_of ms ≡ second_of ns
second_same none = refl
second_same (more r none) = refl
second_same (more r (more q all)) = ap (λ z. Some z.lo) (span_same q)

second_by_same : (k : Kind) {a b : Node} → Adds a b → kind_of a ≡ k → second_by k b ≡ second_by k a
second_by_same (kind.Class is_abstract) {a} r e = second_same (filtered (items_same 1 r (ap is_open e) (list_at sort.ClassMember 1 (kind.Class is_abstract) a e (λ s n. refl))))
second_by_same _ r e = refl

pub constructors_same : {a b : Node} → Adds a b → second_constructor b ≡ second_constructor a
constructors_same {a} {b} r = ap (λ k. second_by k b) (kind_same r) ∙ second_by_same (kind_of a) r refl

-- ---- statements

pub statements_same : (a : Around) → {c d : Node} → Adds c d → Keeps (fails_statement a) c d
statements_same a r = ap₂ (λ x y. (is_exported a.standing && x) || (is_body a.standing && y)) (is_same is_text r) (is_same is_declaration r)

-- ---- what stands around the children

standing_same : (s : Standing) (i : ℕ) {a b : Node} → Adds a b → standing_in s b i ≡ standing_in s a i
standing_same s i {a} {b} r = ap₂ (λ x y. standing_by s (kind_of b) x y i) (has_same 1 r) (has_same 2 r) ∙ ap (λ k. standing_by s k (has_child a 1) (has_child a 2) i) (kind_same r)

last_same : (is_last : Bool) (i : ℕ) {a b : Node} → Adds a b → last_in is_last b i ≡ last_in is_last a i
last_same is_last i {a} {b} r = ap (λ (z : ℕ). last_by is_last (kind_of b) z i) (length_same r) ∙ ap (λ k. last_by is_last k (length (children_of a)) i) (kind_same r)

pub around_same : (around : Around) (i : ℕ) {a b : Node} → Adds a b → around_in around b i ≡ around_in around a i
around_same around i r = λ j. record { target = target_in around.target (kind_same r j) i; standing = standing_same around.standing i r j; is_last = last_same around.is_last i r j }

-- ---- strays

text_closed : (e : Node) → is_lone (kind_of e) ≡ true → text_by (kind_of (in_parentheses e)) ≡ text_by (kind_of e)
text_closed e l = ap (λ (z : Node-F Node). text_by z.kind) (paren_parts e) ∙ sym (seven_at (Option (List ℕ)) text_by None ((λ value raw. refl), refl, refl, refl, refl, refl, refl) (kind_of e) l)

text_at : (k : Kind) {ns ms : List Node} → Below k ns ms → text_of (slice_get ms 0) ≡ text_of (slice_get ns 0)
text_at k (every none) = refl
text_at k (every (more r all)) = ap text_by (kind_same r)
text_at k (first e alone all) = text_closed e (alone_lone k e alone)

label_same : {a b : Node} → Adds a b → label_of b ≡ label_of a
label_same {a} r = text_at (kind_of a) (below_of r)

stray_same : (held : Held) → {a b : Node} → Adds a b → Keeps (is_held_stray held) a b
stray_same held {a} {b} r = ap (is_stray_in held (kind_of b)) (label_same r) ∙ ap (λ k. is_stray_in held k (label_of a)) (kind_same r)

pub stray_place_same : (held : Held) {a b : Node} → Adds a b → stray_here held b ≡ stray_here held a
stray_place_same held r = ap₂ (λ b s. cond b (Some s.lo) None) (stray_same held r) (span_same r)

own_label_same : {a b : Node} → Adds a b → own_label (kind_of b) (label_of b) ≡ own_label (kind_of a) (label_of a)
own_label_same r = ap₂ own_label (kind_same r) (label_same r)

pub held_same : (held : Held) (i : ℕ) {a b : Node} → Adds a b → held_in held b i ≡ held_in held a i
held_same held i r = λ j. held_behind (strays_in held.strays (kind_same r j) i) (ends_jumps (kind_same r j)) (own_label_same r j) held.labels
