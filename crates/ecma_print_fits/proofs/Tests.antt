-- What the rules ask of the children of a node stays where it is covered and nothing is assigned to.
use Rattle.std.proofs.Common.{◌≡◌, ◌∙◌, ℕ, zero, suc, Bool, true, false, not, ◌&&◌, ◌||◌, codes, cond, List, [], ◌∷◌, map, length, filter, replicate, Option, None, refl, sym, ap, ap₂, subst, slice_get}
use Rattle.std.specs.List.{list_any}
use Rattle.ecma_kind.specs.Sorts.{belongs}
use Rattle.ecma_kind.specs.declared.kind.Kind.{Kind}
use Rattle.ecma_kind.specs.declared.kind.Kind.TheVariants as kind
use Rattle.ecma_kind.specs.declared.operators.MethodKind.{MethodKind}
use Rattle.ecma_kind.specs.declared.operators.MethodKind.TheVariants.{Method, Getter, Setter}
use Rattle.ecma_kind.specs.declared.shapes.Shape.{Shape}
use Rattle.ecma_kind.specs.declared.shapes.Sort.{Sort}
use Rattle.ecma_kind.specs.declared.shapes.Sort.TheVariants as sort
use Rattle.ecma_tree.specs.declared.node.Node.{Node, Node-F, fold-roll-Node, ind-Node, out-Node, roll-Node}
use Rattle.ecma_tree.specs.declared.node.Node.TheViews.{out-roll-Node, roll-out-Node}
use Rattle.ecma_tree.specs.Laws.{HaveShapes}
use Rattle.ecma_tree.specs.Sorted.{HasShape, allows, child_shapes, is_list, many, one}
use Rattle.ecma_rules.specs.declared.target.Target.{Target}
use Rattle.ecma_rules.specs.declared.target.Target.TheVariants as target
use Rattle.ecma_rules.specs.Children.{child_is, children_of as items_of, has_child, holds_of, is_named, is_present, items_at, kind_of, of_kind}
use Rattle.ecma_rules.specs.Finishing.{each_in}
use Rattle.ecma_rules.specs.Lists.{is_one_without_value, is_rest_pattern}
use Rattle.ecma_rules.specs.Members.{behind_first, fits_kind, is_binding_name, is_constructor, is_empty_list, is_full_constructor, is_named_pattern, is_one_parameter, is_plain_parameter, is_this_by, is_this_parameter, is_this_pattern, second_of, takes_one, has_body}
use Rattle.ecma_rules.specs.Targets.{first_is, is_plain_target, is_simple_target, is_wrapper, simple_step, target_in}
use Rattle.ecma_covers.specs.Covering.{cover_at, cover_in}
use Rattle.ecma_covers.proofs.Uncovering.{cover_node, free_kind}
use Rattle.ecma_print_fits.proofs.Parts.{not_true, shape_made}

abbrev children_of : Node → List Node
children_of n = (out-Node n).children

-- a node where nothing is assigned to
abbrev pub free : Node → Node
free n = cover_at n target.Free

pub shape_parts : (n : Node) (o : Shape) → HasShape o n → (allows o (kind_of n) ≡ true) × HaveShapes (child_shapes (kind_of n) o (length (children_of n))) (children_of n)
shape_parts n o h = shape_made (out-Node n) o (subst (HasShape o) (sym (roll-out-Node n)) h)

-- its children are what is made of them as the kind asks
free_children : (n : Node) → children_of (free n) ≡ each_in (cover_in target.Free (kind_of n)) (map cover_at (children_of n))
free_children n =
    let x = out-Node n in
    ap (λ (m : Node). children_of (free m)) (sym (roll-out-Node n))
    ∙ (ap children_of (cover_node x.span x.kind x.children target.Free)
    ∙ ap (λ (p : Node-F Node). p.children) (out-roll-Node (record { span = x.span; kind = x.kind; children = each_in (cover_in target.Free x.kind) (map cover_at x.children) })))

-- a test of nodes that stays so
pub test_at : (test : Node → Bool) → ((n : Node) → test (free n) ≡ test n) → (target_of : ℕ → Target) (ns : List Node) (i : ℕ) → target_of i ≡ target.Free
    → holds_of test (slice_get (each_in target_of (map cover_at ns)) i) ≡ holds_of test (slice_get ns i)
test_at test stays target_of [] i free = refl
test_at test stays target_of (n ∷ ns) zero free = ap (λ t. test (cover_at n t)) free ∙ stays n
test_at test stays target_of (n ∷ ns) (suc i) free = test_at test stays (λ i. target_of (suc i)) ns i free

-- a test of kinds
pub kind_at : (is : Kind → Bool) (target_of : ℕ → Target) (ns : List Node) (i : ℕ) → target_of i ≡ target.Free → of_kind is (slice_get (each_in target_of (map cover_at ns)) i) ≡ of_kind is (slice_get ns i)
kind_at is target_of [] i free = refl
kind_at is target_of (n ∷ ns) zero free = ap (λ t. is (kind_of (cover_at n t))) free ∙ ap is (free_kind n)
kind_at is target_of (n ∷ ns) (suc i) free = kind_at is (λ i. target_of (suc i)) ns i free

child_kind_at : (is : Kind → Bool) (n : Node) (i : ℕ) → cover_in target.Free (kind_of n) i ≡ target.Free → child_is is (free n) i ≡ child_is is n i
child_kind_at is n i e = ap (λ (z : List Node). of_kind is (slice_get z i)) (free_children n) ∙ kind_at is (cover_in target.Free (kind_of n)) (children_of n) i e

pub as_many : (target_of : ℕ → Target) (ns : List Node) → length (each_in target_of (map cover_at ns)) ≡ length ns
as_many target_of [] = refl
as_many target_of (n ∷ ns) = ap suc (as_many (λ i. target_of (suc i)) ns)

-- a declarator without a value

declarator_free : (k : Kind) → belongs sort.VarDeclarator k ≡ true → cover_in target.Free k 1 ≡ target.Free
unfolding cover_in target_in
declarator_free (kind.VarDeclarator definite) h = refl
declarator_free _ h = not_true h

list_only : (k : Kind) → is_list k ≡ true → k ≡ kind.List
list_only kind.List h = refl
list_only _ h = not_true h

-- the items of a list
free_items : (n : Node) → is_list (kind_of n) ≡ true → children_of (free n) ≡ each_in (λ i. target.Free) (map cover_at (children_of n))
unfolding cover_in target_in
free_items n h = free_children n ∙ ap (λ k. each_in (cover_in target.Free k) (map cover_at (children_of n))) (list_only (kind_of n) h)

one_declarator : (ds : List Node) (n : ℕ) → HaveShapes (replicate n (one sort.VarDeclarator)) ds → is_one_without_value (each_in (λ i. target.Free) (map cover_at ds)) ≡ is_one_without_value ds
one_declarator [] n h = refl
one_declarator (d ∷ []) zero h = absurd h
one_declarator (d ∷ []) (suc n) h = ap not (child_kind_at is_present d 1 (declarator_free (kind_of d) (shape_parts d (one sort.VarDeclarator) h.0).0))
one_declarator (d ∷ e ∷ ds) n h = refl

-- the items of a list, by their sort
pub items_have : (n : Node) (o : Shape) → is_list (kind_of n) ≡ true → HaveShapes (child_shapes (kind_of n) o (length (children_of n))) (children_of n) → HaveShapes (child_shapes kind.List o (length (children_of n))) (children_of n)
items_have n o h have = subst (λ k. HaveShapes (child_shapes k o (length (children_of n))) (children_of n)) (list_only (kind_of n) h) have

pub without_value : (n : Node) → HasShape (many sort.VarDeclarator) n → is_one_without_value (children_of (free n)) ≡ is_one_without_value (children_of n)
without_value n h =
    let t = shape_parts n (many sort.VarDeclarator) h in
    ap is_one_without_value (free_items n t.0) ∙ one_declarator (children_of n) (length (children_of n)) (items_have n (many sort.VarDeclarator) t.0 t.1)

-- a plain parameter

pub plain_parameter : (n : Node) → is_plain_parameter (free n) ≡ is_plain_parameter n
unfolding cover_in target_in
plain_parameter n = ap (λ k. is_named_pattern k (free n)) (free_kind n) ∙ by_kind (kind_of n) refl
  where
    by_kind : (k : Kind) → kind_of n ≡ k → is_named_pattern k (free n) ≡ is_named_pattern k n
    by_kind kind.BindingIdent e = refl
    by_kind kind.AssignPat e = child_kind_at is_binding_name n 0 (ap (λ k. cover_in target.Free k 0) e)
    by_kind _ e = refl

-- the parameters of accessors

pub this_pattern : (n : Node) → is_this_pattern (free n) ≡ is_this_pattern n
unfolding cover_in target_in
this_pattern n = ap (λ k. is_this_by k (free n)) (free_kind n) ∙ by_kind (kind_of n) refl
  where
    by_kind : (k : Kind) → kind_of n ≡ k → is_this_by k (free n) ≡ is_this_by k n
    by_kind kind.BindingIdent e = child_kind_at (is_named (codes "this")) n 0 (ap (λ k. cover_in target.Free k 0) e)
    by_kind _ e = refl

-- a sort whose nodes ask nothing of their first child
abbrev FirstIsFree : Sort → Type 0
FirstIsFree σ = (k : Kind) → belongs σ k ≡ true → cover_in target.Free k 0 ≡ target.Free

param_free : FirstIsFree sort.Param
unfolding cover_in target_in
param_free kind.Param h = refl
param_free _ h = not_true h

constructor_param_free : FirstIsFree sort.ParamOrTsParamProp
unfolding cover_in target_in
constructor_param_free kind.Param h = refl
constructor_param_free (kind.TsParamProp accessibility is_override readonly) h = refl
constructor_param_free _ h = not_true h

this_of : (σ : Sort) → FirstIsFree σ → (n : Node) → HasShape (one σ) n → is_this_parameter (free n) ≡ is_this_parameter n
this_of σ is_free n h =
    ap (λ (z : List Node). holds_of is_this_pattern (slice_get z 0)) (free_children n)
    ∙ test_at is_this_pattern this_pattern (cover_in target.Free (kind_of n)) (children_of n) 0 (is_free (kind_of n) (shape_parts n (one σ) h).0)

this_parameter : (n : Node) → HasShape (one sort.Param) n → is_this_parameter (free n) ≡ is_this_parameter n
this_parameter = this_of sort.Param param_free

takes_one_stays : (n : Node) → HasShape (one sort.Param) n → takes_one (free n) ≡ takes_one n
takes_one_stays n h = ap₂ (λ a b. not a && not b) (this_parameter n h) (child_kind_at is_rest_pattern n 0 (param_free (kind_of n) (shape_parts n (one sort.Param) h).0))

empty_stays : (ns : List Node) → is_empty_list (each_in (λ i. target.Free) (map cover_at ns)) ≡ is_empty_list ns
empty_stays [] = refl
empty_stays (n ∷ ns) = refl

one_parameter : (ns : List Node) (k : ℕ) → HaveShapes (replicate k (one sort.Param)) ns → is_one_parameter (each_in (λ i. target.Free) (map cover_at ns)) ≡ is_one_parameter ns
one_parameter [] k h = refl
one_parameter (n ∷ ns) zero h = absurd h
one_parameter (n ∷ []) (suc k) h = takes_one_stays n h.0
one_parameter (n ∷ m ∷ []) (suc zero) h = absurd h.1
one_parameter (n ∷ m ∷ []) (suc (suc k)) h = ap₂ (λ a b. a && b) (this_parameter n h.0) (takes_one_stays m h.1.0)
one_parameter (n ∷ m ∷ l ∷ ns) (suc k) h = refl

abbrev AreParameters : Node → Type 0
AreParameters n = HasShape (many sort.Param) n

one_stays : (n : Node) → AreParameters n → is_one_parameter (children_of (free n)) ≡ is_one_parameter (children_of n)
one_stays n h =
    let t = shape_parts n (many sort.Param) h in
    ap is_one_parameter (free_items n t.0) ∙ one_parameter (children_of n) (length (children_of n)) (items_have n (many sort.Param) t.0 t.1)

any_parameter : (σ : Sort) → FirstIsFree σ → (ns : List Node) (k : ℕ) → HaveShapes (replicate k (one σ)) ns → list_any is_this_parameter (each_in (λ i. target.Free) (map cover_at ns)) ≡ list_any is_this_parameter ns
any_parameter σ is_free [] k h = refl
any_parameter σ is_free (n ∷ ns) zero h = absurd h
any_parameter σ is_free (n ∷ ns) (suc k) h = ap₂ (λ a b. a || b) (this_of σ is_free n h.0) (any_parameter σ is_free ns k h.1)

any_further : (ns : List Node) (k : ℕ) → HaveShapes (replicate k (one sort.Param)) ns → list_any is_this_parameter (behind_first (each_in (λ i. target.Free) (map cover_at ns))) ≡ list_any is_this_parameter (behind_first ns)
any_further [] k h = refl
any_further (n ∷ ns) zero h = absurd h
any_further (n ∷ ns) (suc k) h = any_parameter sort.Param param_free ns k h.1

any_pattern : (ns : List Node) → list_any is_this_pattern (each_in (λ i. target.Free) (map cover_at ns)) ≡ list_any is_this_pattern ns
any_pattern [] = refl
any_pattern (n ∷ ns) = ap₂ (λ a b. a || b) (this_pattern n) (any_pattern ns)

-- whether a parameter is `this` stays, behind the first of a function, in a constructor and in an arrow function
pub further_stay : (n : Node) → AreParameters n → list_any is_this_parameter (behind_first (children_of (free n))) ≡ list_any is_this_parameter (behind_first (children_of n))
further_stay n h =
    let t = shape_parts n (many sort.Param) h in
    ap (λ (z : List Node). list_any is_this_parameter (behind_first z)) (free_items n t.0) ∙ any_further (children_of n) (length (children_of n)) (items_have n (many sort.Param) t.0 t.1)

pub all_stay : (n : Node) → HasShape (many sort.ParamOrTsParamProp) n → list_any is_this_parameter (children_of (free n)) ≡ list_any is_this_parameter (children_of n)
all_stay n h =
    let t = shape_parts n (many sort.ParamOrTsParamProp) h in
    ap (list_any is_this_parameter) (free_items n t.0)
    ∙ any_parameter sort.ParamOrTsParamProp constructor_param_free (children_of n) (length (children_of n)) (items_have n (many sort.ParamOrTsParamProp) t.0 t.1)

pub patterns_stay : (n : Node) → HasShape (many sort.Pat) n → list_any is_this_pattern (children_of (free n)) ≡ list_any is_this_pattern (children_of n)
patterns_stay n h = ap (list_any is_this_pattern) (free_items n (shape_parts n (many sort.Pat) h).0) ∙ any_pattern (children_of n)

none_stays : (n : Node) → AreParameters n → is_empty_list (children_of (free n)) ≡ is_empty_list (children_of n)
none_stays n h = ap is_empty_list (free_items n (shape_parts n (many sort.Param) h).0) ∙ empty_stays (children_of n)

function_only : (k : Kind) (n : ℕ) (cs : List Node) → belongs sort.Function k ≡ true → HaveShapes (child_shapes k (one sort.Function) n) cs → (p : Node) × (ps : List Node) × (cs ≡ p ∷ ps) × AreParameters p
function_only (kind.Function is_generator is_async) n [] b h = absurd h
function_only (kind.Function is_generator is_async) n (p ∷ ps) b h = (p, ps, refl, h.0)
function_only _ n cs b h = not_true b

function_free : (k : Kind) → belongs sort.Function k ≡ true → cover_in target.Free k 0 ≡ target.Free
unfolding cover_in target_in
function_free (kind.Function is_generator is_async) b = refl
function_free _ b = not_true b

abbrev of_first : List Node → List Node
of_first z = items_of (slice_get z 0)

parameters_stay : (test : List Node → Bool) → ((n : Node) → AreParameters n → test (children_of (free n)) ≡ test (children_of n)) → (f : Node) → HasShape (one sort.Function) f → test (items_at (free f) 0) ≡ test (items_at f 0)
parameters_stay test stays f h =
    let t = shape_parts f (one sort.Function) h in
    let s = function_only (kind_of f) (length (children_of f)) (children_of f) t.0 t.1 in
    let e : children_of f ≡ s.0 ∷ s.1 = s.2 in
    ap (λ (z : List Node). test (of_first z)) (free_children f ∙ ap (λ (z : List Node). each_in (cover_in target.Free (kind_of f)) (map cover_at z)) e)
    ∙ (ap (λ t. test (children_of (cover_at s.0 t))) (function_free (kind_of f) t.0) ∙ (stays s.0 s.3 ∙ sym (ap (λ (z : List Node). test (of_first z)) e)))

pub kind_fits : (k : MethodKind) (f : Node) → HasShape (one sort.Function) f → fits_kind k (free f) ≡ fits_kind k f
kind_fits Method f h = refl
kind_fits Getter f h = parameters_stay is_empty_list none_stays f h
kind_fits Setter f h = parameters_stay is_one_parameter one_stays f h

-- a function keeps its body

body_free : (k : Kind) → belongs sort.Function k ≡ true → cover_in target.Free k 1 ≡ target.Free
unfolding cover_in target_in
body_free (kind.Function is_generator is_async) h = refl
body_free _ h = not_true h

pub body_stays : (f : Node) → HasShape (one sort.Function) f → has_body (free f) ≡ has_body f
body_stays f h = child_kind_at is_present f 1 (body_free (kind_of f) (shape_parts f (one sort.Function) h).0)

-- constructors with bodies

constructor_free : (k : Kind) → is_constructor k ≡ true → cover_in target.Free k 2 ≡ target.Free
unfolding cover_in target_in
constructor_free (kind.Constructor accessibility is_optional) h = refl
constructor_free _ h = not_true h

full_stays : (n : Node) → is_full_constructor (free n) ≡ is_full_constructor n
full_stays n = ap (λ k. is_constructor k && has_child (free n) 2) (free_kind n) ∙ go (is_constructor (kind_of n)) refl
  where
    go : (b : Bool) → is_constructor (kind_of n) ≡ b → (is_constructor (kind_of n) && has_child (free n) 2) ≡ (is_constructor (kind_of n) && has_child n 2)
    go true e = ap (λ b. is_constructor (kind_of n) && b) (child_kind_at is_present n 2 (constructor_free (kind_of n) e))
    go false e = ap (λ b. b && has_child (free n) 2) e ∙ sym (ap (λ b. b && has_child n 2) e)

pub counted : (a b : Bool) (x y : Node) (xs ys : List Node) → a ≡ b → length xs ≡ length ys → length (cond a (x ∷ xs) xs) ≡ length (cond b (y ∷ ys) ys)
counted true true x y xs ys e h = ap suc h
counted true false x y xs ys e h = not_true (sym e)
counted false true x y xs ys e h = not_true e
counted false false x y xs ys e h = h

as_many_full : (ns : List Node) → length (filter is_full_constructor (each_in (λ i. target.Free) (map cover_at ns))) ≡ length (filter is_full_constructor ns)
as_many_full [] = refl
as_many_full (n ∷ ns) = counted (is_full_constructor (free n)) (is_full_constructor n) (free n) n _ _ (full_stays n) (as_many_full ns)

pub no_second : (xs ys : List Node) → length xs ≡ length ys → second_of ys ≡ None → second_of xs ≡ None
no_second [] ys e h = refl
no_second (x ∷ []) ys e h = refl
no_second (x ∷ y ∷ xs) [] e h = cc
no_second (x ∷ y ∷ xs) (z ∷ []) e h = cc
no_second (x ∷ y ∷ xs) (z ∷ v ∷ ys) e h = cc

abbrev pub second_in : List Node → Option ℕ
second_in items = second_of (filter is_full_constructor items)

pub list_single : (n : Node) → HasShape (many sort.ClassMember) n → second_in (out-Node n).children ≡ None → second_in (out-Node (free n)).children ≡ None
list_single n h single =
    ap second_in (free_items n (shape_parts n (many sort.ClassMember) h).0)
    ∙ no_second (filter is_full_constructor (each_in (λ i. target.Free) (map cover_at (children_of n)))) (filter is_full_constructor (children_of n)) (as_many_full (children_of n)) single

-- simple targets

wrapper_free : (k : Kind) → is_wrapper k ≡ true → cover_in target.Free k 0 ≡ target.Free
unfolding cover_in target_in
wrapper_free kind.ParenExpr h = refl
wrapper_free kind.TsTypeAssertion h = refl
wrapper_free kind.TsConstAssertion h = refl
wrapper_free kind.TsNonNullExpr h = refl
wrapper_free kind.TsAsExpr h = refl
wrapper_free kind.TsInstantiation h = refl
wrapper_free kind.TsSatisfiesExpr h = refl
wrapper_free _ h = not_true h

abbrev Simple : Node → Type 0
Simple n = is_simple_target (free n) ≡ is_simple_target n

first_simple : (target_of : ℕ → Target) (es : List ((n : Node) × Simple n)) → target_of 0 ≡ target.Free
    → first_is (map is_simple_target (each_in target_of (map cover_at (map (λ e. e.0) es)))) ≡ first_is (map is_simple_target (map (λ e. e.0) es))
first_simple target_of [] h = refl
first_simple target_of (e ∷ es) h = ap (λ t. is_simple_target (cover_at e.0 t)) h ∙ e.1

abbrev FirstSimple : List Node → Type 0
FirstSimple ns = (target_of : ℕ → Target) → target_of 0 ≡ target.Free → first_is (map is_simple_target (each_in target_of (map cover_at ns))) ≡ first_is (map is_simple_target ns)

-- of a node whose children are covered
simple_kept : (x : Node-F Node) (target_of : ℕ → Target) → (is_wrapper x.kind ≡ true → target_of 0 ≡ target.Free) → FirstSimple x.children
    → is_simple_target (roll-Node (record { span = x.span; kind = x.kind; children = each_in target_of (map cover_at x.children) })) ≡ is_simple_target (roll-Node x)
simple_kept x target_of h below =
    fold-roll-Node Bool simple_step (record { span = x.span; kind = x.kind; children = each_in target_of (map cover_at x.children) })
    ∙ (ap (λ b. is_plain_target x.kind || b) (go (is_wrapper x.kind) refl) ∙ sym (fold-roll-Node Bool simple_step x))
  where
    go : (b : Bool) → is_wrapper x.kind ≡ b
        → (is_wrapper x.kind && first_is (map is_simple_target (each_in target_of (map cover_at x.children)))) ≡ (is_wrapper x.kind && first_is (map is_simple_target x.children))
    go true e = ap (λ b. is_wrapper x.kind && b) (below target_of (h e))
    go false e = ap (λ b. b && first_is (map is_simple_target (each_in target_of (map cover_at x.children)))) e ∙ sym (ap (λ b. b && first_is (map is_simple_target x.children)) e)

node_simple : (x : Node-F Node) → FirstSimple x.children → Simple (roll-Node x)
node_simple x below = ap is_simple_target (cover_node x.span x.kind x.children target.Free) ∙ simple_kept x (cover_in target.Free x.kind) (wrapper_free x.kind) below

simple : (n : Node) → Simple n
simple = ind-Node Simple (λ x y is. node_simple x (subst (λ (z : Node-F Node). FirstSimple z.children) is (λ target_of h. first_simple target_of y.children h)))

firsts_simple : (ns : List Node) → FirstSimple ns
firsts_simple [] target_of h = refl
firsts_simple (n ∷ ns) target_of h = ap (λ t. is_simple_target (cover_at n t)) h ∙ simple n

-- a node whose children are covered is a simple target if it was one
pub simple_stays : (x : Node-F Node) (target_of : ℕ → Target) → (is_wrapper x.kind ≡ true → target_of 0 ≡ target.Free)
    → is_simple_target (roll-Node (record { span = x.span; kind = x.kind; children = each_in target_of (map cover_at x.children) })) ≡ is_simple_target (roll-Node x)
simple_stays x target_of h = simple_kept x target_of h (firsts_simple x.children)
