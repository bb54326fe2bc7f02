-- What stays in a list with bound names stayed there before; what is a value or a name `this` is one with bound names; and whose children those of a node are.
use Rattle.std.proofs.Common.{◌≡◌, ◌∙◌, ℕ, zero, suc, Bool, true, false, ◌&&◌, not, cond, get_or, List, [], ◌∷◌, map, Some, refl, sym, ap, ap₂, slice_get}
use Rattle.std.proofs.lemmas.Bool.{and_from, and_parts}
use Rattle.ecma_kind.specs.Sorts.{belongs, is_type_wrapper}
use Rattle.ecma_kind.specs.declared.kind.Kind.{Kind}
use Rattle.ecma_kind.specs.declared.kind.Kind.TheVariants as kind
use Rattle.ecma_kind.specs.declared.shapes.Sort.TheVariants as sort
use Rattle.ecma_tree.specs.declared.node.Node.{Node, out-Node}
use Rattle.ecma_tree.specs.Nodes.{absent}
use Rattle.ecma_tree.specs.Values.{is_value, is_value_where, value_at, value_by, value_step}
use Rattle.ecma_tree.proofs.Valuing.{is_value_where-out, is_value_where-roll, value_where_by}
use Rattle.ecma_rules.specs.Children.{kind_of}
use Rattle.ecma_fits.specs.declared.role.Role.{Role}
use Rattle.ecma_fits.specs.Roles.{role_in}
use Rattle.ecma_strip.specs.Staying.{if_there, is_ambient, is_declared, is_empty_stmt, is_export, is_this, is_this_by, is_this_ident, is_this_param, is_this_param_by, item_stays, member_stays, member_stays_by, specifier_stays, stays}
use Rattle.ecma_bind.specs.Binding.{bound_at, is_typed_name, under_types}
use Rattle.ecma_bind_fits.proofs.Alike.{Same, Six, by_kind, is_same, six_at, typed_parts, usual_children, usual_kind}
use Rattle.ecma_bind_fits.proofs.Bound.{bound_each, children_of, typed_is}
use Rattle.ecma_bind_fits.proofs.Folded.{fold_same}

both-ways : {b : Bool} → b ≡ true → b ≡ false → ⊥
both-ways h k = cc

-- a child of a node with bound names is a child with bound names
pub bound_child : (cs : List Node) (roles : ℕ → Role) (i : ℕ) (d : Node) → slice_get (bound_each roles cs) i ≡ Some d → (c : Node) × (slice_get cs i ≡ Some c) × (bound_at c (roles i) ≡ d)
bound_child [] roles i d at = cc
bound_child (c ∷ cs) roles zero d at = let same : bound_at c (roles 0) ≡ d = cc in (c, refl, same)
bound_child (c ∷ cs) roles (suc i) d at = bound_child cs (λ j. roles (suc j)) i d at

-- ---- values

value_six : (stays : Bool) (cs : List Node) → Six Bool (λ k. value_where_by stays k cs) true
unfolding value_by
value_six true cs = (refl, refl, refl, refl, refl, refl)
value_six false cs = (refl, refl, refl, refl, refl, refl)

value_bound : (stays : Bool) (cs : List Node) → value_where_by stays kind.BindingIdent cs ≡ true
unfolding value_by
value_bound true cs = refl
value_bound false cs = refl

value_typed : (stays : Bool) (n : Node) (r : Role) → is_typed_name r n ≡ true → is_value_where stays (bound_at n r) ≡ is_value_where stays n
value_typed stays n r t =
    ap (is_value_where stays) (typed_is n r t)
    ∙ is_value_where-roll stays (out-Node (under_types n)).span kind.BindingIdent (under_types n ∷ absent ∷ [])
    ∙ value_bound stays (under_types n ∷ absent ∷ [])
    ∙ sym (is_value_where-out stays n ∙ six_at Bool (λ k. value_where_by stays k (children_of n)) true (value_six stays (children_of n)) (kind_of n) (typed_parts n r t).1)

pub value_where_same : (stays : Bool) → Same (is_value_where stays)
value_where_same stays n r = ap (λ value. value stays) (fold_same value_step (λ m q t j stays. value_typed stays m q t j) n r)

pub value_same : Same is_value
value_same = value_where_same true

values_same : (cs : List Node) (roles : ℕ → Role) → map is_value (bound_each roles cs) ≡ map is_value cs
values_same [] roles = refl
values_same (c ∷ cs) roles = ap₂ (λ a b. a ∷ b) (value_same c (roles 0)) (values_same cs (λ i. roles (suc i)))

value_at_same : (i : ℕ) (n : Node) (r : Role) → is_typed_name r n ≡ false → value_at i (bound_at n r) ≡ value_at i n
value_at_same i n r t = ap (λ (vs : List Bool). get_or vs i false) (ap (map is_value) (usual_children n r t) ∙ values_same (children_of n) (role_in r (kind_of n)))

-- ---- items, members and specifiers

pub declared_same : Same (λ n. is_declared (kind_of n))
unfolding is_declared
declared_same = is_same is_declared (refl, refl, refl, refl, refl, refl)

first_bound : (f : Node → Bool) (n : Node) (r : Role) → is_typed_name r n ≡ false → (b : Bool)
    → ((c : Node) → slice_get (children_of n) 0 ≡ Some c → (q : Role) → f c ≡ b → f (bound_at c q) ≡ b) → if_there (slice_get (children_of n) 0) f ≡ b → if_there (slice_get (children_of (bound_at n r)) 0) f ≡ b
first_bound f n r t b keeps h = ap (λ (cs : List Node). if_there (slice_get cs 0) f) (usual_children n r t) ∙ by (children_of n) (role_in r (kind_of n)) keeps h
  where
    by : (cs : List Node) (roles : ℕ → Role) → ((c : Node) → slice_get cs 0 ≡ Some c → (q : Role) → f c ≡ b → f (bound_at c q) ≡ b) → if_there (slice_get cs 0) f ≡ b → if_there (slice_get (bound_each roles cs) 0) f ≡ b
    by [] roles keeps h = h
    by (c ∷ cs) roles keeps h = keeps c refl (roles 0) h

-- a test of the first child that is the same of it
pub first_same : (f : Node → Bool) (n : Node) (r : Role) → is_typed_name r n ≡ false → ((c : Node) → slice_get (children_of n) 0 ≡ Some c → (q : Role) → f (bound_at c q) ≡ f c)
    → if_there (slice_get (children_of (bound_at n r)) 0) f ≡ if_there (slice_get (children_of n) 0) f
first_same f n r t same = first_bound f n r t (if_there (slice_get (children_of n) 0) f) (λ c at q e. same c at q ∙ e) refl

abbrev ambient_by : Kind → Node → Bool
ambient_by k n = cond (is_export k) (if_there (slice_get (children_of n) 0) (λ x. is_declared (kind_of x))) (is_declared k)

ambient_same : Same is_ambient
unfolding is_declared
ambient_same = by_kind ambient_by (λ n m. (refl, refl, refl, refl, refl, refl)) (λ k n e r t. ap (λ b. cond (is_export k) b (is_declared k)) (first_same (λ x. is_declared (kind_of x)) n r t (λ c at q. declared_same c q)))

item_same : Same item_stays
item_same n r = λ j.
    cond (is_same is_empty_stmt (refl, refl, refl, refl, refl, refl) n r j) true
    (cond (is_same (belongs sort.ModuleItem) (refl, refl, refl, refl, refl, refl) n r j) (value_same n r j && not (ambient_same n r j)) true)

member_usual : (k : Kind) (n : Node) → kind_of n ≡ k → (r : Role) → is_typed_name r n ≡ false → member_stays_by k (bound_at n r) ≡ member_stays_by k n
unfolding member_stays_by
member_usual (kind.Constructor accessibility is_optional) n e r t = value_at_same 2 n r t
member_usual (kind.ClassMethod k modifiers) n e r t = ap (λ b. not modifiers.is_abstract && b) (value_at_same 1 n r t)
member_usual (kind.PrivateMethod k modifiers) n e r t = ap (λ b. not modifiers.is_abstract && b) (value_at_same 1 n r t)
member_usual _ n e r t = refl

member_same : Same member_stays
unfolding member_stays_by
member_same = by_kind member_stays_by (λ n m. (refl, refl, refl, refl, refl, refl)) member_usual

specifier_same : Same (λ n. specifier_stays (kind_of n))
unfolding specifier_stays
specifier_same = is_same specifier_stays (refl, refl, refl, refl, refl, refl)

-- ---- names `this`

pub ident_same : Same (λ n. is_this_ident (kind_of n))
ident_same = is_same is_this_ident (refl, refl, refl, refl, refl, refl)

pub wrapper_this : (k : Kind) (n : Node) → is_type_wrapper k ≡ true → is_this_by k n ≡ false
wrapper_this kind.BindingIdent n w = cc
wrapper_this _ n w = refl

pub wrapper_param : (k : Kind) (n : Node) → is_type_wrapper k ≡ true → is_this_param_by k n ≡ is_this n
wrapper_param kind.Param n w = cc
wrapper_param _ n w = refl

pub this_usual : (k : Kind) (n : Node) (r : Role) → is_typed_name r n ≡ false → is_this_by k (bound_at n r) ≡ is_this_by k n
this_usual kind.BindingIdent n r t = first_same (λ x. is_this_ident (kind_of x)) n r t (λ c at q. ident_same c q)
this_usual _ n r t = refl

this_remains : (n : Node) (r : Role) → is_this n ≡ true → is_this (bound_at n r) ≡ true
this_remains n r h = by (is_typed_name r n) refl
  where
    by : (t : Bool) → is_typed_name r n ≡ t → is_this (bound_at n r) ≡ true
    by true t = absurd (both-ways h (wrapper_this (kind_of n) n (typed_parts n r t).1))
    by false t = ap (λ (k : Kind). is_this_by k (bound_at n r)) (usual_kind n r t) ∙ this_usual (kind_of n) n r t ∙ h

param_usual : (k : Kind) (n : Node) (r : Role) → is_typed_name r n ≡ false → is_this_param_by k n ≡ true → is_this_param_by k (bound_at n r) ≡ true
param_usual kind.Param n r t h = first_bound is_this n r t true (λ c at q e. this_remains c q e) h
param_usual _ n r t h = this_remains n r h

param_remains : (n : Node) (r : Role) → is_this_param n ≡ true → is_this_param (bound_at n r) ≡ true
param_remains n r h = by (is_typed_name r n) refl
  where
    by : (t : Bool) → is_typed_name r n ≡ t → is_this_param (bound_at n r) ≡ true
    by true t = let w = (typed_parts n r t).1 in absurd (both-ways h (wrapper_param (kind_of n) n w ∙ wrapper_this (kind_of n) n w))
    by false t = ap (λ (k : Kind). is_this_param_by k (bound_at n r)) (usual_kind n r t) ∙ param_usual (kind_of n) n r t h

-- ---- what stays

-- an expression with a type round it
pub wrapper_stays : (n : Node) → is_type_wrapper (kind_of n) ≡ true → stays n ≡ true
unfolding stays member_stays_by specifier_stays
wrapper_stays n w =
    let k = kind_of n in
    let item : item_stays n ≡ true =
    six_at Bool (λ k. cond (is_empty_stmt k) true (cond (belongs sort.ModuleItem k) (is_value n && not (is_ambient n)) true)) true (refl, refl, refl, refl, refl, refl) k w in
    let member : member_stays n ≡ true = six_at Bool (λ k. member_stays_by k n) true (refl, refl, refl, refl, refl, refl) k w in
    let specifier : specifier_stays k ≡ true = six_at Bool specifier_stays true (refl, refl, refl, refl, refl, refl) k w in
    let param : is_this_param n ≡ false = wrapper_param k n w ∙ wrapper_this k n w in
    (λ j. item j && member j && specifier j && not (param j))

unless : (b c : Bool) → (b ≡ true → c ≡ true) → not c ≡ true → not b ≡ true
unless true c remains other = absurd (both-ways other (ap not (remains refl)))
unless false c remains other = refl

pub stays_before : (n : Node) (r : Role) → stays (bound_at n r) ≡ true → stays n ≡ true
unfolding stays
stays_before n r h =
    let m = bound_at n r in
    let parts = and_parts (item_stays m && member_stays m && specifier_stays (kind_of m)) (not (is_this_param m)) h in
    let front : (item_stays n && member_stays n && specifier_stays (kind_of n)) ≡ true =
    sym (λ j. item_same n r j && member_same n r j && specifier_same n r j) ∙ parts.0 in
    and_from (item_stays n && member_stays n && specifier_stays (kind_of n)) (not (is_this_param n)) front (unless (is_this_param n) (is_this_param m) (param_remains n r) parts.1)
