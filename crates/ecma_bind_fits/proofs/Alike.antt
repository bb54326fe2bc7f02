-- What is said of kinds and of children is said of a tree with bound names as before, where a name that is bound is as good as a type round an expression.
use Rattle.std.proofs.Common.{◌≡◌, ◌∙◌, ℕ, zero, suc, Bool, true, false, ◌&&◌, ◌||◌, List, [], ◌∷◌, length, Option, Some, None, refl, sym, ap, ap₂, slice_get}
use Rattle.std.specs.List.{list_all, list_any}
use Rattle.ecma_kind.specs.Sorts.{is_type_wrapper}
use Rattle.ecma_kind.specs.declared.kind.Kind.{Kind}
use Rattle.ecma_kind.specs.declared.kind.Kind.TheVariants as kind
use Rattle.ecma_tree.specs.declared.node.Node.{Node, Node-F, out-Node}
use Rattle.ecma_tree.specs.declared.node.Node.TheViews.{out-roll-Node}
use Rattle.ecma_tree.specs.Nodes.{absent}
use Rattle.ecma_rules.specs.Children.{child_holds, child_is, children_of as items_of, has_child, holds_of, is_present, items_at, kind_of, of_kind}
use Rattle.ecma_rules.specs.Finishing.{binding}
use Rattle.ecma_fits.specs.declared.role.Role.{Role}
use Rattle.ecma_fits.specs.declared.role.Role.TheVariants as role
use Rattle.ecma_fits.specs.Roles.{role_in}
use Rattle.ecma_bind.specs.Binding.{binds, bound_at, is_name_under_types, is_typed_name, under_types}
use Rattle.ecma_bind_fits.proofs.Bound.{bound_each, children_of, typed_is, usual_is}

-- the same of each type round an expression
abbrev pub Six : (A : Type 0) → (Kind → A) → A → Type 0
Six A f x = (f kind.TsTypeAssertion ≡ x) × (f kind.TsConstAssertion ≡ x) × (f kind.TsNonNullExpr ≡ x) × (f kind.TsAsExpr ≡ x) × (f kind.TsInstantiation ≡ x) × (f kind.TsSatisfiesExpr ≡ x)

pub six_at : (A : Type 0) (f : Kind → A) (x : A) → Six A f x → (k : Kind) → is_type_wrapper k ≡ true → f k ≡ x
six_at A f x (a, b, c, d, e, g) kind.TsTypeAssertion w = a
six_at A f x (a, b, c, d, e, g) kind.TsConstAssertion w = b
six_at A f x (a, b, c, d, e, g) kind.TsNonNullExpr w = c
six_at A f x (a, b, c, d, e, g) kind.TsAsExpr w = d
six_at A f x (a, b, c, d, e, g) kind.TsInstantiation w = e
six_at A f x (a, b, c, d, e, g) kind.TsSatisfiesExpr w = g
six_at A f x s _ w = cc

-- a name that is bound is as good
abbrev pub Blind : (A : Type 0) → (Kind → A) → Type 0
Blind A f = Six A f (f kind.BindingIdent)

-- ---- what becomes of a node

all_three : (a b c : Bool) → (a && (b && c)) ≡ true → (a ≡ true) × (b ≡ true) × (c ≡ true)
all_three true true true h = (refl, refl, refl)
all_three true true false h = cc
all_three true false c h = cc
all_three false b c h = cc

pub typed_parts : (n : Node) (r : Role) → is_typed_name r n ≡ true → (binds r ≡ true) × (is_type_wrapper (kind_of n) ≡ true) × (is_name_under_types n ≡ true)
typed_parts n r t = all_three (binds r) (is_type_wrapper (kind_of n)) (is_name_under_types n) t

pub bound_parts : (u : Node) → out-Node (binding u) ≡ record { span = (out-Node u).span; kind = kind.BindingIdent; children = u ∷ absent ∷ [] }
bound_parts u = out-roll-Node (record { span = (out-Node u).span; kind = kind.BindingIdent; children = u ∷ absent ∷ [] })

pub typed_kind : (n : Node) (r : Role) → is_typed_name r n ≡ true → kind_of (bound_at n r) ≡ kind.BindingIdent
typed_kind n r t = ap kind_of (typed_is n r t) ∙ ap (λ (z : Node-F Node). z.kind) (bound_parts (under_types n))

usual_parts : (n : Node) (r : Role) → is_typed_name r n ≡ false → out-Node (bound_at n r) ≡ record { span = (out-Node n).span; kind = kind_of n; children = bound_each (role_in r (kind_of n)) (children_of n) }
usual_parts n r u = ap out-Node (usual_is n r u) ∙ out-roll-Node (record { span = (out-Node n).span; kind = kind_of n; children = bound_each (role_in r (kind_of n)) (children_of n) })

pub usual_kind : (n : Node) (r : Role) → is_typed_name r n ≡ false → kind_of (bound_at n r) ≡ kind_of n
usual_kind n r u = ap (λ (z : Node-F Node). z.kind) (usual_parts n r u)

pub usual_children : (n : Node) (r : Role) → is_typed_name r n ≡ false → children_of (bound_at n r) ≡ bound_each (role_in r (kind_of n)) (children_of n)
usual_children n r u = ap (λ (z : Node-F Node). z.children) (usual_parts n r u)

pub usual_span : (n : Node) (r : Role) → is_typed_name r n ≡ false → (out-Node (bound_at n r)).span ≡ (out-Node n).span
usual_span n r u = ap (λ (z : Node-F Node). z.span) (usual_parts n r u)

-- where no name is bound, none is typed
pub quiet_usual : (n : Node) (r : Role) → binds r ≡ false → is_typed_name r n ≡ false
quiet_usual n r q = ap (λ b. b && (is_type_wrapper (kind_of n) && is_name_under_types n)) q

-- ---- what is said of kinds

pub kind_same : (A : Type 0) (f : Kind → A) → Blind A f → (n : Node) (r : Role) → f (kind_of (bound_at n r)) ≡ f (kind_of n)
kind_same A f b n r = by (is_typed_name r n) refl
  where
    by : (t : Bool) → is_typed_name r n ≡ t → f (kind_of (bound_at n r)) ≡ f (kind_of n)
    by true e = ap f (typed_kind n r e) ∙ sym (six_at A f (f kind.BindingIdent) b (kind_of n) (typed_parts n r e).1)
    by false e = ap f (usual_kind n r e)

-- a test of every node, and one of those that are no typed names
abbrev pub Same : (Node → Bool) → Type 0
Same test = (n : Node) (r : Role) → test (bound_at n r) ≡ test n

abbrev pub Alike : (Node → Bool) → Type 0
Alike test = (n : Node) (r : Role) → is_typed_name r n ≡ false → test (bound_at n r) ≡ test n

pub is_same : (is : Kind → Bool) → Blind Bool is → Same (λ n. is (kind_of n))
is_same is b = kind_same Bool is b

-- ---- children

pub kind_at : (is : Kind → Bool) → Blind Bool is → (ns : List Node) (roles : ℕ → Role) (i : ℕ) → of_kind is (slice_get (bound_each roles ns) i) ≡ of_kind is (slice_get ns i)
kind_at is b [] roles i = refl
kind_at is b (n ∷ ns) roles zero = kind_same Bool is b n (roles 0)
kind_at is b (n ∷ ns) roles (suc i) = kind_at is b ns (λ j. roles (suc j)) i

pub child_same : (is : Kind → Bool) → Blind Bool is → (i : ℕ) → Alike (λ n. child_is is n i)
child_same is b i n r u = ap (λ (z : List Node). of_kind is (slice_get z i)) (usual_children n r u) ∙ kind_at is b (children_of n) (role_in r (kind_of n)) i

pub has_same : (i : ℕ) → Alike (λ n. has_child n i)
has_same = child_same is_present (refl, refl, refl, refl, refl, refl)

pub test_at : (test : Node → Bool) (ns : List Node) (roles : ℕ → Role) (i : ℕ) → ((c : Node) → slice_get ns i ≡ Some c → test (bound_at c (roles i)) ≡ test c)
    → holds_of test (slice_get (bound_each roles ns) i) ≡ holds_of test (slice_get ns i)
test_at test [] roles i s = refl
test_at test (n ∷ ns) roles zero s = s n refl
test_at test (n ∷ ns) roles (suc i) s = test_at test ns (λ j. roles (suc j)) i s

-- where the child is the same to it
pub holds_where : (test : Node → Bool) (n : Node) (r : Role) → is_typed_name r n ≡ false → (i : ℕ)
    → ((c : Node) → slice_get (children_of n) i ≡ Some c → test (bound_at c (role_in r (kind_of n) i)) ≡ test c) → child_holds test (bound_at n r) i ≡ child_holds test n i
holds_where test n r u i s = ap (λ (z : List Node). holds_of test (slice_get z i)) (usual_children n r u) ∙ test_at test (children_of n) (role_in r (kind_of n)) i s

pub holds_same : (test : Node → Bool) → Same test → (i : ℕ) → Alike (λ n. child_holds test n i)
holds_same test s i n r u = holds_where test n r u i (λ c at. s c (role_in r (kind_of n) i))

each_length : (ns : List Node) (roles : ℕ → Role) → length (bound_each roles ns) ≡ length ns
each_length [] roles = refl
each_length (n ∷ ns) roles = ap suc (each_length ns (λ i. roles (suc i)))

pub length_same : (n : Node) (r : Role) → is_typed_name r n ≡ false → length (children_of (bound_at n r)) ≡ length (children_of n)
length_same n r u = ap length (usual_children n r u) ∙ each_length (children_of n) (role_in r (kind_of n))

pub bound_length : (ns : List Node) (roles : ℕ → Role) → length (bound_each roles ns) ≡ length ns
bound_length = each_length

-- ---- items of a list that is a child

-- the roles of the children of a child
abbrev pub roles_at : Option Node → Role → ℕ → Role
roles_at None r i = role.Free
roles_at (Some list) r i = role_in r (kind_of list) i

items_in : (ns : List Node) (roles : ℕ → Role) (i : ℕ) → binds (roles i) ≡ false → items_of (slice_get (bound_each roles ns) i) ≡ bound_each (roles_at (slice_get ns i) (roles i)) (items_of (slice_get ns i))
items_in [] roles i q = refl
items_in (n ∷ ns) roles zero q = usual_children n (roles 0) (quiet_usual n (roles 0) q)
items_in (n ∷ ns) roles (suc i) q = items_in ns (λ j. roles (suc j)) i q

-- where no name is bound in the place of the list
pub items_same : (n : Node) (r : Role) → is_typed_name r n ≡ false → (i : ℕ) → binds (role_in r (kind_of n) i) ≡ false
    → items_at (bound_at n r) i ≡ bound_each (roles_at (slice_get (children_of n) i) (role_in r (kind_of n) i)) (items_at n i)
items_same n r u i q = ap (λ (z : List Node). items_of (slice_get z i)) (usual_children n r u) ∙ items_in (children_of n) (role_in r (kind_of n)) i q

pub all_where : (test : Node → Bool) (ns : List Node) (roles : ℕ → Role) → ((i : ℕ) (c : Node) → slice_get ns i ≡ Some c → test (bound_at c (roles i)) ≡ test c) → list_all test (bound_each roles ns) ≡ list_all test ns
all_where test [] roles s = refl
all_where test (n ∷ ns) roles s = ap₂ (λ a b. a && b) (s 0 n refl) (all_where test ns (λ i. roles (suc i)) (λ i c at. s (suc i) c at))

pub all_same : (test : Node → Bool) → Same test → (ns : List Node) (roles : ℕ → Role) → list_all test (bound_each roles ns) ≡ list_all test ns
all_same test s ns roles = all_where test ns roles (λ i c at. s c (roles i))

pub any_where : (test : Node → Bool) (ns : List Node) (roles : ℕ → Role) → ((i : ℕ) (c : Node) → slice_get ns i ≡ Some c → test (bound_at c (roles i)) ≡ test c) → list_any test (bound_each roles ns) ≡ list_any test ns
any_where test [] roles s = refl
any_where test (n ∷ ns) roles s = ap₂ (λ a b. a || b) (s 0 n refl) (any_where test ns (λ i. roles (suc i)) (λ i c at. s (suc i) c at))

-- a test by the kind of a node
pub by_kind : (test : Kind → Node → Bool) → ((n m : Node) → Six Bool (λ k. test k n) (test kind.BindingIdent m)) → ((k : Kind) (n : Node) → kind_of n ≡ k → (r : Role) → is_typed_name r n ≡ false → test k (bound_at n r) ≡ test k n)
    → Same (λ n. test (kind_of n) n)
by_kind test b same n r = by (is_typed_name r n) refl
  where
    by : (t : Bool) → is_typed_name r n ≡ t → test (kind_of (bound_at n r)) (bound_at n r) ≡ test (kind_of n) n
    by true e = ap (λ k. test k (bound_at n r)) (typed_kind n r e) ∙ sym (six_at Bool (λ k. test k n) (test kind.BindingIdent (bound_at n r)) (b n (bound_at n r)) (kind_of n) (typed_parts n r e).1)
    by false e = ap (λ k. test k (bound_at n r)) (usual_kind n r e) ∙ same (kind_of n) n refl r e
