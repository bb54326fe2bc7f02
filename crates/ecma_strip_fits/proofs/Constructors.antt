-- A class has no second constructor with a body without types, where it had none.
use Rattle.std.proofs.Common.{◌≡◌, ◌∙◌, ℕ, ◌≤◌, Bool, true, false, ◌&&◌, cond, List, [], ◌∷◌, map, filter, length, replicate, Option, Some, None, is_some, refl, sym, ap, ap₂, subst, slice_get, arith}
use Rattle.ecma_kind.specs.declared.kind.Kind.{Kind}
use Rattle.ecma_kind.specs.declared.kind.Kind.TheVariants as kind
use Rattle.ecma_kind.specs.declared.shapes.Shape.{Shape}
use Rattle.ecma_kind.specs.declared.shapes.Sort.TheVariants as sort
use Rattle.ecma_tree.specs.declared.node.Node.{Node, Node-F}
use Rattle.ecma_tree.specs.Laws.{HaveShapes}
use Rattle.ecma_tree.specs.Sorted.{HasShape, child_shapes, is_list, many, one}
use Rattle.ecma_rules.specs.Children.{children_of as items_of, has_child, is_present, items_at, kind_of}
use Rattle.ecma_rules.specs.Failing.{failing_here}
use Rattle.ecma_rules.specs.Members.{is_constructor, is_full_constructor, second_by, second_constructor, second_of}
use Rattle.ecma_strip.specs.Staying.{stays}
use Rattle.ecma_strip.specs.Stripping.{plain_children, plain_kind, stripped}
use Rattle.ecma_strip.proofs.Sorting.{list-kind}
use Rattle.ecma_fits.specs.declared.unfit.Where.{Where}
use Rattle.ecma_fits.specs.Fitting.{Fits, is_unfit, unfit_here, NoneFails}
use Rattle.ecma_strip_fits.proofs.ChildrenKept.{AsUsual, Plain, child_by, kind_kept, maybe_usual, one_usual}
use Rattle.ecma_strip_fits.proofs.Tests.{test_kept}
use Rattle.ecma_strip_fits.proofs.Walk.{children_of, listed_parts, neither_least, shape_parts, usual_kind}

some_same : {X : Type 0} {x y : X} → Some x ≡ Some y → x ≡ y
some_same e = cc

constructor_plain : Plain Bool is_constructor
unfolding plain_kind
constructor_plain (kind.Constructor accessibility is_optional) = refl
constructor_plain _ = refl

pub present_plain : Plain Bool is_present
unfolding plain_kind
present_plain kind.Absent = refl
present_plain _ = refl

body_shape : (k : Kind) → is_constructor k ≡ true → (s : Shape) (m : ℕ) (o : Shape) → slice_get (child_shapes k s m) 2 ≡ Some o → AsUsual o
body_shape (kind.Constructor accessibility is_optional) c s m o at = subst AsUsual (some_same at) (maybe_usual sort.BlockStmt refl)
body_shape _ c s m o at = cc

constructor_untouched : (k : Kind) → is_constructor k ≡ true → (cs : List Node) → slice_get (plain_children k cs) 2 ≡ slice_get cs 2
unfolding plain_children
constructor_untouched (kind.Constructor accessibility is_optional) c cs = refl
constructor_untouched _ c cs = cc

both : (a b : Bool) → (a && b) ≡ true → (a ≡ true) × (b ≡ true)
both true b h = (refl, h)
both false b h = cc

-- a member that is a constructor with a body without types was one
was_full : (c : Node) → HasShape (one sort.ClassMember) c → is_full_constructor (stripped c) ≡ true → is_full_constructor c ≡ true
was_full c has g =
    let u = one_usual sort.ClassMember refl (kind_of c) (shape_parts c (one sort.ClassMember) has).0 in
    let t = both (is_constructor (kind_of (stripped c))) (has_child (stripped c) 2) g in
    let is : is_constructor (kind_of c) ≡ true = sym (ap is_constructor (usual_kind c u) ∙ constructor_plain (kind_of c)) ∙ t.0 in
    let body : has_child (stripped c) 2 ≡ has_child c 2 = kind_kept c (one sort.ClassMember) has u 2 (constructor_untouched (kind_of c) is) is_present present_plain (body_shape (kind_of c) is (one sort.ClassMember) (length (children_of c))) in
    ap₂ (λ a b. a && b) is (sym body ∙ t.1)

-- ---- how many

abbrev full : List Node → ℕ
full cs = length (filter is_full_constructor cs)

counted : (a b : Bool) → (a ≡ true → b ≡ true) → (c d : Node) (cs ds : List Node) → length cs ≤ length ds → length (cond a (c ∷ cs) cs) ≤ length (cond b (d ∷ ds) ds)
counted true true h c d cs ds m = omega (arith, m)
counted true false h c d cs ds m = let x : false ≡ true = h refl in cc
counted false true h c d cs ds m = omega (arith, m)
counted false false h c d cs ds m = m

skipped : (b : Bool) (d : Node) (k : ℕ) (ds : List Node) → k ≤ length ds → k ≤ length (cond b (d ∷ ds) ds)
skipped true d k ds m = omega (arith, m)
skipped false d k ds m = m

fewer : (cs : List Node) → HaveShapes (replicate (length cs) (one sort.ClassMember)) cs → full (map stripped (filter stays cs)) ≤ full cs
fewer [] h = omega arith
fewer (c ∷ cs) h = by (stays c) (fewer cs h.1)
  where
    by : (b : Bool) → full (map stripped (filter stays cs)) ≤ full cs → full (map stripped (cond b (c ∷ filter stays cs) (filter stays cs))) ≤ full (c ∷ cs)
    by true m = counted (is_full_constructor (stripped c)) (is_full_constructor c) (was_full c h.0) (stripped c) c (filter is_full_constructor (map stripped (filter stays cs))) (filter is_full_constructor cs) m
    by false m = skipped (is_full_constructor c) c (full (map stripped (filter stays cs))) (filter is_full_constructor cs) m

few : (cs : List Node) → second_of cs ≡ None → length cs ≤ 1
few [] h = omega arith
few (c ∷ []) h = omega arith
few (c ∷ d ∷ cs) h = cc

one_at_most : (cs : List Node) → length cs ≤ 1 → second_of cs ≡ None
one_at_most [] h = refl
one_at_most (c ∷ []) h = refl
one_at_most (c ∷ d ∷ cs) h = absurd (omega (arith, h))

-- ---- a class

is_class : Kind → Bool
is_class (kind.Class is_abstract) = true
is_class _ = false

class_shape : (k : Kind) → is_class k ≡ true → (s : Shape) (m : ℕ) (o : Shape) → slice_get (child_shapes k s m) 1 ≡ Some o → many sort.ClassMember ≡ o
unfolding is_class
class_shape (kind.Class is_abstract) c s m o at = some_same at
class_shape _ c s m o at = cc

class_untouched : (k : Kind) → is_class k ≡ true → (cs : List Node) → slice_get (plain_children k cs) 1 ≡ slice_get cs 1
unfolding is_class plain_children
class_untouched (kind.Class is_abstract) c cs = refl
class_untouched _ c cs = cc

members_have : (l : Node) → HasShape (many sort.ClassMember) l → is_list (kind_of l) ≡ true → HaveShapes (replicate (length (children_of l)) (one sort.ClassMember)) (children_of l)
members_have l has is = subst (λ k. HaveShapes (child_shapes k (many sort.ClassMember) (length (children_of l))) (children_of l)) (list-kind (kind_of l) is) (shape_parts l (many sort.ClassMember) has).1

fewer_in : (l : Node) → HasShape (many sort.ClassMember) l → full (children_of (stripped l)) ≤ full (children_of l)
fewer_in l has =
    let is : is_list (kind_of l) ≡ true = (shape_parts l (many sort.ClassMember) has).0 in
    subst (λ (z : List Node). full z ≤ full (children_of l)) (sym (ap (λ (z : Node-F Node). z.children) (listed_parts l is))) (fewer (children_of l) (members_have l has is))

abbrev seconds : Kind → Node → Bool
seconds k n = is_some (second_by k n)

none_some : (o : Option ℕ) → is_some o ≡ false → o ≡ None
none_some None h = refl
none_some (Some i) h = cc

seconds_by : (k : Kind) (n m : Node) → (is_class k ≡ true → full (items_at m 1) ≤ full (items_at n 1)) → seconds k n ≡ false → seconds (plain_kind k) m ≡ false
unfolding is_class plain_kind
seconds_by (kind.Class is_abstract) n m less h =
    let few' = few (filter is_full_constructor (items_at n 1)) (none_some (second_of (filter is_full_constructor (items_at n 1))) h) in
    let less' : full (items_at m 1) ≤ full (items_at n 1) = less refl in
    ap is_some (one_at_most (filter is_full_constructor (items_at m 1)) (omega (arith, few', less')))
seconds_by kind.Absent n m less h = refl
seconds_by _ n m less h = refl

no_second : (w : Where) (n : Node) → unfit_here w n ≡ None → seconds (kind_of n) n ≡ false
no_second w n h = ap is_some (neither_least (failing_here (is_unfit w n) n) (second_constructor n) h).1

pub constructors_kept : (tree : Node) → Fits tree → NoneFails (λ w n. is_some (second_constructor n)) (stripped tree)
constructors_kept =
    test_kept seconds (λ n. refl) (λ n. refl) (λ n. refl)
    (λ n s w u h none. seconds_by (kind_of n) n (stripped n)
    (λ c. child_by n s h u 1 (class_untouched (kind_of n) c) (λ x y. full (items_of y) ≤ full (items_of x)) (omega arith)
    (λ l o at has. fewer_in l (subst (λ z. HasShape z l) (sym (class_shape (kind_of n) c s (length (children_of n)) o at)) has)))
    (no_second w n none))
