-- Tests that look at nothing around a node.
use Rattle.std.proofs.Common.{◌≡◌, ◌∙◌, ℕ, Bool, true, false, not, ◌&&◌, ◌||◌, List, [], length, Some, None, refl, sym, ap, subst, slice_get}
use Rattle.ecma_kind.specs.declared.kind.Kind.{Kind}
use Rattle.ecma_kind.specs.declared.kind.Kind.TheVariants as kind
use Rattle.ecma_kind.specs.declared.shapes.Shape.{Shape}
use Rattle.ecma_kind.specs.declared.shapes.Sort.TheVariants as sort
use Rattle.ecma_tree.specs.declared.node.Node.{Node}
use Rattle.ecma_tree.specs.Nodes.{absent, dummy_span, node_of}
use Rattle.ecma_tree.specs.Sorted.{HasShape, child_shapes, one}
use Rattle.ecma_rules.specs.Children.{child_is, kind_of}
use Rattle.ecma_rules.specs.Failing.{failing_here}
use Rattle.ecma_rules.specs.Members.{is_constructor_key, is_method, is_special_by, is_special_function, second_constructor}
use Rattle.ecma_strip.specs.Stripping.{plain_children, plain_kind, stripped}
use Rattle.ecma_fits.specs.declared.unfit.Where.{Where}
use Rattle.ecma_fits.specs.Branches.{is_dangling}
use Rattle.ecma_fits.specs.Chains.{is_loose}
use Rattle.ecma_fits.specs.Counts.{is_short}
use Rattle.ecma_fits.specs.Fitting.{Fits, at_top, is_misshapen, is_unfit, unfit_here, where_in, NoneFails}
use Rattle.ecma_fits.specs.Members.{is_misread, is_misread_by}
use Rattle.ecma_strip_fits.proofs.Classes.{class_of}
use Rattle.ecma_strip_fits.proofs.Classes.Class.{Usual}
use Rattle.ecma_strip_fits.proofs.ChildrenKept.{AsUsual, Plain, kind_kept, one_usual}
use Rattle.ecma_strip_fits.proofs.Strays.{kind_node, none_failing, not_failing}
use Rattle.ecma_strip_fits.proofs.Walk.{Carries, children_of, kept, neither_least, usual_kind}
use Rattle.ecma_fits.proofs.Clauses.{none_unfit}

pub neither : (a b : Bool) → (a || b) ≡ false → (a ≡ false) × (b ≡ false)
neither true b h = cc
neither false b h = (refl, h)

-- of a node that fits where it stands, each clause holds
unfit_parts : (w : Where) (n : Node) → unfit_here w n ≡ None → is_misshapen n ≡ false
unfolding is_unfit
unfit_parts w n h =
    let a = neither_least (failing_here (is_unfit w n) n) (second_constructor n) h in
    (neither (is_misshapen n) _ (not_failing (is_unfit w n) n a.0)).0

pub not_short : (w : Where) (n : Node) → unfit_here w n ≡ None → is_short n ≡ false
not_short w n h = (neither (is_short n) _ (unfit_parts w n h)).0

pub not_dangling : (w : Where) (n : Node) → unfit_here w n ≡ None → is_dangling n ≡ false
not_dangling w n h = (neither (is_dangling n) _ (neither (is_short n) _ (unfit_parts w n h)).1).0

pub not_loose : (w : Where) (n : Node) → unfit_here w n ≡ None → is_loose n ≡ false
not_loose w n h = (neither (is_loose n) _ (neither (is_dangling n) _ (neither (is_short n) _ (unfit_parts w n h)).1).1).0

pub not_misread : (w : Where) (n : Node) → unfit_here w n ≡ None → is_misread n ≡ false
not_misread w n h = (neither (is_loose n) _ (neither (is_dangling n) _ (neither (is_short n) _ (unfit_parts w n h)).1).1).1

-- a test that nothing fails which is missing, an empty statement or a list, and that each node passes without types where the node fits
module _ (fails : Kind → Node → Bool) (missing : (n : Node) → fails kind.Absent n ≡ false) (empty : (n : Node) → fails kind.EmptyStmt n ≡ false) (lists : (n : Node) → fails kind.List n ≡ false)
    (kept_here : (n : Node) (s : Shape) (w : Where) → class_of (kind_of n) ≡ Usual → HasShape s n → unfit_here w n ≡ None → fails (plain_kind (kind_of n)) (stripped n) ≡ false) where
  quiet : (w : Where) (n : Node) (k : Kind) → kind_of n ≡ k → fails k n ≡ false → failing_here (fails (kind_of n) n) n ≡ None
  quiet w n k is none = none_failing (fails (kind_of n) n) n (ap (λ z. fails z n) is ∙ none)

  carries : Carries Where where_in unfit_here (λ w n. failing_here (fails (kind_of n) n) n) (λ n s a b. Unit {0})
  carries = record {
    missing = λ n s z a t h r none. quiet a absent kind.Absent (kind_node dummy_span kind.Absent []) (missing absent);
    empty = λ n s z y u h r none i is span. (let a = where_in y (stripped n) i in quiet a (node_of span kind.EmptyStmt []) kind.EmptyStmt (kind_node span kind.EmptyStmt []) (empty (node_of span kind.EmptyStmt [])));
    lone = λ n s z y u h r none i is. (let a = where_in y (stripped n) i in quiet a absent kind.Absent (kind_node dummy_span kind.Absent []) (missing absent));
    lists = λ n s z a l h r none span cs. quiet a (node_of span kind.List cs) kind.List (kind_node span kind.List cs) (lists (node_of span kind.List cs));
    under = λ n s a b w h r none e at has. tt;
    here = λ n s a b u h r none. none_failing (fails (kind_of (stripped n)) (stripped n)) (stripped n)
        (ap (λ k. fails k (stripped n)) (usual_kind n u) ∙ kept_here n s a u h none);
    items = λ n s a b l r m list c i j at last. tt;
    below = λ n s a b u h r none c o i at shape. tt;
  }

  pub test_kept : (tree : Node) → Fits tree → NoneFails (λ w n. fails (kind_of n) n) (stripped tree)
  test_kept tree f =
      (kept Where where_in unfit_here (λ w n. failing_here (fails (kind_of n) n) n) (λ n s a b. Unit {0}) carries tree (one sort.Module) at_top at_top f.sorted tt
      (none_unfit tree f)).0

some_same : {X : Type 0} {x y : X} → Some x ≡ Some y → x ≡ y
some_same e = cc

-- ---- members

key_plain : Plain Bool is_constructor_key
unfolding plain_kind
key_plain kind.Absent = refl
key_plain _ = refl

function_plain : Plain Bool is_special_function
unfolding plain_kind
function_plain kind.Absent = refl
function_plain _ = refl

-- a member with a key, and with a function behind it
is_member : Kind → Bool
is_member (kind.Constructor accessibility is_optional) = true
is_member (kind.ClassMethod k modifiers) = true
is_member _ = false

has_function : Kind → Bool
has_function (kind.ClassMethod k modifiers) = true
has_function (kind.PrivateMethod k modifiers) = true
has_function _ = false

key_usual : (k : Kind) → is_member k ≡ true → (s : Shape) (m : ℕ) (o : Shape) → slice_get (child_shapes k s m) 0 ≡ Some o → AsUsual o
unfolding is_member
key_usual (kind.Constructor accessibility is_optional) l s m o at = subst AsUsual (some_same at) (one_usual sort.PropName refl)
key_usual (kind.ClassMethod k modifiers) l s m o at = subst AsUsual (some_same at) (one_usual sort.PropName refl)
key_usual _ l s m o at = cc

function_usual : (k : Kind) → has_function k ≡ true → (s : Shape) (m : ℕ) (o : Shape) → slice_get (child_shapes k s m) 1 ≡ Some o → AsUsual o
unfolding has_function
function_usual (kind.ClassMethod k modifiers) l s m o at = subst AsUsual (some_same at) (one_usual sort.Function refl)
function_usual (kind.PrivateMethod k modifiers) l s m o at = subst AsUsual (some_same at) (one_usual sort.Function refl)
function_usual _ l s m o at = cc

member_first : (k : Kind) → is_member k ≡ true → (i : ℕ) (cs : List Node) → slice_get (plain_children k cs) i ≡ slice_get cs i
unfolding is_member plain_children
member_first (kind.Constructor accessibility is_optional) l i cs = refl
member_first (kind.ClassMethod k modifiers) l i cs = refl
member_first _ l i cs = cc

function_second : (k : Kind) → has_function k ≡ true → (i : ℕ) (cs : List Node) → slice_get (plain_children k cs) i ≡ slice_get cs i
unfolding has_function plain_children
function_second (kind.ClassMethod k modifiers) l i cs = refl
function_second (kind.PrivateMethod k modifiers) l i cs = refl
function_second _ l i cs = cc

module _ (n : Node) (s : Shape) (h : HasShape s n) (u : class_of (kind_of n) ≡ Usual) where
  key_kept : is_member (kind_of n) ≡ true → child_is is_constructor_key (stripped n) 0 ≡ child_is is_constructor_key n 0
  key_kept l = kind_kept n s h u 0 (member_first (kind_of n) l 0) is_constructor_key key_plain (key_usual (kind_of n) l s (length (children_of n)))

  function_kept : has_function (kind_of n) ≡ true → child_is is_special_function (stripped n) 1 ≡ child_is is_special_function n 1
  function_kept l = kind_kept n s h u 1 (function_second (kind_of n) l 1) is_special_function function_plain (function_usual (kind_of n) l s (length (children_of n)))

misread_by : (k : Kind) (n m : Node) → (is_member k ≡ true → child_is is_constructor_key m 0 ≡ child_is is_constructor_key n 0) → (has_function k ≡ true → child_is is_special_function m 1 ≡ child_is is_special_function n 1)
    → is_misread_by (plain_kind k) m ≡ is_misread_by k n
unfolding is_misread_by plain_kind is_member has_function
misread_by (kind.Constructor accessibility is_optional) n m key function = ap not (key refl)
misread_by (kind.ClassMethod k modifiers) n m key function =
    λ j. (not (is_method k) && function refl j) || (not modifiers.is_static && key refl j)
misread_by (kind.PrivateMethod k modifiers) n m key function = ap (λ b. not (is_method k) && b) (function refl)
misread_by (kind.Ident sym ctxt optional) n m key function = refl
misread_by _ n m key function = refl

special_by : (k : Kind) (n m : Node) → (is_member k ≡ true → child_is is_constructor_key m 0 ≡ child_is is_constructor_key n 0) → (has_function k ≡ true → child_is is_special_function m 1 ≡ child_is is_special_function n 1)
    → is_special_by (plain_kind k) m ≡ is_special_by k n
unfolding plain_kind is_member has_function
special_by (kind.ClassMethod k modifiers) n m key function = λ j. not modifiers.is_static && (key refl j && (not (is_method k) || function refl j))
special_by (kind.Ident sym ctxt optional) n m key function = refl
special_by _ n m key function = refl

pub special_kept : (n : Node) (s : Shape) → HasShape s n → class_of (kind_of n) ≡ Usual → is_special_by (plain_kind (kind_of n)) (stripped n) ≡ is_special_by (kind_of n) n
special_kept n s h u = special_by (kind_of n) n (stripped n) (key_kept n s h u) (function_kept n s h u)

never_misread : (n : Node) → (is_misread_by kind.Absent n ≡ false) × (is_misread_by kind.EmptyStmt n ≡ false) × (is_misread_by kind.List n ≡ false)
unfolding is_misread_by
never_misread n = (refl, refl, refl)

pub members_kept : (tree : Node) → Fits tree → NoneFails (λ w n. is_misread n) (stripped tree)
members_kept =
    test_kept is_misread_by (λ n. (never_misread n).0) (λ n. (never_misread n).1) (λ n. (never_misread n).2)
    (λ n s w u h none. misread_by (kind_of n) n (stripped n) (key_kept n s h u) (function_kept n s h u) ∙ not_misread w n none)
