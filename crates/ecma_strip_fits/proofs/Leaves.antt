-- Leaves stay spelled without types, and `arguments` is assigned to where it was.
use Rattle.std.proofs.Common.{◌≡◌, ◌∙◌, inl, inr, ℕ, Bool, true, false, not, ◌&&◌, ◌||◌, codes, List, [], length, Some, None, refl, sym, ap, subst, slice_get}
use Rattle.ecma_kind.specs.Sorts.{belongs}
use Rattle.ecma_kind.specs.declared.kind.Kind.{Kind}
use Rattle.ecma_kind.specs.declared.kind.Kind.TheVariants as kind
use Rattle.ecma_kind.specs.declared.shapes.Shape.{Shape}
use Rattle.ecma_kind.specs.declared.shapes.Sort.TheVariants as sort
use Rattle.ecma_tree.specs.declared.node.Node.{Node}
use Rattle.ecma_tree.specs.Nodes.{absent, dummy_span, node_of}
use Rattle.ecma_tree.specs.Sorted.{HasShape, child_shapes, one}
use Rattle.ecma_leaves.specs.Words.{is_spelled}
use Rattle.ecma_rules.specs.Children.{child_is, is_named, kind_of}
use Rattle.ecma_rules.specs.Failing.{failing_here}
use Rattle.ecma_rules.specs.Members.{second_constructor}
use Rattle.ecma_strip.specs.Stripping.{plain_children, plain_kind, stripped}
use Rattle.ecma_fits.specs.declared.unfit.Where.{Where}
use Rattle.ecma_fits.specs.Fitting.{Fits, at_top, breaks_rule, is_misplaced, is_misshapen, is_unfit, unfit_here, where_in, NoneFails}
use Rattle.ecma_fits.specs.Roles.{is_assigned, is_bound_name, is_out_of_role, is_tagged}
use Rattle.ecma_fits.specs.Strays.{is_stray_target}
use Rattle.ecma_strip_fits.proofs.Classes.{class_of}
use Rattle.ecma_strip_fits.proofs.Classes.Class.{Usual}
use Rattle.ecma_strip_fits.proofs.ChildrenKept.{AsUsual, Plain, kind_kept, one_usual}
use Rattle.ecma_strip_fits.proofs.Standing.{How, Stands, below, items, under}
use Rattle.ecma_strip_fits.proofs.Strays.{kind_node, none_failing, not_failing}
use Rattle.ecma_strip_fits.proofs.Tests.{neither}
use Rattle.ecma_strip_fits.proofs.Walk.{Carries, children_of, kept, neither_least, usual_kind}
use Rattle.ecma_fits.proofs.Clauses.{none_unfit}

some_same : {X : Type 0} {x y : X} → Some x ≡ Some y → x ≡ y
some_same e = cc

-- of a node that fits where it stands
pub unfit_none : (w : Where) (n : Node) → unfit_here w n ≡ None → (is_misplaced w n ≡ false) × (not (is_spelled (is_tagged w.role) (kind_of n)) ≡ false)
unfolding is_unfit
unfit_none w n h =
    let a = neither_least (failing_here (is_unfit w n) n) (second_constructor n) h in
    let b = neither (is_misshapen n) (is_misplaced w n || not (is_spelled (is_tagged w.role) (kind_of n))) (not_failing (is_unfit w n) n a.0) in
    neither (is_misplaced w n) (not (is_spelled (is_tagged w.role) (kind_of n))) b.1

-- a test of a node and of where it stands, that nothing fails which is missing, an empty statement or a list
module _ (fails : Where → Kind → Node → Bool) (missing : (w : Where) (n : Node) → fails w kind.Absent n ≡ false) (empty : (w : Where) (n : Node) → fails w kind.EmptyStmt n ≡ false) (lists : (w : Where) (n : Node) → fails w kind.List n ≡ false)
    (kept_here : (n : Node) (s : Shape) (w v : Where) → class_of (kind_of n) ≡ Usual → HasShape s n → Stands n s w v → unfit_here w n ≡ None → fails v (plain_kind (kind_of n)) (stripped n) ≡ false) where
  quiet : (w : Where) (n : Node) (k : Kind) → kind_of n ≡ k → fails w k n ≡ false → failing_here (fails w (kind_of n) n) n ≡ None
  quiet w n k is none = none_failing (fails w (kind_of n) n) n (ap (λ z. fails w z n) is ∙ none)

  carries : Carries Where where_in unfit_here (λ w n. failing_here (fails w (kind_of n) n) n) Stands
  carries = record {
    missing = λ n s z a t h r none. quiet a absent kind.Absent (kind_node dummy_span kind.Absent []) (missing a absent);
    empty = λ n s z y u h r none i is span. (let a = where_in y (stripped n) i in quiet a (node_of span kind.EmptyStmt []) kind.EmptyStmt (kind_node span kind.EmptyStmt []) (empty a (node_of span kind.EmptyStmt [])));
    lone = λ n s z y u h r none i is. (let a = where_in y (stripped n) i in quiet a absent kind.Absent (kind_node dummy_span kind.Absent []) (missing a absent));
    lists = λ n s z a l h r none span cs. quiet a (node_of span kind.List cs) kind.List (kind_node span kind.List cs) (lists a (node_of span kind.List cs));
    under = λ n s a b w h r none e at has. under n s a b w h r e has;
    here = λ n s a b u h r none. none_failing (fails b (kind_of (stripped n)) (stripped n)) (stripped n)
        (ap (λ k. fails b k (stripped n)) (usual_kind n u) ∙ kept_here n s a b u h r none);
    items = λ n s a b l r m list c i j at last. items n s a b l r m list c i j;
    below = λ n s a b u h r none c o i at shape. below n s a b u r c o i shape;
  }

  pub place_kept : (tree : Node) → Fits tree → NoneFails (λ w n. fails w (kind_of n) n) (stripped tree)
  place_kept tree f =
      (kept Where where_in unfit_here (λ w n. failing_here (fails w (kind_of n) n) n) Stands carries tree (one sort.Module) at_top at_top f.sorted
      (record { arguments = refl; tagged = λ t. absurd (cc); how = inl refl }) (none_unfit tree f)).0

-- ---- leaves

spelled_plain : (tagged : Bool) → Plain Bool (is_spelled tagged)
unfolding plain_kind
spelled_plain tagged kind.Absent = refl
spelled_plain tagged _ = refl

-- an expression is no text part
spelled_free : (a b : Bool) (k : Kind) → belongs sort.Expr k ≡ true → is_spelled a k ≡ is_spelled b k
spelled_free a b (kind.TplElement raw cooked tail) h = cc
spelled_free a b _ h = refl

leaf_here : (n : Node) (s : Shape) (w v : Where) → class_of (kind_of n) ≡ Usual → HasShape s n → Stands n s w v → unfit_here w n ≡ None → not (is_spelled (is_tagged v.role) (plain_kind (kind_of n))) ≡ false
leaf_here n s w v u h r none = ap not (spelled_plain (is_tagged v.role) (kind_of n) ∙ by r.how) ∙ (unfit_none w n none).1
  where
    by : How n w v → is_spelled (is_tagged v.role) (kind_of n) ≡ is_spelled (is_tagged w.role) (kind_of n)
    by (inl same) = ap (λ z. is_spelled (is_tagged z) (kind_of n)) (sym same)
    by (inr (b, free, t)) = spelled_free (is_tagged v.role) (is_tagged w.role) (kind_of n) b

pub leaves_kept : (tree : Node) → Fits tree → NoneFails (λ w n. not (is_spelled (is_tagged w.role) (kind_of n))) (stripped tree)
leaves_kept = place_kept (λ w k n. not (is_spelled (is_tagged w.role) k)) (λ w n. refl) (λ w n. refl) (λ w n. refl) leaf_here

-- ---- `arguments` in patterns

abbrev targets : Where → Kind → Node → Bool
targets w k n = w.arguments.stray && (is_assigned w.role && (is_bound_name k && child_is (is_named (codes "arguments")) n 0))

bound_plain : Plain Bool is_bound_name
unfolding plain_kind
bound_plain kind.Absent = refl
bound_plain _ = refl

arguments_plain : Plain Bool (is_named (codes "arguments"))
unfolding plain_kind
arguments_plain (kind.Ident text ctxt optional) = refl
arguments_plain _ = refl

bound_shape : (k : Kind) → is_bound_name k ≡ true → (s : Shape) (m : ℕ) (o : Shape) → slice_get (child_shapes k s m) 0 ≡ Some o → AsUsual o
bound_shape kind.BindingIdent t s m o at = subst AsUsual (some_same at) (one_usual sort.Ident refl)
bound_shape _ t s m o at = cc

bound_untouched : (k : Kind) → is_bound_name k ≡ true → (cs : List Node) → slice_get (plain_children k cs) 0 ≡ slice_get cs 0
unfolding plain_children
bound_untouched kind.BindingIdent t cs = refl
bound_untouched _ t cs = cc

no_bound : (k : Kind) → belongs sort.Expr k ≡ true → is_bound_name k ≡ false
no_bound kind.BindingIdent b = cc
no_bound _ b = refl

none_named : (a c d : Bool) → (a && (c && (false && d))) ≡ false
none_named true true d = refl
none_named true false d = refl
none_named false c d = refl

target_here : (n : Node) (s : Shape) (w v : Where) → class_of (kind_of n) ≡ Usual → HasShape s n → Stands n s w v → unfit_here w n ≡ None → targets v (plain_kind (kind_of n)) (stripped n) ≡ false
target_here n s w v u h r none = ap (λ b. v.arguments.stray && (is_assigned v.role && (b && child_is (is_named (codes "arguments")) (stripped n) 0))) (bound_plain (kind_of n)) ∙ by (is_bound_name (kind_of n)) refl
  where
    was : targets w (kind_of n) n ≡ false
    was = (neither (is_stray_target w.role w.arguments n) (breaks_rule w n) (neither (is_out_of_role w.role n) (is_stray_target w.role w.arguments n || breaks_rule w n) (unfit_none w n none).0).1).0

    role_of : How n w v → is_bound_name (kind_of n) ≡ true → v.role ≡ w.role
    role_of (inl same) b = sym same
    role_of (inr (e, free, t)) b = let no : false ≡ true = sym (no_bound (kind_of n) e) ∙ b in absurd (cc)

    by : (b : Bool) → is_bound_name (kind_of n) ≡ b → (v.arguments.stray && (is_assigned v.role && (is_bound_name (kind_of n) && child_is (is_named (codes "arguments")) (stripped n) 0))) ≡ false
    by true b =
        let name = kind_kept n s h u 0 (bound_untouched (kind_of n) b) (is_named (codes "arguments")) arguments_plain (bound_shape (kind_of n) b s (length (children_of n))) in
        let same = role_of r.how b in
        (λ j. (sym r.arguments j).stray && (is_assigned (same j) && (is_bound_name (kind_of n) && name j))) ∙ was
    by false b = ap (λ z. v.arguments.stray && (is_assigned v.role && (z && child_is (is_named (codes "arguments")) (stripped n) 0))) b ∙ none_named v.arguments.stray (is_assigned v.role) (child_is (is_named (codes "arguments")) (stripped n) 0)

pub targets_kept : (tree : Node) → Fits tree → NoneFails (λ w n. is_stray_target w.role w.arguments n) (stripped tree)
targets_kept = place_kept targets (λ w n. none_named w.arguments.stray (is_assigned w.role) (child_is (is_named (codes "arguments")) n 0)) (λ w n. none_named w.arguments.stray (is_assigned w.role) (child_is (is_named (codes "arguments")) n 0)) (λ w n. none_named w.arguments.stray (is_assigned w.role) (child_is (is_named (codes "arguments")) n 0)) target_here
