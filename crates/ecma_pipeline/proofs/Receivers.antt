-- No parameter is `this` in a tree in which no node is lowered, none lacks its body, and no name is `this`.
use Rattle.std.proofs.Common.{◌≡◌, ℕ, false, true, codes, List, [], ◌∷◌, Some, None, refl, slice_get}
use Rattle.ecma_kind.specs.declared.kind.Kind.{Kind}
use Rattle.ecma_kind.specs.declared.kind.Kind.TheVariants as kind
use Rattle.ecma_tree.specs.declared.node.Node.{Node}
use Rattle.ecma_rules.specs.Children.{child_is, is_named, kind_of, of_kind}
use Rattle.ecma_rules.specs.Failing.{failing_here, first_failing}
use Rattle.ecma_rules.specs.Members.{is_this_by, is_this_pattern}
use Rattle.ecma_fits.specs.declared.unfit.Where.{Where}
use Rattle.ecma_fits.specs.Fitting.{at_top, where_in}
use Rattle.ecma_strip_fits.proofs.Strays.{none_failing}
use Rattle.ecma_bind_fits.proofs.Bound.{by_children, children_of, whole_none}
use Rattle.ecma_hygiene_fits.specs.Unreserved.{NoThis}
use Rattle.ecma_pipeline_runs.proofs.FullParts.{full_by, is_foreign, is_full}
use Rattle.ecma_pipeline_runs.proofs.Nodes.{test-below}
use Rattle.ecma_pipeline_plain.proofs.Taken.{full_native}

native_other : (k : Kind) → is_foreign k ≡ false → is_named (codes "this") k ≡ false
native_other (kind.Ident sym ctxt optional) h = h
native_other _ h = refl

first_other : (cs : List Node) → ((i : ℕ) (c : Node) → slice_get cs i ≡ Some c → is_full c ≡ true) → of_kind (is_named (codes "this")) (slice_get cs 0) ≡ false
first_other [] full = refl
first_other (c ∷ cs) full = native_other (kind_of c) (full_native c (full 0 c refl))

other_by : (k : Kind) (n : Node) → child_is (is_named (codes "this")) n 0 ≡ false → is_this_by k n ≡ false
other_by kind.BindingIdent n h = h
other_by _ n h = refl

abbrev NoneThis : Node → Type 0
NoneThis n = is_full n ≡ true → (w : Where) → first_failing Where (λ w node. failing_here (is_this_pattern node) node) where_in n w ≡ None

none_this : (n : Node) → NoneThis n
none_this = by_children NoneThis (λ n below full w.
    (let each = test-below full_by n full in
    whole_none Where (λ w node. failing_here (is_this_pattern node) node) where_in n w
    (none_failing (is_this_pattern n) n (other_by (kind_of n) n (first_other (children_of n) each)))
    (λ i c at. below i c at (each i c at) (where_in w n i))))

pub full_without_this : (tree : Node) → is_full tree ≡ true → NoThis tree
full_without_this tree full = none_this tree full at_top
