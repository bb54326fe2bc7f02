-- Where no identifier is `this`, no parameter is.
use Rattle.std.proofs.Common.{◌≡◌, ◌∙◌, ℕ, suc, false, codes, List, [], ◌∷◌, map, Option, None, refl, sym, ap, ap₂, slice_get}
use Rattle.ecma_kind.specs.declared.kind.Kind.{Kind}
use Rattle.ecma_kind.specs.declared.kind.Kind.TheVariants as kind
use Rattle.ecma_tree.specs.declared.node.Node.{Node}
use Rattle.ecma_rules.specs.Children.{is_named, kind_of, of_kind}
use Rattle.ecma_rules.specs.Failing.{failing_here, least, least_from}
use Rattle.ecma_rules.specs.Members.{is_this_by, is_this_pattern}
use Rattle.ecma_fits.specs.declared.unfit.Where.{Where}
use Rattle.ecma_fits.specs.Fitting.{at_top, where_in, NoneFails}
use Rattle.ecma_hygiene_fits.specs.Unreserved.{NoThis}
use Rattle.ecma_hygiene_fits.proofs.Everywhere.{Each, children_of, everywhere}
use Rattle.ecma_hygiene_fits.proofs.Joining.{first, first-out}
use Rattle.ecma_hygiene_fits.proofs.Walk.{neither_least, not_failing}

abbrev names : Node → Where → Option ℕ
names = first Where where_in (λ w n. failing_here (is_named (codes "this") (kind_of n)) n)

abbrev parameters : Node → Where → Option ℕ
parameters = first Where where_in (λ w n. failing_here (is_this_pattern n) n)

abbrev Without : Node → Type 0
Without n = (w : Where) → names n w ≡ None → parameters n w ≡ None

all_without : (cs : List Node) → Each Without cs → (around : ℕ → Where) (i : ℕ) → least_from Where around i (map names cs) ≡ None → least_from Where around i (map parameters cs) ≡ None
all_without [] e around i h = refl
all_without (c ∷ cs) e around i h =
    let t = neither_least (names c (around i)) (least_from Where around (suc i) (map names cs)) h in
    ap₂ least (e.0 (around i) t.0) (all_without cs e.1 around (suc i) t.1)

node_without : (n : Node) → Each Without (children_of n) → Without n
node_without n below w h =
    first-out Where where_in (λ w n. failing_here (is_this_pattern n) n) n w
    ∙ ap₂ least (ap (λ b. failing_here b n) (by_kind (kind_of n) (child (children_of n) told.1))) (all_without (children_of n) below (where_in w n) 0 told.1)
  where
    told : (failing_here (is_named (codes "this") (kind_of n)) n ≡ None) × (least_from Where (where_in w n) 0 (map names (children_of n)) ≡ None)
    told =
        neither_least (failing_here (is_named (codes "this") (kind_of n)) n) (least_from Where (where_in w n) 0 (map names (children_of n)))
        (sym (first-out Where where_in (λ w n. failing_here (is_named (codes "this") (kind_of n)) n) n w) ∙ h)

    own : (c : Node) (v : Where) → names c v ≡ None → is_named (codes "this") (kind_of c) ≡ false
    own c v g =
        not_failing (is_named (codes "this") (kind_of c)) c
        (neither_least (failing_here (is_named (codes "this") (kind_of c)) c) (least_from Where (where_in v c) 0 (map names (children_of c)))
        (sym (first-out Where where_in (λ w n. failing_here (is_named (codes "this") (kind_of n)) n) c v) ∙ g)).0

    child : (cs : List Node) → least_from Where (where_in w n) 0 (map names cs) ≡ None → of_kind (is_named (codes "this")) (slice_get cs 0) ≡ false
    child [] g = refl
    child (c ∷ cs) g = own c (where_in w n 0) (neither_least (names c (where_in w n 0)) (least_from Where (where_in w n) 1 (map names cs)) g).0

    by_kind : (k : Kind) → of_kind (is_named (codes "this")) (slice_get (children_of n) 0) ≡ false → is_this_by k n ≡ false
    by_kind kind.BindingIdent g = g
    by_kind _ g = refl

pub names_without_this : (tree : Node) → NoneFails (λ w node. is_named (codes "this") (kind_of node)) tree → NoThis tree
names_without_this tree h = everywhere Without node_without tree at_top h
