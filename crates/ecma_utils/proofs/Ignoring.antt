-- Trees that are compared, and fed to a hasher, without their spans.
use Rattle.std.proofs.Common.{◌≡◌, ℕ, zero, suc, Bool, List, [], ◌∷◌, map, get_or, Some, None, refl, ap, slice_get}
use Rattle.std.specs.Prelude.{◌↔◌, IsTrue}
use Rattle.std.specs.Cmp.{both_ways}
use Rattle.std.proofs.lemmas.List.Sums.{fold-append}
use Rattle.ecma_tree.specs.Spans.{without_spans}
use Rattle.ecma_tree.specs.declared.node.Node.{Node, fold_out-Node, out-Node}
use Rattle.ecma_utils.specs.IgnoringSpans.{SameIsEqualButForSpans, SpansChangeNeither, fed_by, fed_step, fed_tree, same_tree}
use Rattle.ecma_utils.specs.IgnoringLaws.{fed-alike, same-exact, same-met, same_equivalence}

pub same_is_equal : SameIsEqualButForSpans
same_is_equal a b = (same-exact a b, same-met a b)

-- a truth that holds exactly then is that of `same_tree`
pub is_same : (truth : Bool) (a b : Node) → (IsTrue truth ↔ (without_spans a ≡ without_spans b)) → truth ≡ same_tree a b
is_same truth a b exact = both_ways truth (same_tree a b) (λ t. same-met a b (exact.0 t)) (λ t. exact.1 (same-exact a b t))

pub spans_change_neither : SpansChangeNeither
spans_change_neither a b equal = (fed-alike a b equal, λ other. same_equivalence.congr a b other (same-met a b equal))

-- ---- the code that feeds

pub fed-some : (xs : List Node) (i : ℕ) (x : Node) → slice_get xs i ≡ Some x → get_or (map fed_tree xs) i [] ≡ fed_tree x
fed-some [] i x at = cc
fed-some (y ∷ ys) zero x at = let same : y ≡ x = cc in ap fed_tree same
fed-some (y ∷ ys) (suc i) x at = fed-some ys i x at

pub fed-none : (xs : List Node) (i : ℕ) → slice_get xs i ≡ None → get_or (map fed_tree xs) i [] ≡ []
fed-none [] i at = refl
fed-none (y ∷ ys) zero at = cc
fed-none (y ∷ ys) (suc i) at = fed-none ys i at

pub fed_tree-out : (n : Node) → fed_tree n ≡ fed_by (out-Node n).kind (map fed_tree (out-Node n).children)
fed_tree-out = fold_out-Node (List (List ℕ)) fed_step

pub ruleset feeding = (fed-some, fed-none, fed_tree-out, fold-append)
