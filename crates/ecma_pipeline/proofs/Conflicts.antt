-- From a tree that is ready to what is read of the written module: nowhere a name is declared again where it may not be.
use Rattle.std.proofs.Common.{◌≡◌, ℕ, suc, Bool, true, false, ◌||◌, List, [], ◌∷◌, map, Some, refl, sym, ◌∙◌, subst, slice_get}
use Rattle.std.specs.List.{All}
use Rattle.ecma_kind.specs.declared.kind.Kind.{Kind}
use Rattle.ecma_kind.specs.declared.kind.Kind.TheVariants as kind
use Rattle.ecma_kind.specs.declared.shapes.Sort.TheVariants as sort
use Rattle.ecma_tree.specs.Finding.{enters_all, finds, finds_from, finds_here}
use Rattle.ecma_tree.specs.Sorted.{one}
use Rattle.ecma_tree.specs.declared.node.Node.{Node, fold_out-Node, out-Node}
use Rattle.ecma_print.specs.Explicit.{explicit}
use Rattle.ecma_scope.specs.Conflicts.{redeclared}
use Rattle.ecma_scope.specs.Laws.{without_contexts}
use Rattle.ecma_scope_congruence.specs.Laws.{ParenthesesDoNotMatterToConflicts, SpansDoNotMatterToConflicts}
use Rattle.ecma_scope_congruence.specs.Bodies.{HasBodies}
use Rattle.ecma_strip.specs.Stripping.{stripped}
use Rattle.ecma_strip_fits.proofs.SortsKept.{sorts_kept}
use Rattle.ecma_hygiene.specs.Hygienic.{IsHygienic}
use Rattle.ecma_hygiene.specs.Renamed.{at_root}
use Rattle.ecma_hygiene.specs.Texts.{text_in}
use Rattle.ecma_hygiene.proofs.Telling.{true-false}
use Rattle.ecma_hygiene_scopes.specs.Stops.{stops}
use Rattle.ecma_hygiene_conflicts.specs.Merging.{MergesAsOne, is_merging}
use Rattle.ecma_ready.specs.Ready.{IsReady}
use Rattle.ecma_pipeline_runs.proofs.ClearSeats.{modules-are-clear}
use Rattle.ecma_pipeline_runs.proofs.Full.{modules-are-full}
use Rattle.ecma_pipeline_runs.proofs.FullParts.{full_by, is_foreign, is_full}
use Rattle.ecma_pipeline_runs.proofs.Nodes.{by-children, test-below}
use Rattle.ecma_pipeline_runs.proofs.Plainness.{full-lowered}
use Rattle.ecma_pipeline_runs.proofs.Ready.{ready-says}
use Rattle.ecma_pipeline_runs.proofs.Renaming.{kept}
use Rattle.ecma_strip_conflicts.proofs.Walk.{stripped-not-redeclared}
use Rattle.ecma_hygiene_conflicts.proofs.Plain.{plain-merge-nothing}
use Rattle.ecma_hygiene_conflicts.proofs.Walk.{final-not-redeclared}
use Rattle.ecma_pipeline.specs.Laws.{WrittenModulesAreNotRedeclared}

-- ---- without its types neither an enum nor a namespace is left

native-merges-none : (k : Kind) → is_foreign k ≡ false → is_merging k ≡ false
native-merges-none (kind.TsEnumDecl declare is_const) low = absurd (true-false refl low)
native-merges-none (kind.TsModuleDecl declare global) low = absurd (true-false refl low)
native-merges-none (kind.TsNamespaceDecl declare global) low = absurd (true-false refl low)
native-merges-none _ low = refl

neither : (a b : Bool) → a ≡ false → b ≡ false → (a || b) ≡ false
neither a b h g = (λ j. h j || g j)

abbrev Merges : Node → Bool
Merges = finds is_merging enters_all

none-from : (k : Kind) (j : ℕ) (cs : List Node) → ((i : ℕ) (c : Node) → slice_get cs i ≡ Some c → Merges c ≡ false) → finds_from (enters_all k) j (map Merges cs) ≡ false
none-from k j [] each = refl
none-from k j (c ∷ cs) each = neither (Merges c) (finds_from (enters_all k) (suc j) (map Merges cs)) (each 0 c refl) (none-from k (suc j) cs (λ i d at. each (suc i) d at))

abbrev MergesNone : Node → Type 0
MergesNone n = is_full n ≡ true → Merges n ≡ false

full-merges-none : (n : Node) → MergesNone n
full-merges-none = by-children MergesNone (λ n below full.
    fold_out-Node Bool (finds_here is_merging enters_all) n
    ∙ neither (is_merging (out-Node n).kind) (finds_from (enters_all (out-Node n).kind) 0 (map Merges (out-Node n).children)) (native-merges-none (out-Node n).kind (full-lowered n full))
    (none-from (out-Node n).kind 0 (out-Node n).children (λ i c at. below i c at (test-below full_by n full i c at))))

-- ---- what is written

module _ (assignments : Bool) (free : ℕ) (r : Node) (is : IsReady assignments free r) where
  abbrev s : Node
  s = stripped r

  merging : All MergesAsOne (stops 0 s)
  merging = plain-merge-nothing 0 s (full-merges-none s (modules-are-full r is.fits is.types))

  stripped-none : redeclared s ≡ []
  stripped-none = stripped-not-redeclared true r is.fits.sorted is.distinct (modules-are-clear r is.fits is.types)

  full : (final : Node) → IsHygienic s final → HasBodies (without_contexts final)
  full final hygienic =
      subst (λ (z : Node). HasBodies (without_contexts z)) (sym hygienic.is)
      (kept (λ t c. 0) (text_in hygienic.names) (λ t. refl) s (one sort.Module) at_root (sorts_kept r is.fits) (modules-are-full r is.fits is.types) tt).1

-- with final texts no name is declared again where it may not be
abbrev pub FinalModulesAreNotRedeclared : Type 0
FinalModulesAreNotRedeclared =
    (assignments : Bool) (free : ℕ) (tree final : Node) → IsReady assignments free tree → IsHygienic (stripped tree) final → redeclared (without_contexts final) ≡ []

pub final-clear : FinalModulesAreNotRedeclared
final-clear assignments free tree final is hygienic =
    final-not-redeclared free 0 (stripped tree) final (ready-says assignments free tree is 0) (merging assignments free tree is) hygienic (stripped-none assignments free tree is)

pub written-not-redeclared : ParenthesesDoNotMatterToConflicts → SpansDoNotMatterToConflicts → WrittenModulesAreNotRedeclared
written-not-redeclared parentheses spans assignments free tree final written is hygienic reading =
    let bare : Node = without_contexts final in
    spans written (explicit bare) reading ∙ parentheses bare (full assignments free tree is final hygienic) ∙ final-clear assignments free tree final is hygienic
