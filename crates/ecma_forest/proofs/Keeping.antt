-- A tree of whose summary the question says no stays, under a rule under which each node of whose kind it says no stays.
use Rattle.std.proofs.Common.{◌≡◌, refl, sym, ap, ◌∙◌, ℕ, zero, suc, Bool, true, false, ◌||◌, List, [], ◌∷◌, map, Some, slice_get}
use Rattle.ecma_kind.specs.declared.span.Span.{Span}
use Rattle.ecma_kind.specs.declared.kind.Kind.{Kind}
use Rattle.ecma_tree.specs.declared.node.Node.{Node, out-Node, fold_out-Node}
use Rattle.ecma_tree.specs.declared.node.Node.TheViews.{roll-out-Node}
use Rattle.ecma_forest.specs.Summaries.{AsksByParts, joined_summaries, join_summaries, kind_summary, tree_summary}
use Rattle.ecma_forest.specs.Rewriting.{ChangesAskedAlone, flat, rewritten, rewritten_here}
use Rattle.ecma_forest.specs.declared.summary.Summary.{Summary}
use Rattle.ecma_forest.proofs.Growing.{tree_summary-node_of}
use Rattle.ecma_forest.proofs.Induction.{by_children}

or-false : (a b : Bool) → (a || b) ≡ false → (a ≡ false) × (b ≡ false)
or-false true b h = absurd (no h)
  where
    no : true ≡ false → ⊥
    no e = cc
or-false false b h = (refl, h)

pub tree_summary-parts : (n : Node) → tree_summary n ≡ join_summaries (kind_summary (out-Node n).kind) (joined_summaries (map tree_summary (out-Node n).children))
tree_summary-parts n = ap tree_summary (sym (roll-out-Node n)) ∙ tree_summary-node_of (out-Node n).span (out-Node n).kind (out-Node n).children

module _ (asks : Summary → Bool) (law : AsksByParts asks) where
  pub parts-none : (n : Node) → asks (tree_summary n) ≡ false → (asks (kind_summary (out-Node n).kind) ≡ false) × (asks (joined_summaries (map tree_summary (out-Node n).children)) ≡ false)
  parts-none n none =
      or-false (asks (kind_summary (out-Node n).kind)) (asks (joined_summaries (map tree_summary (out-Node n).children)))
      (sym (law.joined (kind_summary (out-Node n).kind) (joined_summaries (map tree_summary (out-Node n).children))) ∙ ap asks (sym (tree_summary-parts n)) ∙ none)

  pub each-none : (ns : List Node) → asks (joined_summaries (map tree_summary ns)) ≡ false → (i : ℕ) (c : Node) → slice_get ns i ≡ Some c → asks (tree_summary c) ≡ false
  each-none [] h i c at = cc
  each-none (n ∷ ns) h zero c at =
      let same : n ≡ c = cc in
      ap (λ m. asks (tree_summary m)) (sym same)
      ∙ (or-false (asks (tree_summary n)) (asks (joined_summaries (map tree_summary ns))) (sym (law.joined (tree_summary n) (joined_summaries (map tree_summary ns))) ∙ h)).0
  each-none (n ∷ ns) h (suc i) c at =
      each-none ns (or-false (asks (tree_summary n)) (asks (joined_summaries (map tree_summary ns))) (sym (law.joined (tree_summary n) (joined_summaries (map tree_summary ns))) ∙ h)).1 i c at

module _ (asks : Summary → Bool) (law : AsksByParts asks) (rule : Span → Kind → List Node → List Node) (alone : ChangesAskedAlone asks rule) where
  flat-same : (ns : List Node) → ((i : ℕ) (c : Node) → slice_get ns i ≡ Some c → rewritten rule c ≡ c ∷ []) → flat (map (rewritten rule) ns) ≡ ns
  flat-same [] h = refl
  flat-same (n ∷ ns) h = rw (h 0 n refl, flat-same ns (λ i c at. h (suc i) c at)) refl

  -- a tree of which it says no stays as it is
  pub kept : (n : Node) → asks (tree_summary n) ≡ false → rewritten rule n ≡ n ∷ []
  kept = by_children (λ n. asks (tree_summary n) ≡ false → rewritten rule n ≡ n ∷ []) (λ n below none.
      (let parts = parts-none asks law n none in
      fold_out-Node (List Node) (rewritten_here rule) n
      ∙ ap (rule (out-Node n).span (out-Node n).kind) (flat-same (out-Node n).children (λ i c at. below i c at (each-none asks law (out-Node n).children parts.1 i c at)))
      ∙ alone (out-Node n).span (out-Node n).kind (out-Node n).children parts.0
      ∙ ap (λ m. m ∷ []) (roll-out-Node n)))
