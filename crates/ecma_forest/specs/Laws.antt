-- What a summary tells: what a search of the whole tree finds, and where there is nothing to find, to change or to rewrite. And roots that are taken apart again.
use Rattle.std.specs.Prelude.{◌≡◌, ℕ, Bool, false, List, [], ◌∷◌}
use Rattle.ecma_kind.specs.declared.span.Span.{Span}
use Rattle.ecma_kind.specs.declared.kind.Kind.{Kind}
use Rattle.ecma_tree.specs.Changing.{changed}
use Rattle.ecma_tree.specs.Finding.{enters_all, finds}
use Rattle.ecma_tree.specs.declared.node.Node.{Node}
use Rattle.ecma_forest.specs.Changes.{same_span}
use Rattle.ecma_forest.specs.Summaries.{AsksByParts, kind_summary, tree_summary}
use Rattle.ecma_forest.specs.Rewriting.{ChangesAskedAlone, rewritten}
use Rattle.ecma_forest.specs.Trees.{opened, wrapped}
use Rattle.ecma_forest.specs.declared.summary.Summary.{Summary}

-- a tree's summary says yes exactly where that of a kind in it does
abbrev pub SummariesAreFound : Type 0
SummariesAreFound = (asks : Summary → Bool) → AsksByParts asks → (tree : Node) → asks (tree_summary tree) ≡ finds (λ kind. asks (kind_summary kind)) enters_all tree

-- where it says yes of every kind that is looked for, none is found in a tree of which it says no, whichever children are entered
abbrev pub SearchesPassOver : Type 0
SearchesPassOver = (asks : Summary → Bool) → AsksByParts asks → (is_here : Kind → Bool) (enters : Kind → ℕ → Bool)
    → ((kind : Kind) → asks (kind_summary kind) ≡ false → is_here kind ≡ false)
    → (tree : Node) → asks (tree_summary tree) ≡ false → finds is_here enters tree ≡ false

-- where it says yes of every kind that changes, a tree of which it says no stays
abbrev pub ChangesPassOver : Type 0
ChangesPassOver = (asks : Summary → Bool) → AsksByParts asks → (kind_to : Kind → Kind)
    → ((kind : Kind) → asks (kind_summary kind) ≡ false → kind_to kind ≡ kind)
    → (tree : Node) → asks (tree_summary tree) ≡ false → changed same_span kind_to tree ≡ tree

-- and so where it says yes of every kind of which a node is rewritten
abbrev pub RewritingsPassOver : Type 0
RewritingsPassOver = (asks : Summary → Bool) → AsksByParts asks → (rule : Span → Kind → List Node → List Node) → ChangesAskedAlone asks rule
    → (tree : Node) → asks (tree_summary tree) ≡ false → rewritten rule tree ≡ tree ∷ []

-- roots that are wrapped, and opened then, are what they were
abbrev pub OpeningUndoesWrapping : Type 0
OpeningUndoesWrapping = (span : Span) (kind : Kind) (start : ℕ) (roots : List Node) → opened (wrapped span kind start roots) ≡ roots
