-- With final texts no name is declared again where it may not be.
use Rattle.std.specs.Prelude.{◌≡◌, ℕ, false, []}
use Rattle.ecma_tree.specs.declared.node.Node.{Node}
use Rattle.ecma_tree.specs.Finding.{enters_all, finds}
use Rattle.ecma_scope.specs.Conflicts.{redeclared}
use Rattle.ecma_scope.specs.Laws.{without_contexts}
use Rattle.ecma_hygiene.specs.Hygienic.{IsHygienic}
use Rattle.std.specs.List.{All}
use Rattle.ecma_hygiene_scopes.specs.Apart.{IsScoped}
use Rattle.ecma_hygiene_scopes.specs.Stops.{stops}
use Rattle.ecma_hygiene_conflicts.specs.Merging.{MergesAsOne, is_merging}

-- where the ids of a tree say which scopes declare its names, and what merges is one variable, none is declared again with final texts where none was before, whichever scopes share contexts
abbrev pub FinalTextsAreNotRedeclared : Type 0
FinalTextsAreNotRedeclared =
    (free left : ℕ) (tree final : Node) → All (IsScoped free) (stops left tree) → All MergesAsOne (stops left tree) → IsHygienic tree final → redeclared tree ≡ []
    → redeclared (without_contexts final) ≡ []

-- nothing merges in a tree without enums and namespaces
abbrev pub PlainTreesMergeNothing : Type 0
PlainTreesMergeNothing = (left : ℕ) (tree : Node) → finds is_merging enters_all tree ≡ false → All MergesAsOne (stops left tree)
