-- Contexts do not matter to what fits.
use Rattle.std.specs.Prelude.{◌≡◌, ◌↔◌, ℕ, List}
use Rattle.ecma_tree.specs.declared.node.Node.{Node}
use Rattle.ecma_tree.specs.Contexts.{with_contexts}
use Rattle.ecma_scope.specs.Laws.{without_contexts}
use Rattle.ecma_scope.specs.Resolved.{resolved}
use Rattle.ecma_fits.specs.Fitting.{Fits}

-- whatever contexts its identifiers have
abbrev pub ContextsDoNotMatter : Type 0
ContextsDoNotMatter = (context_of : List ℕ → ℕ → ℕ) (tree : Node) → Fits (with_contexts context_of tree) ↔ Fits tree

abbrev pub EqualButForContextsFitAlike : Type 0
EqualButForContextsFitAlike = (tree other : Node) → without_contexts tree ≡ without_contexts other → Fits tree ↔ Fits other

-- also those that resolving gives them
abbrev pub ResolvedTreesFitAlike : Type 0
ResolvedTreesFitAlike = (unresolved top left : ℕ) (tree : Node) → Fits (resolved unresolved top left tree) ↔ Fits tree
