-- Resolving changes contexts, and nothing else; and a name is told where one is declared again.
use Rattle.std.specs.Prelude.{◌≡◌, ◌↔◌, ℕ, [], None}
use Rattle.ecma_kind.specs.declared.shapes.Sort.{Sort}
use Rattle.ecma_tree.specs.declared.node.Node.{Node}
use Rattle.ecma_tree.specs.Contexts.{with_contexts}
use Rattle.ecma_tree.specs.Sorted.{HasSort}
use Rattle.ecma_scope.specs.Conflicts.{redeclared}
use Rattle.ecma_scope.specs.Clashes.{first_redeclared}
use Rattle.ecma_scope.specs.Resolved.{resolved}

-- the tree with no contexts
abbrev pub without_contexts : Node → Node
without_contexts = with_contexts (λ sym ctxt. 0)

abbrev pub ResolvedChangesContexts : Type 0
ResolvedChangesContexts = (unresolved top left : ℕ) (tree : Node) → without_contexts (resolved unresolved top left tree) ≡ without_contexts tree

-- so the tree is of the same sorts
abbrev pub ResolvedKeepsSorts : Type 0
ResolvedKeepsSorts = (unresolved top left : ℕ) (tree : Node) (sort : Sort) → HasSort sort (resolved unresolved top left tree) ↔ HasSort sort tree

-- no name is told exactly where none is declared again where it may not be
abbrev pub ToldWhereRedeclared : Type 0
ToldWhereRedeclared = (tree : Node) → (first_redeclared tree ≡ None) ↔ (redeclared tree ≡ [])
