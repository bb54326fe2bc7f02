-- Names with types round them, bound where names are bound, do not matter to scopes.
use Rattle.std.specs.Prelude.{◌≡◌, ℕ}
use Rattle.ecma_kind.specs.declared.shapes.Sort.TheVariants as sort
use Rattle.ecma_tree.specs.declared.node.Node.{Node}
use Rattle.ecma_tree.specs.Sorted.{HasSort}
use Rattle.ecma_scope.specs.Conflicts.{redeclared}
use Rattle.ecma_scope.specs.Resolved.{contexts, resolved}
use Rattle.ecma_bind.specs.Binding.{with_bound_names}

-- the tree with bound names takes as many contexts, and with them it is the tree with its contexts whose names are bound
pub record IsResolvedAlike (tree : Node) : Type 0 where
  pub count : contexts (with_bound_names tree) ≡ contexts tree
  pub same : (unresolved top left : ℕ) → resolved unresolved top left (with_bound_names tree) ≡ with_bound_names (resolved unresolved top left tree)

abbrev pub BoundNamesResolveAlike : Type 0
BoundNamesResolveAlike = (tree : Node) → HasSort sort.Module tree → IsResolvedAlike tree

-- the same names are declared again where they may not be
abbrev pub BoundNamesDeclareAlike : Type 0
BoundNamesDeclareAlike = (tree : Node) → HasSort sort.Module tree → redeclared (with_bound_names tree) ≡ redeclared tree
