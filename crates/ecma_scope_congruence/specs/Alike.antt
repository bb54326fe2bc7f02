-- Trees that are resolved alike.
use Rattle.std.specs.Prelude.{◌≡◌, ℕ}
use Rattle.ecma_tree.specs.declared.node.Node.{Node}
use Rattle.ecma_print.specs.Explicit.{explicit}
use Rattle.ecma_scope.specs.Resolved.{contexts, resolved}
use Rattle.ecma_tree.specs.Spans.{without_spans}

-- the tree in which parentheses are nodes takes as many contexts, and with them it is the tree with its contexts in which parentheses are nodes
pub record IsResolvedAlike (tree : Node) : Type 0 where
  pub count : contexts (explicit tree) ≡ contexts tree
  pub same : (unresolved top left : ℕ) → resolved unresolved top left (explicit tree) ≡ explicit (resolved unresolved top left tree)

-- two trees take as many contexts, and with them they are equal up to spans
pub record AreResolvedAlike (a b : Node) : Type 0 where
  pub count : contexts a ≡ contexts b
  pub same : (unresolved top left : ℕ) → without_spans (resolved unresolved top left a) ≡ without_spans (resolved unresolved top left b)
