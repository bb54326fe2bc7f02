-- Parentheses that keep what is written from being read as something else do not matter to scopes.
use Rattle.std.specs.Prelude.{◌≡◌}
use Rattle.ecma_kind.specs.declared.shapes.Sort.TheVariants as sort
use Rattle.ecma_tree.specs.declared.node.Node.{Node}
use Rattle.ecma_tree.specs.Sorted.{HasSort}
use Rattle.ecma_scope.specs.Conflicts.{redeclared}
use Rattle.ecma_scope.specs.Resolved.{contexts}
use Rattle.ecma_enclose.specs.Enclosing.{enclosed}

-- the tree with them takes as many contexts
abbrev pub EnclosedTreesTakeAsManyContexts : Type 0
EnclosedTreesTakeAsManyContexts = (tree : Node) → HasSort sort.Module tree → contexts (enclosed tree) ≡ contexts tree

-- the same names are declared again where they may not be
abbrev pub EnclosedTreesDeclareAlike : Type 0
EnclosedTreesDeclareAlike = (tree : Node) → HasSort sort.Module tree → redeclared (enclosed tree) ≡ redeclared tree
