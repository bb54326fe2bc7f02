-- Neither where nodes stand nor parentheses as nodes matter to the contexts of identifiers, nor to which names are declared twice.
use Rattle.std.specs.Prelude.{◌≡◌}
use Rattle.ecma_tree.specs.declared.node.Node.{Node}
use Rattle.ecma_tree.specs.Spans.{without_spans}
use Rattle.ecma_print.specs.Explicit.{explicit}
use Rattle.ecma_scope.specs.Conflicts.{redeclared}
use Rattle.ecma_scope_congruence.specs.Bodies.{HasBodies}
use Rattle.ecma_scope_congruence.specs.Alike.{IsResolvedAlike, AreResolvedAlike}

abbrev pub SpansDoNotMatterToContexts : Type 0
SpansDoNotMatterToContexts = (a b : Node) → without_spans a ≡ without_spans b → AreResolvedAlike a b

abbrev pub ParenthesesDoNotMatterToContexts : Type 0
ParenthesesDoNotMatterToContexts = (tree : Node) → HasBodies tree → IsResolvedAlike tree

abbrev pub SpansDoNotMatterToConflicts : Type 0
SpansDoNotMatterToConflicts = (a b : Node) → without_spans a ≡ without_spans b → redeclared a ≡ redeclared b

abbrev pub ParenthesesDoNotMatterToConflicts : Type 0
ParenthesesDoNotMatterToConflicts = (tree : Node) → HasBodies tree → redeclared (explicit tree) ≡ redeclared tree
