-- Modules as they are read: the source of what is written, and what is read of that.
use Rattle.std.specs.Prelude.{◌≡◌, true, []}
use Rattle.ecma_tree.specs.Spans.{without_spans}
use Rattle.ecma_tree.specs.declared.node.Node.{Node}
use Rattle.ecma_fits.specs.Fitting.{Fits}
use Rattle.ecma_print.specs.Explicit.{explicit}
use Rattle.ecma_scope.specs.Conflicts.{redeclared}
use Rattle.ecma_scope.specs.Laws.{without_contexts}
use Rattle.ecma_sources.specs.TypesAlone.{adds_types_alone}

-- a module as it is read: it fits, its identifiers have no contexts, no name is declared again where it may not be, and all that is TypeScript is types
pub record IsSource (source : Node) : Type 0 where
  pub fits : Fits source
  pub bare : without_contexts source ≡ source
  pub distinct : redeclared source ≡ []
  pub types : adds_types_alone source ≡ true

-- what is read from the layout of a tree: the parentheses of the layout are nodes, no identifier has a context, and nodes stand where they stand in that text
abbrev pub IsReading : Node → Node → Type 0
IsReading tree written = without_spans written ≡ without_spans (explicit (without_contexts tree))
