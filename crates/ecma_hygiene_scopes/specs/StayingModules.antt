-- Modules as they are read, in which no declaration goes.
use Rattle.std.specs.Prelude.{◌≡◌, []}
use Rattle.ecma_kind.specs.declared.shapes.Sort.TheVariants as sort
use Rattle.ecma_tree.specs.Sorted.{HasSort}
use Rattle.ecma_tree.specs.declared.node.Node.{Node}
use Rattle.ecma_scope.specs.Conflicts.{redeclared}
use Rattle.ecma_scope.specs.Laws.{without_contexts}
use Rattle.ecma_hygiene_scopes.specs.Seats.{NothingGoes}

-- a module as it is read, with the empty context for each identifier, in which no name is declared again where it may not be, and no declaration goes
pub record IsStayingModule (source : Node) : Type 0 where
  pub sorted : HasSort sort.Module source
  pub bare : without_contexts source ≡ source
  pub clear : redeclared source ≡ []
  pub kept : NothingGoes source
