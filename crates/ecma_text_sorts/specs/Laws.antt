-- What is read as a module is sorted, as the tables of kinds have it.
use Rattle.std.specs.Prelude.{◌≡◌, ℕ, List, None, Ok}
use Rattle.ecma_kind.specs.declared.shapes.Sort.TheVariants as sort
use Rattle.ecma_tree.specs.declared.node.Node.{Node}
use Rattle.ecma_tree.specs.Sorted.{HasSort}
use Rattle.ecma_grammar.specs.declared.production.Mode.{Mode}
use Rattle.ecma_grammar_laws.specs.RawSorts.{HasRawSort}
use Rattle.ecma_rules.specs.Rules.{first_broken}
use Rattle.ecma_rules.specs.Finishing.{finished}
use Rattle.ecma_modules.specs.Modules.{reads_as}

-- of a raw tree that is sorted as the grammar alone can tell, and breaks no context rule
abbrev pub FinishedModulesAreSorted : Type 0
FinishedModulesAreSorted = (raw : Node) → HasRawSort sort.Module raw → first_broken raw ≡ None → HasSort sort.Module (finished raw)

abbrev pub ReadModulesAreSorted : Type 0
ReadModulesAreSorted = (text : List ℕ) (mode : Mode) (bound : ℕ) (tree : Node) → reads_as text mode bound ≡ Ok tree → HasSort sort.Module tree
