-- Which assignments of a module are refused hangs on its items alone: on their forms, and on where they begin.
use Rattle.std.specs.Prelude.{◌≡◌}
use Rattle.ecma_kind.specs.declared.shapes.Sort.TheVariants as sort
use Rattle.ecma_tree.specs.Sorted.{HasSort}
use Rattle.ecma_tree.specs.declared.node.Node.{Node}
use Rattle.ecma_bind.specs.Binding.{with_bound_names}
use Rattle.ecma_config.specs.declared.config.TsImportExportAssignConfig.{TsImportExportAssignConfig}
use Rattle.ecma_enclose.specs.Enclosing.{enclosed}
use Rattle.ecma_lower.specs.Checking.{first_refusal}
use Rattle.ecma_scope.specs.Laws.{without_contexts}

-- so it is the same with names bound
abbrev pub BoundTreesAreRefusedAlike : Type 0
BoundTreesAreRefusedAlike = (assign : TsImportExportAssignConfig) (tree : Node) → HasSort sort.Module tree → first_refusal assign (with_bound_names tree) ≡ first_refusal assign tree

-- with parentheses
abbrev pub EnclosedTreesAreRefusedAlike : Type 0
EnclosedTreesAreRefusedAlike = (assign : TsImportExportAssignConfig) (tree : Node) → HasSort sort.Module tree → first_refusal assign (enclosed tree) ≡ first_refusal assign tree

-- and without contexts
abbrev pub ContextsDoNotMatterToRefusals : Type 0
ContextsDoNotMatterToRefusals = (assign : TsImportExportAssignConfig) (tree : Node) → first_refusal assign (without_contexts tree) ≡ first_refusal assign tree
