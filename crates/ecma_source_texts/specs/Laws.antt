-- The source texts that are written for literals without one matter to no other node of a tree, and not to what it does.
use Rattle.std.specs.Prelude.{◌≡◌, ℕ}
use Rattle.ecma_tree.specs.declared.node.Node.{Node}
use Rattle.ecma_print.specs.Explicit.{explicit}
use Rattle.ecma_scope.specs.Conflicts.{redeclared}
use Rattle.ecma_scope.specs.Laws.{without_contexts}
use Rattle.ecma_scope.specs.Resolved.{contexts, resolved}
use Rattle.ecma_config.specs.declared.config.Config.{Config}
use Rattle.ecma_runs.specs.declared.script.Script.{Script}
use Rattle.ecma_runs.specs.Observation.{observe}
use Rattle.ecma_round_trip_literals.specs.Sources.{with_sources}

-- the tree without contexts in which the parentheses of the layout are nodes, with source texts
abbrev pub SourcesDoNotMatterToParentheses : Type 0
SourcesDoNotMatterToParentheses = (tree : Node) → explicit (without_contexts (with_sources tree)) ≡ with_sources (explicit (without_contexts tree))

-- with source texts a tree takes as many contexts, and with them it is the tree with its contexts, with source texts
pub record IsResolvedWithSources (tree : Node) : Type 0 where
  pub count : contexts (with_sources tree) ≡ contexts tree
  pub same : (unresolved top left : ℕ) → resolved unresolved top left (with_sources tree) ≡ with_sources (resolved unresolved top left tree)

abbrev pub SourcesDoNotMatterToContexts : Type 0
SourcesDoNotMatterToContexts = (tree : Node) → IsResolvedWithSources tree

abbrev pub SourcesDoNotMatterToConflicts : Type 0
SourcesDoNotMatterToConflicts = (tree : Node) → redeclared (with_sources tree) ≡ redeclared tree

abbrev pub SourcesDoNotMatterToRuns : Type 0
SourcesDoNotMatterToRuns = (turns : ℕ) (options : Config) (tree : Node) (script : Script) → observe turns options (with_sources tree) script ≡ observe turns options tree script
