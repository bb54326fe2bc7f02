-- How a module with its contexts, without what the options drop, is tied to the module without it, with its contexts.
use Rattle.std.specs.Prelude.{◌≡◌, ◌<◌, ◌≢◌, ℕ, false}
use Rattle.ecma_tree.specs.declared.node.Node.{Node}
use Rattle.ecma_config.specs.declared.config.Config.{Config}
use Rattle.ecma_elide.specs.Elision.{elided}
use Rattle.ecma_elide_sources.specs.Sources.{elided_source}
use Rattle.ecma_fits.specs.Fitting.{Fits}
use Rattle.ecma_scope.specs.Laws.{without_contexts}
use Rattle.ecma_scope.specs.Resolved.{resolved}
use Rattle.ecma_elide_scopes.specs.Freeing.{freed, has_inner_alias}

-- what is left of a module with its contexts has those that the module without what goes gets, once what only dropped imports declared is free
--   import { A, b } from "m"; let c: A = b;   // b and c have the contexts that they have in import { b } from "m"; let c: A = b;
abbrev pub ElidedScopesAreFreed : Type 0
ElidedScopesAreFreed =
    (config : Config) (unresolved top left : ℕ) (source : Node) → Fits source → without_contexts source ≡ source → has_inner_alias source ≡ false → left < top → unresolved ≢ top
    → freed unresolved top (elided config (resolved unresolved top left source)) ≡ resolved unresolved top left (elided_source config unresolved top left source)
