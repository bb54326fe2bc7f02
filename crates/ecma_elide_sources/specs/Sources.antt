-- A module as it is read, without what the options drop of its imports and exports.
use Rattle.std.specs.Prelude.{ℕ, Bool, not, ◌||◌}
use Rattle.ecma_tree.specs.Finding.{enters_all, finds}
use Rattle.ecma_tree.specs.declared.node.Node.{Node}
use Rattle.ecma_config.specs.declared.config.Config.{Config}
use Rattle.ecma_elide.specs.Elision.{elided}
use Rattle.ecma_elide.specs.Laws.{may_go}
use Rattle.ecma_scope.specs.Laws.{without_contexts}
use Rattle.ecma_scope.specs.Resolved.{resolved}

-- what the options drop is asked of the module with its bindings, of which every import is one, whatever contexts they get
--   import { A, b } from "m"; export let c: A = b;   // becomes import { b } from "m"; export let c: A = b;
abbrev pub elided_source : Config → ℕ → ℕ → ℕ → Node → Node
elided_source config unresolved top left source = without_contexts (elided config (resolved unresolved top left source))

-- whether nothing is dropped, whatever the names of the module are
--   export let a = 1;   // stays
abbrev pub is_kept : Config → Node → Bool
is_kept config source = config.verbatim_module_syntax || not (finds may_go enters_all source)
