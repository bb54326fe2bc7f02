-- What becomes of the tree of a module on the way, where so many contexts are left: the first is that of free names, the next that of the module, and each scope gets
-- one of those after these.
use Rattle.std.specs.Prelude.{◌-◌, ℕ}
use Rattle.ecma_tree.specs.declared.node.Node.{Node}
use Rattle.ecma_config.specs.declared.config.Config.{Config}
use Rattle.ecma_elide_sources.specs.Sources.{elided_source}
use Rattle.ecma_hygiene.specs.Hygienic.{IsHygienic}
use Rattle.ecma_lower.specs.Marking.{has_module_declaration}
use Rattle.ecma_pipeline.specs.Ways.{lowered, plain_of}
use Rattle.ecma_scope.specs.Resolved.{resolved}

-- without what the options drop of its imports and exports
--   import { A, b } from "m"; let c: A = b;   // becomes import { b } from "m"; let c: A = b;
abbrev pub kept : Config → ℕ → Node → Node
kept config left tree = elided_source config left (left - 1) (left - 2) tree

-- that with its bindings
abbrev pub with_bindings : Config → ℕ → Node → Node
with_bindings config left tree = resolved left (left - 1) (left - 2) (kept config left tree)

-- what would be read as something else has parentheses, names with types round them are bound where names are bound, and assignments are lowered
abbrev pub ready_of : Config → ℕ → Node → Node
ready_of config left tree = lowered config.import_export_assign_config left (left - 1) (left - 2) (kept config left tree)

-- the tree that is written: that without its types, with `export {}` where nothing else says that it is a module, and with the texts that tell its bindings apart
abbrev pub IsFinal : Config → ℕ → Node → Node → Type 0
IsFinal config left source final =
    IsHygienic (plain_of config.import_export_assign_config config.no_empty_export (has_module_declaration source) left (left - 1) (left - 2) (kept config left source)) final
