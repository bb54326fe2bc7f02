-- A program of TypeScript as one of ECMAScript.
use Rattle.std.specs.Prelude.{ℕ, Bool, false}
use Rattle.ecma_config.specs.declared.config.Config.{Config}
use Rattle.ecma_config.specs.declared.config.ImportsNotUsedAsValues.TheVariants.{Remove}
use Rattle.ecma_config.specs.declared.config.TsImportExportAssignConfig.{TsImportExportAssignConfig}
use Rattle.ecma_config.specs.declared.config.TsImportExportAssignConfig.TheVariants.{Classic}
use Rattle.ecma_tree.specs.declared.node.Node.{Node}
use Rattle.ecma_elide.specs.Elision.{elided}
use Rattle.ecma_lower.specs.Lowered.{transformed}
use Rattle.ecma_lower.specs.Marking.{has_module_declaration, marked}
use Rattle.ecma_lower.specs.Names.{drawn_for, head_of}
use Rattle.ecma_strip.specs.Stripping.{stripped}

-- each option off, and the first of several values
abbrev pub default_config : Config
default_config = record {
  verbatim_module_syntax = false;
  import_not_used_as_values = Remove;
  no_empty_export = false;
  import_export_assign_config = Classic;
  ts_enum_is_mutable = false;
}

-- with its assignments written, in a session that has so many contexts left
abbrev pub lowered : TsImportExportAssignConfig → ℕ → ℕ → Node → Node
lowered assign unresolved left program = transformed assign unresolved (head_of assign left program) program

-- a program without what elision drops: its types go, its assignments are written, and `export {}` comes where it was made of a program that had an import
-- or an export, and has none
abbrev pub written : Config → ℕ → ℕ → Bool → Node → Node
written config unresolved left was_module program =
    marked config.no_empty_export was_module (lowered config.import_export_assign_config unresolved left (stripped program))

-- a resolved program as one of ECMAScript
--   import { A } from "m"; import fs = require("fs"); let x: A = fs.f();   // const fs = require("fs"); let x = fs.f(); export {};
abbrev pub converted : Config → ℕ → ℕ → Node → Node
converted config unresolved left program =
    written config unresolved left (has_module_declaration program) (elided config program)

-- how many contexts are drawn for a program without what elision drops, and for any
abbrev pub drawn : Config → Node → ℕ
drawn config program = drawn_for config.import_export_assign_config (stripped program)

abbrev pub drawn_in : Config → Node → ℕ
drawn_in config program = drawn config (elided config program)
