-- A module that is lowered.
use Rattle.std.specs.Prelude.{ℕ, Option, Some, None}
use Rattle.ecma_config.specs.declared.config.TsImportExportAssignConfig.{TsImportExportAssignConfig}
use Rattle.ecma_tree.specs.declared.node.Node.{Node}
use Rattle.ecma_lower.specs.declared.head.Head.{Head}
use Rattle.ecma_lower.specs.Heads.{with_head}
use Rattle.ecma_lower.specs.Moving.{with_exports_last}
use Rattle.ecma_lower.specs.Names.{names_of}
use Rattle.ecma_lower.specs.Writing.{with_assignments}

-- the module behind its head, if it has one
abbrev pub headed : Option Head → Node → Node
headed (Some head) tree = with_head head tree
headed None tree = tree

-- each `export =` goes to the end, each assignment is written, and the head comes before all else
--   import fs = require("fs"); export = fs; fs.f();   // const fs = require("fs"); fs.f(); module.exports = fs;
abbrev pub transformed : TsImportExportAssignConfig → ℕ → Option Head → Node → Node
transformed assign unresolved head tree = headed head (with_assignments (names_of assign unresolved head) (with_exports_last tree))

-- without a head: where no `require` is made
abbrev pub with_assignments_lowered : TsImportExportAssignConfig → ℕ → Node → Node
with_assignments_lowered assign unresolved tree = transformed assign unresolved None tree
