-- Lowering and stripping: which of the two is done first.
use Rattle.std.specs.Prelude.{◌≡◌, ℕ, true, false, ◌&&◌}
use Rattle.ecma_config.specs.declared.config.TsImportExportAssignConfig.{TsImportExportAssignConfig}
use Rattle.ecma_kind.specs.declared.shapes.Sort.TheVariants as sort
use Rattle.ecma_tree.specs.Sorted.{HasSort}
use Rattle.ecma_tree.specs.declared.node.Node.{Node}
use Rattle.ecma_utils.specs.Directives.{front_length, stands_in_front}
use Rattle.ecma_utils.specs.Statements.{is_statement}
use Rattle.ecma_lower.specs.Items.{items_of}
use Rattle.ecma_lower.specs.Moving.{with_exports_last}
use Rattle.ecma_lower.specs.Names.{makes_require}
use Rattle.ecma_strip.specs.Stripping.{stripped}
use Rattle.ecma_lower_strip.specs.Converting.{lowered}

-- how many directives stand in front in a module whose `export =` have gone to the end
abbrev pub in_front : Node → ℕ
in_front tree = front_length (λ item. is_statement item && stands_in_front false item) (items_of (with_exports_last tree))

-- a module that makes its `require` has as many directives in front without types as with them: what is made stands behind them
--   "a" as any; import b = require("m");   // with types none, without types one
--   ; "a"; import b = require("m");   // as well, since the empty statement goes
abbrev pub KeepsFront : TsImportExportAssignConfig → Node → Type 0
KeepsFront assign tree = makes_require assign tree ≡ true → in_front (stripped tree) ≡ in_front tree

-- writing the assignments of what is stripped is stripping what has its assignments written: spans, order and data of nodes too. So laws of stripping need not
-- speak of assignments. Asked is a module by its sorts (in `import this = ..` or `export = f<T>`, say, what stands there is what may), and that directives stay in front
--   export = a as T; import b = require("m"); let c: U;   // const b = require("m"); let c; module.exports = a;
abbrev pub AssignmentsBeforeOrAfter : Type 0
AssignmentsBeforeOrAfter = (assign : TsImportExportAssignConfig) (unresolved left : ℕ) (tree : Node) → HasSort sort.Module tree →
    KeepsFront assign tree →
    lowered assign unresolved left (stripped tree) ≡ stripped (lowered assign unresolved left tree)
