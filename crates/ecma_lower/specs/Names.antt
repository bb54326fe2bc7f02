-- The names by which assignments are written, as the option has it.
use Rattle.std.specs.Prelude.{ℕ, ◌-◌, Bool, false, cond, codes, Option, Some, None}
use Rattle.std.specs.List.{list_any}
use Rattle.std.specs.Option.{option_map}
use Rattle.ecma_config.specs.declared.config.TsImportExportAssignConfig.{TsImportExportAssignConfig}
use Rattle.ecma_config.specs.declared.config.TsImportExportAssignConfig.TheVariants as way
use Rattle.ecma_tree.specs.Nodes.{dummy_span}
use Rattle.ecma_tree.specs.declared.node.Node.{Node}
use Rattle.ecma_utils.specs.Quotes.{quoted_ident}
use Rattle.ecma_lower.specs.declared.head.Head.{Head}
use Rattle.ecma_lower.specs.declared.names.Names.{Names}
use Rattle.ecma_lower.specs.Assignments.{is_required_import}
use Rattle.ecma_lower.specs.Items.{items_of}

-- the two names that a session gives which has so many contexts left
abbrev pub head_by : ℕ → Head
head_by left = record {
  create = quoted_ident left dummy_span (codes "_createRequire");
  required = quoted_ident (left - 1) dummy_span (codes "__require");
}

-- whether a `require` is made: under `NodeNext`, for a module that requires another
abbrev pub makes_require : TsImportExportAssignConfig → Node → Bool
makes_require way.NodeNext tree = list_any is_required_import (items_of tree)
makes_require _ tree = false

abbrev pub head_of : TsImportExportAssignConfig → ℕ → Node → Option Head
head_of assign left tree = cond (makes_require assign tree) (Some (head_by left)) None

-- how many contexts are drawn
abbrev pub drawn_for : TsImportExportAssignConfig → Node → ℕ
drawn_for assign tree = cond (makes_require assign tree) 2 0

-- under `Classic` `require`, `exports` and `module` are free names of this context; else a `require` that is made, if one is
abbrev pub names_of : TsImportExportAssignConfig → ℕ → Option Head → Names
names_of way.Classic unresolved head = record { required = Some (quoted_ident unresolved dummy_span (codes "require")); free = Some unresolved }
names_of _ unresolved head = record { required = option_map (λ h. h.required) head; free = None }
