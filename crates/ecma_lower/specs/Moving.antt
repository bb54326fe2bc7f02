-- `export =` at the end of a module: its expression is evaluated behind all items (TypeScript handbook, "Modules - Reference").
use Rattle.std.specs.Prelude.{not, List, ◌++◌}
use Rattle.std.specs.List.{filter}
use Rattle.ecma_tree.specs.declared.node.Node.{Node}
use Rattle.ecma_lower.specs.Assignments.{is_export_assignment}
use Rattle.ecma_lower.specs.Items.{in_items}

-- all other items, then each `export =`
abbrev pub exports_last : List Node → List Node
exports_last items = filter (λ item. not (is_export_assignment item)) items ++ filter is_export_assignment items

--   export = a; const a = 1;   // const a = 1; export = a;
abbrev pub with_exports_last : Node → Node
with_exports_last = in_items exports_last
