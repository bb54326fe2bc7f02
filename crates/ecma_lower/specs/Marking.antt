-- `export {}` where nothing else says that a text is a module (ECMAScript, 16.2).
use Rattle.std.specs.Prelude.{Bool, ◌||◌, false, not, cond, [], ◌∷◌, ◌++◌}
use Rattle.std.specs.List.{list_any}
use Rattle.ecma_kind.specs.declared.kind.Kind.TheVariants as kind
use Rattle.ecma_tree.specs.Nodes.{absent, dummy_span, list_node, node_of}
use Rattle.ecma_tree.specs.declared.node.Node.{Node}
use Rattle.ecma_utils.specs.Statements.{is_declaration}
use Rattle.ecma_lower.specs.Items.{in_items, items_of}

-- an import or an export stands among the items, be it of types alone
abbrev pub has_module_declaration : Node → Bool
has_module_declaration tree = list_any is_declaration (items_of tree)

--   export {};
abbrev pub empty_export : Node
empty_export = node_of dummy_span (kind.NamedExport false) (list_node [] ∷ absent ∷ absent ∷ [])

-- it comes where the source was a module by an import or an export, and what is written is none
--   import type { A } from "m"; let x;   // let x; export {};
abbrev pub marked : Bool → Bool → Node → Node
marked no_empty_export was_module tree =
    cond (no_empty_export || not was_module || has_module_declaration tree) tree (in_items (λ items. items ++ empty_export ∷ []) tree)
