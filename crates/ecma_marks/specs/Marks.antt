-- `export {}` that is put in before types go.
use Rattle.std.specs.Prelude.{Bool, ◌||◌, not, cond, [], ◌∷◌, ◌++◌}
use Rattle.ecma_tree.specs.declared.node.Node.{Node}
use Rattle.ecma_lower.specs.Items.{in_items}
use Rattle.ecma_lower.specs.Marking.{empty_export, has_module_declaration}
use Rattle.ecma_strip.specs.Stripping.{stripped}

-- it comes where the source was a module by an import or an export, and the tree is none without its types
abbrev pub marked_before : Bool → Bool → Node → Node
marked_before no_empty_export was_module tree =
    cond (no_empty_export || not was_module || has_module_declaration (stripped tree)) tree (in_items (λ items. items ++ empty_export ∷ []) tree)
