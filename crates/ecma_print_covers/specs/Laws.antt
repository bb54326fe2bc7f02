-- Literals in the place of patterns that are assigned to do not matter to a layout.
use Rattle.std.specs.Prelude.{◌≡◌, true}
use Rattle.ecma_kind.specs.declared.shapes.Sort.TheVariants as sort
use Rattle.ecma_tree.specs.declared.node.Node.{Node}
use Rattle.ecma_tree.specs.Sorted.{HasSort}
use Rattle.ecma_rules.specs.declared.target.Target.TheVariants as target
use Rattle.ecma_print.specs.Layout.{layout}
use Rattle.ecma_print_parentheses.specs.Lacking.{lacks_none}
use Rattle.ecma_covers.specs.Covering.{cover}
use Rattle.ecma_covers.specs.Placing.{Stands}
use Rattle.ecma_print_covers.specs.Defaults.{has_usual_defaults}

-- of a sorted module that lacks no parentheses, in which patterns stand where they may
abbrev pub CoversKeepTheLayout : Type 0
CoversKeepTheLayout = (tree : Node) → HasSort sort.Module tree → Stands target.Free tree → has_usual_defaults tree ≡ true → lacks_none tree ≡ true → layout (cover tree) ≡ layout tree
