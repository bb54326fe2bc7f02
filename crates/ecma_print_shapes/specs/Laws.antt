-- Laws of the shapes of what fits.
use Rattle.std.specs.Prelude.{◌≡◌, Bool, true, false, None}
use Rattle.ecma_kind.specs.declared.shapes.Sort.TheVariants as sort
use Rattle.ecma_tree.specs.declared.node.Node.{Node}
use Rattle.ecma_tree.specs.Sorted.{HasSort}
use Rattle.ecma_text_leaves.specs.Everywhere.{Everywhere}
use Rattle.ecma_rules.specs.Children.{kind_of}
use Rattle.ecma_covers.specs.Covering.{cover}
use Rattle.ecma_fits.specs.declared.role.Role.TheVariants as role
use Rattle.ecma_fits.specs.declared.unfit.Where.{Where}
use Rattle.ecma_fits.specs.Fitting.{Fits, first_unfit_in}
use Rattle.ecma_print_parentheses.specs.Lacking.{lacks_none}
use Rattle.ecma_shapes.specs.Modules.{IsModule}
use Rattle.ecma_shapes.specs.Shapes.{IsExpression, Level}
use Rattle.ecma_plain.specs.Forms.{IsTaken}
use Rattle.ecma_plain.specs.Functions.{functions}
use Rattle.ecma_plain.specs.Items.{HasUtf8Hashbang, has_plain_items}

-- an expression that fits where nothing is declared or assigned to, lacks no parentheses and is plain: the raw tree of it has the shape of an expression
abbrev pub ExpressionsHaveTheirShapes : Type 0
ExpressionsHaveTheirShapes = (n : Node) (w : Where) → w.role ≡ role.Free → HasSort sort.Expr n → first_unfit_in n w ≡ None → lacks_none n ≡ true → Everywhere IsTaken n → (functions n).has_unusual ≡ false → (level : Level) × IsExpression level (cover n)

-- a module that fits, lacks no parentheses, is plain and has import and export assignments only where they may stand: the raw tree of it has the shape of a
-- module
abbrev pub ModulesHaveTheirShapes : Type 0
ModulesHaveTheirShapes = (assignments : Bool) (tree : Node) → Fits tree → lacks_none tree ≡ true → Everywhere IsTaken tree → (functions tree).has_unusual ≡ false → has_plain_items assignments tree ≡ true → HasUtf8Hashbang (kind_of tree)
    → IsModule assignments (cover tree)
