-- Places where a tree does not fit.
use Rattle.std.specs.Prelude.{ℕ, ◌⊎◌}
use Rattle.ecma_tree.specs.declared.node.Node.{Node}
use Rattle.ecma_rules.specs.Breaking.{Tells}
use Rattle.ecma_rules.specs.Jumps.{Held, held_in, not_held, stray_here}
use Rattle.ecma_fits.specs.declared.unfit.Where.{Where}
use Rattle.ecma_fits.specs.Fitting.{at_top, unfit_here, where_in}

-- a node that begins there fails a clause where it stands, or belongs to nothing
abbrev pub Unfit : Node → ℕ → Type 0
Unfit tree at = Tells Where unfit_here where_in at_top tree at ⊎ Tells Held stray_here held_in not_held tree at
