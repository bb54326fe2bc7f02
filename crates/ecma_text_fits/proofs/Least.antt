-- The least place is told, and by a node.
use Rattle.ecma_rules.specs.Breaking.{Tells}
use Rattle.ecma_rules.specs.Jumps.{Held, first_stray, held_in, not_held, stray_here}
use Rattle.ecma_rules.proofs.Leasts.{either-least, told}
use Rattle.ecma_fits.specs.declared.unfit.Where.{Where}
use Rattle.ecma_fits.specs.Fitting.{at_top, first_unfit_in, unfit_here, where_in}
use Rattle.ecma_text_fits.specs.Laws.{FirstUnfitIsLeast}

pub unfit_least : FirstUnfitIsLeast
unfit_least tree =
    either-least (Tells Where unfit_here where_in at_top tree) (Tells Held stray_here held_in not_held tree) (first_unfit_in tree at_top) (first_stray tree)
    (told Where unfit_here where_in tree at_top) (told Held stray_here held_in tree not_held)

pub ruleset least_unfit = (unfit_least)
