-- Of a module with its enums written nothing has to be lowered, where nothing had to be beside enums.
use Rattle.std.proofs.Common.{◌≡◌, None, refl}
use Rattle.ecma_kind.specs.declared.shapes.Sort.TheVariants as sort
use Rattle.ecma_tree.specs.Sorted.{one}
use Rattle.ecma_rewriting.specs.Rewriting.{becomes}
use Rattle.ecma_fits.specs.Fitting.{at_top}
use Rattle.ecma_lower_enums.specs.declared.place.Place.TheVariants as place
use Rattle.ecma_lower_enums.specs.Known.{nowhere}
use Rattle.ecma_lower_enums.specs.Lowered.{known_enums}
use Rattle.ecma_lower_enums.specs.Seats.{whole}
use Rattle.ecma_lower_enums.specs.Writing.{writing}
use Rattle.ecma_lower_enums_forms.specs.Laws.{WrittenEnumsNeedNoLowering}
use Rattle.ecma_lower_enums_forms.proofs.Written.{all-written-low, only-low}

pub written_enums_need_no_lowering : WrittenEnumsNeedNoLowering
written_enums_need_no_lowering may_change keeps_constants members tree fits but =
    only-low (becomes (writing (known_enums may_change keeps_constants members tree)) whole tree)
    (all-written-low may_change keeps_constants members tree tree place.Other nowhere (one sort.Module) at_top fits.sorted refl refl refl fits.rules but)
