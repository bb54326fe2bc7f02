-- A module that fits, and in which all that is TypeScript is types, is plain without them.
use Rattle.std.proofs.Common.{refl}
use Rattle.ecma_kind.specs.declared.shapes.Sort.TheVariants as sort
use Rattle.ecma_tree.specs.Sorted.{one}
use Rattle.ecma_strip.specs.Stripping.{stripped}
use Rattle.ecma_strip.proofs.Leaving.{no_types_are_left}
use Rattle.ecma_strip_fits.proofs.SortsKept.{fits_under_types, sorts_kept}
use Rattle.ecma_pipeline_runs.specs.Laws.{StrippedModulesArePlain}
use Rattle.ecma_pipeline_runs.proofs.Full.{modules-are-full}
use Rattle.ecma_pipeline_runs.proofs.Plainness.{plainly}

pub modules-are-plain : StrippedModulesArePlain
modules-are-plain tree fits alone =
    plainly (stripped tree) (one sort.Module) (sorts_kept tree fits) (modules-are-full tree fits alone) (no_types_are_left tree sort.Module refl (fits_under_types tree fits))
