-- What is read of the text that is written for a tree that is ready has the interface of the tree.
use Rattle.std.proofs.Common.{◌∙◌, sym, ap, subst}
use Rattle.ecma_kind.specs.declared.shapes.Sort.TheVariants as sort
use Rattle.ecma_tree.specs.Sorted.{HasSort}
use Rattle.ecma_fits.specs.Fitting.{Fits}
use Rattle.ecma_hygiene.specs.Renamed.{text_of}
use Rattle.ecma_hygiene.specs.Texts.{text_in}
use Rattle.ecma_hygiene_fits.proofs.Sorts.{sorts_kept}
use Rattle.ecma_hygiene_interface.proofs.Final.{final_texts_keep}
use Rattle.ecma_interface.specs.Reading.{interface_of, own_text}
use Rattle.ecma_pipeline_interface.specs.Laws.{WrittenTreesHaveTheirInterface}
use Rattle.ecma_pipeline_interface.proofs.Exported.{exports_kept}
use Rattle.ecma_pipeline_interface.proofs.Read.{literals_keep, read_keeps, sources_keep_sorts}
use Rattle.ecma_round_trip_literals.specs.Sources.{with_sources}
use Rattle.ecma_strip.specs.Stripping.{stripped}
use Rattle.ecma_strip_fits.proofs.FitsKept.{fits_kept}
use Rattle.ecma_strip_interface.proofs.Stripped.{stripping_keeps}

pub written_trees : WrittenTreesHaveTheirInterface
written_trees assignments free tree final written ready is kept reading =
    let left = stripped tree in
    let fits : Fits left = fits_kept tree ready.fits ready.targets in
    let texts = text_in is.names in
    let final_sorted : HasSort sort.Module final = subst (HasSort sort.Module) (sym is.is) (sorts_kept texts left fits.sorted) in
    read_keeps (with_sources final) written (sources_keep_sorts final final_sorted) reading
    ∙ literals_keep own_text final final_sorted
    ∙ ap (interface_of own_text) is.is
    ∙ final_texts_keep texts left fits (exports_kept texts tree ready.fits ready.types fits kept)
    ∙ stripping_keeps (text_of texts) tree ready.fits ready.types
