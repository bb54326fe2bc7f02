-- A tree with parentheses added has its identifiers' texts.
use Rattle.std.proofs.Common.{refl}
use Rattle.ecma_kind.specs.declared.shapes.Sort.TheVariants as sort
use Rattle.ecma_tree.specs.Sorted.{one}
use Rattle.ecma_enclose.specs.Enclosing.{enclosed}
use Rattle.ecma_enclose_fits.proofs.Adding.{enclosed_adds}
use Rattle.ecma_enclose_sources.proofs.Everywhere.{everywhere_added}
use Rattle.ecma_pipeline_names.specs.Laws.{EnclosingKeepsNamesShort}
use Rattle.ecma_pipeline_names.proofs.Throughout.{IsShort, all_short, none_long}

pub names_enclosed : EnclosingKeepsNamesShort
names_enclosed tree sorted h = none_long (enclosed tree) (everywhere_added IsShort refl (enclosed_adds tree (one sort.Module, sorted)) (all_short tree h))
