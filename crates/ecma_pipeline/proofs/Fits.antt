-- A tree that is ready fits without its types, with its final texts.
use Rattle.ecma_tree.specs.declared.node.Node.{Node}
use Rattle.ecma_strip.specs.Stripping.{stripped}
use Rattle.ecma_strip_fits.specs.Laws.{StrippingKeepsFits}
use Rattle.ecma_hygiene_fits.specs.Laws.{HygieneKeepsFits}
use Rattle.ecma_pipeline_names.specs.Laws.{StrippingKeepsNamesShort}
use Rattle.ecma_pipeline_runs.proofs.Full.{modules-are-full}
use Rattle.ecma_pipeline.specs.Laws.{FinalTreesFit}
use Rattle.ecma_pipeline.proofs.Receivers.{full_without_this}

pub record Laws : Type 0 where
  pub types : StrippingKeepsFits
  pub short_types : StrippingKeepsNamesShort
  pub texts : HygieneKeepsFits

pub trees_fit : Laws → FinalTreesFit
trees_fit laws assignments free tree final is hygienic =
    let left : Node = stripped tree in
    laws.texts left final hygienic (full_without_this left (modules-are-full tree is.fits is.types)) (laws.short_types tree is.short) (laws.types tree is.fits is.targets)
