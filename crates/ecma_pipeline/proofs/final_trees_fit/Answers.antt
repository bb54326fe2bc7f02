use Rattle.ecma_pipeline.proofs.Fits.{trees_fit}
use Rattle.ecma_pipeline.proofs.final_trees_fit.Goals as goal

pub returns : goal.returns
returns c = trees_fit (record {
  types = c.stripping_keeps_fits.ensures;
  short_types = c.stripping_keeps_names_short.ensures;
  texts = c.final_texts_keep_what_fits.ensures.hygienic;
})
