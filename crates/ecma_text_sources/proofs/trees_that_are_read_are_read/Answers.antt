use Rattle.ecma_text_sources.proofs.Sources.{read_trees}
use Rattle.ecma_text_sources.proofs.trees_that_are_read_are_read.Goals as goal

pub returns : goal.returns
returns c = read_trees c.what_is_read_fits.ensures c.leaves_that_are_read_are_bare.ensures
