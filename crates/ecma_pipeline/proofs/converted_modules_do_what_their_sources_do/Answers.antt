use Rattle.ecma_pipeline.proofs.Converted.{converted_modules}
use Rattle.ecma_pipeline.proofs.converted_modules_do_what_their_sources_do.Goals as goal

pub returns : goal.returns
returns c = converted_modules (record {
  reads = c.trees_that_are_read_are_read.ensures;
  short = c.names_that_are_read_are_short.ensures;
  made = c.names_that_are_read_stand_in_the_source.ensures;
  elided_read = c.elided_sources_are_read.ensures;
  elided_taken = c.elided_sources_are_taken.ensures;
  elided_short = c.eliding_keeps_names_short.ensures;
  elided_made = c.eliding_makes_no_names.ensures;
  elided_contexts = c.elided_sources_take_as_many_contexts.ensures;
  written = c.written_modules_do_what_their_sources_do.ensures;
})
