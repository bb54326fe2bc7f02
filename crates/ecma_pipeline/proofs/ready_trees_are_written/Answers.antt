use Rattle.ecma_pipeline.proofs.Conflicts.{final-clear}
use Rattle.ecma_pipeline.proofs.Written.{trees_are_written}
use Rattle.ecma_pipeline.proofs.ready_trees_are_written.Goals as goal

pub returns : goal.returns
returns c = trees_are_written (record {
  fit = c.final_trees_fit.ensures;
  plain = c.ready_trees_are_plain.ensures;
  again = c.what_fits_and_is_plain_is_read_again.ensures;
  distinct = c.written_modules_are_not_redeclared.ensures;
  clear = final-clear;
  runs = c.passes_keep_runs.ensures;
  spans = c.spans_do_not_matter_to_contexts.ensures;
  span_conflicts = c.spans_do_not_matter_to_conflicts.ensures;
  parentheses = c.source_texts_do_not_matter_to_parentheses.ensures;
  contexts = c.source_texts_do_not_matter_to_contexts.ensures;
  conflicts = c.source_texts_do_not_matter_to_conflicts.ensures;
  source_runs = c.source_texts_do_not_matter_to_runs.ensures;
})
