use Rattle.ecma_pipeline.proofs.Whole.{written_modules}
use Rattle.ecma_pipeline.proofs.written_modules_do_what_their_sources_do.Goals as goal

pub returns : goal.returns
returns c = written_modules (record {
  enclosed_read = c.enclosed_trees_are_read.ensures;
  enclosed_taken = c.enclosed_trees_are_taken.ensures;
  enclosed_unrefused = c.enclosed_trees_are_refused_alike.ensures;
  enclosed_short = c.enclosing_keeps_names_short.ensures;
  enclosed_made = c.enclosing_makes_no_names.ensures;
  enclosed_contexts = c.enclosed_trees_scope_alike.ensures.contexts;
  enclosed_distinct = c.enclosed_trees_scope_alike.ensures.conflicts;
  enclosed_runs = c.enclosed_trees_run_alike.ensures;
  bound_made = c.binding_makes_no_names.ensures;
  bound_runs = c.bound_sources_run_alike.ensures;
  bound_interface = c.bound_sources_have_their_interface.ensures;
  contexts_made = c.contexts_make_no_names.ensures;
  contexts_taken = c.resolved_trees_are_taken.ensures;
  ready = c.bound_sources_are_ready.ensures;
  lowered_made = c.lowering_makes_free_names_alone.ensures;
  declares = c.scopes_declare_what_runs_declare.ensures;
  lowered_declares = c.lowered_trees_declare_alike.ensures;
  lowered_runs = c.lowered_trees_run_alike.ensures;
  lowered_interface = c.lowered_trees_have_their_interface.ensures;
  marked_before_or_after = c.marked_before_or_after.ensures;
  marked_ready = c.marked_trees_are_ready.ensures;
  marked_own = c.marked_trees_have_own_contexts.ensures;
  marked_made = c.marked_trees_have_no_other_names.ensures;
  marked_captured = c.marked_trees_capture_alike.ensures;
  marked_runs = c.marked_trees_run_alike.ensures;
  marked_interface = c.marked_trees_have_their_interface.ensures;
  keeps = c.exports_that_are_not_captured_keep_their_texts.ensures;
  written = c.ready_trees_are_written.ensures;
  written_interface = c.written_trees_have_their_interface.ensures;
})
