use Rattle.ecma_pipeline.proofs.ReadySources.{sources_are_ready}
use Rattle.ecma_pipeline.proofs.bound_sources_are_ready.Goals as goal

pub returns : goal.returns
returns c = sources_are_ready (record {
  reads = c.bound_trees_are_read.ensures;
  taken = c.bound_trees_are_taken.ensures;
  unrefused = c.bound_trees_are_refused_alike.ensures;
  declares = c.bound_names_do_not_matter_to_scopes.ensures.conflicts;
  alike = c.bound_names_do_not_matter_to_scopes.ensures.contexts;
  plain = c.bound_names_are_plain.ensures;
  contexts = c.contexts_do_not_matter_to_fits.ensures.resolved;
  forms = c.resolved_trees_are_taken.ensures;
  refusals = c.contexts_do_not_matter_to_refusals.ensures;
  apart = c.resolved_modules_keep_their_scopes_apart.ensures;
  short_bound = c.binding_keeps_names_short.ensures;
  short_contexts = c.contexts_keep_names_short.ensures;
  lowered_read = c.lowered_sources_are_read.ensures;
  lowered_low = c.lowered_sources_need_no_lowering.ensures;
  lowered_short = c.lowering_keeps_names_short.ensures;
  lowered_plain = c.lowering_keeps_plain_targets.ensures;
  lowered_contexts = c.contexts_do_not_matter_to_lowering.ensures;
  lowered_scopes = c.lowered_trees_say_their_scopes.ensures;
  lowered_own = c.lowered_trees_have_own_contexts.ensures;
  lowered_distinct = c.lowered_trees_are_not_redeclared.ensures;
  says = c.trees_without_contexts_say_what_is_ready.ensures;
})
