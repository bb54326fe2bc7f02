use Rattle.ecma_pipeline_runs.proofs.Passes as law
use Rattle.ecma_pipeline_runs.proofs.passes_keep_runs.Goals as goal

pub returns : goal.returns
returns c = law.passes-keep-runs (record {
  alike = c.it_runs_alike.ensures;
  names = c.sorted_names_are_outer.ensures;
  runs = c.meeting_texts_keep_runs.ensures;
  plain_with = c.contexts_do_not_matter_to_plain.ensures;
  plain_renamed = c.plain_trees_stay_plain.ensures;
  meets = c.plain_final_texts_meet.ensures;
  own_meets = c.plain_own_texts_meet.ensures;
})
