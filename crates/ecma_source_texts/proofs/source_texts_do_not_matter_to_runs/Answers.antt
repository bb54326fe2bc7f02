use Rattle.ecma_source_texts.proofs.Runs as law
use Rattle.ecma_source_texts.proofs.source_texts_do_not_matter_to_runs.Goals as goal

pub returns : goal.returns
returns c = law.sources_do_not_matter_to_runs
