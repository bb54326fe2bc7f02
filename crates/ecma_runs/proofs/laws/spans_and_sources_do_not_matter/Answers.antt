use Rattle.ecma_runs.proofs.Layers as law
use Rattle.ecma_runs.proofs.laws.spans_and_sources_do_not_matter.Goals as goal

pub returns : goal.returns
returns c = law.spans_and_sources_do_not_matter
