use Rattle.ecma_judge_runs.proofs.Laws as law
use Rattle.ecma_judge_runs.proofs.contexts_construct_objects.Goals as goal

pub returns : goal.returns
returns c = law.contexts_construct_objects
