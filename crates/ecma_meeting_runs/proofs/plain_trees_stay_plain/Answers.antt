use Rattle.ecma_meeting_runs.proofs.Plain as law
use Rattle.ecma_meeting_runs.proofs.plain_trees_stay_plain.Goals as goal

pub returns : goal.returns
returns c = law.plain_trees_stay_plain
