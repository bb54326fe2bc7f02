use Rattle.ecma_meeting_runs.proofs.Plain as law
use Rattle.ecma_meeting_runs.proofs.contexts_do_not_matter_to_plain.Goals as goal

pub returns : goal.returns
returns c = law.contexts_do_not_matter_to_plain
