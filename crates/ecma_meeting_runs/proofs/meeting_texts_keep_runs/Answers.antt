use Rattle.ecma_meeting_runs.proofs.Runs as law
use Rattle.ecma_meeting_runs.proofs.meeting_texts_keep_runs.Goals as goal

pub returns : goal.returns
returns c = law.meeting-texts-keep-runs c.names_may_meet.ensures
