use Rattle.ecma_pipeline_meeting.proofs.Meeting as law
use Rattle.ecma_pipeline_meeting.proofs.plain_own_texts_meet.Goals as goal

pub returns : goal.returns
returns c = law.plain_own_texts_meet c.bindings_are_declared.ensures c.what_is_not_captured_meets.ensures
