use Rattle.ecma_pipeline_meeting.proofs.Meeting as law
use Rattle.ecma_pipeline_meeting.proofs.plain_final_texts_meet.Goals as goal

pub returns : goal.returns
returns c = law.plain_final_texts_meet c.bindings_are_declared.ensures c.final_texts_are_unreserved.ensures c.final_texts_meet.ensures
