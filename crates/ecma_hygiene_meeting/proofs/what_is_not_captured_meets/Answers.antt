use Rattle.ecma_hygiene_meeting.proofs.Meeting as law
use Rattle.ecma_hygiene_meeting.proofs.what_is_not_captured_meets.Goals as goal

pub returns : goal.returns
returns c = law.what_is_not_captured_meets
