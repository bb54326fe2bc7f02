use Rattle.ecma_hygiene_meeting.proofs.Meeting as law
use Rattle.ecma_hygiene_meeting.proofs.what_meets_may_meet.Goals as goal

pub returns : goal.returns
returns c = law.what_meets_may_meet
