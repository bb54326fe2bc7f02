use Rattle.ecma_hygiene_meeting.proofs.Meeting as law
use Rattle.ecma_hygiene_meeting.proofs.final_texts_meet.Goals as goal

pub returns : goal.returns
returns c = law.final_texts_meet
