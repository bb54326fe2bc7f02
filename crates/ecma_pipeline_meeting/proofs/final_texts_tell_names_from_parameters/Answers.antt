use Rattle.ecma_pipeline_meeting.proofs.Apart as law
use Rattle.ecma_pipeline_meeting.proofs.final_texts_tell_names_from_parameters.Goals as goal

pub returns : goal.returns
returns c = law.final_texts_tell_names_from_parameters
