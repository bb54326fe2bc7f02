use Rattle.ecma_pipeline_meeting.proofs.Records as law
use Rattle.ecma_pipeline_meeting.proofs.plain_modules_have_records_of_scopes.Goals as goal

pub returns : goal.returns
returns c = law.plain_modules_have_records_of_scopes c.bindings_are_declared.ensures
