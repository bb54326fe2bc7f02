use Rattle.ecma_text_spans.proofs.Reading as law
use Rattle.ecma_text_spans.proofs.names_that_are_read_stand_in_the_source.Goals as goal

pub returns : goal.returns
returns c = law.names-read
