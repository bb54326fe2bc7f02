use Rattle.ecma_grammar_laws.proofs.Repetitions.{repetitions_end}
use Rattle.ecma_grammar_laws.proofs.repetitions_end_themselves.Goals as goal

pub returns : goal.returns
returns c = repetitions_end
