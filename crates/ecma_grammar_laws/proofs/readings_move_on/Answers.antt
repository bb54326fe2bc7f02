use Rattle.ecma_grammar_laws.proofs.Repetitions.{readings_move_on}
use Rattle.ecma_grammar_laws.proofs.readings_move_on.Goals as goal

pub returns : goal.returns
returns c = readings_move_on
