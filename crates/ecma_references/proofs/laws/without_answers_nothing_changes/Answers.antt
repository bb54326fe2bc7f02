use Rattle.ecma_references.proofs.Staying.{without_answers}
use Rattle.ecma_references.proofs.laws.without_answers_nothing_changes.Goals as goal

pub returns : goal.returns
returns c = without_answers
