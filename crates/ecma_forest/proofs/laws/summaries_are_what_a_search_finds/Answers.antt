use Rattle.ecma_forest.proofs.PassingOver.{summaries_found}
use Rattle.ecma_forest.proofs.laws.summaries_are_what_a_search_finds.Goals as goal

pub returns : goal.returns
returns c = summaries_found
