use Rattle.ecma_forest.proofs.PassingOver.{changes_pass_over, rewritings_pass_over, searches_pass_over}
use Rattle.ecma_forest.proofs.laws.trees_with_nothing_to_do_are_passed_over.Goals as goal

pub returns-clause-searches : goal.returns-clause-searches
returns-clause-searches c = searches_pass_over

pub returns-clause-changes : goal.returns-clause-changes
returns-clause-changes c = changes_pass_over

pub returns-clause-rewritings : goal.returns-clause-rewritings
returns-clause-rewritings c = rewritings_pass_over
