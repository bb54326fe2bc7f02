use Rattle.ecma_function_environment.proofs.Bounded.{three-for-a-tree, three-for-trees}
use Rattle.ecma_function_environment.proofs.laws.at_most_three_contexts_are_drawn_for_a_node.Goals as goal

pub returns-clause-trees : goal.returns-clause-trees
returns-clause-trees c = three-for-trees

pub returns-clause-tree : goal.returns-clause-tree
returns-clause-tree c = three-for-a-tree
