use Rattle.ecma_tree.specs.declared.node.Node.{size-Node}
use Rattle.ecma_function_environment.proofs.member.+super_under.Given as goal

abbrev pub decreases-super_under : goal.decreases-super_under
decreases-super_under l = size-Node l.node.now
