use Rattle.std.proofs.Common.{◌≡◌, ◌++◌}
use Rattle.ecma_tree.specs.declared.node.Node.{size-Node}
use Rattle.ecma_lower_enums.specs.Names.{names_in}
use Rattle.ecma_lower_enums.proofs.Naming.{rest_names}
use Rattle.ecma_lower_enums.proofs.names.+push_names.Given as goal

-- those that are there, and those in the children that are left
abbrev pub invariant-loop-i : goal.invariant-loop-i
invariant-loop-i l = l.names ++ rest_names l.node l.i ≡ l.fn.names ++ names_in l.node

abbrev pub decreases-push_names : goal.decreases-push_names
decreases-push_names l = size-Node l.node.now
