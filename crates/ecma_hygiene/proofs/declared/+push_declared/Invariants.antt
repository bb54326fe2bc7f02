use Rattle.std.proofs.Common.{◌≡◌, ◌++◌, List}
use Rattle.ecma_scope.specs.declared.form.Sought.{Sought}
use Rattle.ecma_tree.proofs.Weights.{weight}
use Rattle.ecma_hygiene.specs.Ids.{Id, declared_here, declared_ids, soughts_in}
use Rattle.ecma_hygiene.proofs.Walking.{rest}
use Rattle.ecma_hygiene.proofs.declared.+push_declared.Given as goal

-- what is there, and what is declared in the other children
abbrev pub invariant-loop-i : goal.invariant-loop-i
invariant-loop-i l = l.ids ++ rest (List Sought) Id declared_here soughts_in (soughts_in l.soughts l.node) l.node l.i ≡ l.fn.ids ++ declared_ids l.node l.soughts

abbrev pub decreases-push_declared : goal.decreases-push_declared
decreases-push_declared l = weight l.node.now
