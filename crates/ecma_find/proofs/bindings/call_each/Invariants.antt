use Rattle.std.specs.Fn.{CalledAt}
use Rattle.ecma_tree.specs.declared.node.Node.{Node}
use Rattle.ecma_find.specs.declared.finder.Finder.TheVariants.{Bindings}
use Rattle.ecma_find.specs.Finders.{rules_of}
use Rattle.ecma_find.specs.Found.{taken_among}
use Rattle.ecma_find.specs.Names.{itself}
use Rattle.ecma_find.proofs.Calling.{StepsRest}
use Rattle.ecma_find.proofs.Naming.{given_rest}
use Rattle.ecma_find.proofs.bindings.call_each.Given as goal

-- the operation may be called again, and the calls at the other nodes make the whole
abbrev pub invariant-loop-node : goal.invariant-loop-node
invariant-loop-node g l =
    goal.F-IsAlwaysCallable g l.op
    × StepsRest (λ p x q. CalledAt g.F.FnMut p x tt q) l.fn.op l.op
    (given_rest Node itself (rules_of Bindings) l.place l.node-items l.node-index)
    (taken_among Node itself (rules_of Bindings) l.place l.node-items)
