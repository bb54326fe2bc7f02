use Rattle.std.specs.Fn.{CalledAt}
use Rattle.ecma_tree.specs.declared.node.Node.{Node, size-Node}
use Rattle.ecma_find.specs.declared.finder.Finder.TheVariants.{Bindings}
use Rattle.ecma_find.specs.Finders.{rules_of}
use Rattle.ecma_find.specs.Found.{taken_in}
use Rattle.ecma_find.specs.Names.{itself}
use Rattle.ecma_find.proofs.Calling.{StepsRest}
use Rattle.ecma_find.proofs.Naming.{taken_rest}
use Rattle.ecma_find.proofs.bindings.+call_in.Given as goal

-- the operation may be called again, and the calls at the other children make the whole
abbrev pub invariant-loop-i : goal.invariant-loop-i
invariant-loop-i g l =
    goal.F-IsAlwaysCallable g l.op
    × StepsRest (λ p x q. CalledAt g.F.FnMut p x tt q) l.fn.op l.op
    (taken_rest Node itself (rules_of Bindings) l.place l.node l.i) (taken_in Node itself (rules_of Bindings) l.node l.place)

abbrev pub decreases-call_in : goal.decreases-call_in
decreases-call_in g l = size-Node l.node.now
