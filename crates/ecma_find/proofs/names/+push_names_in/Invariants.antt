use Rattle.std.proofs.Common.{◌≡◌, ◌++◌}
use Rattle.ecma_tree.specs.declared.node.Node.{size-Node}
use Rattle.ecma_find.specs.Finders.{rules_of}
use Rattle.ecma_find.specs.Found.{taken_in}
use Rattle.ecma_find.specs.Names.{name_as}
use Rattle.ecma_find.proofs.Naming.{taken_rest}
use Rattle.ecma_find.proofs.names.+push_names_in.Given as goal

-- what is there, and what the other children give
abbrev pub invariant-loop-i : goal.invariant-loop-i
invariant-loop-i g l =
    l.to ++ taken_rest _ (name_as _ g.I.IdentLike.of_ident) (rules_of l.finder) l.place l.node l.i
    ≡ l.fn.to ++ taken_in _ (name_as _ g.I.IdentLike.of_ident) (rules_of l.finder) l.node l.place

abbrev pub decreases-push_names_in : goal.decreases-push_names_in
decreases-push_names_in g l = size-Node l.node.now
