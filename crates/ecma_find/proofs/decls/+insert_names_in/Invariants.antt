use Rattle.ecma_tree.specs.declared.node.Node.{size-Node}
use Rattle.ecma_find.specs.declared.finder.Finder.TheVariants.{Declared}
use Rattle.ecma_find.specs.Finders.{rules_of}
use Rattle.ecma_find.specs.Found.{taken_in}
use Rattle.ecma_find.specs.Names.{name_in}
use Rattle.ecma_find.proofs.Declaring.{SetRest}
use Rattle.ecma_find.proofs.Naming.{taken_rest}
use Rattle.ecma_find.proofs.decls.+insert_names_in.Given as goal

-- what is there, and what the other children give
abbrev pub invariant-loop-i : goal.invariant-loop-i
invariant-loop-i g l =
    SetRest _ _ g.I.PartialEq.eq l.fn.set l.set
    (taken_rest _ (name_in _ g.I.IdentLike.of_ident l.only) (rules_of Declared) l.place l.node l.i)
    (taken_in _ (name_in _ g.I.IdentLike.of_ident l.only) (rules_of Declared) l.node l.place)

abbrev pub decreases-insert_names_in : goal.decreases-insert_names_in
decreases-insert_names_in g l = size-Node l.node.now
