use Rattle.ecma_find.specs.declared.finder.Finder.TheVariants.{Declared}
use Rattle.ecma_find.specs.Finders.{rules_of}
use Rattle.ecma_find.specs.Found.{taken_among}
use Rattle.ecma_find.specs.Names.{name_in}
use Rattle.ecma_find.proofs.Declaring.{SetRest}
use Rattle.ecma_find.proofs.Naming.{given_rest}
use Rattle.ecma_find.proofs.decls.insert_names.Given as goal

-- what is there, and what the other nodes give
abbrev pub invariant-loop-node : goal.invariant-loop-node
invariant-loop-node g l =
    SetRest _ _ g.I.PartialEq.eq l.fn.set l.set (given_rest _ (name_in _ g.I.IdentLike.of_ident l.only) (rules_of Declared)
    l.place l.node-items l.node-index)
    (taken_among _ (name_in _ g.I.IdentLike.of_ident l.only) (rules_of Declared) l.place l.node-items)
