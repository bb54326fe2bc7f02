use Rattle.std.proofs.Common.{◌≡◌, ◌++◌}
use Rattle.ecma_find.specs.Finders.{rules_of}
use Rattle.ecma_find.specs.Found.{taken_among}
use Rattle.ecma_find.specs.Names.{name_as}
use Rattle.ecma_find.proofs.Naming.{given_rest}
use Rattle.ecma_find.proofs.names.push_names.Given as goal

-- what is there, and what the other nodes give
abbrev pub invariant-loop-node : goal.invariant-loop-node
invariant-loop-node g l =
    l.to ++ given_rest _ (name_as _ g.I.IdentLike.of_ident) (rules_of l.finder) l.place l.node-items l.node-index
    ≡ l.fn.to ++ taken_among _ (name_as _ g.I.IdentLike.of_ident) (rules_of l.finder) l.place l.node-items
