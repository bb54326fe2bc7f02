use Rattle.std.proofs.Common.{arith}
use Rattle.ecma_forest.proofs.Places.{within, kept-rooted, kept-roots}
use Rattle.ecma_forest.proofs.forest.Forest.keep.Goals as goal

pub index-slot-requires : goal.index-slot-requires
index-slot-requires c = omega (arith, c.self.inside.below.ok.0, within c.self.inside.kinds c.self.inside.below.items c.self.inside.roots.items c.args.self.now c.self.view_is c.self.invariant c.args.at c.requires)

pub invariant_of-self-2 : goal.invariant_of-self-2
invariant_of-self-2 c = rw c.in_ok-push.ensures.items (kept-rooted c.self.inside.kinds c.self.inside.below.items c.self.inside.roots.items
    c.args.self.now c.self.view_is c.self.invariant c.args.at c.requires c.index-slot.result.now c.index-slot.ensures)

pub returns-clause-ok : goal.returns-clause-ok
returns-clause-ok c = rw c.in_ok-push.ensures.items (kept-roots c.self.inside.kinds c.self.inside.below.items c.self.inside.roots.items
    c.args.self.now c.self.view_is c.self.invariant c.args.at c.requires c.index-slot.result.now c.index-slot.ensures)
