use Rattle.std.proofs.Common.{arith}
use Rattle.ecma_forest.proofs.Places.{within, place-before, place-within, child-there}
use Rattle.ecma_forest.proofs.forest.Forest.child.Goals as goal

pub index-requires : goal.index-requires
index-requires c = omega (arith, c.self.inside.below.ok.0, within c.self.inside.kinds c.self.inside.below.items c.self.inside.roots.items c.args.self.now c.self.view_is c.self.invariant c.args.at c.requires.at)

pub overflow_add-result : goal.overflow_add-result
overflow_add-result c = omega (
  arith,
  c.ranges.at,
  place-before c.self.inside.kinds c.self.inside.below.items c.self.inside.roots.items
      c.args.self.now c.self.view_is c.self.invariant c.args.at c.requires.at c.index.result.now c.index.ensures c.args.i c.requires.i,
)

pub returns-clause-within : goal.returns-clause-within
returns-clause-within c = place-within c.self.inside.kinds c.self.inside.below.items c.self.inside.roots.items c.args.self.now
    c.self.view_is c.self.invariant c.args.at c.requires.at c.index.result.now c.index.ensures c.args.i c.requires.i

pub returns-clause-node : goal.returns-clause-node
returns-clause-node c = child-there c.self.inside.kinds c.self.inside.below.items c.self.inside.roots.items c.args.self.now c.self.view_is
    c.self.invariant c.args.at c.requires.at c.index.result.now c.index.ensures c.args.i c.requires.i
