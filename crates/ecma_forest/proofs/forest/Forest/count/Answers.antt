use Rattle.std.proofs.Common.{arith}
use Rattle.ecma_forest.proofs.Places.{within, count-is}
use Rattle.ecma_forest.proofs.forest.Forest.count.Goals as goal

pub index-requires : goal.index-requires
index-requires c = omega (arith, c.self.inside.below.ok.0, within c.self.inside.kinds c.self.inside.below.items c.self.inside.roots.items c.args.self.now c.self.view_is c.self.invariant c.args.at c.requires)

pub returns : goal.returns
returns c = count-is c.self.inside.kinds c.self.inside.below.items c.self.inside.roots.items c.args.self.now c.self.view_is c.self.invariant c.args.at c.requires c.index.result.now c.index.ensures
