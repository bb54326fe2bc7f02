use Rattle.std.proofs.Common.{arith}
use Rattle.ecma_forest.proofs.Places.{within, kind-known, kind-is}
use Rattle.ecma_forest.proofs.forest.Forest.kind.Goals as goal

pub index-requires : goal.index-requires
index-requires c = omega (arith, c.self.inside.below.ok.0, within c.self.inside.kinds c.self.inside.below.items c.self.inside.roots.items c.args.self.now c.self.view_is c.self.invariant c.args.at c.requires)

pub at-requires : goal.at-requires
at-requires c = kind-known c.self.inside.kinds c.self.inside.below.items c.self.inside.roots.items c.args.self.now c.self.view_is c.self.invariant c.args.at c.requires c.index.result.now c.index.ensures

pub returns : goal.returns
returns c = kind-is c.self.inside.kinds c.self.inside.below.items c.self.inside.roots.items c.args.self.now c.self.view_is c.self.invariant c.args.at c.requires c.index.result.now c.index.ensures c.at.result.now c.at.ensures
