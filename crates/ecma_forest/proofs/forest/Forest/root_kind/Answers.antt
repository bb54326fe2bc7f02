use Rattle.std.proofs.Common.{arith}
use Rattle.ecma_forest.proofs.Opening.{root-kind, root-kind_known, root-within}
use Rattle.ecma_forest.proofs.forest.Forest.root_kind.Goals as goal

pub index-requires : goal.index-requires
index-requires c = omega (arith, c.self.inside.roots.ok.0, root-within c.self.inside.kinds c.self.inside.below.items c.self.inside.roots.items c.args.self.now c.self.view_is c.self.invariant c.args.i c.requires)

pub at-requires : goal.at-requires
at-requires c = root-kind_known c.self.inside.kinds c.self.inside.below.items c.self.inside.roots.items c.args.self.now c.self.view_is c.self.invariant c.args.i c.requires c.index.result.now c.index.ensures

pub returns : goal.returns
returns c = root-kind c.self.inside.kinds c.self.inside.below.items c.self.inside.roots.items c.args.self.now c.self.view_is c.self.invariant c.args.i c.requires c.index.result.now c.index.ensures c.at.result.now c.at.ensures
