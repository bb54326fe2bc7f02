use Rattle.std.proofs.Common.{arith}
use Rattle.ecma_forest.proofs.Opening.{root-span, root-within}
use Rattle.ecma_forest.proofs.forest.Forest.root_span.Goals as goal

pub index-requires : goal.index-requires
index-requires c = omega (arith, c.self.inside.roots.ok.0, root-within c.self.inside.kinds c.self.inside.below.items c.self.inside.roots.items c.args.self.now c.self.view_is c.self.invariant c.args.i c.requires)

pub returns : goal.returns
returns c = root-span c.self.inside.kinds c.self.inside.below.items c.self.inside.roots.items c.args.self.now c.self.view_is c.self.invariant c.args.i c.requires c.index.result.now c.index.ensures
