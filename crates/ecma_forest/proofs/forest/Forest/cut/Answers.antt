use Rattle.std.proofs.Common.{◌∙◌, ap, take}
use Rattle.ecma_forest.proofs.Places.{cut-rooted, cut-roots}
use Rattle.ecma_forest.proofs.forest.Forest.cut.Goals as goal

pub invariant_of-self : goal.invariant_of-self
invariant_of-self c = rw c.truncate.ensures.items (cut-rooted c.self.inside.kinds c.self.inside.below.items c.self.inside.roots.items c.args.start c.self.invariant)

pub returns-clause-roots : goal.returns-clause-roots
returns-clause-roots c = rw c.truncate.ensures.items (cut-roots c.self.inside.kinds c.self.inside.below.items c.self.inside.roots.items c.args.start ∙ ap (λ t. take c.args.start t.roots) c.self.view_is)
