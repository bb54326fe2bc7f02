use Rattle.std.proofs.Common.{◌∙◌, ap, map}
use Rattle.ecma_tree.specs.Changing.{changed}
use Rattle.ecma_forest.specs.Changes.{same_span}
use Rattle.ecma_forest.proofs.Changed.{changed-rooted, changed-trees, grown-changed}
use Rattle.ecma_forest.proofs.forest.Forest.change.Goals as goal

pub invariant_of-self : goal.invariant_of-self
invariant_of-self g c =
    rw c.change.ensures
    (changed-rooted (g.C.Change.kind_to c.args.change.now) c.self.inside.kinds c.self.inside.below.items c.self.inside.roots.items c.self.invariant (g.met.C.Change.keeps c.args.change.now))

pub returns-clause-below : goal.returns-clause-below
returns-clause-below g c =
    rw c.change.ensures
    (grown-changed (g.C.Change.kind_to c.args.change.now) c.self.inside.kinds c.self.inside.below.items c.self.invariant.inner.grounded
    ∙ ap (λ t. map (changed same_span (g.C.Change.kind_to c.args.change.now)) t.below) c.self.view_is)

pub returns-clause-roots : goal.returns-clause-roots
returns-clause-roots g c =
    rw c.change.ensures
    (changed-trees (g.C.Change.kind_to c.args.change.now) c.self.inside.kinds c.self.inside.below.items c.self.inside.roots.items c.self.invariant
    ∙ ap (λ t. map (changed same_span (g.C.Change.kind_to c.args.change.now)) t.roots) c.self.view_is)
