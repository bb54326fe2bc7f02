use Rattle.std.proofs.Common.{◌∙◌, ◌++◌, ap, sym, take, drop, length}
use Rattle.ecma_forest.specs.Summaries.{empty_summary}
use Rattle.ecma_forest.proofs.Growing.{laid-rooted, laid-roots, length-grown, wrapped-below}
use Rattle.ecma_forest.proofs.forest.Forest.lay.Goals as goal

pub invariant_of-self-2 : goal.invariant_of-self-2
invariant_of-self-2 c = rw (c.in_ok-move_below.ensures.below, c.in_ok-move_below.ensures.roots) (laid-rooted c.self.inside.kinds
    c.self.inside.below.items c.self.inside.roots.items (record { lo = 0; hi = 0 }) 0 empty_summary c.args.start c.self.invariant)

pub returns-clause-first : goal.returns-clause-first
returns-clause-first c = c.len-first.ensures ∙ c.self.inside.below.ok.0 ∙ sym (length-grown c.self.inside.kinds c.self.inside.below.items) ∙ ap (λ t. length t.below) c.self.view_is

pub returns-clause-below : goal.returns-clause-below
returns-clause-below c =
    rw c.in_ok-move_below.ensures.below (wrapped-below c.self.inside.kinds c.self.inside.below.items c.self.inside.roots.items
    c.args.start c.self.invariant ∙ ap (λ t. t.below ++ drop c.args.start t.roots) c.self.view_is)

pub returns-clause-roots : goal.returns-clause-roots
returns-clause-roots c =
    rw (c.in_ok-move_below.ensures.below, c.in_ok-move_below.ensures.roots)
    (laid-roots c.self.inside.kinds c.self.inside.below.items c.self.inside.roots.items (record { lo = 0; hi = 0 }) 0 empty_summary c.args.start c.self.invariant ∙ ap (λ t. take c.args.start t.roots) c.self.view_is)
