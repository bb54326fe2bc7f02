use Rattle.ecma_forest.proofs.Wrapping.{longer, longer-trees, on_err, over-below, over-rooted, over-roots}
use Rattle.ecma_forest.proofs.forest.Forest.wrap_like.Goals as goal

pub invariant_of-self : goal.invariant_of-self
invariant_of-self c = longer c.self.inside.kinds c.self.inside.below.items c.self.inside.roots.items c.args.self.now c.self.view_is c.self.invariant c.number_like.new.self c.in_err-number.ensures.more

pub returns-in_err-number-clause-err : goal.returns-in_err-number-clause-err
returns-in_err-number-clause-err c = on_err c.from_residual.result _ (longer-trees c.self.inside.kinds c.self.inside.below.items
    c.self.inside.roots.items c.args.self.now c.self.view_is c.self.invariant c.number_like.new.self c.in_err-number.ensures.more)

pub invariant_of-self-in_err-put_over : goal.invariant_of-self-in_err-put_over
invariant_of-self-in_err-put_over c = rw (c.in_err-put_over.ensures.err.0, c.in_err-put_over.ensures.err.1) (longer c.self.inside.kinds
    c.self.inside.below.items c.self.inside.roots.items c.args.self.now c.self.view_is c.self.invariant c.number_like.new.self
    c.in_ok-number.ensures.more)

pub returns-in_err-put_over-clause-err : goal.returns-in_err-put_over-clause-err
returns-in_err-put_over-clause-err c = on_err c.from_residual-in_err-put_over.result _ (rw (
  c.in_err-put_over.ensures.err.0,
  c.in_err-put_over.ensures.err.1,
) (longer-trees c.self.inside.kinds c.self.inside.below.items c.self.inside.roots.items c.args.self.now
    c.self.view_is c.self.invariant c.number_like.new.self c.in_ok-number.ensures.more))

pub invariant_of-self-2 : goal.invariant_of-self-2
invariant_of-self-2 c = rw (c.in_ok-put_over.ensures.below, c.in_ok-put_over.ensures.roots)
    (over-rooted c.self.inside.kinds c.self.inside.below.items c.self.inside.roots.items c.args.self.now c.self.view_is c.self.invariant
    c.number_like.new.self c.in_ok-number.ensures.more c.args.span c.args.kind.now c.in_ok-number.number c.in_ok-number.ensures.ok
    c.kind_summary-own.result c.kind_summary-own.ensures c.args.start)

pub returns-clause-below : goal.returns-clause-below
returns-clause-below c = rw c.in_ok-put_over.ensures.below
    (over-below c.self.inside.kinds c.self.inside.below.items c.self.inside.roots.items c.args.self.now c.self.view_is c.self.invariant
    c.number_like.new.self c.in_ok-number.ensures.more c.args.span c.args.kind.now c.in_ok-number.number c.in_ok-number.ensures.ok
    c.kind_summary-own.result c.kind_summary-own.ensures c.args.start)

pub returns-clause-roots : goal.returns-clause-roots
returns-clause-roots c = rw (c.in_ok-put_over.ensures.below, c.in_ok-put_over.ensures.roots)
    (over-roots c.self.inside.kinds c.self.inside.below.items c.self.inside.roots.items c.args.self.now c.self.view_is c.self.invariant
    c.number_like.new.self c.in_ok-number.ensures.more c.args.span c.args.kind.now c.in_ok-number.number c.in_ok-number.ensures.ok
    c.kind_summary-own.result c.kind_summary-own.ensures c.args.start)
