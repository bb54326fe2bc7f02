use Rattle.std.proofs.Common.{◌≡◌, ◌∙◌, sym, refl, length, arith}
use Rattle.ecma_tree.specs.declared.node.Node.{out-Node}
use Rattle.ecma_tree.proofs.Sameness.{children-same, from-false, item-same, length-same, take-same, take-same-all, without_spans-same}
use Rattle.ecma_tree.proofs.equal.+same_but_for_spans.Goals as goal

pub returns-then-count-len : goal.returns-then-count-len
returns-then-count-len t c = (
  λ h. from-false h,
  λ e. absurd (c.if-count-len.true
      (c.len-count.ensures ∙ length-same (out-Node c.args.node.now).children (out-Node c.args.other.now).children (children-same c.args.node.now c.args.other.now e) ∙ sym c.len.ensures)),
)

pub returns-then-not-same_but_for_spans : goal.returns-then-not-same_but_for_spans
returns-then-not-same_but_for_spans t c = (
  λ h. from-false h,
  λ e. sym c.if-not-same_but_for_spans.true ∙ c.same_but_for_spans.ensures.1
      (item-same (out-Node c.args.node.now).children (out-Node c.args.other.now).children c.loop-i.i c.at.result.now c.at-in-loop-i.result.now c.at.ensures c.at-in-loop-i.ensures
      (children-same c.args.node.now c.args.other.now e)),
)

pub loop-i-preserved : goal.loop-i-preserved
loop-i-preserved t c =
    take-same (out-Node c.args.node.now).children (out-Node c.args.other.now).children c.loop-i.i c.at.result.now c.at-in-loop-i.result.now c.at.ensures c.at-in-loop-i.ensures
    (c.same_but_for_spans.ensures.0 c.if-not-same_but_for_spans.false) c.loop-i.invariant

pub returns : goal.returns
returns t c =
    let all : length (out-Node c.args.node.now).children ≡ c.loop-i.i = omega arith in
    let others : length (out-Node c.args.other.now).children ≡ c.loop-i.i = omega arith in (
      λ h. without_spans-same c.args.node.now c.args.other.now (c.same_kind.ensures.0 c.if-not-same_kind.false)
          (take-same-all (out-Node c.args.node.now).children (out-Node c.args.other.now).children c.loop-i.i all others c.loop-i.invariant),
      λ e. refl,
    )
