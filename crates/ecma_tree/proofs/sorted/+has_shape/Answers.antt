use Rattle.std.proofs.Common.{◌≡◌, ◌∙◌, sym, subst, length, slice_get, Some, true, false}
use Rattle.ecma_tree.specs.Sorted.{child_shapes}
use Rattle.ecma_tree.specs.declared.node.Node.{out-Node}
use Rattle.ecma_tree.proofs.Shaping.{false-has_shape-count, has_shape-rest, rest_have_shapes-next, rest_have_shapes-false}
use Rattle.ecma_tree.proofs.sorted.+has_shape.Goals as goal

pub returns-then-not-may_have : goal.returns-then-not-may_have
returns-then-not-may_have t c =
    false-has_shape-count c.args.node.now c.args.shape (λ counted. (let e : true ≡ false =
    sym (c.may_have.ensures.1 (subst (λ k. length (child_shapes (out-Node c.args.node.now).kind c.args.shape k) ≡ k) (sym c.len-count.ensures) counted)) ∙ c.if-not-may_have.true in
    absurd (no e)))
  where
    no : true ≡ false → ⊥
    no e = cc

pub loop-i-init : goal.loop-i-init
loop-i-init t c = has_shape-rest c.args.node.now c.args.shape (sym c.allows.ensures ∙ c.if-not-allows.false)

pub returns-then-not-has_shape : goal.returns-then-not-has_shape
returns-then-not-has_shape t c =
    sym (c.loop-i.invariant ∙ rest_have_shapes-false c.args.node.now c.args.shape c.loop-i.i c.child_shape-below.result c.at.result.now
    (subst (λ k. slice_get (child_shapes (out-Node c.args.node.now).kind c.args.shape k) c.loop-i.i ≡ Some c.child_shape-below.result) c.len-count.ensures c.child_shape-below.ensures)
    c.at.ensures
    (sym c.has_shape.ensures ∙ c.if-not-has_shape.true))

pub loop-i-preserved : goal.loop-i-preserved
loop-i-preserved t c =
    c.loop-i.invariant ∙ rest_have_shapes-next c.args.node.now c.args.shape c.loop-i.i c.child_shape-below.result c.at.result.now
    (subst (λ k. slice_get (child_shapes (out-Node c.args.node.now).kind c.args.shape k) c.loop-i.i ≡ Some c.child_shape-below.result) c.len-count.ensures c.child_shape-below.ensures)
    c.at.ensures
    (sym c.has_shape.ensures ∙ c.if-not-has_shape.false)
