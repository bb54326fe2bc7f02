use Rattle.std.proofs.Common.{◌≡◌, ◌∙◌, OnOk, length, ap, subst, arith}
use Rattle.ecma_tree.specs.declared.node.Node.{Node, out-Node}
use Rattle.ecma_tree.proofs.Weights.{weight-child}
use Rattle.ecma_references.proofs.Fronted.{as-many, child-was, front-all, front-next, front-start}
use Rattle.ecma_references.proofs.Ones.{put}
use Rattle.ecma_references.proofs.writing.+rewrite.Goals as goal

pub loop-i-init : goal.loop-i-init
loop-i-init g t c = record {
  done = front-start (g.T.QueryRef.answers c.args.query.now) c.args.seat c.args.node.now;
  asked = c.in_ok-answer.ensures {u = tt};
}

pub get_mut-requires : goal.get_mut-requires
get_mut-requires g t c =
    let many = as-many (g.T.QueryRef.answers c.args.query.now) c.args.seat c.args.node.now c.loop-i.node c.loop-i.i c.loop-i.invariant.done in
    omega arith

pub rewrite-requires : goal.rewrite-requires
rewrite-requires g t c κs within =
    let was = child-was (g.T.QueryRef.answers c.args.query.now) c.args.seat c.args.node.now c.loop-i.node c.loop-i.i c.get_mut.result.now c.loop-i.invariant.done c.get_mut.ensures.value in
    let smaller = weight-child c.args.node.now c.get_mut.result.now c.loop-i.i was in
    (omega arith, within)

pub loop-i-preserved : goal.loop-i-preserved
loop-i-preserved g t c = record {
  done = front-next (g.T.QueryRef.answers c.args.query.now) c.args.seat c.args.node.now c.loop-i.node c.loop-i.i c.get_mut.result.now c.rewrite.new.node c.loop-i.invariant.done c.get_mut.ensures.value
      (c.in_ok-rewrite.ensures {u = tt} ∙ ap (λ s. put (g.T.QueryRef.answers c.args.query.now) s c.get_mut.result.now) c.seat_in-inside.ensures);
  asked = c.loop-i.invariant.asked;
}

pub returns : goal.returns
returns g t c =
    let all : length (out-Node c.args.node.now).children ≡ c.loop-i.i = omega arith in
    subst (λ (n : Node). OnOk c.write.result (c.write.new.node ≡ n))
    (front-all (g.T.QueryRef.answers c.args.query.now) c.args.seat c.args.node.now c.loop-i.node c.loop-i.i c.loop-i.answer-1 c.loop-i.invariant.done all c.loop-i.invariant.asked)
    c.write.ensures
