use Rattle.std.proofs.Common.{◌≡◌, ◌∙◌, ◌++◌, length, ap, arith}
use Rattle.ecma_tree.specs.declared.node.Node.{out-Node}
use Rattle.ecma_tree.proofs.Weights.{weight-child}
use Rattle.ecma_scope.specs.declared.uses.Use.{Use}
use Rattle.ecma_scope.specs.Uses.{used_at}
use Rattle.ecma_scope.proofs.Using.{used-all, used-first, used-next}
use Rattle.ecma_scope.proofs.uses.+push_used.Goals as goal

pub loop-i-init : goal.loop-i-init
loop-i-init t c = used-first c.args.stands c.args.node.now c.args.ids.now c.push_here.new.ids (c.in_ok-push_here.ensures {u = tt})

pub push_used-requires : goal.push_used-requires
push_used-requires t c =
    let smaller = weight-child c.args.node.now c.at.result.now c.loop-i.i c.at.ensures in
    (omega arith, tt)

pub loop-i-preserved : goal.loop-i-preserved
loop-i-preserved t c =
    used-next c.args.stands c.args.node.now c.args.ids.now c.loop-i.ids c.push_used.new.ids c.loop-i.i c.at.result.now c.at.ensures c.loop-i.invariant
    (c.in_ok-push_used.ensures {u = tt} ∙ ap (λ (s : Use). c.loop-i.ids ++ used_at c.at.result.now s) c.use_in.ensures)

pub returns : goal.returns
returns t c =
    let all : length (out-Node c.args.node.now).children ≡ c.loop-i.i = omega arith in
    used-all c.args.stands c.args.node.now c.args.ids.now c.loop-i.ids c.loop-i.i all c.loop-i.invariant
