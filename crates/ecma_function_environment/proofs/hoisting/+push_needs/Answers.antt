use Rattle.std.proofs.Common.{◌≡◌, ◌∙◌, ◌++◌, List, length, refl, sym, ap, arith}
use Rattle.std.proofs.lemmas.List.{append-nil}
use Rattle.ecma_tree.specs.declared.node.Node.{out-Node}
use Rattle.ecma_function_environment.specs.declared.need.Need.{Need}
use Rattle.ecma_function_environment.specs.Hoisting.{needs}
use Rattle.ecma_function_environment.proofs.Hoisted.{below-is, needs-all, needs-entered, needs-first, needs-left, needs-next}
use Rattle.ecma_function_environment.proofs.hoisting.+push_needs.Goals as goal

pub returns-then-not-is_entered : goal.returns-then-not-is_entered
returns-then-not-is_entered t c =
    sym (ap (λ (z : List Need). c.args.to.now ++ z) (needs-left c.args.flags.now c.args.seat c.args.node.now (sym c.is_entered.ensures ∙ c.if-not-is_entered.true)) ∙ append-nil c.args.to.now)

pub loop-i-init : goal.loop-i-init
loop-i-init t c =
    needs-first c.args.flags.now c.args.seat c.args.node.now c.args.to.now c.push_here.new.to c.in_ok-key.key (c.in_ok-key.ensures {u = tt}) (c.in_ok-push_here.ensures {u = tt})

pub loop-i-preserved : goal.loop-i-preserved
loop-i-preserved t c =
    needs-next c.args.flags.now c.args.seat c.args.node.now (c.args.to.now ++ needs c.args.flags.now c.args.node.now c.args.seat) c.loop-i.to c.push_needs.new.to c.loop-i.i c.at.result.now
    c.seat_in-below.result c.at.ensures
    (below-is c.args.flags.now c.args.seat c.args.node.now c.seat_in-below.result c.is_some-over.result c.in_ok-key.key (out-Node c.args.node.now).kind c.loop-i.i
    c.seat_in-below.ensures c.is_some-over.ensures (c.in_ok-key.ensures {u = tt}) refl)
    (c.in_ok-push_needs.ensures {u = tt}) c.loop-i.invariant

pub returns : goal.returns
returns t c =
    let all : length (out-Node c.args.node.now).children ≡ c.loop-i.i = omega arith in
    needs-all c.args.flags.now c.args.seat c.args.node.now (c.args.to.now ++ needs c.args.flags.now c.args.node.now c.args.seat) c.loop-i.to c.loop-i.i all c.loop-i.invariant
    ∙ ap (λ (z : List Need). c.args.to.now ++ z) (sym (needs-entered c.args.flags.now c.args.seat c.args.node.now (sym c.is_entered.ensures ∙ c.if-not-is_entered.false)))
