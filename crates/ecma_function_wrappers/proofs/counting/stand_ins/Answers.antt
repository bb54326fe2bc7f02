use Rattle.std.proofs.Common.{rules, ◌≡◌, ◌+◌, ◌<◌, List, length, sym, subst, arith}
use Rattle.ecma_tree.specs.declared.node.Node.{Node}
use Rattle.ecma_function_wrappers.proofs.Counted.{Standing, item-at, standing-all, standing-given, standing-left, standing-next, standing-spent, standing-start, standing-stops}
use Rattle.ecma_function_wrappers.proofs.counting.stand_ins.Goals as goal

pub loop-i-init : goal.loop-i-init
loop-i-init c = subst (λ (all : List Node). Standing c.args.params.now c.args.session.now c.args.session.now all 0) (sym c.new-all.ensures) (standing-start c.args.params.now c.args.session.now)

pub returns-in_err-stand_in-clause-spent : goal.returns-in_err-stand_in-clause-spent
returns-in_err-stand_in-clause-spent c = λ spent.
    let within : c.loop-i.i < length c.args.params.now = omega arith in
    let at = item-at c.args.params.now c.loop-i.i c.index-params-i.result within c.index-params-i.is in
    standing-spent c.args.params.now c.args.session.now c.loop-i.session c.loop-i.all c.loop-i.i c.loop-i.invariant c.index-params-i.result at
    (c.stand_in.ensures.spent (search rules))

pub returns-in_err-stand_in-clause-session : goal.returns-in_err-stand_in-clause-session
returns-in_err-stand_in-clause-session c =
    let within : c.loop-i.i < length c.args.params.now = omega arith in
    let at = item-at c.args.params.now c.loop-i.i c.index-params-i.result within c.index-params-i.is in
    standing-stops c.args.params.now c.args.session.now c.loop-i.session c.loop-i.all c.loop-i.i c.loop-i.invariant c.index-params-i.result at
    c.stand_in.new.session c.stand_in.ensures.session

pub returns-in_err-push-clause-session : goal.returns-in_err-push-clause-session
returns-in_err-push-clause-session c =
    let within : c.loop-i.i < length c.args.params.now = omega arith in
    let at = item-at c.args.params.now c.loop-i.i c.index-params-i.result within c.index-params-i.is in
    standing-stops c.args.params.now c.args.session.now c.loop-i.session c.loop-i.all c.loop-i.i c.loop-i.invariant c.index-params-i.result at
    c.stand_in.new.session c.stand_in.ensures.session

pub loop-i-preserved : goal.loop-i-preserved
loop-i-preserved c =
    let within : c.loop-i.i < length c.args.params.now = omega arith in
    let at = item-at c.args.params.now c.loop-i.i c.index-params-i.result within c.index-params-i.is in
    subst (λ (all : List Node). Standing c.args.params.now c.args.session.now c.stand_in.new.session all (c.loop-i.i + 1)) (sym c.in_ok-push.ensures.ok)
    (standing-next c.args.params.now c.args.session.now c.loop-i.session c.loop-i.all c.loop-i.i c.loop-i.invariant c.index-params-i.result at
    c.stand_in.new.session c.in_ok-stand_in.field-0 c.in_ok-stand_in.ensures.node c.in_ok-stand_in.ensures.left c.stand_in.ensures.session)

pub returns-clause-nodes : goal.returns-clause-nodes
returns-clause-nodes c =
    let all-of : length c.args.params.now ≡ c.loop-i.i = omega arith in
    standing-all c.args.params.now c.args.session.now c.loop-i.session c.loop-i.all c.loop-i.i c.loop-i.invariant all-of

pub returns-clause-left : goal.returns-clause-left
returns-clause-left c =
    let all-of : length c.args.params.now ≡ c.loop-i.i = omega arith in
    standing-left c.args.params.now c.args.session.now c.loop-i.session c.loop-i.all c.loop-i.i c.loop-i.invariant all-of

pub returns-clause-session : goal.returns-clause-session
returns-clause-session c = standing-given c.args.params.now c.args.session.now c.loop-i.session c.loop-i.all c.loop-i.i c.loop-i.invariant
