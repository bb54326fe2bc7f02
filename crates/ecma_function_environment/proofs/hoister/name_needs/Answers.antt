use Rattle.std.proofs.Common.{rules, ◌≡◌, length, arith}
use Rattle.ecma_function_environment.proofs.Naming.{naming-all, naming-given, naming-left, naming-next, naming-spent, naming-start, naming-stops}
use Rattle.ecma_function_environment.proofs.hoister.name_needs.Goals as goal

pub loop-i-init : goal.loop-i-init
loop-i-init c = naming-start c.args.needs.now c.args.names.now.entries c.args.session.now

pub returns-in_err-name_need-clause-spent : goal.returns-in_err-name_need-clause-spent
returns-in_err-name_need-clause-spent c = λ spent.
    naming-spent c.args.needs.now c.args.names.now.entries c.args.session.now c.loop-i.session c.loop-i.names.entries c.loop-i.i c.loop-i.invariant c.at.result.now c.at.ensures
    (c.name_need.ensures.spent (search rules))

pub returns-in_err-name_need-clause-session : goal.returns-in_err-name_need-clause-session
returns-in_err-name_need-clause-session c =
    naming-stops c.args.needs.now c.args.names.now.entries c.args.session.now c.loop-i.session c.loop-i.names.entries c.loop-i.i c.loop-i.invariant c.at.result.now c.at.ensures
    c.name_need.new.session c.name_need.ensures.session

pub loop-i-preserved : goal.loop-i-preserved
loop-i-preserved c =
    naming-next c.args.needs.now c.args.names.now.entries c.args.session.now c.loop-i.session c.loop-i.names.entries c.loop-i.i c.loop-i.invariant c.at.result.now c.at.ensures
    c.name_need.new.session c.name_need.new.names.entries c.in_ok-name_need.ensures.names c.in_ok-name_need.ensures.left c.name_need.ensures.session

pub returns-clause-names : goal.returns-clause-names
returns-clause-names c =
    let all : length c.args.needs.now ≡ c.loop-i.i = omega arith in
    naming-all c.args.needs.now c.args.names.now.entries c.args.session.now c.loop-i.session c.loop-i.names.entries c.loop-i.i c.loop-i.invariant all

pub returns-clause-left : goal.returns-clause-left
returns-clause-left c =
    let all : length c.args.needs.now ≡ c.loop-i.i = omega arith in
    naming-left c.args.needs.now c.args.names.now.entries c.args.session.now c.loop-i.session c.loop-i.names.entries c.loop-i.i c.loop-i.invariant all

pub returns-clause-session : goal.returns-clause-session
returns-clause-session c =
    naming-given c.args.needs.now c.args.names.now.entries c.args.session.now c.loop-i.session c.loop-i.names.entries c.loop-i.i c.loop-i.invariant
