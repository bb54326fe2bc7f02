use Rattle.std.proofs.Common.{rules, ◌≡◌, ◌∙◌, ◌+◌, ◌<◌, ◌++◌, ◌∷◌, [], ℕ, List, length, sym, ap, subst, arith}
use Rattle.ecma_scope.specs.Drawing.{HasGivenAtMost}
use Rattle.ecma_tree.specs.declared.node.Node.{Node}
use Rattle.ecma_function_environment.specs.Declaring.{declarator_draws, declarators}
use Rattle.ecma_function_environment.specs.Needs.{Names}
use Rattle.ecma_function_environment.proofs.Declared.{Declaring, declaring-all, declaring-given, declaring-left, declaring-next, declaring-spent, declaring-start, declaring-stops}
use Rattle.ecma_function_environment.proofs.declaring.declared.Goals as goal

pub loop-i-init : goal.loop-i-init
loop-i-init c =
    subst (λ (ds : List Node). Declaring c.args.in_subclass c.args.names.now.entries c.in_ok-entries.entries c.args.session.now c.args.session.now ds 0) (sym c.new-decls.ensures)
    (declaring-start c.args.in_subclass c.args.names.now.entries c.in_ok-entries.entries c.args.session.now)

pub returns-in_err-declarator-clause-spent : goal.returns-in_err-declarator-clause-spent
returns-in_err-declarator-clause-spent c = λ spent.
    subst (λ (es : Names). c.args.session.now.left < declarator_draws es) (c.in_ok-entries.ensures {u = tt})
    (declaring-spent c.args.in_subclass c.args.names.now.entries c.in_ok-entries.entries c.args.session.now c.loop-i.session c.loop-i.decls c.loop-i.i c.loop-i.invariant c.at.result.now c.at.ensures
    (c.declarator.ensures.spent (search rules)))

pub returns-in_err-declarator-clause-session : goal.returns-in_err-declarator-clause-session
returns-in_err-declarator-clause-session c =
    subst (λ (es : Names). HasGivenAtMost (declarator_draws es) c.args.session.now c.declarator.new.session) (c.in_ok-entries.ensures {u = tt})
    (declaring-stops c.args.in_subclass c.args.names.now.entries c.in_ok-entries.entries c.args.session.now c.loop-i.session c.loop-i.decls c.loop-i.i c.loop-i.invariant c.at.result.now c.at.ensures
    c.declarator.new.session c.declarator.ensures.session)

pub returns-in_err-push-clause-session : goal.returns-in_err-push-clause-session
returns-in_err-push-clause-session c =
    subst (λ (es : Names). HasGivenAtMost (declarator_draws es) c.args.session.now c.declarator.new.session) (c.in_ok-entries.ensures {u = tt})
    (declaring-stops c.args.in_subclass c.args.names.now.entries c.in_ok-entries.entries c.args.session.now c.loop-i.session c.loop-i.decls c.loop-i.i c.loop-i.invariant c.at.result.now c.at.ensures
    c.declarator.new.session c.declarator.ensures.session)

pub loop-i-preserved : goal.loop-i-preserved
loop-i-preserved c =
    subst (λ (ds : List Node). Declaring c.args.in_subclass c.args.names.now.entries c.in_ok-entries.entries c.args.session.now c.declarator.new.session ds (c.loop-i.i + 1)) (sym c.in_ok-push.ensures.ok)
    (declaring-next c.args.in_subclass c.args.names.now.entries c.in_ok-entries.entries c.args.session.now c.loop-i.session c.loop-i.decls c.loop-i.i c.loop-i.invariant c.at.result.now c.at.ensures
    c.declarator.new.session c.in_ok-declarator.field-0 c.in_ok-declarator.ensures.node c.in_ok-declarator.ensures.left c.declarator.ensures.session)

pub returns-clause-nodes : goal.returns-clause-nodes
returns-clause-nodes c =
    let all : length c.in_ok-entries.entries ≡ c.loop-i.i = omega arith in
    declaring-all c.args.in_subclass c.args.names.now.entries c.in_ok-entries.entries c.args.session.now c.loop-i.session c.loop-i.decls c.loop-i.i c.loop-i.invariant all
    ∙ ap (λ (es : Names). declarators c.args.in_subclass c.args.names.now.entries es c.args.session.now.left) (c.in_ok-entries.ensures {u = tt})

pub returns-clause-left : goal.returns-clause-left
returns-clause-left c =
    let all : length c.in_ok-entries.entries ≡ c.loop-i.i = omega arith in
    subst (λ (es : Names). c.loop-i.session.left + declarator_draws es ≡ c.args.session.now.left) (c.in_ok-entries.ensures {u = tt})
    (declaring-left c.args.in_subclass c.args.names.now.entries c.in_ok-entries.entries c.args.session.now c.loop-i.session c.loop-i.decls c.loop-i.i c.loop-i.invariant all)

pub returns-clause-session : goal.returns-clause-session
returns-clause-session c =
    subst (λ (es : Names). HasGivenAtMost (declarator_draws es) c.args.session.now c.loop-i.session) (c.in_ok-entries.ensures {u = tt})
    (declaring-given c.args.in_subclass c.args.names.now.entries c.in_ok-entries.entries c.args.session.now c.loop-i.session c.loop-i.decls c.loop-i.i c.loop-i.invariant)
