use Rattle.std.proofs.Common.{ap, subst}
use Rattle.ecma_kind.specs.Sessions.{SessionState}
use Rattle.ts_to_js.specs.Answer.{AnswersBy}
use Rattle.ts_to_js.specs.Conversion.{IsConverted}
use Rattle.ts_to_js.proofs.Runs.{run_of}
use Rattle.ts_to_js.proofs.program.convert.Goals as goal

pub returns-clause-run : goal.returns-clause-run
returns-clause-run g c =
    run_of c.args.config.now c.args.src.now c.converted-answer.result c.tell.result _ _ _ _
    (subst (λ left. AnswersBy c.converted-answer.result (IsConverted c.args.config.now left c.args.src.now)) (ap (λ (session : SessionState). session.left) c.new-session.ensures) c.converted-answer.ensures.text)
    c.tell.ensures.lacking c.tell.ensures.run
