use Rattle.std.proofs.Common.{refl, ap, inr, Err, subst, ◌∙◌}
use Rattle.ts_to_js.specs.Answer.{Answers}
use Rattle.ts_to_js.specs.declared.error.TsError.TheVariants as error
use Rattle.ts_to_js.proofs.Runs.{ran-refused, no_fault, refused-unwritten, same_refusal}
use Rattle.ts_to_js.proofs.program.tell.Goals as goal

pub returns-in-Err : goal.returns-in-Err
returns-in-Err g c =
    let neither = no_fault c.refuse.result c.refuse.ensures.status in
    record {
      write_fault = record { counted = λ fault. absurd (neither.0 fault); still = λ _. refl };
      no_read_fault = neither.1;
      lacking = λ none. refused-unwritten c.in-Err.refusal c.refuse.result _ _ _ (same_refusal _ c.in-Err.refusal error.NoMemory c.in-Err.is none) c.refuse.ensures.line;
      memory = λ other none. inr (c.refuse.ensures.memory (λ same. other (c.in-Err.is ∙ ap Err same)) none);
      run = λ conversion answers. ran-refused c.in-Err.refusal conversion c.refuse.result _ _ _ (subst (λ answer. Answers answer conversion) c.in-Err.is answers) c.refuse.ensures.line;
    }
