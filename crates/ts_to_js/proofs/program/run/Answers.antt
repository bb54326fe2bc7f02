use Rattle.std.proofs.Common.{inr, refl, sym, ◌∙◌, Err}
use Rattle.ts_to_js.specs.Lines.{bad_word_line}
use Rattle.ts_to_js.specs.Words.{bad_word, config_of}
use Rattle.ts_to_js.specs.declared.error.TsError.TheVariants as error
use Rattle.ts_to_js.proofs.Runs.{a_word, ran-reported, told-no_read_fault, told-no_write_fault, src_of, src_of-first_read}
use Rattle.ts_to_js.proofs.Outcomes.{is_run, rose}
use Rattle.ts_to_js.proofs.program.run.Goals as goal

pub returns-in-Some-clause-run : goal.returns-in-Some-clause-run
returns-in-Some-clause-run g c =
    let left = g.S.Source.left c.args.source.now in
    let named = c.in-Some.ensures in
    is_run c.converted_modules_do_what_their_sources_do.ensures c.no_run_is_spent.ensures (config_of c.args.words.now) (bad_word c.args.words.now) left c.reported.result _ _ _ _ _ _ (src_of left) (src_of-first_read left)
    (Err error.NoMemory) (λ none. absurd (a_word (named ∙ none)))
    (rw (c.reported.ensures, sym named) (ran-reported 2 (bad_word_line c.in-Some.word.now) _ _ _ c.write_line.result (inr refl) c.write_line.ensures.ok c.write_line.ensures.err c.write_line.ensures.faults c.write_line.ensures.calls))
    (λ fault. absurd (told-no_read_fault c.write_line.result 2 (inr refl) (sym c.reported.ensures ∙ fault)))
    (λ fault. absurd (told-no_write_fault c.write_line.result 2 (inr refl) (sym c.reported.ensures ∙ fault)))

pub returns-in-None-clause-run : goal.returns-in-None-clause-run
returns-in-None-clause-run g c =
    let ran = c.run_source.ensures.run in
    is_run c.converted_modules_do_what_their_sources_do.ensures c.no_run_is_spent.ensures (config_of c.args.words.now) (bad_word c.args.words.now) (g.S.Source.left c.args.source.now) c.run_source.result _ _ _ _ _ _ ran.0 ran.1
    ran.2.0 (λ _. rw (sym c.config_of.ensures) ran.2.1)
    (rw (sym c.in-None.ensures) ran.2.2)
    (λ fault. rose (c.run_source.ensures.read_fault.counted fault))
    (λ fault. rose (c.run_source.ensures.write_fault.counted fault))
