-- What the status of a run says of the bytes that were read.
use Rattle.std.proofs.Common.{◌≡◌, ◌⊎◌, ◌≢◌, ℕ, List, Some, None, Ok, Err, inl, inr, refl, sym, ◌∙◌, subst, arith}
use Rattle.std.specs.Prelude.{Option, Result, IfSome}
use Rattle.ecma_pipeline.specs.Laws.{ConvertedModulesDoWhatTheirSourcesDo}
use Rattle.ecma_config.specs.declared.config.Config.{Config}
use Rattle.devices.specs.Counts.{Counted, Rose}
use Rattle.ts_to_js.specs.declared.error.TsError.{TsError}
use Rattle.ts_to_js.specs.declared.program.TheConstants.{DONE, REFUSED, BAD_WORD, READ_FAULT, WRITE_FAULT, NO_MEMORY}
use Rattle.ts_to_js.specs.Conversion.{IsConverted}
use Rattle.ts_to_js.specs.Headline.{IsValid, IsConversion}
use Rattle.ts_to_js.specs.declared.error.TsError.TheVariants as error
use Rattle.ts_to_js.specs.Lines.{fault_line}
use Rattle.ts_to_js.specs.Running.{Seen, EndsWith, IsExpectedOf, IsRun, NoRunIsSpent, Ran, contexts_of_a_run, expected, expected_of, first_read}
use Rattle.ts_to_js.proofs.Conversions.{is_conversion, valid_converted}
use Rattle.ts_to_js.proofs.Enough.{other_line}

-- a run that was to end otherwise is not done
not_done : (expected status : ℕ) → expected ≢ DONE → EndsWith expected status → status ≢ DONE
not_done expected status other (inl e) done = other (sym e ∙ done)
not_done expected status other (inr (inl e)) done = omega (arith, e.0, done)
not_done expected status other (inr (inr (inl e))) done = omega (arith, e.0, done)
not_done expected status other (inr (inr (inr e))) done = omega (arith, e, done)

-- nor is one refused that was to end otherwise
not_refused : (expected status : ℕ) → expected ≢ REFUSED → EndsWith expected status → status ≢ REFUSED
not_refused expected status other (inl e) refused = other (sym e ∙ refused)
not_refused expected status other (inr (inl e)) refused = omega (arith, e.0, refused)
not_refused expected status other (inr (inr (inl e))) refused = omega (arith, e.0, refused)
not_refused expected status other (inr (inr (inr e))) refused = omega (arith, e, refused)

-- what a run that is done was asked for
pub record IsAnswered (answer : Result (List ℕ) TsError) : Type 0 where
  pub text : List ℕ
  pub is : answer ≡ Ok text
  pub same : (expected_of answer).text ≡ text

pub answered : (answer : Result (List ℕ) TsError) (status : ℕ) → EndsWith (expected_of answer).status status → status ≡ DONE → IsAnswered answer
answered (Ok text) status ends done = record { text = text; is = refl; same = refl }
answered (Err refusal) status ends done = absurd (not_done REFUSED status (λ e. omega (arith, e)) ends done)

-- a status is no other
two_ends : (status one other : ℕ) → one ≢ other → status ≡ one → status ≡ other → ⊥
two_ends status one other apart is is' = apart (sym is ∙ is')

-- nor is it done or refused where nothing came of its bytes
not_expected : (config : Config) (src : List ℕ) (answer : Result (List ℕ) TsError) (status : ℕ) (out out' err err' : Seen) → (status ≡ DONE) ⊎ (status ≡ REFUSED) → IsExpectedOf config src answer status out out' err err'
    → IsConverted config contexts_of_a_run src answer
not_expected config src answer status out out' err err' ended (inl converted) = converted
not_expected config src answer status out out' err err' (inl done) (inr (inl fault)) = absurd (two_ends status DONE READ_FAULT (λ e. omega (arith, e)) done fault)
not_expected config src answer status out out' err err' (inr refused) (inr (inl fault)) = absurd (two_ends status REFUSED READ_FAULT (λ e. omega (arith, e)) refused fault)
not_expected config src answer status out out' err err' (inl done) (inr (inr unwritten)) = absurd (two_ends status DONE NO_MEMORY (λ e. omega (arith, e)) done unwritten.0)
not_expected config src answer status out out' err err' (inr refused) (inr (inr unwritten)) = absurd (two_ends status REFUSED NO_MEMORY (λ e. omega (arith, e)) refused unwritten.0)

-- a run without a bad word, whose answer is what its bytes are converted to
converts_text : ConvertedModulesDoWhatTheirSourcesDo → (config : Config) (src : List ℕ) (answer : Result (List ℕ) TsError) (status : ℕ) → EndsWith (expected_of answer).status status → status ≡ DONE → IsConverted config contexts_of_a_run src answer
    → IsConversion config contexts_of_a_run src (expected_of answer).text
converts_text law config src answer status ends done converted =
    let a = answered answer status ends done in
    subst (λ text. IsConversion config contexts_of_a_run src text) (sym a.same) (is_conversion law config contexts_of_a_run src a.text (subst (λ x. IsConverted config contexts_of_a_run src x) a.is converted))

module _ (law : ConvertedModulesDoWhatTheirSourcesDo) (config : Config) (src : List ℕ) (answer : Result (List ℕ) TsError) (status : ℕ) (out out' err err' : Seen) where
  pub converts_by : (bad : Option (List ℕ)) → (bad ≡ None → IsExpectedOf config src answer status out out' err err') → EndsWith (expected bad answer).status status → status ≡ DONE
      → IsConversion config contexts_of_a_run src (expected bad answer).text
  converts_by None is ends done = converts_text law config src answer status ends done (not_expected config src answer status out out' err err' (inl done) (is refl))
  converts_by (Some word) is ends done = absurd (not_done BAD_WORD status (λ e. omega (arith, e)) ends done)

  pub refuses_by : (bad : Option (List ℕ)) → (bad ≡ None → IsExpectedOf config src answer status out out' err err') → EndsWith (expected bad answer).status status → status ≡ REFUSED
      → IsValid config contexts_of_a_run src → ⊥
  refuses_by None is ends refused (tree, valid) =
      let converted = not_expected config src answer status out out' err err' (inr refused) (is refl) in
      let one = valid_converted config contexts_of_a_run src tree valid answer converted in
      not_refused DONE status (λ e. omega (arith, e)) (subst (λ x. EndsWith (expected_of x).status status) one.1 ends) refused
  refuses_by (Some word) is ends refused valid = not_refused BAD_WORD status (λ e. omega (arith, e)) ends refused

-- a run that was refused told a line, and not that of a session without contexts
enough_by : NoRunIsSpent → (config : Config) (src : List ℕ) (answer : Result (List ℕ) TsError) (status : ℕ) (out out' err err' : Seen) (bad : Option (List ℕ)) → (bad ≡ None → IsExpectedOf config src answer status out out' err err')
    → EndsWith (expected bad answer).status status → status ≡ REFUSED → (expected bad answer).line ≢ fault_line error.Spent
enough_by law config src answer status out out' err err' None is ends refused = other_line answer (law config src answer (not_expected config src answer status out out' err err' (inr refused) (is refl)))
enough_by law config src answer status out out' err err' (Some word) is ends refused = absurd (not_refused BAD_WORD status (λ e. omega (arith, e)) ends refused)

complete_by : (status : ℕ) (read_fault write_fault : Type 0) → EndsWith DONE status → (status ≡ READ_FAULT → read_fault) → (status ≡ WRITE_FAULT → write_fault)
    → ¬ read_fault → ¬ write_fault → (status ≡ DONE) ⊎ (status ≡ NO_MEMORY)
complete_by status rf wf (inl e) read write no_read no_write = inl e
complete_by status rf wf (inr (inl e)) read write no_read no_write = absurd (no_read (read e.0))
complete_by status rf wf (inr (inr (inl e))) read write no_read no_write = absurd (no_write (write e.0))
complete_by status rf wf (inr (inr (inr e))) read write no_read no_write = inr e

-- a valid module is converted, unless reading failed or memory ran out
complete_none : ConvertedModulesDoWhatTheirSourcesDo → (config : Config) (src : List ℕ) (answer : Result (List ℕ) TsError) (status : ℕ) (out out' err err' : Seen) (read_fault write_fault : Type 0) → IsExpectedOf config src answer status out out' err err'
    → EndsWith (expected_of answer).status status → IsValid config contexts_of_a_run src → (status ≡ READ_FAULT → read_fault) → (status ≡ WRITE_FAULT → write_fault)
    → ¬ read_fault → ¬ write_fault → (status ≡ DONE) ⊎ (status ≡ NO_MEMORY)
complete_none law config src answer status out out' err err' rf wf (inl converted) ends (tree, valid) read write no_read no_write =
    let one = valid_converted config contexts_of_a_run src tree valid answer converted in
    complete_by status rf wf (subst (λ x. EndsWith (expected_of x).status status) one.1 ends) read write no_read no_write
complete_none law config src answer status out out' err err' rf wf (inr (inl fault)) ends valid read write no_read no_write = absurd (no_read (read fault))
complete_none law config src answer status out out' err err' rf wf (inr (inr unwritten)) ends valid read write no_read no_write = inr unwritten.0

-- where one more was counted, the count rose
pub rose : {before now : ℕ} → Counted before now → Rose before now
rose counted = omega (arith, counted.one_more)

-- a run, whose faults have their causes
pub is_run : ConvertedModulesDoWhatTheirSourcesDo → NoRunIsSpent → (config : Config) (bad left : Option (List ℕ)) (status : ℕ) (read_fault write_fault : Type 0) (out out' err err' : Seen) (src : List ℕ) → IfSome left (λ all. src ≡ first_read all)
    → (answer : Result (List ℕ) TsError) → (bad ≡ None → IsExpectedOf config src answer status out out' err err')
    → Ran (expected bad answer) status out out' err err' → (status ≡ READ_FAULT → read_fault) → (status ≡ WRITE_FAULT → write_fault)
    → IsRun config bad left status read_fault write_fault out out' err err'
is_run law spent config bad left status read_fault write_fault out out' err err' src is_read answer is_expected ran read write = record {
  src = src;
  is_read = is_read;
  answer = answer;
  is_expected = is_expected;
  ran = ran;
  converts = converts_by law config src answer status out out' err err' bad is_expected ran.ends;
  enough = enough_by spent config src answer status out out' err err' bad is_expected ran.ends;
  refuses = refuses_by law config src answer status out out' err err' bad is_expected ran.ends;
  complete = λ none valid. complete_none law config src answer status out out' err err' read_fault write_fault (is_expected none)
      (subst (λ b. EndsWith (expected b answer).status status) none ran.ends) valid read write;
}
