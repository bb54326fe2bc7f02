-- Runs that came to an end, one lemma for each way.
use Rattle.std.proofs.Common.{◌≡◌, ◌⊎◌, ◌≢◌, ℕ, List, [], length, Some, None, Ok, Err, inl, inr, refl, sym, ◌∙◌, ap, arith, subst, Vec}
use Rattle.std.specs.Prelude.{Option, Result, OnOk, OnErr, IfSome}
use Rattle.std.specs.declared.alloc.Global.{Global}
use Rattle.std.proofs.lemmas.List.{append-nil, take_all}
use Rattle.std.specs.Io.KnownBytes.{append_known}
use Rattle.ecma_config.specs.declared.config.Config.{Config}
use Rattle.devices.specs.declared.sink.SinkError.{SinkError}
use Rattle.devices.specs.declared.sink.SinkError.TheVariants.{Failed, NoMemory}
use Rattle.devices.specs.Counts.{CountedAtMost, CountedExactlyIf}
use Rattle.devices.specs.Sink.{TakesPart}
use Rattle.ts_to_js.specs.declared.program.TheConstants.{DONE, REFUSED, BAD_WORD, READ_FAULT, WRITE_FAULT, NO_MEMORY}
use Rattle.ts_to_js.specs.declared.error.TsError.{TsError}
use Rattle.ts_to_js.specs.Running.{Expected, IsRunOf, IsUnwritten, Seen, TakesFront, TakesAll, Ran, Refuses, contexts_of_a_run, reported_status, expected_of, first_read}
use Rattle.ts_to_js.specs.Lines.{fault_line}
use Rattle.ts_to_js.specs.Answer.{Answers, AnswersBy}
use Rattle.ts_to_js.specs.Conversion.{IsConverted}
use Rattle.ts_to_js.specs.declared.error.TsError.TheVariants as error

append_known-nil : (known : Option (List ℕ)) → append_known known [] ≡ known
append_known-nil None = refl
append_known-nil (Some xs) = ap Some (append-nil xs)

counted-none : (count most : ℕ) → CountedAtMost count count most
counted-none count most = record { later = omega arith; at_most = omega arith }

-- a sink that was not called took nothing
takes_front-none : (sink : Seen) (bytes : List ℕ) → TakesFront sink sink bytes
takes_front-none sink bytes = record { front = (0, sym (append_known-nil sink.taken)); calls = counted-none sink.calls (length bytes) }

takes_front-all : (before after : Seen) (bytes : List ℕ) → TakesAll before after bytes → CountedAtMost before.calls after.calls (length bytes) → TakesFront before after bytes
takes_front-all before after bytes all calls =
    record { front = (length bytes, all ∙ ap (append_known before.taken) (sym (take_all (length bytes) bytes (omega arith)))); calls = calls }

takes_front-part : (before after : Seen) (bytes : List ℕ) → TakesPart before.taken after.taken bytes → CountedAtMost before.calls after.calls (length bytes) → TakesFront before after bytes
takes_front-part before after bytes (n, short, taken) calls = record { front = (n, taken); calls = calls }

-- want of memory may come before anything was written
pub ran-no_memory : (x : Expected) (out err : Seen) → Ran x NO_MEMORY out out err err
ran-no_memory x out err = record {
  ends = inr (inr (inr refl));
  out_front = takes_front-none out x.text;
  out_all = λ done. absurd (omega arith);
  out_same = λ _. refl;
  err_front = takes_front-none err x.line;
  err_all = λ told _. absurd (elim told [ inl e ↦ omega arith | inr e ↦ omega arith ]);
  err_still = λ _. refl;
  err_same = λ _. refl;
}

-- the source failed
pub ran-read_fault : (x : Expected) (out err : Seen) → x.status ≢ BAD_WORD → Ran x READ_FAULT out out err err
ran-read_fault x out err known = record {
  ends = inr (inl (refl, known));
  out_front = takes_front-none out x.text;
  out_all = λ done. absurd (omega arith);
  out_same = λ _. refl;
  err_front = takes_front-none err x.line;
  err_all = λ told _. absurd (elim told [ inl e ↦ omega arith | inr e ↦ omega arith ]);
  err_still = λ _. refl;
  err_same = λ _. refl;
}

not_same : (status : ℕ) → (status ≡ REFUSED) ⊎ (status ≡ BAD_WORD) → (status ≡ DONE) ⊎ (status ≡ READ_FAULT) ⊎ (status ≡ WRITE_FAULT) → ⊥
not_same status (inl told) (inl e) = omega (arith, told, e)
not_same status (inl told) (inr (inl e)) = omega (arith, told, e)
not_same status (inl told) (inr (inr e)) = omega (arith, told, e)
not_same status (inr told) (inl e) = omega (arith, told, e)
not_same status (inr told) (inr (inl e)) = omega (arith, told, e)
not_same status (inr told) (inr (inr e)) = omega (arith, told, e)

told_not_none : (status : ℕ) → (status ≡ REFUSED) ⊎ (status ≡ BAD_WORD) → status ≢ NO_MEMORY
told_not_none status (inl told) none = omega (arith, told, none)
told_not_none status (inr told) none = omega (arith, told, none)

-- a line was to be written: the status stays where that failed
pub ran-reported : {T : Type 0} (status : ℕ) (line : List ℕ) (out err err' : Seen) (writing : Result T SinkError) → (status ≡ REFUSED) ⊎ (status ≡ BAD_WORD)
    → OnOk writing (TakesAll err err' line) → OnErr writing (TakesPart err.taken err'.taken line)
    → CountedExactlyIf (writing ≡ Err Failed) err.faults err'.faults → CountedAtMost err.calls err'.calls (length line)
    → Ran (record { status = status; text = []; line = line }) (reported_status writing status) out out err err'
ran-reported status line out err err' (Ok written) told whole part faults calls = record {
  ends = inl refl;
  out_front = takes_front-none out [];
  out_all = λ done. absurd (elim told [ inl e ↦ omega (arith, done, e) | inr e ↦ omega (arith, done, e) ]);
  out_same = λ _. refl;
  err_front = takes_front-all err err' line whole calls;
  err_all = λ _ _. whole;
  err_still = λ none. absurd (told_not_none status told none);
  err_same = λ same. absurd (not_same status told same);
}
ran-reported status line out err err' (Err Failed) told whole part faults calls = record {
  ends = inl refl;
  out_front = takes_front-none out [];
  out_all = λ done. absurd (elim told [ inl e ↦ omega (arith, done, e) | inr e ↦ omega (arith, done, e) ]);
  out_same = λ _. refl;
  err_front = takes_front-part err err' line part calls;
  err_still = λ none. absurd (told_not_none status told none);
  err_all = λ _ silent. absurd (silent (omega (arith, (faults.counted refl).one_more)));
  err_same = λ same. absurd (not_same status told same);
}
ran-reported status line out err err' (Err NoMemory) told whole part faults calls = record {
  ends = inr (inr (inr refl));
  out_front = takes_front-none out [];
  out_all = λ done. absurd (omega (arith, done));
  out_same = λ _. refl;
  err_front = takes_front-part err err' line part calls;
  err_all = λ told _. absurd (elim told [ inl e ↦ omega (arith, e) | inr e ↦ omega (arith, e) ]);
  err_still = λ _. faults.still (λ failed. cc);
  err_same = λ same. absurd (elim same [ inl e ↦ omega (arith, e) | inr later ↦ elim later [ inl e ↦ omega (arith, e) | inr e ↦ omega (arith, e) ] ]);
}

-- the bytes that are read of what a source tells
abbrev pub src_of : Option (List ℕ) → List ℕ
src_of None = []
src_of (Some left) = first_read left

pub src_of-first_read : (left : Option (List ℕ)) → IfSome left (λ all. src_of left ≡ first_read all)
src_of-first_read None = tt
src_of-first_read (Some left) = refl

-- no module is refused as a bad word
pub expected_of-known : (answer : Result (List ℕ) TsError) → (expected_of answer).status ≢ BAD_WORD
expected_of-known (Ok text) = λ e. omega (arith, e)
expected_of-known (Err refusal) = λ e. omega (arith, e)

-- the line of a refusal was to be written
pub refuses-reported : {T : Type 0} (refusal : TsError) (err err' : Seen) (writing : Result T SinkError) → (refusal ≢ error.NoMemory)
    → OnOk writing (TakesAll err err' (fault_line refusal)) → OnErr writing (TakesPart err.taken err'.taken (fault_line refusal))
    → CountedExactlyIf (writing ≡ Err Failed) err.faults err'.faults → CountedAtMost err.calls err'.calls (length (fault_line refusal))
    → Refuses refusal (reported_status writing REFUSED) err err'
refuses-reported error.TooLong err err' writing other whole part faults calls = λ out. ran-reported REFUSED (fault_line error.TooLong) out err err' writing (inl refl) whole part faults calls
refuses-reported error.NotUtf8 err err' writing other whole part faults calls = λ out. ran-reported REFUSED (fault_line error.NotUtf8) out err err' writing (inl refl) whole part faults calls
refuses-reported (error.TooDeep at) err err' writing other whole part faults calls = λ out. ran-reported REFUSED (fault_line (error.TooDeep at)) out err err' writing (inl refl) whole part faults calls
refuses-reported (error.Syntax at) err err' writing other whole part faults calls = λ out. ran-reported REFUSED (fault_line (error.Syntax at)) out err err' writing (inl refl) whole part faults calls
refuses-reported error.Spent err err' writing other whole part faults calls = λ out. ran-reported REFUSED (fault_line error.Spent) out err err' writing (inl refl) whole part faults calls
refuses-reported (error.Redeclared name) err err' writing other whole part faults calls = λ out. ran-reported REFUSED (fault_line (error.Redeclared name)) out err err' writing (inl refl) whole part faults calls
refuses-reported (error.ExportAssignTwice at) err err' writing other whole part faults calls = λ out. ran-reported REFUSED (fault_line (error.ExportAssignTwice at)) out err err' writing (inl refl) whole part faults calls
refuses-reported (error.ImportAssign at) err err' writing other whole part faults calls = λ out. ran-reported REFUSED (fault_line (error.ImportAssign at)) out err err' writing (inl refl) whole part faults calls
refuses-reported (error.ExportAssign at) err err' writing other whole part faults calls = λ out. ran-reported REFUSED (fault_line (error.ExportAssign at)) out err err' writing (inl refl) whole part faults calls
refuses-reported (error.ExportUnbound name) err err' writing other whole part faults calls = λ out. ran-reported REFUSED (fault_line (error.ExportUnbound name)) out err err' writing (inl refl) whole part faults calls
refuses-reported (error.Captured name) err err' writing other whole part faults calls = λ out. ran-reported REFUSED (fault_line (error.Captured name)) out err err' writing (inl refl) whole part faults calls
refuses-reported error.NoMemory err err' writing other whole part faults calls = absurd (other refl)

-- a run that was refused is the one that is expected
pub ran-refused : (refusal : TsError) (answer : Result (List ℕ) TsError) (status : ℕ) (out err err' : Seen) → Answers (Err refusal) answer → Refuses refusal status err err'
    → Ran (expected_of answer) status out out err err'
ran-refused error.TooLong answer status out err err' is told = subst (λ a. Ran (expected_of a) status out out err err') (sym is) (told out)
ran-refused error.NotUtf8 answer status out err err' is told = subst (λ a. Ran (expected_of a) status out out err err') (sym is) (told out)
ran-refused (error.TooDeep at) answer status out err err' is told = subst (λ a. Ran (expected_of a) status out out err err') (sym is) (told out)
ran-refused (error.Syntax at) answer status out err err' is told = subst (λ a. Ran (expected_of a) status out out err err') (sym is) (told out)
ran-refused error.Spent answer status out err err' is told = subst (λ a. Ran (expected_of a) status out out err err') (sym is) (told out)
ran-refused (error.Redeclared name) answer status out err err' is told = subst (λ a. Ran (expected_of a) status out out err err') (sym is) (told out)
ran-refused (error.ExportAssignTwice at) answer status out err err' is told = subst (λ a. Ran (expected_of a) status out out err err') (sym is) (told out)
ran-refused (error.ImportAssign at) answer status out err err' is told = subst (λ a. Ran (expected_of a) status out out err err') (sym is) (told out)
ran-refused (error.ExportAssign at) answer status out err err' is told = subst (λ a. Ran (expected_of a) status out out err err') (sym is) (told out)
ran-refused (error.ExportUnbound name) answer status out err err' is told = subst (λ a. Ran (expected_of a) status out out err err') (sym is) (told out)
ran-refused (error.Captured name) answer status out err err' is told = subst (λ a. Ran (expected_of a) status out out err err') (sym is) (told out)
ran-refused error.NoMemory answer status out err err' is told =
    subst (λ s. Ran (expected_of answer) s out out err err') (sym told.0) (subst (λ e. Ran (expected_of answer) NO_MEMORY out out err e) (sym told.1) (ran-no_memory (expected_of answer) out err))

-- a line that was to be written ends the run with its status, or without memory
pub reported_status-either : {T : Type 0} (writing : Result T SinkError) (status : ℕ) → (reported_status writing status ≡ status) ⊎ (reported_status writing status ≡ NO_MEMORY)
reported_status-either (Ok written) status = inl refl
reported_status-either (Err Failed) status = inl refl
reported_status-either (Err NoMemory) status = inr refl

-- a run that was refused has no fault of the source or the output
pub no_fault : (status : ℕ) → (status ≡ REFUSED) ⊎ (status ≡ NO_MEMORY) → (status ≢ WRITE_FAULT) × (status ≢ READ_FAULT)
no_fault status (inl refused) = (λ e. omega (arith, e, refused), λ e. omega (arith, e, refused))
no_fault status (inr none) = (λ e. omega (arith, e, none), λ e. omega (arith, e, none))

-- and one that told a line has none
pub told-no_read_fault : {T : Type 0} (writing : Result T SinkError) (status : ℕ) → (status ≡ REFUSED) ⊎ (status ≡ BAD_WORD) → reported_status writing status ≢ READ_FAULT
told-no_read_fault (Ok written) status (inl told) = λ fault. omega (arith, told, fault)
told-no_read_fault (Ok written) status (inr told) = λ fault. omega (arith, told, fault)
told-no_read_fault (Err Failed) status (inl told) = λ fault. omega (arith, told, fault)
told-no_read_fault (Err Failed) status (inr told) = λ fault. omega (arith, told, fault)
told-no_read_fault (Err NoMemory) status told = λ fault. omega (arith, fault)

pub told-no_write_fault : {T : Type 0} (writing : Result T SinkError) (status : ℕ) → (status ≡ REFUSED) ⊎ (status ≡ BAD_WORD) → reported_status writing status ≢ WRITE_FAULT
told-no_write_fault (Ok written) status (inl told) = λ fault. omega (arith, told, fault)
told-no_write_fault (Ok written) status (inr told) = λ fault. omega (arith, told, fault)
told-no_write_fault (Err Failed) status (inl told) = λ fault. omega (arith, told, fault)
told-no_write_fault (Err Failed) status (inr told) = λ fault. omega (arith, told, fault)
told-no_write_fault (Err NoMemory) status told = λ fault. omega (arith, fault)

-- what an answer comes to is a run of these bytes
pub run_of : (config : Config) (src : List ℕ) (result : Result (Vec ℕ Global) TsError) (status : ℕ) (out out' err err' : Seen) → AnswersBy result (IsConverted config contexts_of_a_run src)
    → (result ≡ Err error.NoMemory → IsUnwritten status out out' err err')
    → ((conversion : Result (List ℕ) TsError) → Answers result conversion → Ran (expected_of conversion) status out out' err err') → IsRunOf config src status out out' err err'
run_of config src (Ok text) status out out' err err' is unwritten ran = (Ok text.items, inl is, ran (Ok text.items) refl)
run_of config src (Err error.TooLong) status out out' err err' is unwritten ran = (Err error.TooLong, inl is, ran (Err error.TooLong) refl)
run_of config src (Err error.NotUtf8) status out out' err err' is unwritten ran = (Err error.NotUtf8, inl is, ran (Err error.NotUtf8) refl)
run_of config src (Err (error.TooDeep at)) status out out' err err' is unwritten ran = (Err (error.TooDeep at), inl is, ran (Err (error.TooDeep at)) refl)
run_of config src (Err (error.Syntax at)) status out out' err err' is unwritten ran = (Err (error.Syntax at), inl is, ran (Err (error.Syntax at)) refl)
run_of config src (Err error.Spent) status out out' err err' is unwritten ran = (Err error.Spent, inl is, ran (Err error.Spent) refl)
run_of config src (Err (error.Redeclared name)) status out out' err err' is unwritten ran = (Err (error.Redeclared name), inl is, ran (Err (error.Redeclared name)) refl)
run_of config src (Err (error.ExportAssignTwice at)) status out out' err err' is unwritten ran = (Err (error.ExportAssignTwice at), inl is, ran (Err (error.ExportAssignTwice at)) refl)
run_of config src (Err (error.ImportAssign at)) status out out' err err' is unwritten ran = (Err (error.ImportAssign at), inl is, ran (Err (error.ImportAssign at)) refl)
run_of config src (Err (error.ExportAssign at)) status out out' err err' is unwritten ran = (Err (error.ExportAssign at), inl is, ran (Err (error.ExportAssign at)) refl)
run_of config src (Err (error.ExportUnbound name)) status out out' err err' is unwritten ran = (Err (error.ExportUnbound name), inl is, ran (Err (error.ExportUnbound name)) refl)
run_of config src (Err (error.Captured name)) status out out' err err' is unwritten ran = (Err (error.Captured name), inl is, ran (Err (error.Captured name)) refl)
run_of config src (Err error.NoMemory) status out out' err err' is unwritten ran = (Err error.NoMemory, inr (inr (unwritten refl)), ran (Err error.NoMemory) tt)

-- a refusal for want of memory touches no sink
pub refused-unwritten : (refusal : TsError) (status : ℕ) (out err err' : Seen) → refusal ≡ error.NoMemory → Refuses refusal status err err' → IsUnwritten status out out err err'
refused-unwritten error.NoMemory status out err err' is told = (told.0, refl, told.1)
refused-unwritten error.TooLong status out err err' is told = cc
refused-unwritten error.NotUtf8 status out err err' is told = cc
refused-unwritten (error.TooDeep at) status out err err' is told = cc
refused-unwritten (error.Syntax at) status out err err' is told = cc
refused-unwritten error.Spent status out err err' is told = cc
refused-unwritten (error.Redeclared name) status out err err' is told = cc
refused-unwritten (error.ExportAssignTwice at) status out err err' is told = cc
refused-unwritten (error.ImportAssign at) status out err err' is told = cc
refused-unwritten (error.ExportAssign at) status out err err' is told = cc
refused-unwritten (error.ExportUnbound name) status out err err' is told = cc
refused-unwritten (error.Captured name) status out err err' is told = cc

-- a word is one
pub a_word : {word : List ℕ} → Some word ≡ None → ⊥
a_word h = cc

-- an answer has one refusal
pub same_refusal : (answer : Result (Vec ℕ Global) TsError) (one other : TsError) → answer ≡ Err one → answer ≡ Err other → one ≡ other
same_refusal answer one other is is' = cc
