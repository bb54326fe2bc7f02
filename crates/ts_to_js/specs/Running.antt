-- What a run of the program does: its status, and what standard output and standard error take.
use Rattle.std.specs.Prelude.{◌≡◌, ◌⊎◌, ℕ, ◌≢◌, List, [], length, take, Option, Some, None, Result, Ok, Err, IfSome, ◌+◌}
use Rattle.std.specs.Io.KnownBytes.{append_known}
use Rattle.ecma_config.specs.declared.config.Config.{Config}
use Rattle.devices.specs.declared.sink.SinkError.{SinkError}
use Rattle.devices.specs.declared.sink.SinkError.TheVariants.{Failed, NoMemory}
use Rattle.devices.specs.Counts.{Rose, CountedAtMost}
use Rattle.ts_to_js.specs.declared.error.TsError.{TsError}
use Rattle.ts_to_js.specs.declared.error.TsError.TheVariants as error
use Rattle.ts_to_js.specs.declared.program.TheConstants.{DONE, REFUSED, BAD_WORD, READ_FAULT, WRITE_FAULT, NO_MEMORY}
use Rattle.ts_to_js.specs.Conversion.{IsConverted, byte_limit}
use Rattle.ts_to_js.specs.Headline.{IsValid, IsConversion}
use Rattle.ts_to_js.specs.Lines.{fault_line, bad_word_line}

-- what a run comes to where no device fails and memory is there: its status, the text for standard output, the line for standard error
pub record Expected : Type 0 where
  pub status : ℕ
  pub text : List ℕ
  pub line : List ℕ

abbrev pub expected_of : Result (List ℕ) TsError → Expected
expected_of (Ok text) = record { status = DONE; text = text; line = [] }
expected_of (Err refusal) = record { status = REFUSED; text = []; line = fault_line refusal }

-- of a bad word, if there is one, and what the bytes that are read are converted to
abbrev pub expected : Option (List ℕ) → Result (List ℕ) TsError → Expected
expected None answer = expected_of answer
expected (Some word) answer = record { status = BAD_WORD; text = []; line = bad_word_line word }

-- how many contexts a run has
abbrev pub contexts_of_a_run : ℕ
contexts_of_a_run = 4294967295

-- these are enough: no bytes are refused for want of them
abbrev pub NoRunIsSpent : Type 0
NoRunIsSpent = (config : Config) (src : List ℕ) (answer : Result (List ℕ) TsError) → IsConverted config contexts_of_a_run src answer → answer ≢ Err error.Spent

-- the bytes that a run reads of those that a source has left: one more than a module may have, if there are so many
abbrev pub first_read : List ℕ → List ℕ
first_read left = take (byte_limit + 1) left

-- what a sink shows: the bytes that it has taken, where it tells them, and how often it has failed and was called
pub record Seen : Type 0 where
  pub taken : Option (List ℕ)
  pub faults : ℕ
  pub calls : ℕ

abbrev pub seen : {K : Type 0} → (K → Option (List ℕ)) → (K → ℕ) → (K → ℕ) → K → Seen
seen taken faults calls sink = record { taken = taken sink; faults = faults sink; calls = calls sink }

-- the status is the expected one, but for a fault or want of memory
abbrev pub EndsWith : ℕ → ℕ → Type 0
EndsWith expected status =
    (status ≡ expected) ⊎ ((status ≡ READ_FAULT) × (expected ≢ BAD_WORD)) ⊎ ((status ≡ WRITE_FAULT) × (expected ≡ DONE)) ⊎ (status ≡ NO_MEMORY)

-- the status of a run that wrote its text
abbrev pub written_status : {T : Type 0} → Result T SinkError → ℕ
written_status (Ok x) = DONE
written_status (Err Failed) = WRITE_FAULT
written_status (Err NoMemory) = NO_MEMORY

-- the status of a run that wrote its line
abbrev pub reported_status : {T : Type 0} → Result T SinkError → ℕ → ℕ
reported_status (Ok x) status = status
reported_status (Err Failed) status = status
reported_status (Err NoMemory) status = NO_MEMORY

-- a sink was called at most so often as there are bytes for it, and took these from the front
pub record TakesFront (before after : Seen) (bytes : List ℕ) : Type 0 where
  pub front : (n : ℕ) × (after.taken ≡ append_known before.taken (take n bytes))
  pub calls : CountedAtMost before.calls after.calls (length bytes)

-- it took all of them
abbrev pub TakesAll : Seen → Seen → List ℕ → Type 0
TakesAll before after bytes = after.taken ≡ append_known before.taken bytes

-- A run ended with a status; `out` and `err` are the sinks as they were, `out'` and `err'` as they are then.
pub record Ran (x : Expected) (status : ℕ) (out out' err err' : Seen) : Type 0 where
  pub ends : EndsWith x.status status
  pub out_front : TakesFront out out' x.text
  pub out_all : status ≡ DONE → TakesAll out out' x.text
  pub out_same : (status ≡ REFUSED) ⊎ (status ≡ BAD_WORD) ⊎ (status ≡ READ_FAULT) → out' ≡ out
  pub err_front : TakesFront err err' x.line
  pub err_all : (status ≡ REFUSED) ⊎ (status ≡ BAD_WORD) → ¬ (Rose err.faults err'.faults) → TakesAll err err' x.line
  pub err_still : status ≡ NO_MEMORY → err'.faults ≡ err.faults
  pub err_same : (status ≡ DONE) ⊎ (status ≡ READ_FAULT) ⊎ (status ≡ WRITE_FAULT) → err' ≡ err

-- a refusal was told on `err`: a line, and the status of a refused run, or for want of memory nothing
abbrev pub Refuses : TsError → ℕ → Seen → Seen → Type 0
Refuses error.NoMemory status err err' = (status ≡ NO_MEMORY) × (err' ≡ err)
Refuses refusal status err err' = (out : Seen) → Ran (expected_of (Err refusal)) status out out err err'

-- memory ran out before anything was written
abbrev pub IsUnwritten : ℕ → Seen → Seen → Seen → Seen → Type 0
IsUnwritten status out out' err err' = (status ≡ NO_MEMORY) × (out' ≡ out) × (err' ≡ err)

-- what is expected of a run is what its bytes are converted to, unless nothing came of them: reading failed, or memory ran out before anything was written
abbrev pub IsExpectedOf : Config → List ℕ → Result (List ℕ) TsError → ℕ → Seen → Seen → Seen → Seen → Type 0
IsExpectedOf config src answer status out out' err err' =
    IsConverted config contexts_of_a_run src answer ⊎ (status ≡ READ_FAULT) ⊎ IsUnwritten status out out' err err'

-- a run without a bad word, by these options and on these bytes, ended so
abbrev pub IsRunOf : Config → List ℕ → ℕ → Seen → Seen → Seen → Seen → Type 0
IsRunOf config src status out out' err err' =
    (answer : Result (List ℕ) TsError) × IsExpectedOf config src answer status out out' err err' × Ran (expected_of answer) status out out' err err'

-- A run of the program: by the options that its words name, of a bad word, if there is one, and a source with these bytes left, where it tells them.
-- The faults are those that the source and the output counted in the run.
pub record IsRun (config : Config) (bad : Option (List ℕ)) (left : Option (List ℕ)) (status : ℕ) (read_fault write_fault : Type 0) (out out' err err' : Seen) : Type 0 where
  -- the bytes that are read: all that the source had left, or the first of them
  pub src : List ℕ
  pub is_read : IfSome left (λ all. src ≡ first_read all)
  -- what they are converted to
  pub answer : Result (List ℕ) TsError
  pub is_expected : bad ≡ None → IsExpectedOf config src answer status out out' err err'
  -- status, output and errors are those expected of the word and of that
  pub ran : Ran (expected bad answer) status out out' err err'
  -- where the run is done, what the output took is a conversion of these bytes
  pub converts : status ≡ DONE → IsConversion config contexts_of_a_run src (expected bad answer).text
  -- no module is refused for want of contexts: the line of a refusal is another
  pub enough : status ≡ REFUSED → (expected bad answer).line ≢ fault_line error.Spent
  -- a valid module is not refused, and without a bad word and a fault it is converted, unless memory runs out
  pub refuses : status ≡ REFUSED → IsValid config contexts_of_a_run src → ⊥
  pub complete : bad ≡ None → IsValid config contexts_of_a_run src → ¬ read_fault → ¬ write_fault → (status ≡ DONE) ⊎ (status ≡ NO_MEMORY)
