-- Runs, and what every evaluation is written in.
use Rattle.std.specs.Prelude.{ℕ, zero, suc, List, [], ◌∷◌, Option, Some, None, Bool, true, false}
use Rattle.ecma_runs.specs.declared.shown.ErrorKind.TheVariants as error
use Rattle.ecma_runs.specs.Values.{Value, Error}
use Rattle.ecma_runs.specs.State.{State}

-- why a run stops for good: these are this project's own
pub data Stop : Type 0 where
  TurnsSpent : Stop
  AnswersSpent : Stop
  -- it met something that the described language leaves open
  Outside : Stop

-- how a part of a run comes out (6.2.4 The Completion Record Specification Type), or that the run stops there
pub data Outcome (A : Type 0) : Type 0 where
  Done : A → State → Outcome A
  Thrown : Value → State → Outcome A
  Returned : Value → State → Outcome A
  Broken : State → Outcome A
  Continued : State → Outcome A
  Ended : Stop → State → Outcome A

-- a part of a run that gives an A
abbrev pub Run : Type 0 → Type 0
Run A = State → Outcome A

abbrev pub then_outcome : {A B : Type 0} → Outcome A → (A → Run B) → Outcome B
then_outcome (Done a s) rest = rest a s
then_outcome (Thrown v s) rest = Thrown v s
then_outcome (Returned v s) rest = Returned v s
then_outcome (Broken s) rest = Broken s
then_outcome (Continued s) rest = Continued s
then_outcome (Ended stop s) rest = Ended stop s

-- one part, then the rest, which has what the part gave (5.2.3.4 ReturnIfAbrupt)
infixl 10 ◌>>=◌
abbrev pub ◌>>=◌ : {A B : Type 0} → Run A → (A → Run B) → Run B
(part >>= rest) s = then_outcome (part s) rest

abbrev pub give : {A : Type 0} → A → Run A
give a s = Done a s

abbrev pub throw : {A : Type 0} → Value → Run A
throw v s = Thrown v s

abbrev pub return : {A : Type 0} → Value → Run A
return v s = Returned v s

abbrev pub break : {A : Type 0} → Run A
break s = Broken s

abbrev pub continue : {A : Type 0} → Run A
continue s = Continued s

abbrev pub stop : {A : Type 0} → Stop → Run A
stop why s = Ended why s

-- what is open
abbrev pub outside : {A : Type 0} → Run A
outside = stop Outside

abbrev pub reference_error : {A : Type 0} → Run A
reference_error = throw (Error error.Reference)

abbrev pub type_error : {A : Type 0} → Run A
type_error = throw (Error error.Kind)

abbrev pub when : {A : Type 0} → Bool → Run A → Run A → Run A
when true yes' no' = yes'
when false yes' no' = no'

-- what may be missing
abbrev pub given_or : {A : Type 0} → Option A → Run A → Run A
given_or (Some a) missing = give a
given_or None missing = missing

-- what may be missing, and is open then
abbrev pub given : {A : Type 0} → Option A → Run A
given o = given_or o outside

-- one after the other, with what each gave
abbrev pub each : {A B : Type 0} → (A → Run B) → List A → Run (List B)
each run [] = give []
each run (a ∷ rest) = run a >>= λ b. each run rest >>= λ bs. give (b ∷ bs)

-- parts whose outcome is taken another way

abbrev pub catch_outcome : {A : Type 0} → Outcome A → (Value → Run A) → Outcome A
catch_outcome (Done a s) handler = Done a s
catch_outcome (Thrown v s) handler = handler v s
catch_outcome (Returned v s) handler = Returned v s
catch_outcome (Broken s) handler = Broken s
catch_outcome (Continued s) handler = Continued s
catch_outcome (Ended why s) handler = Ended why s

-- what is thrown goes to a handler (14.15.3, of `catch`)
abbrev pub catching : {A : Type 0} → Run A → (Value → Run A) → Run A
catching part handler s = catch_outcome (part s) handler

abbrev pub finally_outcome : {A : Type 0} → Outcome A → Run (Unit {0}) → Outcome A
finally_outcome (Done a s) last = (last >>= λ _. give a) s
finally_outcome (Thrown v s) last = (last >>= λ _. throw v) s
finally_outcome (Returned v s) last = (last >>= λ _. return v) s
finally_outcome (Broken s) last = (last >>= λ _. break) s
finally_outcome (Continued s) last = (last >>= λ _. continue) s
finally_outcome (Ended why s) last = Ended why s

-- however a part comes out, the last part follows, and goes before if it does not complete (14.15.3, of `finally`)
abbrev pub finally : {A : Type 0} → Run A → Run (Unit {0}) → Run A
finally part last s = finally_outcome (part s) last

abbrev pub round_outcome : Outcome (Unit {0}) → Outcome (Unit {0})
round_outcome (Done a s) = Done a s
round_outcome (Thrown v s) = Thrown v s
round_outcome (Returned v s) = Returned v s
round_outcome (Broken s) = Broken s
round_outcome (Continued s) = Done tt s
round_outcome (Ended why s) = Ended why s

-- a round of a loop: `continue` ends it (14.7.1.1 LoopContinues)
abbrev pub round : Run (Unit {0}) → Run (Unit {0})
round body s = round_outcome (body s)

abbrev pub loop_outcome : Outcome (Unit {0}) → Outcome (Unit {0})
loop_outcome (Done a s) = Done a s
loop_outcome (Thrown v s) = Thrown v s
loop_outcome (Returned v s) = Returned v s
loop_outcome (Broken s) = Done tt s
loop_outcome (Continued s) = Continued s
loop_outcome (Ended why s) = Ended why s

-- a loop: `break` ends it (14.1.1)
abbrev pub loop : Run (Unit {0}) → Run (Unit {0})
loop rounds s = loop_outcome (rounds s)

abbrev pub body_outcome : {A : Type 0} → (A → Value) → Outcome A → Outcome Value
body_outcome completed (Done a s) = Done (completed a) s
body_outcome completed (Thrown v s) = Thrown v s
body_outcome completed (Returned v s) = Done v s
body_outcome completed (Broken s) = Ended Outside s
body_outcome completed (Continued s) = Ended Outside s
body_outcome completed (Ended why s) = Ended why s

-- what the body of a function gives to its caller (10.2.1 [[Call]]); `break` and `continue` that nothing encloses are open
abbrev pub returned_by : {A : Type 0} → (A → Value) → Run A → Run Value
returned_by completed body s = body_outcome completed (body s)

-- turns

abbrev pub spend_of : ℕ → Run (Unit {0})
spend_of zero s = Ended TurnsSpent s
spend_of (suc left) s = Done tt (record s { turns = left })

-- a turn is spent: this project's own
abbrev pub spend : Run (Unit {0})
spend s = spend_of s.turns s

-- the element at a place is changed
abbrev pub changed_at : {A : Type 0} → (A → A) → ℕ → List A → List A
changed_at f n [] = []
changed_at f zero (x ∷ xs) = f x ∷ xs
changed_at f (suc n) (x ∷ xs) = x ∷ changed_at f n xs
