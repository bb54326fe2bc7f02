-- What a conversion answers: the text or the refusal, unless memory ran out.
use Rattle.std.specs.Prelude.{◌≡◌, ℕ, List, Result, Ok, Err, Vec}
use Rattle.std.specs.declared.alloc.Global.{Global}
use Rattle.ts_to_js.specs.declared.error.TsError.{TsError}
use Rattle.ts_to_js.specs.declared.error.TsError.TheVariants as error

-- memory is taken on the way to all but the first two refusals
abbrev pub TakesMemory : Result (List ℕ) TsError → Type 0
TakesMemory (Err error.TooLong) = ⊥
TakesMemory (Err error.NotUtf8) = ⊥
TakesMemory answer = Unit {0}

abbrev pub Answers : Result (Vec ℕ Global) TsError → Result (List ℕ) TsError → Type 0
Answers (Ok text) answer = answer ≡ Ok text.items
Answers (Err error.NoMemory) answer = TakesMemory answer
Answers (Err refusal) answer = answer ≡ Err refusal

-- it answers what meets this; where memory ran out, what meets it takes memory
abbrev pub AnswersBy : Result (Vec ℕ Global) TsError → (Result (List ℕ) TsError → Type 0) → Type 0
AnswersBy (Ok text) Is = Is (Ok text.items)
AnswersBy (Err error.NoMemory) Is = (answer : Result (List ℕ) TsError) → Is answer → TakesMemory answer
AnswersBy (Err refusal) Is = Is (Err refusal)
