-- What is remembered of attempts that failed: an entry says what that reading comes to.
use Rattle.std.specs.Prelude.{◌≡◌, ◌≤◌, ℕ, Bool, List, Option, Some}
use Rattle.std.specs.HashMap.{get}
use Rattle.ecma_grammar.specs.declared.production.Mode.{Mode}
use Rattle.ecma_grammar.specs.Reading.{fails}
use Rattle.ecma_grammar.specs.Reads.{reads_with_types, levels_with_types}
use Rattle.ecma_reader.specs.declared.reader.memo.Trial.{Trial}
use Rattle.ecma_reader.specs.declared.reader.memo.Refusal.{Refusal}
use Rattle.ecma_reader.specs.declared.reader.memo.Memo.{Memo}
use Rattle.ecma_reader.specs.contracts.reader.memo.TrialPartialEq.TheImpl as trial_eq
use Rattle.ecma_reader.specs.Attempts.{attempted}

abbrev pub same_trial : Trial → Trial → Bool
same_trial = (trial_eq.ghosts).eq

-- how a trial failed, if it is remembered
abbrev pub refusal_of : Memo → Trial → Option Refusal
refusal_of memo trial = get same_trial memo.trials trial

-- where so many levels or more are allowed, and terminals have failed so far or further, the trial fails, and no further
abbrev pub IsRemembered : List ℕ → Mode → Trial → Refusal → Type 0
IsRemembered text mode trial refusal =
    (left failed : ℕ) → refusal.left ≤ left → refusal.at ≤ failed
    → reads_with_types text mode (levels_with_types text mode left) (attempted trial.attempt) (record { place = trial.place; failed = failed }) ≡ fails failed

abbrev pub Remembers : List ℕ → Mode → Memo → Type 0
Remembers text mode memo = (trial : Trial) (refusal : Refusal) → refusal_of memo trial ≡ Some refusal → IsRemembered text mode trial refusal
