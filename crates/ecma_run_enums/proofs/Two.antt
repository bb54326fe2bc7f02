-- Two contexts that differ in what is known of enums alone.
use Rattle.std.proofs.Common.{◌≡◌, ap, ◌∙◌, List, map}
use Rattle.ecma_runs.specs.Values.{Value}
use Rattle.ecma_runs.specs.Run.{Run}
use Rattle.ecma_runs.specs.Enums.{Enums}
use Rattle.ecma_runs.specs.Meaning.{ExecutionContext, Meaning}
use Rattle.ecma_run_enums.specs.Asking.{knowing}
use Rattle.ecma_run_enums.specs.Laws.{MeansTheSame}

-- what is known of enums, and what else may be known
pub record Two : Type 0 where
  pub one : Enums
  pub other : Enums

abbrev pub first : Two → ExecutionContext → ExecutionContext
first t x = knowing t.one x

abbrev pub second : Two → ExecutionContext → ExecutionContext
second t x = knowing t.other x

-- a meaning that is the same in both
abbrev pub Part : Two → Type 0
Part t = (m : Meaning) × MeansTheSame t.one t.other m

abbrev pub meanings : (t : Two) → List (Part t) → List Meaning
meanings t ps = map (λ (p : Part t). p.0) ps

-- a target gets what the same run gives
pub assigned_by : (t : Two) (x : ExecutionContext) (target : Part t) {get get' : Run Value} → get ≡ get' → target.0.assigned get (first t x) ≡ target.0.assigned get' (second t x)
assigned_by t x target {get' = get'} is = ap (λ g. target.0.assigned g (first t x)) is ∙ target.1.assigned get' x
