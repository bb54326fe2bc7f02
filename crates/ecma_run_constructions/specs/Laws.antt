-- What the functions of a program construct.
use Rattle.std.specs.Prelude.{◌≡◌, ℕ, Bool, List, true, false}
use Rattle.ecma_runs.specs.Values.{Value, Own, Host}
use Rattle.ecma_runs.specs.State.{State}
use Rattle.ecma_runs.specs.Run.{Done, Run}
use Rattle.ecma_runs.specs.Host.{Provided}
use Rattle.ecma_runs.specs.Meaning.{Invocation, AsConstruct, Known}
use Rattle.ecma_runs.specs.Evaluation.{calls, invoke}

-- an object of the program, or a host value
abbrev pub is_object : Value → Bool
is_object (Own place) = true
is_object (Host number) = true
is_object v = false

-- each construction that gives a value gives an object, from whatever state (ECMAScript, 10.2.2 [[Construct]])
abbrev pub GivesObjects : (ℕ → Invocation → List Value → Run Value) → Type 0
GivesObjects invoke = (place new_target : ℕ) (arguments : List Value) (s t : State) (v : Value) → invoke place (AsConstruct new_target) arguments s ≡ Done v t → is_object v ≡ true

-- so it is of the functions of a module, however deep calls stand
pub record ConstructionsGiveObjects : Type 0 where
  pub in_module : (provided : Provided) (known : Known) → GivesObjects (invoke provided known)
  pub deeper : (provided : Provided) (known : Known) (depth : ℕ) → GivesObjects (calls provided known depth)
