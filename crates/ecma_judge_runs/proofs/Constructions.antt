-- What constructions give is an object, where it is so of the functions of the program.
use Rattle.std.proofs.Common.{◌≡◌, refl, ℕ, List, Option, Some, None, true, ◌++◌, cond, nat_eq}
use Rattle.ecma_number.specs.declared.types.JsType.TheVariants as js_type
use Rattle.ecma_runs.specs.declared.observation.Event.TheVariants as event
use Rattle.ecma_runs.specs.Values.{Value, Own, Host, Error, truth_of}
use Rattle.ecma_runs.specs.State.{Sort, Method, Arrow, State}
use Rattle.ecma_runs.specs.Run.{Outcome, Done, Thrown, Returned, Broken, Continued, Ended, each}
use Rattle.ecma_runs.specs.Host.{show, use_host}
use Rattle.ecma_runs.specs.Meaning.{AsConstruct, ExecutionContext}
use Rattle.ecma_runs.specs.Objects.{Calling, Function, BoundFunction, calling_at}
use Rattle.ecma_runs.specs.Functions.{constructed, construct_function, construct_target, construct_calling, construct}
use Rattle.ecma_judge_runs.proofs.Lone.{lone}
use Rattle.ecma_judge_runs.specs.Known.{is_of_type, ConstructsObjects}
use Rattle.ecma_judge_runs.proofs.Giving.{Gave, GivesBy, then_gives, give_gives, throw_gives, outside_gives}

abbrev pub IsObject : Value → Type 0
IsObject v = is_of_type js_type.Obj v ≡ true

pub object_is_true : (v : Value) → IsObject v → truth_of v ≡ true
object_is_true (Own place) is = refl
object_is_true (Host number) is = refl
object_is_true (Error error_kind) is = refl
object_is_true v is = absurd (cc)

gave_of : (P : Value → Type 0) (r : Outcome Value) → ((v : Value) (t : State) → r ≡ Done v t → P v) → Gave P r
gave_of P (Done v t) h = h v t refl
gave_of P (Thrown v t) h = tt
gave_of P (Returned v t) h = tt
gave_of P (Broken t) h = tt
gave_of P (Continued t) h = tt
gave_of P (Ended why t) h = tt

constructed_gives : (v : Value) → GivesBy IsObject (constructed v)
constructed_gives (Own place) = give_gives (Own place) refl
constructed_gives (Host number) = give_gives (Host number) refl
constructed_gives v = outside_gives

module _ (x : ExecutionContext) (objects : ConstructsObjects (lone x)) (new_target : ℕ) where
  invoke_gives : (place : ℕ) (arguments : List Value) → GivesBy IsObject (x.functions.invoke place (AsConstruct new_target) arguments)
  invoke_gives place arguments =
      record { at = λ s. gave_of IsObject (x.functions.invoke place (AsConstruct new_target) arguments s) (λ v t is. objects place new_target arguments s t v is) }

  function_gives : (place : ℕ) (arguments : List Value) (sort : Sort) → GivesBy IsObject (construct_function (lone x) place new_target arguments sort)
  function_gives place arguments Method = throw_gives _
  function_gives place arguments Arrow = throw_gives _
  function_gives place arguments sort = invoke_gives place arguments

  target_gives : (place : ℕ) (arguments : List Value) (o : Option Calling) → GivesBy IsObject (construct_target (lone x) place new_target arguments o)
  target_gives place arguments (Some (Function sort)) = function_gives place arguments sort
  target_gives place arguments o = outside_gives

module _ (x : ExecutionContext) (objects : ConstructsObjects (lone x)) where
  calling_gives : (place new_target : ℕ) (arguments : List Value) (o : Option Calling) → GivesBy IsObject (construct_calling (lone x) place new_target arguments o)
  calling_gives place new_target arguments None = throw_gives _
  calling_gives place new_target arguments (Some (Function sort)) = function_gives (lone x) objects new_target place arguments sort
  calling_gives place new_target arguments (Some (BoundFunction target this given)) =
      then_gives (calling_at target) (λ o. target_gives (lone x) objects (cond (nat_eq place new_target) target new_target) target (given ++ arguments) o)

  pub construct_gives : (f : Value) (arguments : List Value) → GivesBy IsObject (construct (lone x) f arguments)
  construct_gives (Own place) arguments = then_gives (calling_at place) (λ o. calling_gives place place arguments o)
  construct_gives (Host number) arguments = then_gives (each show arguments) (λ shown. then_gives (use_host (event.HostNew number shown)) (λ v. constructed_gives v))
  construct_gives (Error error_kind) arguments = outside_gives
  construct_gives f arguments = throw_gives _
