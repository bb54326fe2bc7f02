-- The host: values that go to it and come from it, its events and answers. All of it is this project's own.
use Rattle.std.specs.Prelude.{ℕ, ◌^◌, List, [], ◌∷◌, ◌++◌, length, Option, Some, None, nat_eq, nat_lt, slice_get, if◌then◌else◌, bytes_eq, codes, Bool, ◌&&◌, ◌||◌}
use Rattle.std.specs.List.{position}
use Rattle.ecma_number.specs.declared.js_number.JsNumber.TheVariants as js_number
use Rattle.ecma_runs.specs.declared.observation.Event.{Event}
use Rattle.ecma_runs.specs.declared.script.Answer.{Answer}
use Rattle.ecma_runs.specs.declared.script.Answer.TheVariants as answer
use Rattle.ecma_runs.specs.declared.script.FreeValue.{FreeValue}
use Rattle.ecma_runs.specs.declared.script.ImportValue.{ImportValue}
use Rattle.ecma_runs.specs.declared.script.Script.{Script}
use Rattle.ecma_runs.specs.declared.shown.Shown.{Shown}
use Rattle.ecma_runs.specs.declared.shown.Shown.TheVariants as shown
use Rattle.ecma_runs.specs.Values.{Value, Undefined, Null, Truth, Number, Text, Own, Host, Error}
use Rattle.ecma_runs.specs.Run.{Done, AnswersSpent, Ended, Run, ◌>>=◌, give, throw, outside, reference_error, when}

-- what a script provides for names
pub record Provided : Type 0 where
  pub imports : List ImportValue
  pub frees : List FreeValue
  -- the text of `import.meta.url`
  pub meta_url : List ℕ

abbrev pub provided_by : Script → Provided
provided_by script = record { imports = script.imports; frees = script.frees; meta_url = script.meta_url }

-- the object that was shown under a number; open where none was
abbrev pub own_at : Option ℕ → Run Value
own_at (Some place) = give (Own place)
own_at None = outside

abbrev pub handled : ℕ → Run Value
handled number s = own_at (slice_get s.handles number) s

-- a value of the script, at its use
abbrev pub taken : Shown → Run Value
taken shown.Undefined = give Undefined
taken shown.Null = give Null
taken (shown.Bool truth) = give (Truth truth)
taken (shown.Num number) = give (Number number)
taken (shown.Text text) = give (Text text)
taken (shown.Host number) = give (Host number)
taken (shown.Handle number) = handled number
taken (shown.Error error_kind) = give (Error error_kind)

-- an object gets the next number, if one is left
abbrev pub number_own : ℕ → Run Shown
number_own place s = when (nat_lt (length s.handles) (2 ^ 32)) (λ t. Done (shown.Handle (length s.handles)) (record t { handles = s.handles ++ place ∷ [] })) outside s

abbrev pub show_own : ℕ → Option ℕ → Run Shown
show_own place (Some number) = give (shown.Handle number)
show_own place None = number_own place

abbrev pub show_object : ℕ → Run Shown
show_object place s = show_own place (position (nat_eq place) s.handles) s

-- a value as the host sees it
abbrev pub show : Value → Run Shown
show Undefined = give shown.Undefined
show Null = give shown.Null
show (Truth truth) = give (shown.Bool truth)
show (Number number) = give (shown.Num number)
show (Text text) = give (shown.Text text)
show (Own place) = show_object place
show (Host number) = give (shown.Host number)
show (Error error_kind) = give (shown.Error error_kind)

-- the value that the script gives for an import
abbrev pub import_value : List ImportValue → List ℕ → List ℕ → Option Shown
import_value [] source name = None
import_value (value ∷ values) source name = (if bytes_eq value.source source && bytes_eq value.name name then Some value.value else import_value values source name)

abbrev pub taken_if : Option Shown → Run Value
taken_if None = outside
taken_if (Some value) = taken value

-- what the host answers: a value, or that it throws one
abbrev pub answered : Answer → Run Value
answered (answer.Return v) = taken v
answered (answer.Throw v) = taken v >>= λ w. throw w

-- the next answer is taken
abbrev pub answer_from : List Answer → Run Value
answer_from [] s = Ended AnswersSpent s
answer_from (first ∷ rest) s = answered first (record s { answers = rest })

abbrev pub next_answer : Run Value
next_answer s = answer_from s.answers s

abbrev pub add_event : Event → Run (Unit {0})
add_event event s = Done tt (record s { events = s.events ++ event ∷ [] })

-- a use of a host value: its event, and the next answer
abbrev pub use_host : Event → Run Value
use_host event = add_event event >>= λ _. next_answer

-- the value that the script gives for a free name: of two for one name the first counts
abbrev pub free_value : List FreeValue → List ℕ → Option Shown
free_value [] name = None
free_value (free ∷ rest) name = (if bytes_eq free.name name then Some free.value else free_value rest name)

-- the free names with a fixed value (ECMAScript, 19.1 Value Properties of the Global Object)
abbrev pub fixed_value : List ℕ → Option Value
fixed_value name =
    (if bytes_eq name (codes "undefined") then Some Undefined else
    if bytes_eq name (codes "NaN") then Some (Number js_number.NaN) else
    if bytes_eq name (codes "Infinity") then Some (Number js_number.Infinity) else None)

-- a fixed value; else the script's; else a ReferenceError (6.2.5.5 GetValue)
abbrev pub free_or : Option Value → Option Shown → Run Value
free_or (Some v) value = give v
free_or None (Some value) = taken value
free_or None None = reference_error

abbrev pub read_free : List FreeValue → List ℕ → Run Value
read_free frees name = free_or (fixed_value name) (free_value frees name)

-- what `typeof` tells of a free name without value (13.5.3.1)
abbrev pub free_or_undefined : Option Value → Option Shown → Run Value
free_or_undefined None None = give Undefined
free_or_undefined fixed value = free_or fixed value

-- a free name under `typeof`: it throws no ReferenceError
abbrev pub read_free_typed : List FreeValue → List ℕ → Run Value
read_free_typed frees name = free_or_undefined (fixed_value name) (free_value frees name)

-- the free names that are open as the object of a member and as the operand of `new`
abbrev pub is_open_object : List ℕ → Bool
is_open_object name = bytes_eq name (codes "Math") || bytes_eq name (codes "Date")

-- the free names that are open as a callee
abbrev pub is_open_callee : List ℕ → Bool
is_open_callee name = is_open_object name || bytes_eq name (codes "eval")
