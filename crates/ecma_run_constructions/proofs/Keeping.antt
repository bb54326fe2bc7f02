-- Runs that keep it so that `this` of a record, where there is one, is an object. One lemma a combinator.
use Rattle.std.proofs.Common.{◌≡◌, sym, subst, ℕ, zero, suc, List, [], ◌∷◌, ◌++◌, Option, Some, None, Bool, true, false, slice_get}
use Rattle.ecma_runs.specs.Values.{Value}
use Rattle.ecma_runs.specs.State.{Activation, Environment, State}
use Rattle.ecma_runs.specs.Run.{Stop, Outside, Outcome, Done, Thrown, Returned, Broken, Continued, Ended, Run, then_outcome, ◌>>=◌, give, throw, return, break, continue, stop, outside, when, given_or, given, each, catch_outcome, catching, finally_outcome, finally, round_outcome, round, loop_outcome, loop, body_outcome, returned_by, spend_of, spend, changed_at}
use Rattle.ecma_runs.specs.Environment.{activation_in, with_activation}
use Rattle.ecma_runs.specs.Laws.{state_behind}
use Rattle.ecma_run_constructions.specs.Laws.{is_object}

-- ---- records

abbrev pub IsObject : Value → Type 0
IsObject v = is_object v ≡ true

abbrev pub ThisIsObject : Option Value → Type 0
ThisIsObject None = Unit {0}
ThisIsObject (Some v) = IsObject v

abbrev pub Fits : Option Activation → Type 0
Fits None = Unit {0}
Fits (Some a) = ThisIsObject a.this

-- the record at a place is there, and its `this` is an object, unless there is none
abbrev pub Fine : List Environment → ℕ → Type 0
Fine [] place = ⊥
Fine (e ∷ es) zero = Fits e.activation
Fine (e ∷ es) (suc place) = Fine es place

pub fine_append : (es more : List Environment) (place : ℕ) → Fine es place → Fine (es ++ more) place
fine_append (e ∷ es) more zero h = h
fine_append (e ∷ es) more (suc place) h = fine_append es more place h
fine_append [] more place h = absurd h

pub fine_changed : (f : Environment → Environment) → ((e : Environment) → Fits e.activation → Fits (f e).activation) → (at : ℕ) (es : List Environment) (place : ℕ) → Fine es place → Fine (changed_at f at es) place
fine_changed f keeps at [] place h = absurd h
fine_changed f keeps zero (e ∷ es) zero h = keeps e h
fine_changed f keeps zero (e ∷ es) (suc place) h = h
fine_changed f keeps (suc at) (e ∷ es) zero h = h
fine_changed f keeps (suc at) (e ∷ es) (suc place) h = fine_changed f keeps at es place h

-- the record at a place has this activation
abbrev pub Has : List Environment → ℕ → Activation → Type 0
Has es place a = activation_in (slice_get es place) ≡ Some a

-- it may get another with the same `this`
pub fine_same : (a b : Activation) → b.this ≡ a.this → (at : ℕ) (es : List Environment) (place : ℕ) → Has es at a → Fine es place → Fine (changed_at (with_activation b) at es) place
fine_same a b same at [] place has h = absurd h
fine_same a b same zero (e ∷ es) zero has h = subst ThisIsObject (sym same) (subst Fits has h)
fine_same a b same zero (e ∷ es) (suc place) has h = h
fine_same a b same (suc at) (e ∷ es) zero has h = h
fine_same a b same (suc at) (e ∷ es) (suc place) has h = fine_same a b same at es place has h

-- ---- states

-- what was so of a record still is
abbrev pub Held : State → State → Type 0
Held s t = (place : ℕ) → Fine s.environments place → Fine t.environments place

pub record Keeps {A : Type 0} (m : Run A) : Type 0 where
  pub at : (s : State) → Held s (state_behind (m s))

-- ---- combinators

then_held : {A B : Type 0} (k : A → Run B) → ((a : A) → Keeps (k a)) → (s : State) (r : Outcome A) → Held s (state_behind r) → Held s (state_behind (then_outcome r k))
then_held k h s (Done a t) g = λ place f. (h a).at t place (g place f)
then_held k h s (Thrown v t) g = g
then_held k h s (Returned v t) g = g
then_held k h s (Broken t) g = g
then_held k h s (Continued t) g = g
then_held k h s (Ended why t) g = g

pub bind : {A B : Type 0} {m : Run A} {k : A → Run B} → Keeps m → ((a : A) → Keeps (k a)) → Keeps (m >>= k)
bind {m = m} {k = k} hm hk = record { at = λ s. then_held k hk s (m s) (hm.at s) }

pub give_keeps : {A : Type 0} (a : A) → Keeps (give a)
give_keeps a = record { at = λ s place f. f }

pub throw_keeps : {A : Type 0} (v : Value) → Keeps (throw {A = A} v)
throw_keeps v = record { at = λ s place f. f }

pub return_keeps : {A : Type 0} (v : Value) → Keeps (return {A = A} v)
return_keeps v = record { at = λ s place f. f }

pub break_keeps : {A : Type 0} → Keeps (break {A = A})
break_keeps = record { at = λ s place f. f }

pub continue_keeps : {A : Type 0} → Keeps (continue {A = A})
continue_keeps = record { at = λ s place f. f }

pub stop_keeps : {A : Type 0} (why : Stop) → Keeps (stop {A = A} why)
stop_keeps why = record { at = λ s place f. f }

pub outside_keeps : {A : Type 0} → Keeps (outside {A = A})
outside_keeps = stop_keeps Outside

pub when_keeps : {A : Type 0} (b : Bool) {m k : Run A} → Keeps m → Keeps k → Keeps (when b m k)
when_keeps true hm hk = hm
when_keeps false hm hk = hk

pub given_or_keeps : {A : Type 0} (o : Option A) {m : Run A} → Keeps m → Keeps (given_or o m)
given_or_keeps (Some a) h = give_keeps a
given_or_keeps None h = h

pub given_keeps : {A : Type 0} (o : Option A) → Keeps (given o)
given_keeps o = given_or_keeps o outside_keeps

pub each_keeps : {A B : Type 0} (run : A → Run B) → ((a : A) → Keeps (run a)) → (items : List A) → Keeps (each run items)
each_keeps run h [] = give_keeps []
each_keeps run h (a ∷ items) = bind (h a) (λ b. bind (each_keeps run h items) (λ bs. give_keeps (b ∷ bs)))

catch_held : {A : Type 0} (k : Value → Run A) → ((v : Value) → Keeps (k v)) → (s : State) (r : Outcome A) → Held s (state_behind r) → Held s (state_behind (catch_outcome r k))
catch_held k h s (Done a t) g = g
catch_held k h s (Thrown v t) g = λ place f. (h v).at t place (g place f)
catch_held k h s (Returned v t) g = g
catch_held k h s (Broken t) g = g
catch_held k h s (Continued t) g = g
catch_held k h s (Ended why t) g = g

pub catching_keeps : {A : Type 0} {m : Run A} {k : Value → Run A} → Keeps m → ((v : Value) → Keeps (k v)) → Keeps (catching m k)
catching_keeps {m = m} {k = k} hm hk = record { at = λ s. catch_held k hk s (m s) (hm.at s) }

-- a run with its end changed: the state is the same
finally_held : {A : Type 0} {last : Run (Unit {0})} → Keeps last → (s : State) (r : Outcome A) → Held s (state_behind r) → Held s (state_behind (finally_outcome r last))
finally_held {A} h s (Done a t) g = λ place f. (bind h (λ _. give_keeps a)).at t place (g place f)
finally_held {A} h s (Thrown v t) g = λ place f. (bind h (λ _. throw_keeps {A = A} v)).at t place (g place f)
finally_held {A} h s (Returned v t) g = λ place f. (bind h (λ _. return_keeps {A = A} v)).at t place (g place f)
finally_held {A} h s (Broken t) g = λ place f. (bind h (λ _. break_keeps {A = A})).at t place (g place f)
finally_held {A} h s (Continued t) g = λ place f. (bind h (λ _. continue_keeps {A = A})).at t place (g place f)
finally_held h s (Ended why t) g = g

pub finally_keeps : {A : Type 0} {m : Run A} {last : Run (Unit {0})} → Keeps m → Keeps last → Keeps (finally m last)
finally_keeps {m = m} hm h = record { at = λ s. finally_held h s (m s) (hm.at s) }

round_held : (s : State) (r : Outcome (Unit {0})) → Held s (state_behind r) → Held s (state_behind (round_outcome r))
round_held s (Done a t) g = g
round_held s (Thrown v t) g = g
round_held s (Returned v t) g = g
round_held s (Broken t) g = g
round_held s (Continued t) g = g
round_held s (Ended why t) g = g

pub round_keeps : {m : Run (Unit {0})} → Keeps m → Keeps (round m)
round_keeps {m = m} h = record { at = λ s. round_held s (m s) (h.at s) }

pub loop_held : (s : State) (r : Outcome (Unit {0})) → Held s (state_behind r) → Held s (state_behind (loop_outcome r))
loop_held s (Done a t) g = g
loop_held s (Thrown v t) g = g
loop_held s (Returned v t) g = g
loop_held s (Broken t) g = g
loop_held s (Continued t) g = g
loop_held s (Ended why t) g = g

pub loop_keeps : {m : Run (Unit {0})} → Keeps m → Keeps (loop m)
loop_keeps {m = m} h = record { at = λ s. loop_held s (m s) (h.at s) }

body_held : {A : Type 0} (completed : A → Value) (s : State) (r : Outcome A) → Held s (state_behind r) → Held s (state_behind (body_outcome completed r))
body_held completed s (Done a t) g = g
body_held completed s (Thrown v t) g = g
body_held completed s (Returned v t) g = g
body_held completed s (Broken t) g = g
body_held completed s (Continued t) g = g
body_held completed s (Ended why t) g = g

pub returned_keeps : {A : Type 0} (completed : A → Value) {m : Run A} → Keeps m → Keeps (returned_by completed m)
returned_keeps completed {m = m} h = record { at = λ s. body_held completed s (m s) (h.at s) }

spend_held : (s : State) (left : ℕ) → Held s (state_behind (spend_of left s))
spend_held s zero = λ place f. f
spend_held s (suc left) = λ place f. f

pub spend_keeps : Keeps spend
spend_keeps = record { at = λ s. spend_held s s.turns }

-- ---- what a run gives

abbrev pub Gave : {A : Type 0} → (A → Type 0) → Outcome A → Type 0
Gave P (Done a s) = P a
Gave P r = Unit {0}

pub record Gives {A : Type 0} (P : A → Type 0) (m : Run A) : Type 0 where
  pub at : (s : State) → Gave P (m s)

then_gave : {A B : Type 0} (P : B → Type 0) (k : A → Run B) → ((a : A) → Gives P (k a)) → (r : Outcome A) → Gave P (then_outcome r k)
then_gave P k h (Done a s) = (h a).at s
then_gave P k h (Thrown v s) = tt
then_gave P k h (Returned v s) = tt
then_gave P k h (Broken s) = tt
then_gave P k h (Continued s) = tt
then_gave P k h (Ended why s) = tt

pub then_gives : {A B : Type 0} {P : B → Type 0} (m : Run A) (k : A → Run B) → ((a : A) → Gives P (k a)) → Gives P (m >>= k)
then_gives {P = P} m k h = record { at = λ s. then_gave P k h (m s) }

bound_held : {A B : Type 0} (P : A → Type 0) (k : A → Run B) → ((a : A) → P a → Keeps (k a)) → (s : State) (r : Outcome A) → Held s (state_behind r) → Gave P r → Held s (state_behind (then_outcome r k))
bound_held P k h s (Done a t) g p = λ place f. (h a p).at t place (g place f)
bound_held P k h s (Thrown v t) g p = g
bound_held P k h s (Returned v t) g p = g
bound_held P k h s (Broken t) g p = g
bound_held P k h s (Continued t) g p = g
bound_held P k h s (Ended why t) g p = g

-- what follows may rest on what is given
pub bind_given : {A B : Type 0} {P : A → Type 0} {m : Run A} {k : A → Run B} → Keeps m → Gives P m → ((a : A) → P a → Keeps (k a)) → Keeps (m >>= k)
bind_given {P = P} {m = m} {k = k} hm gm hk = record { at = λ s. bound_held P k hk s (m s) (hm.at s) (gm.at s) }
