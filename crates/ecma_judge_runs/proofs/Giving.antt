-- What runs give, where they give something. One lemma a combinator.
use Rattle.std.proofs.Common.{◌≡◌, refl, subst, Option, Some, None, Bool, true, false}
use Rattle.std.specs.Option.{option_map}
use Rattle.ecma_runs.specs.Values.{Value}
use Rattle.ecma_runs.specs.State.{State}
use Rattle.ecma_runs.specs.Run.{Outcome, Done, Thrown, Returned, Broken, Continued, Ended, Run, then_outcome, ◌>>=◌, give, throw, outside, when, given}

abbrev pub Gave : {A : Type 0} → (A → Type 0) → Outcome A → Type 0
Gave P (Done a s) = P a
Gave P (Thrown v s) = Unit {0}
Gave P (Returned v s) = Unit {0}
Gave P (Broken s) = Unit {0}
Gave P (Continued s) = Unit {0}
Gave P (Ended why s) = Unit {0}

pub record GivesBy {A : Type 0} (P : A → Type 0) (m : Run A) : Type 0 where
  pub at : (s : State) → Gave P (m s)

then_gave : {A B : Type 0} (P : A → Type 0) (Q : B → Type 0) (k : A → Run B) → ((a : A) → P a → GivesBy Q (k a)) → (r : Outcome A) → Gave P r → Gave Q (then_outcome r k)
then_gave P Q k h (Done a s) e = (h a e).at s
then_gave P Q k h (Thrown v s) e = tt
then_gave P Q k h (Returned v s) e = tt
then_gave P Q k h (Broken s) e = tt
then_gave P Q k h (Continued s) e = tt
then_gave P Q k h (Ended why s) e = tt

pub bind_gives : {A B : Type 0} {P : A → Type 0} {Q : B → Type 0} {m : Run A} {k : A → Run B} → GivesBy P m → ((a : A) → P a → GivesBy Q (k a)) → GivesBy Q (m >>= k)
bind_gives {P = P} {Q = Q} {m = m} {k = k} hm hk = record { at = λ s. then_gave P Q k hk (m s) (hm.at s) }

any_gave : {A : Type 0} (P : A → Type 0) → ((a : A) → P a) → (r : Outcome A) → Gave P r
any_gave P h (Done a s) = h a
any_gave P h (Thrown v s) = tt
any_gave P h (Returned v s) = tt
any_gave P h (Broken s) = tt
any_gave P h (Continued s) = tt
any_gave P h (Ended why s) = tt

-- whatever is given
pub any_gives : {A : Type 0} {P : A → Type 0} {m : Run A} → ((a : A) → P a) → GivesBy P m
any_gives {P = P} {m = m} h = record { at = λ s. any_gave P h (m s) }

-- whatever the first part gives
pub then_gives : {A B : Type 0} {Q : B → Type 0} (m : Run A) {k : A → Run B} → ((a : A) → GivesBy Q (k a)) → GivesBy Q (m >>= k)
then_gives m hk = bind_gives {P = λ a. Unit {0}} (any_gives (λ a. tt)) (λ a p. hk a)

weaker_gave : {A : Type 0} (P Q : A → Type 0) → ((a : A) → P a → Q a) → (r : Outcome A) → Gave P r → Gave Q r
weaker_gave P Q h (Done a s) e = h a e
weaker_gave P Q h (Thrown v s) e = tt
weaker_gave P Q h (Returned v s) e = tt
weaker_gave P Q h (Broken s) e = tt
weaker_gave P Q h (Continued s) e = tt
weaker_gave P Q h (Ended why s) e = tt

pub weaker_gives : {A : Type 0} {P Q : A → Type 0} {m : Run A} → ((a : A) → P a → Q a) → GivesBy P m → GivesBy Q m
weaker_gives {P = P} {Q = Q} {m = m} h hm = record { at = λ s. weaker_gave P Q h (m s) (hm.at s) }

pub give_gives : {A : Type 0} {P : A → Type 0} (a : A) → P a → GivesBy P (give a)
give_gives a p = record { at = λ s. p }

pub throw_gives : {A : Type 0} {P : A → Type 0} (v : Value) → GivesBy P (throw v)
throw_gives v = record { at = λ s. tt }

pub outside_gives : {A : Type 0} {P : A → Type 0} → GivesBy P outside
outside_gives = record { at = λ s. tt }

pub when_gives : {A : Type 0} {P : A → Type 0} (b : Bool) {m k : Run A} → GivesBy P m → GivesBy P k → GivesBy P (when b m k)
when_gives true hm hk = hm
when_gives false hm hk = hk

-- each way is taken only where it is
pub either_gives : {A : Type 0} {P : A → Type 0} (b : Bool) {m k : Run A} → (b ≡ true → GivesBy P m) → (b ≡ false → GivesBy P k) → GivesBy P (when b m k)
either_gives true hm hk = hm refl
either_gives false hm hk = hk refl

pub given_gives : {A : Type 0} {P : A → Type 0} (o : Option A) → ((a : A) → o ≡ Some a → P a) → GivesBy P (given o)
given_gives (Some a) h = give_gives a (h a refl)
given_gives None h = outside_gives

pub mapped_gives : {A B : Type 0} {P : B → Type 0} (f : A → B) (o : Option A) → ((a : A) → P (f a)) → GivesBy P (given (option_map f o))
mapped_gives f (Some a) h = give_gives (f a) (h a)
mapped_gives f None h = outside_gives

-- what was there to be mapped
pub mapped_by : {A B : Type 0} {P : B → Type 0} (f : A → B) (o : Option A) → ((a : A) → o ≡ Some a → P (f a)) → GivesBy P (given (option_map f o))
mapped_by f (Some a) h = give_gives (f a) (h a refl)
mapped_by f None h = outside_gives

both_gave : {A : Type 0} (P Q : A → Type 0) (r : Outcome A) → Gave P r → Gave Q r → Gave (λ a. P a × Q a) r
both_gave P Q (Done a s) h k = (h, k)
both_gave P Q (Thrown v s) h k = tt
both_gave P Q (Returned v s) h k = tt
both_gave P Q (Broken s) h k = tt
both_gave P Q (Continued s) h k = tt
both_gave P Q (Ended why s) h k = tt

pub both_give : {A : Type 0} {P Q : A → Type 0} {m : Run A} → GivesBy P m → GivesBy Q m → GivesBy (λ a. P a × Q a) m
both_give {P = P} {Q = Q} {m = m} hm km = record { at = λ s. both_gave P Q (m s) (hm.at s) (km.at s) }

-- it is what a run gives from some state
abbrev pub CameFrom : {A : Type 0} → Run A → A → Type 0
CameFrom run a = (s : State) × (t : State) × (run s ≡ Done a t)

came : {A : Type 0} (run : Run A) (s : State) (r : Outcome A) → run s ≡ r → Gave (CameFrom run) r
came run s (Done a t) is = (s, t, is)
came run s (Thrown v t) is = tt
came run s (Returned v t) is = tt
came run s (Broken t) is = tt
came run s (Continued t) is = tt
came run s (Ended why t) is = tt

pub came_from : {A : Type 0} (run : Run A) → GivesBy (CameFrom run) run
came_from run = record { at = λ s. came run s (run s) refl }

-- a value that was given
pub gave_done : {A : Type 0} (P : A → Type 0) (r : Outcome A) (a : A) (s : State) → r ≡ Done a s → Gave P r → P a
gave_done P r a s is h = subst (Gave P) is h

-- what a run gives is as all that it gives
pub of_came : {A : Type 0} (P : A → Type 0) (run : Run A) → GivesBy P run → (a : A) → CameFrom run a → P a
of_came P run h a c = gave_done P (run c.0) a c.1 c.2 (h.at c.0)
