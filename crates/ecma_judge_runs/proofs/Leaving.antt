-- Runs that leave what was there as it was. One lemma a combinator.
use Rattle.std.proofs.Common.{◌≡◌, ℕ, zero, suc, List, [], ◌∷◌, Option, Some, None, Bool, true, false}
use Rattle.ecma_runs.specs.Values.{Value}
use Rattle.ecma_runs.specs.State.{State}
use Rattle.ecma_runs.specs.Run.{Stop, Outside, Outcome, Done, Thrown, Returned, Broken, Continued, Ended, Run, then_outcome, ◌>>=◌, give, throw, return, break, continue, stop, outside, when, given_or, given, each, catch_outcome, catching, finally_outcome, finally, round_outcome, round, loop_outcome, loop, body_outcome, returned_by, spend_of, spend}
use Rattle.ecma_runs.specs.Laws.{state_behind}
use Rattle.ecma_judge_runs.specs.Still.{Still}

module _ (old : State) where
  abbrev pub Follows : {A : Type 0} → (A → Type 0) → Outcome A → Type 0
  Follows P (Done a s) = Still old s × P a
  Follows P (Thrown v s) = Still old s
  Follows P (Returned v s) = Still old s
  Follows P (Broken s) = Still old s
  Follows P (Continued s) = Still old s
  Follows P (Ended why s) = Still old s

  -- behind a state that left an old one as it was comes one that does, and what m gives is P
  pub record LeavesBy {A : Type 0} (P : A → Type 0) (m : Run A) : Type 0 where
    pub at : (s : State) → Still old s → Follows P (m s)

  abbrev pub Leaves : {A : Type 0} → Run A → Type 0
  Leaves m = LeavesBy (λ a. Unit {0}) m

  pub behind : {A : Type 0} (P : A → Type 0) (r : Outcome A) → Follows P r → Still old (state_behind r)
  behind P (Done a s) e = e.0
  behind P (Thrown v s) e = e
  behind P (Returned v s) e = e
  behind P (Broken s) e = e
  behind P (Continued s) e = e
  behind P (Ended why s) e = e

  then_follows : {A B : Type 0} (P : A → Type 0) (Q : B → Type 0) (k : A → Run B) → ((a : A) → P a → LeavesBy Q (k a)) → (r : Outcome A) → Follows P r → Follows Q (then_outcome r k)
  then_follows P Q k h (Done a s) e = (h a e.1).at s e.0
  then_follows P Q k h (Thrown v s) e = e
  then_follows P Q k h (Returned v s) e = e
  then_follows P Q k h (Broken s) e = e
  then_follows P Q k h (Continued s) e = e
  then_follows P Q k h (Ended why s) e = e

  pub bind_by : {A B : Type 0} {P : A → Type 0} {Q : B → Type 0} {m : Run A} {k : A → Run B} → LeavesBy P m → ((a : A) → P a → LeavesBy Q (k a)) → LeavesBy Q (m >>= k)
  bind_by {P = P} {Q = Q} {m = m} {k = k} hm hk = record { at = λ s g. then_follows P Q k hk (m s) (hm.at s g) }

  pub bind_leaves : {A B : Type 0} {Q : B → Type 0} {m : Run A} {k : A → Run B} → Leaves m → ((a : A) → LeavesBy Q (k a)) → LeavesBy Q (m >>= k)
  bind_leaves hm hk = bind_by hm (λ a p. hk a)

  weaker_follows : {A : Type 0} (P Q : A → Type 0) → ((a : A) → P a → Q a) → (r : Outcome A) → Follows P r → Follows Q r
  weaker_follows P Q h (Done a s) e = (e.0, h a e.1)
  weaker_follows P Q h (Thrown v s) e = e
  weaker_follows P Q h (Returned v s) e = e
  weaker_follows P Q h (Broken s) e = e
  weaker_follows P Q h (Continued s) e = e
  weaker_follows P Q h (Ended why s) e = e

  pub weaker : {A : Type 0} {P Q : A → Type 0} {m : Run A} → ((a : A) → P a → Q a) → LeavesBy P m → LeavesBy Q m
  weaker {P = P} {Q = Q} {m = m} h hm = record { at = λ s g. weaker_follows P Q h (m s) (hm.at s g) }

  pub give_by : {A : Type 0} {P : A → Type 0} (a : A) → P a → LeavesBy P (give a)
  give_by a p = record { at = λ s g. (g, p) }

  pub give_leaves : {A : Type 0} (a : A) → Leaves (give a)
  give_leaves a = give_by a tt

  pub throw_leaves : {A : Type 0} {P : A → Type 0} (v : Value) → LeavesBy P (throw v)
  throw_leaves v = record { at = λ s g. g }

  pub return_leaves : {A : Type 0} {P : A → Type 0} (v : Value) → LeavesBy P (return v)
  return_leaves v = record { at = λ s g. g }

  pub break_leaves : {A : Type 0} {P : A → Type 0} → LeavesBy P break
  break_leaves = record { at = λ s g. g }

  pub continue_leaves : {A : Type 0} {P : A → Type 0} → LeavesBy P continue
  continue_leaves = record { at = λ s g. g }

  pub stop_leaves : {A : Type 0} {P : A → Type 0} (why : Stop) → LeavesBy P (stop why)
  stop_leaves why = record { at = λ s g. g }

  pub outside_leaves : {A : Type 0} {P : A → Type 0} → LeavesBy P outside
  outside_leaves = stop_leaves Outside

  pub when_leaves : {A : Type 0} {P : A → Type 0} (b : Bool) {m k : Run A} → LeavesBy P m → LeavesBy P k → LeavesBy P (when b m k)
  when_leaves true hm hk = hm
  when_leaves false hm hk = hk

  -- where it is known which way is taken
  pub unless_leaves : {A : Type 0} {P : A → Type 0} (b : Bool) (m : Run A) {k : Run A} → b ≡ false → LeavesBy P k → LeavesBy P (when b m k)
  unless_leaves true m is hk = absurd (cc)
  unless_leaves false m is hk = hk

  pub given_or_leaves : {A : Type 0} (o : Option A) {m : Run A} → Leaves m → Leaves (given_or o m)
  given_or_leaves (Some a) h = give_leaves a
  given_or_leaves None h = h

  pub given_leaves : {A : Type 0} (o : Option A) → Leaves (given o)
  given_leaves o = given_or_leaves o outside_leaves

  pub each_leaves : {A B : Type 0} (run : A → Run B) → ((a : A) → Leaves (run a)) → (items : List A) → Leaves (each run items)
  each_leaves run h [] = give_leaves []
  each_leaves run h (a ∷ items) = bind_leaves (h a) (λ b. bind_leaves (each_leaves run h items) (λ bs. give_leaves (b ∷ bs)))

  catch_follows : {A : Type 0} (P : A → Type 0) (k : Value → Run A) → ((v : Value) → LeavesBy P (k v)) → (r : Outcome A) → Follows P r → Follows P (catch_outcome r k)
  catch_follows P k h (Done a s) e = e
  catch_follows P k h (Thrown v s) e = (h v).at s e
  catch_follows P k h (Returned v s) e = e
  catch_follows P k h (Broken s) e = e
  catch_follows P k h (Continued s) e = e
  catch_follows P k h (Ended why s) e = e

  pub catching_leaves : {A : Type 0} {P : A → Type 0} {m : Run A} {k : Value → Run A} → LeavesBy P m → ((v : Value) → LeavesBy P (k v)) → LeavesBy P (catching m k)
  catching_leaves {P = P} {m = m} {k = k} hm hk = record { at = λ s g. catch_follows P k hk (m s) (hm.at s g) }

  finally_follows : {A : Type 0} (P : A → Type 0) (last : Run (Unit {0})) → Leaves last → (r : Outcome A) → Follows P r → Follows P (finally_outcome r last)
  finally_follows P last h (Done a s) e = (bind_leaves h (λ _. give_by {P = P} a e.1)).at s e.0
  finally_follows P last h (Thrown v s) e = (bind_leaves h (λ _. throw_leaves {P = P} v)).at s e
  finally_follows P last h (Returned v s) e = (bind_leaves h (λ _. return_leaves {P = P} v)).at s e
  finally_follows P last h (Broken s) e = (bind_leaves h (λ _. break_leaves {P = P})).at s e
  finally_follows P last h (Continued s) e = (bind_leaves h (λ _. continue_leaves {P = P})).at s e
  finally_follows P last h (Ended why s) e = e

  pub finally_leaves : {A : Type 0} {P : A → Type 0} {m : Run A} {last : Run (Unit {0})} → LeavesBy P m → Leaves last → LeavesBy P (finally m last)
  finally_leaves {P = P} {m = m} {last = last} hm h = record { at = λ s g. finally_follows P last h (m s) (hm.at s g) }

  round_follows : (r : Outcome (Unit {0})) → Follows (λ a. Unit {0}) r → Follows (λ a. Unit {0}) (round_outcome r)
  round_follows (Done a s) e = e
  round_follows (Thrown v s) e = e
  round_follows (Returned v s) e = e
  round_follows (Broken s) e = e
  round_follows (Continued s) e = (e, tt)
  round_follows (Ended why s) e = e

  pub round_leaves : {m : Run (Unit {0})} → Leaves m → Leaves (round m)
  round_leaves {m = m} h = record { at = λ s g. round_follows (m s) (h.at s g) }

  loop_follows : (r : Outcome (Unit {0})) → Follows (λ a. Unit {0}) r → Follows (λ a. Unit {0}) (loop_outcome r)
  loop_follows (Done a s) e = e
  loop_follows (Thrown v s) e = e
  loop_follows (Returned v s) e = e
  loop_follows (Broken s) e = (e, tt)
  loop_follows (Continued s) e = e
  loop_follows (Ended why s) e = e

  pub loop_leaves : {m : Run (Unit {0})} → Leaves m → Leaves (loop m)
  loop_leaves {m = m} h = record { at = λ s g. loop_follows (m s) (h.at s g) }

  body_follows : {A : Type 0} (completed : A → Value) (r : Outcome A) → Follows (λ a. Unit {0}) r → Follows (λ a. Unit {0}) (body_outcome completed r)
  body_follows completed (Done a s) e = e
  body_follows completed (Thrown v s) e = e
  body_follows completed (Returned v s) e = (e, tt)
  body_follows completed (Broken s) e = e
  body_follows completed (Continued s) e = e
  body_follows completed (Ended why s) e = e

  pub returned_by_leaves : {A : Type 0} (completed : A → Value) {m : Run A} → Leaves m → Leaves (returned_by completed m)
  returned_by_leaves completed {m = m} h = record { at = λ s g. body_follows completed (m s) (h.at s g) }

  -- turns

  spend_of_leaves : (s : State) → Still old s → (left : ℕ) → Follows (λ a. Unit {0}) (spend_of left s)
  spend_of_leaves s g zero = g
  spend_of_leaves s g (suc left) = (record { environments = g.environments; objects = g.objects; handles = g.handles; answers = g.answers; events = g.events }, tt)

  pub spend_leaves : Leaves spend
  spend_leaves = record { at = λ s g. spend_of_leaves s g s.turns }
