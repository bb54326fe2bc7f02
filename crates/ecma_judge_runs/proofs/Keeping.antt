-- Runs that leave what was there as it was, and what is so of the states behind them. One lemma a combinator.
use Rattle.std.proofs.Common.{◌≡◌, sym, subst, Bool, true, false}
use Rattle.ecma_runs.specs.Values.{Value}
use Rattle.ecma_runs.specs.State.{State}
use Rattle.ecma_runs.specs.Run.{Outcome, Done, Thrown, Returned, Broken, Continued, Ended, Run, then_outcome, ◌>>=◌, give, throw, outside, when}
use Rattle.ecma_judge_runs.specs.Still.{Still}
use Rattle.ecma_judge_runs.proofs.Fronts.{still_itself}
use Rattle.ecma_judge_runs.proofs.Leaving.{Follows, LeavesBy, Leaves}

-- nothing is asked of the state
abbrev pub Any : State → Type 0
Any s = Unit {0}

module _ (old : State) where
  abbrev pub FollowsIn : {A : Type 0} → (A → State → Type 0) → Outcome A → Type 0
  FollowsIn P (Done a s) = Still old s × P a s
  FollowsIn P (Thrown v s) = Still old s
  FollowsIn P (Returned v s) = Still old s
  FollowsIn P (Broken s) = Still old s
  FollowsIn P (Continued s) = Still old s
  FollowsIn P (Ended why s) = Still old s

  -- behind a state that left an old one as it was, and is R, comes one that left it so too, and what m gives is P there
  pub record LeavesFrom {A : Type 0} (R : State → Type 0) (P : A → State → Type 0) (m : Run A) : Type 0 where
    pub at : (s : State) → Still old s → R s → FollowsIn P (m s)

  then_in : {A B : Type 0} (P : A → State → Type 0) (Q : B → State → Type 0) (k : A → Run B) → ((a : A) → LeavesFrom (P a) Q (k a)) → (r : Outcome A) → FollowsIn P r → FollowsIn Q (then_outcome r k)
  then_in P Q k h (Done a s) e = (h a).at s e.0 e.1
  then_in P Q k h (Thrown v s) e = e
  then_in P Q k h (Returned v s) e = e
  then_in P Q k h (Broken s) e = e
  then_in P Q k h (Continued s) e = e
  then_in P Q k h (Ended why s) e = e

  pub bind_from : {A B : Type 0} {R : State → Type 0} {P : A → State → Type 0} {Q : B → State → Type 0} {m : Run A} {k : A → Run B}
      → LeavesFrom R P m → ((a : A) → LeavesFrom (P a) Q (k a)) → LeavesFrom R Q (m >>= k)
  bind_from {P = P} {Q = Q} {m = m} {k = k} hm hk = record { at = λ s g r. then_in P Q k hk (m s) (hm.at s g r) }

  into_in : {A : Type 0} (P : A → Type 0) (r : Outcome A) → Follows old P r → FollowsIn (λ a s. P a) r
  into_in P (Done a s) e = e
  into_in P (Thrown v s) e = e
  into_in P (Returned v s) e = e
  into_in P (Broken s) e = e
  into_in P (Continued s) e = e
  into_in P (Ended why s) e = e

  pub of_leaves : {A : Type 0} {P : A → Type 0} {R : State → Type 0} {m : Run A} → LeavesBy old P m → LeavesFrom R (λ a s. P a) m
  of_leaves {P = P} {m = m} h = record { at = λ s g r. into_in P (m s) (h.at s g) }

  from_in : {A : Type 0} (P : A → State → Type 0) (r : Outcome A) → FollowsIn P r → Follows old (λ a. Unit {0}) r
  from_in P (Done a s) e = (e.0, tt)
  from_in P (Thrown v s) e = e
  from_in P (Returned v s) e = e
  from_in P (Broken s) e = e
  from_in P (Continued s) e = e
  from_in P (Ended why s) e = e

  by_in : {A : Type 0} (P : A → Type 0) (r : Outcome A) → FollowsIn (λ a s. P a) r → Follows old P r
  by_in P (Done a s) e = e
  by_in P (Thrown v s) e = e
  by_in P (Returned v s) e = e
  by_in P (Broken s) e = e
  by_in P (Continued s) e = e
  by_in P (Ended why s) e = e

  pub leaves_by_of : {A : Type 0} {P : A → Type 0} {m : Run A} → LeavesFrom Any (λ a s. P a) m → LeavesBy old P m
  leaves_by_of {P = P} {m = m} h = record { at = λ s g. by_in P (m s) (h.at s g tt) }

  pub leaves_of : {A : Type 0} {P : A → State → Type 0} {m : Run A} → LeavesFrom Any P m → Leaves old m
  leaves_of {P = P} {m = m} h = record { at = λ s g. from_in P (m s) (h.at s g tt) }

  weaker_in : {A : Type 0} (P Q : A → State → Type 0) → ((a : A) (s : State) → P a s → Q a s) → (r : Outcome A) → FollowsIn P r → FollowsIn Q r
  weaker_in P Q h (Done a s) e = (e.0, h a s e.1)
  weaker_in P Q h (Thrown v s) e = e
  weaker_in P Q h (Returned v s) e = e
  weaker_in P Q h (Broken s) e = e
  weaker_in P Q h (Continued s) e = e
  weaker_in P Q h (Ended why s) e = e

  pub weaker_from : {A : Type 0} {R : State → Type 0} {P Q : A → State → Type 0} {m : Run A} → ((a : A) (s : State) → P a s → Q a s) → LeavesFrom R P m → LeavesFrom R Q m
  weaker_from {P = P} {Q = Q} {m = m} h hm = record { at = λ s g r. weaker_in P Q h (m s) (hm.at s g r) }

  both_follow : {A : Type 0} (P : A → Type 0) (R : State → Type 0) (s : State) → ((t : State) → Still s t → R t) → (r : Outcome A) → Follows old P r → Follows s P r → FollowsIn (λ a t. P a × R t) r
  both_follow P R s keeps (Done a t) e f = (e.0, (e.1, keeps t f.0))
  both_follow P R s keeps (Thrown v t) e f = e
  both_follow P R s keeps (Returned v t) e f = e
  both_follow P R s keeps (Broken t) e f = e
  both_follow P R s keeps (Continued t) e f = e
  both_follow P R s keeps (Ended why t) e f = e

  -- what leaves each state as it was keeps what is so of all states that leave one as it was
  pub kept_by : {A : Type 0} (P : A → Type 0) (R : State → Type 0) {m : Run A} → ((s t : State) → Still s t → R s → R t) → ((s : State) → LeavesBy s P m) → LeavesFrom R (λ a s. P a × R s) m
  kept_by P R {m = m} keeps h = record { at = λ s g r. both_follow P R s (λ t still. keeps s t still r) (m s) ((h old).at s g) ((h s).at s (still_itself s)) }

  pub kept_from : {A : Type 0} (R : State → Type 0) {m : Run A} → ((s t : State) → Still s t → R s → R t) → ((s : State) → Leaves s m) → LeavesFrom R (λ a s. R s) m
  kept_from R keeps h = weaker_from (λ a s p. p.1) (kept_by (λ a. Unit {0}) R keeps h)

  -- with what is so whatever the state
  pub where_from : {B : Type 0} {F : Type 0} {R : State → Type 0} {P : B → State → Type 0} {m : Run B} → (F → LeavesFrom R P m) → LeavesFrom (λ s. F × R s) P m
  where_from h = record { at = λ s g r. (h r.0).at s g r.1 }

  pub where_both_from : {B : Type 0} {F G : Type 0} {R : State → Type 0} {P : B → State → Type 0} {m : Run B} → (F → G → LeavesFrom R P m) → LeavesFrom (λ s. F × G × R s) P m
  where_both_from h = record { at = λ s g r. (h r.0 r.1).at s g r.2 }

  pub where_alone_from : {B : Type 0} {F : Type 0} {P : B → State → Type 0} {m : Run B} → (F → LeavesFrom Any P m) → LeavesFrom (λ s. F) P m
  where_alone_from h = record { at = λ s g r. (h r).at s g tt }

  -- at what is one with something
  pub same_from : {A B : Type 0} {P : B → State → Type 0} (a : A) (k : A → Run B) → LeavesFrom Any P (k a) → (b : A) → LeavesFrom (λ s. b ≡ a) P (k b)
  same_from {P = P} a k h b = record { at = λ s g same. subst (λ z. FollowsIn P (k z s)) (sym same) (h.at s g tt) }

  pub give_from : {A : Type 0} {R : State → Type 0} {P : A → State → Type 0} (a : A) → ((s : State) → R s → P a s) → LeavesFrom R P (give a)
  give_from a p = record { at = λ s g r. (g, p s r) }

  pub throw_from : {A : Type 0} {R : State → Type 0} {P : A → State → Type 0} (v : Value) → LeavesFrom R P (throw {A = A} v)
  throw_from v = record { at = λ s g r. g }

  pub outside_from : {A : Type 0} {R : State → Type 0} {P : A → State → Type 0} → LeavesFrom R P (outside {A = A})
  outside_from = record { at = λ s g r. g }

  pub when_from : {A : Type 0} {R : State → Type 0} {P : A → State → Type 0} (b : Bool) {m k : Run A} → LeavesFrom R P m → LeavesFrom R P k → LeavesFrom R P (when b m k)
  when_from true hm hk = hm
  when_from false hm hk = hk
