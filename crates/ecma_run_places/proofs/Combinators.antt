-- Runs that do alike: one lemma a combinator.
use Rattle.std.proofs.Common.{◌≡◌, sym, subst, List, [], ◌∷◌, Option, Some, None, Bool, true, false}
use Rattle.ecma_runs.specs.Values.{Value, Undefined}
use Rattle.ecma_runs.specs.State.{State}
use Rattle.ecma_runs.specs.Run.{Stop, Outside, Outcome, Done, Thrown, Ended, Run, then_outcome, ◌>>=◌, give, throw, return, break, continue, stop, outside, when, given_or, given, each, catch_outcome, catching, finally_outcome, finally, round_outcome, round, loop_outcome, loop, body_outcome, returned_by}
use Rattle.ecma_run_places.specs.Worlds.{Each, no_more, more, Maybe, neither, both, World, Above, Same, is, Like, undefineds, States}
use Rattle.ecma_run_places.specs.Alike.{Outcomes, both_done, both_thrown, both_returned, both_broken, both_continued, both_ended, Alike}
use Rattle.ecma_run_places.proofs.Growing.{itself, above, value_up}

-- ---- runs that make nothing: what belongs together stays as it is

pub data Stays (w : World) {A : Type 0} (R : World → A → A → Type 0) : Outcome A → Outcome A → Type 0 where
  done_here : {s s' : State} {a a' : A} → States w s s' → R w a a' → Stays w R (Done a s) (Done a' s')
  thrown_here : {s s' : State} {e e' : Value} → States w s s' → Like w e e' → Stays w R (Thrown e s) (Thrown e' s')
  ended_here : {s s' : State} {why : Stop} → States w s s' → Stays w R (Ended why s) (Ended why s')

pub record Keeps (w : World) {A : Type 0} (R : World → A → A → Type 0) (m m' : Run A) : Type 0 where
  pub at : {s s' : State} → States w s s' → Stays w R (m s) (m' s')

pub stays_alike : {w : World} {A : Type 0} {R : World → A → A → Type 0} {r r' : Outcome A} → Stays w R r r' → Outcomes w R r r'
stays_alike (done_here st q) = both_done itself st q
stays_alike (thrown_here st q) = both_thrown itself st q
stays_alike (ended_here st) = both_ended itself st

pub keeps_alike : {w : World} {A : Type 0} {R : World → A → A → Type 0} {m m' : Run A} → Keeps w R m m' → Alike w R m m'
keeps_alike h = record { at = λ st. stays_alike (h.at st) }

-- ---- one part, then the rest

kept_then : {w : World} {A B : Type 0} {R : World → A → A → Type 0} {Q : World → B → B → Type 0} {k k' : A → Run B} → ((a a' : A) → R w a a' → Keeps w Q (k a) (k' a'))
    → {r r' : Outcome A} → Stays w R r r' → Stays w Q (then_outcome r k) (then_outcome r' k')
kept_then h (done_here st q) = (h _ _ q).at st
kept_then h (thrown_here st q) = thrown_here st q
kept_then h (ended_here st) = ended_here st

pub kept_bind : {w : World} {A B : Type 0} {R : World → A → A → Type 0} {Q : World → B → B → Type 0} {m m' : Run A} {k k' : A → Run B}
    → Keeps w R m m' → ((a a' : A) → R w a a' → Keeps w Q (k a) (k' a')) → Keeps w Q (m >>= k) (m' >>= k')
kept_bind hm hk = record { at = λ st. kept_then hk (hm.at st) }

here_then : {w : World} {A B : Type 0} {R : World → A → A → Type 0} {Q : World → B → B → Type 0} {k k' : A → Run B} → ((a a' : A) → R w a a' → Alike w Q (k a) (k' a'))
    → {r r' : Outcome A} → Stays w R r r' → Outcomes w Q (then_outcome r k) (then_outcome r' k')
here_then h (done_here st q) = (h _ _ q).at st
here_then h (thrown_here st q) = both_thrown itself st q
here_then h (ended_here st) = both_ended itself st

pub here_bind : {w : World} {A B : Type 0} {R : World → A → A → Type 0} {Q : World → B → B → Type 0} {m m' : Run A} {k k' : A → Run B}
    → Keeps w R m m' → ((a a' : A) → R w a a' → Alike w Q (k a) (k' a')) → Alike w Q (m >>= k) (m' >>= k')
here_bind hm hk = record { at = λ st. here_then hk (hm.at st) }

pub raised : {w v : World} {A : Type 0} {R : World → A → A → Type 0} {r r' : Outcome A} → Above w v → Outcomes v R r r' → Outcomes w R r r'
raised u (both_done p st q) = both_done (above u p) st q
raised u (both_thrown p st q) = both_thrown (above u p) st q
raised u (both_returned p st q) = both_returned (above u p) st q
raised u (both_broken p st) = both_broken (above u p) st
raised u (both_continued p st) = both_continued (above u p) st
raised u (both_ended p st) = both_ended (above u p) st

alike_then : {w : World} {A B : Type 0} {R : World → A → A → Type 0} {Q : World → B → B → Type 0} {k k' : A → Run B} → ((v : World) → Above w v → (a a' : A) → R v a a' → Alike v Q (k a) (k' a'))
    → {r r' : Outcome A} → Outcomes w R r r' → Outcomes w Q (then_outcome r k) (then_outcome r' k')
alike_then h (both_done p st q) = raised p ((h _ p _ _ q).at st)
alike_then h (both_thrown p st q) = both_thrown p st q
alike_then h (both_returned p st q) = both_returned p st q
alike_then h (both_broken p st) = both_broken p st
alike_then h (both_continued p st) = both_continued p st
alike_then h (both_ended p st) = both_ended p st

pub bind : {w : World} {A B : Type 0} {R : World → A → A → Type 0} {Q : World → B → B → Type 0} {m m' : Run A} {k k' : A → Run B}
    → Alike w R m m' → ((v : World) → Above w v → (a a' : A) → R v a a' → Alike v Q (k a) (k' a')) → Alike w Q (m >>= k) (m' >>= k')
bind hm hk = record { at = λ st. alike_then hk (hm.at st) }

-- where both give the same

same_kept : {w : World} {A B : Type 0} {Q : World → B → B → Type 0} {k k' : A → Run B} → ((a : A) → Keeps w Q (k a) (k' a)) → (a a' : A) → Same w a a' → Keeps w Q (k a) (k' a')
same_kept h _ _ is = h _

same_alike : {w v : World} {A B : Type 0} {Q : World → B → B → Type 0} {k k' : A → Run B} → ((a : A) → Alike v Q (k a) (k' a)) → (a a' : A) → Same w a a' → Alike v Q (k a) (k' a')
same_alike h _ _ is = h _

pub kept_bind_same : {w : World} {A B : Type 0} {Q : World → B → B → Type 0} {m m' : Run A} {k k' : A → Run B} → Keeps w Same m m' → ((a : A) → Keeps w Q (k a) (k' a)) → Keeps w Q (m >>= k) (m' >>= k')
kept_bind_same hm hk = kept_bind hm (same_kept hk)

pub here_bind_same : {w : World} {A B : Type 0} {Q : World → B → B → Type 0} {m m' : Run A} {k k' : A → Run B} → Keeps w Same m m' → ((a : A) → Alike w Q (k a) (k' a)) → Alike w Q (m >>= k) (m' >>= k')
here_bind_same hm hk = here_bind hm (same_alike hk)

pub bind_same : {w : World} {A B : Type 0} {Q : World → B → B → Type 0} {m m' : Run A} {k k' : A → Run B} → Alike w Same m m' → ((v : World) → Above w v → (a : A) → Alike v Q (k a) (k' a))
    → Alike w Q (m >>= k) (m' >>= k')
bind_same hm hk = bind hm (λ v u. same_alike (hk v u))

-- ---- parts that give, throw or stop

pub give_kept : {w : World} {A : Type 0} {R : World → A → A → Type 0} {a a' : A} → R w a a' → Keeps w R (give a) (give a')
give_kept q = record { at = λ st. done_here st q }

pub throw_kept : {w : World} {A : Type 0} {R : World → A → A → Type 0} {e e' : Value} → Like w e e' → Keeps w R (throw e) (throw e')
throw_kept q = record { at = λ st. thrown_here st q }

pub stop_kept : {w : World} {A : Type 0} {R : World → A → A → Type 0} (why : Stop) → Keeps w R (stop why) (stop why)
stop_kept why = record { at = λ st. ended_here st }

pub outside_kept : {w : World} {A : Type 0} {R : World → A → A → Type 0} → Keeps w R outside outside
outside_kept = stop_kept Outside

pub give_alike : {w : World} {A : Type 0} {R : World → A → A → Type 0} {a a' : A} → R w a a' → Alike w R (give a) (give a')
give_alike q = keeps_alike (give_kept q)

pub give_same : {w : World} {A : Type 0} (a : A) → Alike w Same (give a) (give a)
give_same a = give_alike is

pub throw_alike : {w : World} {A : Type 0} {R : World → A → A → Type 0} {e e' : Value} → Like w e e' → Alike w R (throw e) (throw e')
throw_alike q = keeps_alike (throw_kept q)

pub stop_alike : {w : World} {A : Type 0} {R : World → A → A → Type 0} (why : Stop) → Alike w R (stop why) (stop why)
stop_alike why = keeps_alike (stop_kept why)

pub outside_alike : {w : World} {A : Type 0} {R : World → A → A → Type 0} → Alike w R outside outside
outside_alike = stop_alike Outside

pub return_alike : {w : World} {A : Type 0} {R : World → A → A → Type 0} {e e' : Value} → Like w e e' → Alike w R (return e) (return e')
return_alike q = record { at = λ st. both_returned itself st q }

pub break_alike : {w : World} {A : Type 0} {R : World → A → A → Type 0} → Alike w R break break
break_alike = record { at = λ st. both_broken itself st }

pub continue_alike : {w : World} {A : Type 0} {R : World → A → A → Type 0} → Alike w R continue continue
continue_alike = record { at = λ st. both_continued itself st }

-- ---- choices

pub when_kept : {w : World} {A : Type 0} {R : World → A → A → Type 0} {b b' : Bool} {m m' k k' : Run A} → b' ≡ b → Keeps w R m m' → Keeps w R k k' → Keeps w R (when b m k) (when b' m' k')
when_kept {w} {A} {R} {b} {b'} {m} {m'} {k} {k'} e hm hk = subst (λ z. Keeps w R (when b m k) (when z m' k')) (sym e) (by b)
  where
    by : (z : Bool) → Keeps w R (when z m k) (when z m' k')
    by true = hm
    by false = hk

pub when_alike : {w : World} {A : Type 0} {R : World → A → A → Type 0} {b b' : Bool} {m m' k k' : Run A} → b' ≡ b → Alike w R m m' → Alike w R k k' → Alike w R (when b m k) (when b' m' k')
when_alike {w} {A} {R} {b} {b'} {m} {m'} {k} {k'} e hm hk = subst (λ z. Alike w R (when b m k) (when z m' k')) (sym e) (by b)
  where
    by : (z : Bool) → Alike w R (when z m k) (when z m' k')
    by true = hm
    by false = hk

pub when_same : {w : World} {A : Type 0} {R : World → A → A → Type 0} (b : Bool) {m m' k k' : Run A} → Alike w R m m' → Alike w R k k' → Alike w R (when b m k) (when b m' k')
when_same true hm hk = hm
when_same false hm hk = hk

pub given_or_kept : {w : World} {A : Type 0} {R : World → A → A → Type 0} {o o' : Option A} {m m' : Run A} → Maybe (R w) o o' → Keeps w R m m' → Keeps w R (given_or o m) (given_or o' m')
given_or_kept neither h = h
given_or_kept (both q) h = give_kept q

pub given_kept : {w : World} {A : Type 0} {R : World → A → A → Type 0} {o o' : Option A} → Maybe (R w) o o' → Keeps w R (given o) (given o')
given_kept q = given_or_kept q outside_kept

pub given_same : {w : World} {A : Type 0} (o : Option A) → Keeps w Same (given o) (given o)
given_same None = outside_kept
given_same (Some a) = give_kept is

pub given_equal : {w : World} {A : Type 0} {o o' : Option A} → o' ≡ o → Keeps w Same (given o) (given o')
given_equal {w} {A} {o} e = subst (λ z. Keeps w Same (given o) (given z)) (sym e) (given_same o)

-- ---- outcomes that are taken another way

catch_alike : {w : World} {A : Type 0} {R : World → A → A → Type 0} {k k' : Value → Run A} → ((v : World) → Above w v → (e e' : Value) → Like v e e' → Alike v R (k e) (k' e'))
    → {r r' : Outcome A} → Outcomes w R r r' → Outcomes w R (catch_outcome r k) (catch_outcome r' k')
catch_alike h (both_done p st q) = both_done p st q
catch_alike h (both_thrown p st q) = raised p ((h _ p _ _ q).at st)
catch_alike h (both_returned p st q) = both_returned p st q
catch_alike h (both_broken p st) = both_broken p st
catch_alike h (both_continued p st) = both_continued p st
catch_alike h (both_ended p st) = both_ended p st

pub catching_alike : {w : World} {A : Type 0} {R : World → A → A → Type 0} {m m' : Run A} {k k' : Value → Run A} → Alike w R m m' → ((v : World) → Above w v → (e e' : Value) → Like v e e' → Alike v R (k e) (k' e'))
    → Alike w R (catching m k) (catching m' k')
catching_alike hm hk = record { at = λ st. catch_alike hk (hm.at st) }

-- the last part follows, in a world that may be above
abbrev Last : World → Run (Unit {0}) → Run (Unit {0}) → Type 0
Last w last last' = (v : World) → Above w v → Alike v Same last last'

last_alike : {w : World} {last last' : Run (Unit {0})} → Last w last last' → {r r' : Outcome (Unit {0})} → Outcomes w Same r r' → Outcomes w Same (finally_outcome r last) (finally_outcome r' last')
last_alike h (both_done p st is) = raised p ((bind_same (h _ p) (λ v u _. give_same tt)).at st)
last_alike h (both_thrown p st q) = raised p ((bind_same (h _ p) (λ v u _. throw_alike (value_up u q))).at st)
last_alike h (both_returned p st q) = raised p ((bind_same (h _ p) (λ v u _. return_alike (value_up u q))).at st)
last_alike h (both_broken p st) = raised p ((bind_same (h _ p) (λ v u _. break_alike)).at st)
last_alike h (both_continued p st) = raised p ((bind_same (h _ p) (λ v u _. continue_alike)).at st)
last_alike h (both_ended p st) = both_ended p st

pub finally_alike : {w : World} {m m' last last' : Run (Unit {0})} → Alike w Same m m' → Last w last last' → Alike w Same (finally m last) (finally m' last')
finally_alike hm h = record { at = λ st. last_alike h (hm.at st) }

round_by : {w : World} {r r' : Outcome (Unit {0})} → Outcomes w Same r r' → Outcomes w Same (round_outcome r) (round_outcome r')
round_by (both_done p st q) = both_done p st q
round_by (both_thrown p st q) = both_thrown p st q
round_by (both_returned p st q) = both_returned p st q
round_by (both_broken p st) = both_broken p st
round_by (both_continued p st) = both_done p st is
round_by (both_ended p st) = both_ended p st

pub round_alike : {w : World} {m m' : Run (Unit {0})} → Alike w Same m m' → Alike w Same (round m) (round m')
round_alike h = record { at = λ st. round_by (h.at st) }

pub loop_by : {w : World} {r r' : Outcome (Unit {0})} → Outcomes w Same r r' → Outcomes w Same (loop_outcome r) (loop_outcome r')
loop_by (both_done p st q) = both_done p st q
loop_by (both_thrown p st q) = both_thrown p st q
loop_by (both_returned p st q) = both_returned p st q
loop_by (both_broken p st) = both_done p st is
loop_by (both_continued p st) = both_continued p st
loop_by (both_ended p st) = both_ended p st

pub loop_alike : {w : World} {m m' : Run (Unit {0})} → Alike w Same m m' → Alike w Same (loop m) (loop m')
loop_alike h = record { at = λ st. loop_by (h.at st) }

body_by : {w : World} {r r' : Outcome (Unit {0})} → Outcomes w Same r r' → Outcomes w Like (body_outcome (λ _. Undefined) r) (body_outcome (λ _. Undefined) r')
body_by (both_done p st q) = both_done p st undefineds
body_by (both_thrown p st q) = both_thrown p st q
body_by (both_returned p st q) = both_done p st q
body_by (both_broken p st) = both_ended p st
body_by (both_continued p st) = both_ended p st
body_by (both_ended p st) = both_ended p st

pub returned_alike : {w : World} {m m' : Run (Unit {0})} → Alike w Same m m' → Alike w Like (returned_by (λ _. Undefined) m) (returned_by (λ _. Undefined) m')
returned_alike h = record { at = λ st. body_by (h.at st) }

-- ---- lists of parts

pub each_kept_same : {w : World} {A B : Type 0} {R : A → A → Type 0} {run : A → Run B} → ((a a' : A) → R a a' → Keeps w Same (run a) (run a')) → {xs xs' : List A} → Each R xs xs'
    → Keeps w Same (each run xs) (each run xs')
each_kept_same h no_more = give_kept is
each_kept_same h (more q qs) = kept_bind_same (h _ _ q) (λ b. kept_bind_same (each_kept_same h qs) (λ bs. give_kept is))

pub each_kept : {w : World} {A B : Type 0} {Q : World → B → B → Type 0} {run : A → Run B} → ((a : A) → Keeps w Q (run a) (run a)) → (xs : List A) → Keeps w (λ v. Each (Q v)) (each run xs) (each run xs)
each_kept h [] = give_kept no_more
each_kept h (a ∷ xs) = kept_bind (h a) (λ _ _ q. kept_bind (each_kept h xs) (λ _ _ qs. give_kept (more q qs)))
