-- Runs whose effects are kept: where one comes to its end, the other does, in states that are the same but for places.
use Rattle.std.proofs.Common.{◌≡◌, refl, sym, ap, ◌∙◌, subst, List, [], ◌∷◌, ◌++◌}
use Rattle.ecma_tree.specs.declared.node.Node.{Node}
use Rattle.ecma_runs.specs.Values.{Value}
use Rattle.ecma_runs.specs.State.{State}
use Rattle.ecma_runs.specs.Run.{Stop, Outcome, Done, Thrown, Returned, Broken, Continued, Ended, Run, then_outcome, ◌>>=◌, give, outside}
use Rattle.ecma_runs.specs.Meaning.{ExecutionContext}
use Rattle.ecma_runs.specs.Evaluation.{meaning}
use Rattle.ecma_run_places.specs.Worlds.{World, Above, States}
use Rattle.ecma_run_places.specs.Alike.{Outcomes, both_done, both_thrown, both_returned, both_broken, both_continued, both_ended, Alike}
use Rattle.ecma_run_places.proofs.Growing.{itself, above}
use Rattle.ecma_run_places.proofs.Dropping.{Dropped, dropped, dropped_thrown, dropped_end, Drops}
use Rattle.ecma_extract_runs.specs.Evaluated.{evaluated}

pub data Led (w : World) {A : Type 0} : Outcome A → Outcome (Unit {0}) → Type 0 where
  led : {v : World} {a : A} {t t' : State} → Above w v → States v t t' → Led w (Done a t) (Done tt t')
  led_thrown : {e : Value} {t : State} {r : Outcome (Unit {0})} → Led w (Thrown e t) r
  led_returned : {e : Value} {t : State} {r : Outcome (Unit {0})} → Led w (Returned e t) r
  led_broken : {t : State} {r : Outcome (Unit {0})} → Led w (Broken t) r
  led_continued : {t : State} {r : Outcome (Unit {0})} → Led w (Continued t) r
  led_end : {why : Stop} {t : State} {r : Outcome (Unit {0})} → Led w (Ended why t) r

pub record Leads (w : World) {A : Type 0} (m : Run A) (m' : Run (Unit {0})) : Type 0 where
  pub at : {s s' : State} → States w s s' → Led w (m s) (m' s')

pub raised : {w v : World} {A : Type 0} {r : Outcome A} {r' : Outcome (Unit {0})} → Above w v → Led v r r' → Led w r r'
raised u (led p st) = led (above u p) st
raised u led_thrown = led_thrown
raised u led_returned = led_returned
raised u led_broken = led_broken
raised u led_continued = led_continued
raised u led_end = led_end

-- ---- what never comes to its end leads to anything

pub data Undone {A : Type 0} : Outcome A → Type 0 where
  undone_thrown : {e : Value} {t : State} → Undone (Thrown e t)
  undone_returned : {e : Value} {t : State} → Undone (Returned e t)
  undone_broken : {t : State} → Undone (Broken t)
  undone_continued : {t : State} → Undone (Continued t)
  undone_end : {why : Stop} {t : State} → Undone (Ended why t)

pub undone_leads : {w : World} {A : Type 0} {r : Outcome A} {r' : Outcome (Unit {0})} → Undone r → Led w r r'
undone_leads undone_thrown = led_thrown
undone_leads undone_returned = led_returned
undone_leads undone_broken = led_broken
undone_leads undone_continued = led_continued
undone_leads undone_end = led_end

pub undone_on : {A B : Type 0} (k : A → Run B) {r : Outcome A} → Undone r → Undone (then_outcome r k)
undone_on k undone_thrown = undone_thrown
undone_on k undone_returned = undone_returned
undone_on k undone_broken = undone_broken
undone_on k undone_continued = undone_continued
undone_on k undone_end = undone_end

pub undone_behind : {A B : Type 0} (k : A → Run B) → ((a : A) (s : State) → Undone (k a s)) → (r : Outcome A) → Undone (then_outcome r k)
undone_behind k h (Done a s) = h a s
undone_behind k h (Thrown v s) = undone_thrown
undone_behind k h (Returned v s) = undone_returned
undone_behind k h (Broken s) = undone_broken
undone_behind k h (Continued s) = undone_continued
undone_behind k h (Ended why s) = undone_end

-- ---- what drops leads to nothing

from_dropped : {w : World} {A : Type 0} {r : Outcome A} {s' : State} → Dropped w s' r → Led w r (Done tt s')
from_dropped (dropped st) = led itself st
from_dropped dropped_thrown = led_thrown
from_dropped dropped_end = led_end

pub drops_lead : {w : World} {A : Type 0} {m : Run A} → Drops w m → Leads w m (give tt)
drops_lead h = record { at = λ st. from_dropped (h.at st) }

pub outside_leads : {w : World} {A : Type 0} {m' : Run (Unit {0})} → Leads w (outside {A = A}) m'
outside_leads = record { at = λ st. led_end }

from_alike : {w : World} {A : Type 0} {R : World → A → A → Type 0} {r r' : Outcome A} → Outcomes w R r r' → Led w r (then_outcome r' (λ _. give tt))
from_alike (both_done p st q) = led p st
from_alike (both_thrown p st q) = led_thrown
from_alike (both_returned p st q) = led_returned
from_alike (both_broken p st) = led_broken
from_alike (both_continued p st) = led_continued
from_alike (both_ended p st) = led_end

pub alike_leads : {w : World} {A : Type 0} {R : World → A → A → Type 0} {m m' : Run A} → Alike w R m m' → Leads w m (m' >>= λ _. give tt)
alike_leads h = record { at = λ st. from_alike (h.at st) }

-- ---- one part, then the rest

then_drops : {w : World} {A B : Type 0} {k : A → Run B} → ((v : World) → Above w v → (a : A) → Drops v (k a)) → {r : Outcome A} {r' : Outcome (Unit {0})} → Led w r r' → Led w (then_outcome r k) r'
then_drops h (led p st) = raised p (from_dropped ((h _ p _).at st))
then_drops h led_thrown = led_thrown
then_drops h led_returned = led_returned
then_drops h led_broken = led_broken
then_drops h led_continued = led_continued
then_drops h led_end = led_end

-- what follows drops
pub lead_drop : {w : World} {A B : Type 0} {m : Run A} {m' : Run (Unit {0})} {k : A → Run B} → Leads w m m' → ((v : World) → Above w v → (a : A) → Drops v (k a)) → Leads w (m >>= k) m'
lead_drop hm hk = record { at = λ st. then_drops hk (hm.at st) }

then_leads : {w : World} {A B : Type 0} {k : A → Run B} {k' : Run (Unit {0})} → ((v : World) → Above w v → (a : A) → Leads v (k a) k') → {r : Outcome A} {r' : Outcome (Unit {0})} → Led w r r' → Led w (then_outcome r k) (then_outcome r' (λ _. k'))
then_leads h (led p st) = raised p ((h _ p _).at st)
then_leads h led_thrown = led_thrown
then_leads h led_returned = led_returned
then_leads h led_broken = led_broken
then_leads h led_continued = led_continued
then_leads h led_end = led_end

-- what follows leads to what follows
pub lead_bind : {w : World} {A B : Type 0} {m : Run A} {m' : Run (Unit {0})} {k : A → Run B} {k' : Run (Unit {0})} → Leads w m m' → ((v : World) → Above w v → (a : A) → Leads v (k a) k') → Leads w (m >>= k) (m' >>= λ _. k')
lead_bind hm hk = record { at = λ st. then_leads hk (hm.at st) }

dropped_then : {w : World} {A B : Type 0} {k : A → Run B} {m' : Run (Unit {0})} → ((a : A) → Leads w (k a) m') → {s' : State} {r : Outcome A} → Dropped w s' r → Led w (then_outcome r k) (m' s')
dropped_then h (dropped st) = (h _).at st
dropped_then h dropped_thrown = led_thrown
dropped_then h dropped_end = led_end

-- what drops may go before
pub drop_bind : {w : World} {A B : Type 0} {m : Run A} {k : A → Run B} {m' : Run (Unit {0})} → Drops w m → ((a : A) → Leads w (k a) m') → Leads w (m >>= k) m'
drop_bind hm hk = record { at = λ st. dropped_then hk (hm.at st) }

-- ---- lists of expressions

pub assoc : {A B C : Type 0} (r : Outcome A) (k : A → Run B) (l : B → Run C) → then_outcome r (λ a. k a >>= l) ≡ then_outcome (then_outcome r k) l
assoc (Done a s) k l = refl
assoc (Thrown v s) k l = refl
assoc (Returned v s) k l = refl
assoc (Broken s) k l = refl
assoc (Continued s) k l = refl
assoc (Ended why s) k l = refl

pub evaluated-append : (ms ns : List Node) (x : ExecutionContext) (s : State) → evaluated (ms ++ ns) x s ≡ then_outcome (evaluated ms x s) (λ _. evaluated ns x)
evaluated-append [] ns x s = refl
evaluated-append (m ∷ ms) ns x s =
    ap (λ k. then_outcome ((meaning m).value x s) k) (λ i v t. evaluated-append ms ns x t i) ∙ assoc ((meaning m).value x s) (λ _. evaluated ms x) (λ _. evaluated ns x)

-- to what leads to the first list, and then to the second
pub lead_append : {w : World} {A : Type 0} {m : Run A} (ms ns : List Node) (x : ExecutionContext) → Leads w m (evaluated ms x >>= λ _. evaluated ns x) → Leads w m (evaluated (ms ++ ns) x)
lead_append {w} {A} {m} ms ns x h = record { at = λ st. by st }
  where
    by : {s s' : State} → States w s s' → Led w (m s) (evaluated (ms ++ ns) x s')
    by {s} {s'} st = subst (Led w (m s)) (sym (evaluated-append ms ns x s')) (h.at st)

-- ---- parts of parts

nested_on : {w : World} {A B C : Type 0} (r : Outcome A) (k : A → Run B) (l : B → Run C) {r' : Outcome (Unit {0})} → Led w (then_outcome r (λ a. k a >>= l)) r' → Led w (then_outcome (then_outcome r k) l) r'
nested_on {w} r k l {r'} h = subst (λ o. Led w o r') (assoc r k l) h

pub nested : {w : World} {A B C : Type 0} (m : Run A) (k : A → Run B) (l : B → Run C) {m' : Run (Unit {0})} → Leads w (m >>= λ a. k a >>= l) m' → Leads w ((m >>= k) >>= l) m'
nested m k l h = record { at = λ st. nested_on (m _) k l (h.at st) }

unnested_on : {w : World} {A B C : Type 0} (r : Outcome A) (k : A → Run B) (l : B → Run C) {r' : Outcome (Unit {0})} → Led w (then_outcome (then_outcome r k) l) r' → Led w (then_outcome r (λ a. k a >>= l)) r'
unnested_on {w} r k l {r'} h = subst (λ o. Led w o r') (sym (assoc r k l)) h

pub unnested : {w : World} {A B C : Type 0} (m : Run A) (k : A → Run B) (l : B → Run C) {m' : Run (Unit {0})} → Leads w ((m >>= k) >>= l) m' → Leads w (m >>= λ a. k a >>= l) m'
unnested m k l h = record { at = λ st. unnested_on (m _) k l (h.at st) }
