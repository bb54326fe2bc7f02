-- An object of the first state that is free may be changed there.
use Rattle.std.proofs.Common.{◌≡◌, refl, sym, ◌∙◌, subst, ℕ, length, List, [], ◌∷◌, ◌++◌, Option, Some, slice_get}
use Rattle.ecma_runs.specs.State.{Arguments, Property, Entry, Extent, Ordinary, Array, ArgumentList, Object, State}
use Rattle.ecma_runs.specs.Run.{Run, type_error, changed_at}
use Rattle.ecma_runs.specs.Objects.{own_property_at, extent_at, is_index_below, with_entries, change_entries, put_entry, is_fixed, if_element, define}
use Rattle.ecma_run_places.specs.Worlds.{Paired, Above, Among, among_first, among_others, World, IsFree, LikeArguments, both_unbound, both_forbidden, both_given, both_made, made_early, States}
use Rattle.ecma_run_places.proofs.Lists.{else_changed, still_there, not_equal, equal_not, is_not_next, front_at, last_at}
use Rattle.ecma_run_places.proofs.Building.{new_objects}
use Rattle.ecma_run_places.proofs.Growing.{values_up, object_up, environment_up}
use Rattle.ecma_run_places.proofs.Dropping.{dropped, dropped_thrown, Drops}
use Rattle.ecma_run_places.proofs.Idle.{drops_bind, outside_drops, when_drops}

type_error_drops : {w : World} {A : Type 0} → Drops w (type_error {A = A})
type_error_drops = record { at = λ st. dropped_thrown }

-- ---- an object that is free

abbrev pub with_free : (w : World) (a : ℕ) → IsFree w.objects a → World
with_free w a unpaired = record {
  objects = w.objects;
  environments = w.environments;
  free = a ∷ w.free;
  objects_apart = w.objects_apart;
  environments_apart = w.environments_apart;
  free_apart = λ c d m p. kept_free c d m p;
}
  where
    kept_free : (c d : ℕ) → Among c (a ∷ w.free) → Paired w.objects c d → ⊥
    kept_free c d among_first p = unpaired d p
    kept_free c d (among_others m) p = w.free_apart c d m p

pub next_free : {w : World} {s s' : State} → States w s s' → IsFree w.objects (length s.objects)
next_free {s = s} st b p = equal_not (length s.objects) (length s.objects) ((new_objects st).apart (length s.objects) b p).0 refl

pub above_free : (w : World) (a : ℕ) (u : IsFree w.objects a) → Above w (with_free w a u)
above_free w a u = record { objects = λ c d p. p; environments = λ c d p. p; free = λ c m. among_others m }

-- an object that the first state makes
pub made_free : {w : World} {s s' : State} (st : States w s s') (o : Object) → States (with_free w (length s.objects) (next_free st)) (record s { objects = s.objects ++ o ∷ [] }) s'
made_free {w} {s} {s'} st o = record {
  objects = λ a b p. let e = st.objects a b p in record {
    first = e.first;
    second = e.second;
    is_first = front_at s.objects (o ∷ []) a e.first e.is_first;
    is_second = e.is_second;
    related = record { like = object_up up e.related.like; below = e.related.below; below' = e.related.below' };
  };
  environments = λ a b p. let e = st.environments a b p in record { first = e.first; second = e.second; is_first = e.is_first; is_second = e.is_second; related = environment_up up e.related };
  arguments = λ a b p. by (st.arguments a b p);
  arguments_apart = st.arguments_apart;
  free = λ a m. there a m;
  handles = st.handles;
  answers = st.answers;
  events = st.events;
  turns = st.turns;
}
  where
    up : Above w (with_free w (length s.objects) (next_free st))
    up = above_free w (length s.objects) (next_free st)

    there : (a : ℕ) → Among a (length s.objects ∷ w.free) → (x : Object) × (slice_get (s.objects ++ o ∷ []) a ≡ Some x)
    there a among_first = (o, last_at s.objects o)
    there a (among_others m) = let t = st.free a m in (t.0, front_at s.objects (o ∷ []) a t.0 t.1)

    unused : (a : ℕ) (x : Object) → slice_get s.objects a ≡ Some x → (Among a w.free → ⊥) → Among a (length s.objects ∷ w.free) → ⊥
    unused a x at used among_first = equal_not a a (is_not_next s.objects a x at) refl
    unused a x at used (among_others m) = used m

    by : {g g' : Arguments} → LikeArguments w s.objects g g' → LikeArguments (with_free w (length s.objects) (next_free st)) (s.objects ++ o ∷ []) g g'
    by both_unbound = both_unbound
    by both_forbidden = both_forbidden
    by (both_given qs) = both_given (values_up up qs)
    by (both_made p) = both_made p
    by (made_early {a = a} vs at unpaired used qs) = made_early vs (front_at s.objects (o ∷ []) a _ at) unpaired (unused a _ at used) (values_up up qs)

changed_free : {w : World} {s s' : State} → States w s s' → (f : Object → Object) (place : ℕ) → Among place w.free → States w (record s { objects = changed_at f place s.objects }) s'
changed_free {w} {s} {s'} st f place m = record {
  objects = λ a b p. let e = st.objects a b p in record {
    first = e.first;
    second = e.second;
    is_first = else_changed f place a s.objects (not_equal place a (λ z. w.free_apart place b m (subst (λ y. Paired w.objects y b) (sym z) p))) ∙ e.is_first;
    is_second = e.is_second;
    related = e.related;
  };
  environments = st.environments;
  arguments = λ a b p. by (st.arguments a b p);
  arguments_apart = st.arguments_apart;
  free = λ a n. let t = st.free a n in still_there f place a s.objects t.0 t.1;
  handles = st.handles;
  answers = st.answers;
  events = st.events;
  turns = st.turns;
}
  where
    by : {g g' : Arguments} → LikeArguments w s.objects g g' → LikeArguments w (changed_at f place s.objects) g g'
    by both_unbound = both_unbound
    by both_forbidden = both_forbidden
    by (both_given qs) = both_given qs
    by (both_made q) = both_made q
    by (made_early {a = o} vs at unpaired used qs) = made_early vs (else_changed f place o s.objects (not_equal place o (λ e. used (subst (λ z. Among z w.free) e m))) ∙ at) unpaired used qs

if_element_drops : {w : World} (extent : Extent) (key : List ℕ) {m : Run (Unit {0})} → Drops w m → Drops w (if_element extent key m)
if_element_drops Ordinary key h = h
if_element_drops (Array n) key h = when_drops (is_index_below n key) h outside_drops
if_element_drops (ArgumentList n) key h = when_drops (is_index_below n key) h outside_drops

own_property_drops : {w : World} (place : ℕ) (key : List ℕ) → Drops w (own_property_at place key)
own_property_drops place key = record { at = λ st. dropped st }

extent_drops : {w : World} (place : ℕ) → Drops w (extent_at place)
extent_drops place = record { at = λ st. dropped st }

change_drops : {w : World} (place : ℕ) (change : List Entry → List Entry) → Among place w.free → Drops w (change_entries place change)
change_drops place change m = record { at = λ st. dropped (changed_free st (with_entries change) place m) }

pub define_drops : {w : World} (place : ℕ) (key : List ℕ) (to : Option Property → Property) → Among place w.free → Drops w (define place key to)
define_drops place key to m =
    drops_bind (own_property_drops place key) (λ p. drops_bind (extent_drops place) (λ extent. if_element_drops extent key (when_drops (is_fixed p) type_error_drops (change_drops place (put_entry key to) m))))
