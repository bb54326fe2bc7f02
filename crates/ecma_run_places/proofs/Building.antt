-- States that are the same but for places stay so where both get one more, or where what belongs together is changed alike.
use Rattle.std.proofs.Common.{◌≡◌, refl, sym, ap, ◌∙◌, subst, subst₂, ℕ, List, [], ◌∷◌, ◌++◌, length, Option, Some, Bool, true, false, nat_eq, slice_get, eqb-true}
use Rattle.std.proofs.lemmas.Option.{slice_get_within}
use Rattle.ecma_runs.specs.declared.observation.Event.{Event}
use Rattle.ecma_runs.specs.declared.script.Answer.{Answer}
use Rattle.ecma_runs.specs.Values.{Value}
use Rattle.ecma_runs.specs.State.{Arguments, Unbound, Forbidden, Given, Made, Environment, Object, State}
use Rattle.ecma_runs.specs.Run.{changed_at}
use Rattle.ecma_runs.specs.Environment.{activation_in}
use Rattle.ecma_run_places.specs.Worlds.{Each, Maybe, neither, both, Are, Paired, newest, older, Among, World, IsFree, Above, Objects, Like, LikeObject, objects_like, LikeEnvironment, arguments_of_activation, arguments_at, LikeArguments, both_unbound, both_forbidden, both_given, both_made, made_early, IsBelow, LikeAt, States}
use Rattle.ecma_run_places.proofs.Growing.{each_up, values_up, object_up, environment_up}
use Rattle.ecma_run_places.proofs.Lists.{front_at, last_at, here_changed, else_changed, is_not_next, not_equal, equal_not, are_front, are_last, are_changed, still_there, one_to_one_with}

-- ---- what the host and the script have left

pub other_states : {w : World} {s s' : State} {hs hs' : List ℕ} {xs xs' : List Answer} {es es' : List Event} {n n' : ℕ} → States w s s' → Each (Objects w) hs hs' → xs' ≡ xs → es' ≡ es → n' ≡ n
    → States w (record { environments = s.environments; objects = s.objects; handles = hs; answers = xs; events = es; turns = n })
    (record { environments = s'.environments; objects = s'.objects; handles = hs'; answers = xs'; events = es'; turns = n' })
other_states st hs xs es n = record {
  objects = st.objects;
  environments = st.environments;
  arguments = st.arguments;
  arguments_apart = st.arguments_apart;
  free = st.free;
  handles = hs;
  answers = xs;
  events = es;
  turns = n;
}

-- ---- objects

-- the places behind all objects are new
pub record AreNew (w : World) (a b : ℕ) : Type 0 where
  pub apart : (c d : ℕ) → Paired w.objects c d → (nat_eq c a ≡ false) × (nat_eq d b ≡ false)
  pub used : Among a w.free → ⊥

pub new_objects : {w : World} {s s' : State} → States w s s' → AreNew w (length s.objects) (length s'.objects)
new_objects {s = s} {s' = s'} st = record {
  apart = λ a b p. let e = st.objects a b p in (is_not_next s.objects a e.first e.is_first, is_not_next s'.objects b e.second e.is_second);
  used = λ m. let t = st.free (length s.objects) m in equal_not (length s.objects) (length s.objects) (is_not_next s.objects (length s.objects) t.0 t.1) refl;
}

-- a world with one more pair of objects
abbrev pub with_objects : (w : World) (a b : ℕ) → AreNew w a b → World
with_objects w a b new = record {
  objects = (a, b) ∷ w.objects;
  environments = w.environments;
  free = w.free;
  objects_apart = one_to_one_with a b w.objects w.objects_apart new.apart;
  environments_apart = w.environments_apart;
  free_apart = λ c d m p. kept_apart c d m p;
}
  where
    kept_apart : (c d : ℕ) → Among c w.free → Paired ((a, b) ∷ w.objects) c d → ⊥
    kept_apart _ _ m newest = new.used m
    kept_apart c d m (older p) = w.free_apart c d m p

pub more_objects : (w : World) (a b : ℕ) (new : AreNew w a b) → Above w (with_objects w a b new)
more_objects w a b new = record { objects = λ c d p. older p; environments = λ c d p. p; free = λ c m. m }

pub below_next : {w : World} {s s' : State} → States w s s' → {p p' : Option ℕ} → Maybe (Objects w) p p' → IsBelow (length s.objects) p × IsBelow (length s'.objects) p'
below_next st neither = (tt, tt)
below_next {s = s} {s' = s'} st (both {a} {a'} q) =
    let e = st.objects a a' q in (slice_get_within s.objects a e.first e.is_first, slice_get_within s'.objects a' e.second e.is_second)

prototype_of : {w : World} {o o' : Object} → LikeObject w o o' → Maybe (Objects w) o.prototype o'.prototype
prototype_of (objects_like es p c) = p

pub are_up : {A : Type 0} {R Q : A → A → Type 0} {o o' : Option A} → ((x y : A) → R x y → Q x y) → Are R o o' → Are Q o o'
are_up h e = record { first = e.first; second = e.second; is_first = e.is_first; is_second = e.is_second; related = h e.first e.second e.related }

pub at_up : {w v : World} → Above w v → {a b : ℕ} {o o' : Object} → LikeAt w a b o o' → LikeAt v a b o o'
at_up u l = record { like = object_up u l.like; below = l.below; below' = l.below' }

pub arguments_behind : {w : World} (os : List Object) (o : Object) (b : ℕ) (new : AreNew w (length os) b) → {g g' : Arguments} → LikeArguments w os g g'
    → LikeArguments (with_objects w (length os) b new) (os ++ o ∷ []) g g'
arguments_behind os o b new both_unbound = both_unbound
arguments_behind os o b new both_forbidden = both_forbidden
arguments_behind {w} os o b new (both_given qs) = both_given (values_up (more_objects w (length os) b new) qs)
arguments_behind os o b new (both_made p) = both_made (older p)
arguments_behind {w} os o b new (made_early {a = a} vs at free used qs) = made_early vs (front_at os (o ∷ []) a _ at) still_free used (values_up (more_objects w (length os) b new) qs)
  where
    still_free : (d : ℕ) → Paired ((length os, b) ∷ w.objects) a d → ⊥
    still_free d p = by p refl
      where
        by : {x y : ℕ} → Paired ((length os, b) ∷ w.objects) x y → x ≡ a → ⊥
        by newest e = equal_not a (length os) (is_not_next os a _ at) (sym e)
        by {y = y} (older q) e = free y (subst (λ z. Paired w.objects z y) e q)

pub grown_objects : {w : World} {s s' : State} (st : States w s s') {o o' : Object} → LikeObject w o o'
    → States (with_objects w (length s.objects) (length s'.objects) (new_objects st)) (record s { objects = s.objects ++ o ∷ [] }) (record s' { objects = s'.objects ++ o' ∷ [] })
grown_objects {w} {s} {s'} st {o} {o'} q = record {
  objects = objects;
  environments = λ a b p. are_up (λ x y l. environment_up u l) (st.environments a b p);
  arguments = λ a b p. arguments_behind s.objects o (length s'.objects) (new_objects st) (st.arguments a b p);
  arguments_apart = st.arguments_apart;
  free = λ a m. let t = st.free a m in (t.0, front_at s.objects (o ∷ []) a t.0 t.1);
  handles = each_up (λ a b p. older p) st.handles;
  answers = st.answers;
  events = st.events;
  turns = st.turns;
}
  where
    v : World
    v = with_objects w (length s.objects) (length s'.objects) (new_objects st)

    u : Above w v
    u = more_objects w (length s.objects) (length s'.objects) (new_objects st)

    new : LikeAt v (length s.objects) (length s'.objects) o o'
    new = let t = below_next st (prototype_of q) in record { like = object_up u q; below = t.0; below' = t.1 }

    objects : (a b : ℕ) → Paired v.objects a b → Are (LikeAt v a b) (slice_get (s.objects ++ o ∷ []) a) (slice_get (s'.objects ++ o' ∷ []) b)
    objects _ _ newest = are_last s.objects s'.objects o o' new
    objects a b (older p) = are_front s.objects s'.objects (o ∷ []) (o' ∷ []) a b (λ x y l. at_up u l) (st.objects a b p)

-- a change of one that keeps its prototype
pub changed_objects : {w : World} {s s' : State} → States w s s' → {a b : ℕ} → Paired w.objects a b → (f g : Object → Object) → ((o o' : Object) → LikeObject w o o' → LikeObject w (f o) (g o'))
    → ((o : Object) → (f o).prototype ≡ o.prototype) → ((o : Object) → (g o).prototype ≡ o.prototype)
    → States w (record s { objects = changed_at f a s.objects }) (record s' { objects = changed_at g b s'.objects })
changed_objects {w} {s} {s'} st {a} {b} p f g h kf kg = record {
  objects = λ c d q. are_changed f g s.objects s'.objects a b c d (w.objects_apart a b c d p q)
      (λ _ x y _ _ l. record { like = h x y l.like; below = subst (IsBelow c) (sym (kf x)) l.below; below' = subst (IsBelow d) (sym (kg y)) l.below' }) (st.objects c d q);
  environments = st.environments;
  arguments = λ c d q. by (st.arguments c d q);
  arguments_apart = st.arguments_apart;
  free = λ c m. let t = st.free c m in still_there f a c s.objects t.0 t.1;
  handles = st.handles;
  answers = st.answers;
  events = st.events;
  turns = st.turns;
}
  where
    by : {x x' : Arguments} → LikeArguments w s.objects x x' → LikeArguments w (changed_at f a s.objects) x x'
    by both_unbound = both_unbound
    by both_forbidden = both_forbidden
    by (both_given qs) = both_given qs
    by (both_made q) = both_made q
    by (made_early {a = o} vs at free used qs) = made_early vs (else_changed f a o s.objects (not_equal a o (λ e. free b (subst (λ z. Paired w.objects z b) e p))) ∙ at) free used qs

-- ---- environment records

pub new_environments : {w : World} {s s' : State} → States w s s' → (a b : ℕ) → Paired w.environments a b → (nat_eq a (length s.environments) ≡ false) × (nat_eq b (length s'.environments) ≡ false)
new_environments {s = s} {s' = s'} st a b p = let e = st.environments a b p in (is_not_next s.environments a e.first e.is_first, is_not_next s'.environments b e.second e.is_second)

abbrev pub with_environments : (w : World) (a b : ℕ) → ((c d : ℕ) → Paired w.environments c d → (nat_eq c a ≡ false) × (nat_eq d b ≡ false)) → World
with_environments w a b new = record {
  objects = w.objects;
  environments = (a, b) ∷ w.environments;
  free = w.free;
  objects_apart = w.objects_apart;
  environments_apart = one_to_one_with a b w.environments w.environments_apart new;
  free_apart = w.free_apart;
}

pub more_environments : (w : World) (a b : ℕ) (new : (c d : ℕ) → Paired w.environments c d → (nat_eq c a ≡ false) × (nat_eq d b ≡ false)) → Above w (with_environments w a b new)
more_environments w a b new = record { objects = λ c d p. p; environments = λ c d p. older p; free = λ c m. m }

-- what a record has for `arguments`
abbrev pub arguments_of : Environment → Arguments
arguments_of e = arguments_of_activation e.activation

abbrev pub arguments_in : List Environment → ℕ → Arguments
arguments_in es a = arguments_of_activation (activation_in (slice_get es a))

pub arguments_here : (es : List Environment) (a : ℕ) (e : Environment) → slice_get es a ≡ Some e → arguments_in es a ≡ arguments_of e
arguments_here es a e at = ap (λ o. arguments_of_activation (activation_in o)) at

-- in a record that is new the object is not made
pub data LikeNew (w : World) : Arguments → Arguments → Type 0 where
  new_unbound : LikeNew w Unbound Unbound
  new_forbidden : LikeNew w Forbidden Forbidden
  new_given : {vs vs' : List Value} → Each (Like w) vs vs' → LikeNew w (Given vs) (Given vs')

from_new : {w v : World} → Above w v → (os : List Object) → {g g' : Arguments} → LikeNew w g g' → LikeArguments v os g g'
from_new u os new_unbound = both_unbound
from_new u os new_forbidden = both_forbidden
from_new u os (new_given qs) = both_given (values_up u qs)

not_made : {w : World} {g g' : Arguments} → LikeNew w g g' → (o : ℕ) → g ≡ Made o → ⊥
not_made new_unbound o e = cc
not_made new_forbidden o e = cc
not_made (new_given qs) o e = cc

arguments_above : {w v : World} → Above w v → v.objects ≡ w.objects → v.free ≡ w.free → (os : List Object) {g g' : Arguments} → LikeArguments w os g g' → LikeArguments v os g g'
arguments_above u same free_same os both_unbound = both_unbound
arguments_above u same free_same os both_forbidden = both_forbidden
arguments_above u same free_same os (both_given qs) = both_given (values_up u qs)
arguments_above u same free_same os (both_made p) = both_made (u.objects _ _ p)
arguments_above u same free_same os (made_early {a = a} vs at free used qs) = made_early vs at (subst (λ z. IsFree z a) (sym same) free) (λ m. used (subst (Among a) free_same m)) (values_up u qs)

pub grown_environments : {w : World} {s s' : State} (st : States w s s') {e e' : Environment} → LikeEnvironment w e e' → LikeNew w (arguments_of e) (arguments_of e')
    → States (with_environments w (length s.environments) (length s'.environments) (new_environments st)) (record s { environments = s.environments ++ e ∷ [] }) (record s' { environments = s'.environments ++ e' ∷ [] })
grown_environments {w} {s} {s'} st {e} {e'} q fresh = record {
  objects = λ a b p. are_up (λ x y l. at_up u l) (st.objects a b p);
  environments = environments;
  arguments = arguments;
  arguments_apart = apart;
  free = st.free;
  handles = st.handles;
  answers = st.answers;
  events = st.events;
  turns = st.turns;
}
  where
    v : World
    v = with_environments w (length s.environments) (length s'.environments) (new_environments st)

    u : Above w v
    u = more_environments w (length s.environments) (length s'.environments) (new_environments st)

    es : List Environment
    es = s.environments ++ e ∷ []

    es' : List Environment
    es' = s'.environments ++ e' ∷ []

    environments : (a b : ℕ) → Paired v.environments a b → Are (LikeEnvironment v) (slice_get es a) (slice_get es' b)
    environments _ _ newest = are_last s.environments s'.environments e e' (environment_up u q)
    environments a b (older p) = are_front s.environments s'.environments (e ∷ []) (e' ∷ []) a b (λ x y l. environment_up u l) (st.environments a b p)

    -- what stood before has what it had
    old : (a b : ℕ) → Paired w.environments a b → arguments_in es a ≡ arguments_at s a
    old a b p = let x = st.environments a b p in arguments_here es a x.first (front_at s.environments (e ∷ []) a x.first x.is_first) ∙ sym (arguments_here s.environments a x.first x.is_first)

    old' : (a b : ℕ) → Paired w.environments a b → arguments_in es' b ≡ arguments_at s' b
    old' a b p = let x = st.environments a b p in arguments_here es' b x.second (front_at s'.environments (e' ∷ []) b x.second x.is_second) ∙ sym (arguments_here s'.environments b x.second x.is_second)

    new : arguments_in es (length s.environments) ≡ arguments_of e
    new = arguments_here es (length s.environments) e (last_at s.environments e)

    new' : arguments_in es' (length s'.environments) ≡ arguments_of e'
    new' = arguments_here es' (length s'.environments) e' (last_at s'.environments e')

    arguments : (a b : ℕ) → Paired v.environments a b → LikeArguments v s.objects (arguments_in es a) (arguments_in es' b)
    arguments _ _ newest = subst₂ (LikeArguments v s.objects) (sym new) (sym new') (from_new u s.objects fresh)
    arguments a b (older p) = subst₂ (LikeArguments v s.objects) (sym (old a b p)) (sym (old' a b p)) (arguments_above u refl refl s.objects (st.arguments a b p))

    unmade : (o : ℕ) → arguments_in es (length s.environments) ≡ Made o → ⊥
    unmade o e = not_made fresh o (sym new ∙ e)

    apart : (a b c d o : ℕ) → Paired v.environments a b → Paired v.environments c d → arguments_in es a ≡ Made o → arguments_in es c ≡ Made o → a ≡ c
    apart _ _ c d o newest q h k = absurd (unmade o h)
    apart a b _ _ o (older p) newest h k = absurd (unmade o k)
    apart a b c d o (older p) (older q) h k = st.arguments_apart a b c d o p q (sym (old a b p) ∙ h) (sym (old c d q) ∙ k)

-- a change of one that keeps its `arguments`

kept_arguments : (f : Environment → Environment) (es : List Environment) (a : ℕ) (e : Environment) → slice_get es a ≡ Some e → arguments_of (f e) ≡ arguments_of e → (c : ℕ) → arguments_in (changed_at f a es) c ≡ arguments_in es c
kept_arguments f es a e at same c = by (nat_eq a c) refl
  where
    by : (b : Bool) → nat_eq a c ≡ b → arguments_in (changed_at f a es) c ≡ arguments_in es c
    by true is =
        let here : a ≡ c = eqb-true a c is in
        subst (λ z. arguments_in (changed_at f a es) z ≡ arguments_in es z) here (arguments_here (changed_at f a es) a (f e) (here_changed f a es e at) ∙ same ∙ sym (arguments_here es a e at))
    by false is = ap (λ o. arguments_of_activation (activation_in o)) (else_changed f a c es is)

pub same_element : {A : Type 0} (xs : List A) (a c : ℕ) (x y : A) → nat_eq a c ≡ true → slice_get xs a ≡ Some x → slice_get xs c ≡ Some y → x ≡ y
same_element xs a c x y is at at' = let here : a ≡ c = eqb-true a c is in let e : slice_get xs a ≡ slice_get xs c = ap (slice_get xs) here in cc

pub changed_environment : {w : World} {s s' : State} → States w s s' → {a b : ℕ} → Paired w.environments a b → (f g : Environment → Environment) (e e' : Environment)
    → slice_get s.environments a ≡ Some e → slice_get s'.environments b ≡ Some e' → LikeEnvironment w (f e) (g e') → arguments_of (f e) ≡ arguments_of e → arguments_of (g e') ≡ arguments_of e'
    → States w (record s { environments = changed_at f a s.environments }) (record s' { environments = changed_at g b s'.environments })
changed_environment {w} {s} {s'} st {a} {b} p f g e e' at at' l kf kg = record {
  objects = st.objects;
  environments = λ c d q. are_changed f g s.environments s'.environments a b c d (w.environments_apart a b c d p q)
      (λ is x y here here' _. subst₂ (λ z z'. LikeEnvironment w (f z) (g z')) (same_element s.environments a c e x is at here)
      (same_element s'.environments b d e' y (sym (w.environments_apart a b c d p q) ∙ is) at' here') l) (st.environments c d q);
  arguments = λ c d q. subst₂ (LikeArguments w s.objects) (sym (kept_arguments f s.environments a e at kf c)) (sym (kept_arguments g s'.environments b e' at' kg d)) (st.arguments c d q);
  arguments_apart = λ c d i j o q r h k. st.arguments_apart c d i j o q r (sym (kept_arguments f s.environments a e at kf c) ∙ h) (sym (kept_arguments f s.environments a e at kf i) ∙ k);
  free = st.free;
  handles = st.handles;
  answers = st.answers;
  events = st.events;
  turns = st.turns;
}
