-- The free name `arguments` is read alike, where both make its object, and where one has made it early.
use Rattle.std.proofs.Common.{◌≡◌, ◌⊎◌, inl, inr, refl, sym, ap, ◌∙◌, subst, subst₂, ℕ, zero, suc, List, [], ◌∷◌, ◌++◌, length, Some, Bool, true, false, nat_eq, slice_get, eqb-true}
use Rattle.ecma_runs.specs.Values.{Value, Own}
use Rattle.ecma_runs.specs.State.{Arguments, Made, Activation, Environment, Object, State}
use Rattle.ecma_runs.specs.Run.{Outcome, Run, then_outcome, give, changed_at}
use Rattle.ecma_runs.specs.Environment.{activation_in, with_activation, with_arguments}
use Rattle.ecma_runs.specs.Functions.{made_arguments, arguments_by, read_name}
use Rattle.ecma_run_places.specs.Worlds.{both, Are, Paired, newest, older, Among, World, IsFree, Above, Like, owns, LikeActivation, arguments_of_activation, arguments_at, arguments_object, LikeArguments, both_unbound, both_forbidden, both_given, both_made, made_early, LikeAt, States}
use Rattle.ecma_run_places.specs.Alike.{Outcomes, both_done, both_ended, Alike, Likes, Contexts, first, second}
use Rattle.ecma_run_places.proofs.Growing.{itself, each_up, values_up, object_up, activation_up, environment_up}
use Rattle.ecma_run_places.proofs.Lists.{here_changed, else_changed, is_not_next, not_equal, equal_not, are_changed, last_at, front_at}
use Rattle.ecma_run_places.proofs.Combinators.{when_alike}
use Rattle.ecma_run_places.proofs.Building.{are_up, at_up, AreNew, new_objects, with_objects, more_objects, grown_objects, arguments_in, arguments_here, arguments_behind}
use Rattle.ecma_run_places.proofs.Records.{active, Found, found, found_none, activation_found}
use Rattle.ecma_run_places.proofs.Objects.{arguments_like}

-- in a record the object `arguments` is one that is there
abbrev pub made_in : ℕ → Activation → Environment → Environment
made_in o x e = with_activation (with_arguments (Made o) x) e

-- what a record has for `arguments` behind that
pub made_or_old : (es : List Environment) (a o : ℕ) (x : Activation) (e : Environment) → slice_get es a ≡ Some e → (c p : ℕ) → arguments_in (changed_at (made_in o x) a es) c ≡ Made p
    → ((a ≡ c) × (o ≡ p)) ⊎ (arguments_in es c ≡ Made p)
made_or_old es a o x e at c p h = by (nat_eq a c) refl
  where
    by : (b : Bool) → nat_eq a c ≡ b → ((a ≡ c) × (o ≡ p)) ⊎ (arguments_in es c ≡ Made p)
    by true is =
        let here : a ≡ c = eqb-true a c is in
        let made : arguments_in (changed_at (made_in o x) a es) a ≡ Made o = arguments_here (changed_at (made_in o x) a es) a (made_in o x e) (here_changed (made_in o x) a es e at) in
        let same : Made o ≡ Made p = sym made ∙ ap (arguments_in (changed_at (made_in o x) a es)) here ∙ h in
        inl (here, cc)
    by false is = inr (sym (ap (λ z. arguments_of_activation (activation_in z)) (else_changed (made_in o x) a c es is)) ∙ h)

-- both records get objects that belong together
module _ {w : World} {s s' : State} (st : States w s s') {a b : ℕ} (p : Paired w.environments a b) {x x' : Activation} (at : activation_in (slice_get s.environments a) ≡ Some x)
    (at' : activation_in (slice_get s'.environments b) ≡ Some x') (l : LikeActivation w x x') (o o' : ℕ) (new : AreNew w o o') (os os' : List Object) where
  abbrev behind : World
  behind = with_objects w o o' new

  abbrev further : Above w behind
  further = more_objects w o o' new

  abbrev es : List Environment
  es = changed_at (made_in o x) a s.environments

  abbrev es' : List Environment
  es' = changed_at (made_in o' x') b s'.environments

  module _ (objects : (c d : ℕ) → Paired behind.objects c d → Are (LikeAt behind c d) (slice_get os c) (slice_get os' d))
      (others : (c d : ℕ) → Paired w.environments c d → nat_eq a c ≡ false → LikeArguments behind os (arguments_at s c) (arguments_at s' d))
      (elsewhere : (c d : ℕ) → Paired w.environments c d → arguments_at s c ≡ Made o → a ≡ c)
      (still : (c : ℕ) → Among c w.free → (y : Object) × (slice_get os c ≡ Some y)) where
    made_arguments_like : (c d : ℕ) → Paired w.environments c d → LikeArguments behind os (arguments_in es c) (arguments_in es' d)
    made_arguments_like c d q = by (nat_eq a c) refl
      where
        by : (z : Bool) → nat_eq a c ≡ z → LikeArguments behind os (arguments_in es c) (arguments_in es' d)
        by true is =
            let t = active (slice_get s.environments a) x at in
            let t' = active (slice_get s'.environments b) x' at' in
            let made : arguments_in es a ≡ Made o = arguments_here es a (made_in o x t.0) (here_changed (made_in o x) a s.environments t.0 t.1) in
            let made' : arguments_in es' b ≡ Made o' = arguments_here es' b (made_in o' x' t'.0) (here_changed (made_in o' x') b s'.environments t'.0 t'.1) in
            subst₂ (λ i j. LikeArguments behind os (arguments_in es i) (arguments_in es' j)) (eqb-true a c is) (eqb-true b d (sym (w.environments_apart a b c d p q) ∙ is))
            (subst₂ (LikeArguments behind os) (sym made) (sym made') (both_made newest))
        by false is =
            subst₂ (LikeArguments behind os) (sym (ap (λ z. arguments_of_activation (activation_in z)) (else_changed (made_in o x) a c s.environments is)))
            (sym (ap (λ z. arguments_of_activation (activation_in z)) (else_changed (made_in o' x') b d s'.environments (sym (w.environments_apart a b c d p q) ∙ is)))) (others c d q is)

    made_apart : (c d i j q : ℕ) → Paired w.environments c d → Paired w.environments i j → arguments_in es c ≡ Made q → arguments_in es i ≡ Made q → c ≡ i
    made_apart c d i j q r z h k =
        let t = active (slice_get s.environments a) x at in
        by (made_or_old s.environments a o x t.0 t.1 c q h) (made_or_old s.environments a o x t.0 t.1 i q k)
      where
        by : ((a ≡ c) × (o ≡ q)) ⊎ (arguments_at s c ≡ Made q) → ((a ≡ i) × (o ≡ q)) ⊎ (arguments_at s i ≡ Made q) → c ≡ i
        by (inl m) (inl n) = sym m.0 ∙ n.0
        by (inl m) (inr n) = sym m.0 ∙ elsewhere i j z (n ∙ ap Made (sym m.1))
        by (inr m) (inl n) = sym (elsewhere c d r (m ∙ ap Made (sym n.1))) ∙ n.0
        by (inr m) (inr n) = st.arguments_apart c d i j q r z m n

    pub made_states : States behind (record s { environments = es; objects = os }) (record s' { environments = es'; objects = os' })
    made_states = record {
      objects = objects;
      environments = λ c d q. are_changed (made_in o x) (made_in o' x') s.environments s'.environments a b c d (w.environments_apart a b c d p q)
          (λ is y y' here here' m. record { bindings = m.bindings; activation = both (record { this = active_up.this; function = active_up.function; home = active_up.home; new_target = active_up.new_target }) })
          (are_up (λ y y' m. environment_up further m) (st.environments c d q));
      arguments = made_arguments_like;
      arguments_apart = made_apart;
      free = still;
      handles = each_up (λ c d q. older q) st.handles;
      answers = st.answers;
      events = st.events;
      turns = st.turns;
    }
      where
        active_up : LikeActivation behind x x'
        active_up = activation_up further l

-- ---- both make it

pub unmade_by : {w : World} {os : List Object} (new : (c d : ℕ) → Paired w.objects c d → nat_eq c (length os) ≡ false) {g g' : Arguments} → LikeArguments w os g g' → g ≡ Made (length os) → ⊥
unmade_by new both_unbound e = cc
unmade_by new both_forbidden e = cc
unmade_by new (both_given qs) e = cc
unmade_by {w} {os} new (both_made {a = o} {b = d} q) e = let same : o ≡ length os = cc in equal_not o (length os) (new o d q) same
unmade_by {w} {os} new (made_early {a = o} vs at free used qs) e = let same : o ≡ length os = cc in equal_not o (length os) (is_not_next os o _ at) same

both_make : {w : World} {s s' : State} (st : States w s s') {a b : ℕ} → Paired w.environments a b → {x x' : Activation} → activation_in (slice_get s.environments a) ≡ Some x
    → activation_in (slice_get s'.environments b) ≡ Some x' → LikeActivation w x x' → {vs vs' : List Value} → Likes w vs vs' → Outcomes w Like (made_arguments a x vs s) (made_arguments b x' vs' s')
both_make {w} {s} {s'} st {a} {b} p {x} {x'} at at' l {vs} {vs'} qs =
    both_done (more_objects w (length s.objects) (length s'.objects) (new_objects st))
    (made_states st p at at' l (length s.objects) (length s'.objects) (new_objects st) (s.objects ++ arguments_object vs ∷ []) (s'.objects ++ arguments_object vs' ∷ [])
    (grown_objects st (arguments_like qs)).objects
    (λ c d q _. arguments_behind s.objects (arguments_object vs) (length s'.objects) (new_objects st) (st.arguments c d q))
    (λ c d q e. absurd (unmade_by (λ i j r. ((new_objects st).apart i j r).0) (st.arguments c d q) e))
    (grown_objects st (arguments_like qs)).free)
    (owns newest)

-- ---- the first has made it early

-- nothing changes where it is made already
changed_same : {A : Type 0} (f : A → A) (n : ℕ) (xs : List A) (x : A) → slice_get xs n ≡ Some x → f x ≡ x → changed_at f n xs ≡ xs
changed_same f n [] x at same = refl
changed_same f zero (y ∷ xs) x at same = let is : y ≡ x = cc in ap (λ z. z ∷ xs) (ap f is ∙ same ∙ sym is)
changed_same f (suc n) (y ∷ xs) x at same = ap (λ l. y ∷ l) (changed_same f n xs x at same)

made_already : (o : ℕ) (x : Activation) (e : Environment) → e.activation ≡ Some x → x.arguments ≡ Made o → made_in o x e ≡ e
made_already o x e is made = λ i. record { bindings = e.bindings; activation = (ap (λ g. Some (with_arguments g x)) (sym made) ∙ sym is) i }

second_makes : {w : World} {s s' : State} (st : States w s s') {a b : ℕ} → Paired w.environments a b → {x x' : Activation} → activation_in (slice_get s.environments a) ≡ Some x
    → activation_in (slice_get s'.environments b) ≡ Some x' → LikeActivation w x x' → {o : ℕ} (vs : List Value) {vs' : List Value} → slice_get s.objects o ≡ Some (arguments_object vs) → IsFree w.objects o → (Among o w.free → ⊥) → Likes w vs vs'
    → x.arguments ≡ Made o → Outcomes w Like (give (Own o) s) (made_arguments b x' vs' s')
second_makes {w} {s} {s'} st {a} {b} p {x} {x'} at at' l {o} vs {vs'} here free used qs made =
    both_done (more_objects w o (length s'.objects) new) (subst (λ z. States v (record { environments = z; objects = s.objects; handles = s.handles; answers = s.answers; events = s.events; turns = s.turns }) t) unchanged states) (owns newest)
  where
    new : AreNew w o (length s'.objects)
    new = record { apart = λ c d q. (not_equal c o (λ e. free d (subst (λ z. Paired w.objects z d) e q)), ((new_objects st).apart c d q).1); used = used }

    v : World
    v = with_objects w o (length s'.objects) new

    u : Above w v
    u = more_objects w o (length s'.objects) new

    t : State
    t = record s' { environments = changed_at (made_in (length s'.objects) x') b s'.environments; objects = s'.objects ++ arguments_object vs' ∷ [] }

    unchanged : changed_at (made_in o x) a s.environments ≡ s.environments
    unchanged = let e = active (slice_get s.environments a) x at in changed_same (made_in o x) a s.environments e.0 e.1 (made_already o x e.0 e.2 made)

    objects : (c d : ℕ) → Paired v.objects c d → Are (LikeAt v c d) (slice_get s.objects c) (slice_get (s'.objects ++ arguments_object vs' ∷ []) d)
    objects _ _ newest = record {
      first = arguments_object vs;
      second = arguments_object vs';
      is_first = here;
      is_second = last_at s'.objects (arguments_object vs');
      related = record { like = object_up u (arguments_like qs); below = tt; below' = tt };
    }
    objects c d (older q) = let e = st.objects c d q in record {
      first = e.first;
      second = e.second;
      is_first = e.is_first;
      is_second = front_at s'.objects (arguments_object vs' ∷ []) d e.second e.is_second;
      related = at_up u e.related;
    }

    has : arguments_at s a ≡ Made o
    has = ap arguments_of_activation at ∙ made

    by : (c d : ℕ) → Paired w.environments c d → nat_eq a c ≡ false → {g g' : Arguments} → arguments_at s c ≡ g → LikeArguments w s.objects g g' → LikeArguments v s.objects g g'
    by c d q apart is both_unbound = both_unbound
    by c d q apart is both_forbidden = both_forbidden
    by c d q apart is (both_given rs) = both_given (values_up u rs)
    by c d q apart is (both_made r) = both_made (older r)
    by c d q apart is (made_early {a = i} us at'' free' used' rs) = made_early us at'' still_free used' (values_up u rs)
      where
        still_free : (j : ℕ) → Paired v.objects i j → ⊥
        still_free j r = split r refl
          where
            split : {x y : ℕ} → Paired v.objects x y → x ≡ i → ⊥
            split newest e = equal_not a c apart (st.arguments_apart a b c d o p q has (is ∙ ap Made (sym e)))
            split {y = y} (older r) e = free' y (subst (λ z. Paired w.objects z y) e r)

    states : States v (record s { environments = changed_at (made_in o x) a s.environments; objects = s.objects }) t
    states = made_states st p at at' l o (length s'.objects) new s.objects (s'.objects ++ arguments_object vs' ∷ []) objects
        (λ c d q apart. by c d q apart refl (st.arguments c d q)) (λ c d q e. st.arguments_apart a b c d o p q has e) st.free

-- ---- it is read

arguments_found : {w : World} {s s' : State} → States w s s' → {a b : ℕ} → Paired w.environments a b → {x x' : Activation} → activation_in (slice_get s.environments a) ≡ Some x → activation_in (slice_get s'.environments b) ≡ Some x'
    → LikeActivation w x x' → {free free' : Run Value} → Alike w Like free free' → {g g' : Arguments} → x.arguments ≡ g → LikeArguments w s.objects g g' → Outcomes w Like (arguments_by a x g free s) (arguments_by b x' g' free' s')
arguments_found st p at at' l h is both_unbound = h.at st
arguments_found st p at at' l h is both_forbidden = both_ended itself st
arguments_found st p at at' l h is (both_given qs) = both_make st p at at' l qs
arguments_found st p at at' l h is (both_made q) = both_done itself st (owns q)
arguments_found st p at at' l h is (made_early vs here free used qs) = second_makes st p at at' l vs here free used qs is

name_found : {w : World} {s s' : State} → States w s s' → {free free' : Run Value} → Alike w Like free free' → {r r' : Outcome (ℕ × Activation)} → Found w s s' r r'
    → Outcomes w Like (then_outcome r (λ a. arguments_by a.0 a.1 a.1.arguments free)) (then_outcome r' (λ a. arguments_by a.0 a.1 a.1.arguments free'))
name_found {w} {s} {s'} st h (found {a = a} {b = b} {x = x} {x' = x'} p at at' l) =
    arguments_found st p at at' l h refl (subst₂ (LikeArguments w s.objects) (ap arguments_of_activation at) (ap arguments_of_activation at') (st.arguments a b p))
name_found st h found_none = both_ended itself st

-- a free name, with what the host gives for it
pub read_name_alike : {w : World} (c : Contexts w) (name : List ℕ) {free free' : Run Value} → Alike w Like free free' → Alike w Like (read_name (first c) name free) (read_name (second c) name free')
read_name_alike c name h = when_alike refl (record { at = λ st. name_found st h (activation_found c.scopes st) }) h
