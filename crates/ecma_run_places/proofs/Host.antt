-- The host is used alike.
use Rattle.std.proofs.Common.{◌≡◌, refl, sym, ap, subst, ℕ, zero, suc, ◌^◌, List, [], ◌∷◌, ◌++◌, length, Option, Some, None, Bool, true, false, nat_eq, nat_lt, bytes_eq, codes, if◌then◌else◌, slice_get}
use Rattle.std.specs.List.{position, position_or_len}
use Rattle.ecma_number.specs.declared.js_number.JsNumber.TheVariants as js_number
use Rattle.ecma_runs.specs.declared.observation.Event.{Event}
use Rattle.ecma_runs.specs.declared.script.Answer.{Answer}
use Rattle.ecma_runs.specs.declared.script.Answer.TheVariants as answer
use Rattle.ecma_runs.specs.declared.script.FreeValue.{FreeValue}
use Rattle.ecma_runs.specs.declared.shown.ErrorKind.TheVariants as error
use Rattle.ecma_runs.specs.declared.shown.Shown.{Shown}
use Rattle.ecma_runs.specs.declared.shown.Shown.TheVariants as shown
use Rattle.ecma_runs.specs.Values.{Value, Undefined, Number}
use Rattle.ecma_runs.specs.State.{State}
use Rattle.ecma_runs.specs.Run.{Done, when, outside, spend_of, spend}
use Rattle.ecma_runs.specs.Host.{own_at, handled, taken, number_own, show_own, show_object, show, taken_if, answered, answer_from, next_answer, add_event, use_host, free_value, fixed_value, free_or, read_free, free_or_undefined, read_free_typed}
use Rattle.ecma_run_places.specs.Worlds.{Each, no_more, more, Maybe, neither, both, World, Same, is, Objects, Like, undefineds, nulls, truths, numbers, texts, owns, hosts, errors, States}
use Rattle.ecma_run_places.proofs.Combinators.{Stays, done_here, ended_here, Keeps, kept_bind, kept_bind_same, give_kept, throw_kept, outside_kept}
use Rattle.ecma_run_places.proofs.Building.{other_states}

pub each_at : {A : Type 0} {R : A → A → Type 0} {xs xs' : List A} → Each R xs xs' → (n : ℕ) → Maybe R (slice_get xs n) (slice_get xs' n)
each_at no_more n = neither
each_at (more q qs) zero = both q
each_at (more q qs) (suc n) = each_at qs n

pub each_length : {A : Type 0} {R : A → A → Type 0} {xs xs' : List A} → Each R xs xs' → length xs' ≡ length xs
each_length no_more = refl
each_length (more q qs) = ap suc (each_length qs)

pub each_append : {A : Type 0} {R : A → A → Type 0} {xs xs' bs bs' : List A} → Each R xs xs' → Each R bs bs' → Each R (xs ++ bs) (xs' ++ bs')
each_append no_more r = r
each_append (more q qs) r = more q (each_append qs r)

-- ---- values of the script

own_at_kept : {w : World} {o o' : Option ℕ} → Maybe (Objects w) o o' → Keeps w Like (own_at o) (own_at o')
own_at_kept neither = outside_kept
own_at_kept (both p) = give_kept (owns p)

pub handled_kept : {w : World} (number : ℕ) → Keeps w Like (handled number) (handled number)
handled_kept number = record { at = λ st. (own_at_kept (each_at st.handles number)).at st }

pub taken_kept : {w : World} (v : Shown) → Keeps w Like (taken v) (taken v)
taken_kept shown.Undefined = give_kept undefineds
taken_kept shown.Null = give_kept nulls
taken_kept (shown.Bool truth) = give_kept (truths truth)
taken_kept (shown.Num number) = give_kept (numbers number)
taken_kept (shown.Text text) = give_kept (texts text)
taken_kept (shown.Host number) = give_kept (hosts number)
taken_kept (shown.Handle number) = handled_kept number
taken_kept (shown.Error error_kind) = give_kept (errors error_kind)

pub taken_if_kept : {w : World} (o : Option Shown) → Keeps w Like (taken_if o) (taken_if o)
taken_if_kept None = outside_kept
taken_if_kept (Some v) = taken_kept v

fixed_like : {w : World} (name : List ℕ) → Maybe (Like w) (fixed_value name) (fixed_value name)
fixed_like name = by (bytes_eq name (codes "undefined")) (bytes_eq name (codes "NaN")) (bytes_eq name (codes "Infinity"))
  where
    by : {w : World} (a b c : Bool) → Maybe (Like w) (if a then Some Undefined else if b then Some (Number js_number.NaN) else if c then Some (Number js_number.Infinity) else None)
        (if a then Some Undefined else if b then Some (Number js_number.NaN) else if c then Some (Number js_number.Infinity) else None)
    by true b c = both undefineds
    by false true c = both (numbers js_number.NaN)
    by false false true = both (numbers js_number.Infinity)
    by false false false = neither

free_or_kept : {w : World} {v v' : Option Value} → Maybe (Like w) v v' → (o : Option Shown) → Keeps w Like (free_or v o) (free_or v' o)
free_or_kept (both q) o = give_kept q
free_or_kept neither (Some v) = taken_kept v
free_or_kept neither None = throw_kept (errors error.Reference)

pub read_free_kept : {w : World} (frees : List FreeValue) (name : List ℕ) → Keeps w Like (read_free frees name) (read_free frees name)
read_free_kept frees name = free_or_kept (fixed_like name) (free_value frees name)

free_or_undefined_kept : {w : World} {v v' : Option Value} → Maybe (Like w) v v' → (o : Option Shown) → Keeps w Like (free_or_undefined v o) (free_or_undefined v' o)
free_or_undefined_kept neither None = give_kept undefineds
free_or_undefined_kept neither (Some v) = free_or_kept neither (Some v)
free_or_undefined_kept (both q) None = free_or_kept (both q) None
free_or_undefined_kept (both q) (Some v) = free_or_kept (both q) (Some v)

pub read_free_typed_kept : {w : World} (frees : List FreeValue) (name : List ℕ) → Keeps w Like (read_free_typed frees name) (read_free_typed frees name)
read_free_typed_kept frees name = free_or_undefined_kept (fixed_like name) (free_value frees name)

-- ---- values that go to the host

-- an object was shown under the same number
position_or_len_same : (w : World) {a b : ℕ} → Objects w a b → {hs hs' : List ℕ} → Each (Objects w) hs hs' → position_or_len (nat_eq b) hs' ≡ position_or_len (nat_eq a) hs
position_or_len_same w p no_more = refl
position_or_len_same w {a} {b} p (more {a = c} {a' = d} q qs) = rw (w.objects_apart a b c d p q, position_or_len_same w p qs) refl

position_same : (w : World) {a b : ℕ} → Objects w a b → {hs hs' : List ℕ} → Each (Objects w) hs hs' → position (nat_eq b) hs' ≡ position (nat_eq a) hs
position_same w p qs = rw (position_or_len_same w p qs, each_length qs) refl

-- it gets the next number
numbered_by : {w : World} {a b : ℕ} → Objects w a b → {s s' : State} → States w s s' → (z : Bool) (n : ℕ)
    → Stays w Same (when z (λ t. Done (shown.Handle n) (record t { handles = s.handles ++ a ∷ [] })) outside s) (when z (λ t. Done (shown.Handle n) (record t { handles = s'.handles ++ b ∷ [] })) outside s')
numbered_by p st true n = done_here (other_states st (each_append st.handles (more p no_more)) st.answers st.events st.turns) is
numbered_by p st false n = ended_here st

numbered : {w : World} {a b : ℕ} → Objects w a b → {s s' : State} → States w s s' → Stays w Same (number_own a s) (number_own b s')
numbered {w} {a} {b} p {s} {s'} st =
    subst (λ n. Stays w Same (number_own a s) (when (nat_lt n (2 ^ 32)) (λ t. Done (shown.Handle n) (record t { handles = s'.handles ++ b ∷ [] })) outside s')) (sym (each_length st.handles))
    (numbered_by p st (nat_lt (length s.handles) (2 ^ 32)) (length s.handles))

number_own_kept : {w : World} {a b : ℕ} → Objects w a b → Keeps w Same (number_own a) (number_own b)
number_own_kept {w} {a} {b} p = record { at = λ st. numbered p st }

show_own_kept : {w : World} {a b : ℕ} → Objects w a b → (o : Option ℕ) → Keeps w Same (show_own a o) (show_own b o)
show_own_kept p (Some n) = give_kept is
show_own_kept p None = number_own_kept p

shown_at : {w : World} {a b : ℕ} → Objects w a b → {s s' : State} → States w s s' → Stays w Same (show_object a s) (show_object b s')
shown_at {w} {a} {b} p {s} {s'} st = subst (λ o. Stays w Same (show_object a s) (show_own b o s')) (sym (position_same w p st.handles)) ((show_own_kept p (position (nat_eq a) s.handles)).at st)

show_object_kept : {w : World} {a b : ℕ} → Objects w a b → Keeps w Same (show_object a) (show_object b)
show_object_kept {w} {a} {b} p = record { at = λ st. shown_at p st }

pub show_kept : {w : World} (v v' : Value) → Like w v v' → Keeps w Same (show v) (show v')
show_kept _ _ undefineds = give_kept is
show_kept _ _ nulls = give_kept is
show_kept _ _ (truths b) = give_kept is
show_kept _ _ (numbers n) = give_kept is
show_kept _ _ (texts t) = give_kept is
show_kept _ _ (owns p) = show_object_kept p
show_kept _ _ (hosts n) = give_kept is
show_kept _ _ (errors k) = give_kept is

-- ---- events and answers

add_event_kept : {w : World} (event : Event) → Keeps w Same (add_event event) (add_event event)
add_event_kept event = record { at = λ st. done_here (other_states st st.handles st.answers (ap (λ es. es ++ event ∷ []) st.events) st.turns) is }

answered_kept : {w : World} (a : Answer) → Keeps w Like (answered a) (answered a)
answered_kept (answer.Return v) = taken_kept v
answered_kept (answer.Throw v) = kept_bind (taken_kept v) (λ _ _ q. throw_kept q)

answer_from_kept : {w : World} {s s' : State} → States w s s' → (answers : List Answer) → Stays w Like (answer_from answers s) (answer_from answers s')
answer_from_kept st [] = ended_here st
answer_from_kept st (first ∷ rest) = (answered_kept first).at (other_states st st.handles refl st.events st.turns)

answered_next : {w : World} {s s' : State} → States w s s' → Stays w Like (next_answer s) (next_answer s')
answered_next {w} {s} {s'} st = subst (λ xs. Stays w Like (answer_from s.answers s) (answer_from xs s')) (sym st.answers) (answer_from_kept st s.answers)

next_answer_kept : {w : World} → Keeps w Like next_answer next_answer
next_answer_kept = record { at = λ st. answered_next st }

pub use_host_kept : {w : World} (event : Event) → Keeps w Like (use_host event) (use_host event)
use_host_kept event = kept_bind_same (add_event_kept event) (λ _. next_answer_kept)

-- ---- turns

spend_of_kept : {w : World} {s s' : State} → States w s s' → (n : ℕ) → Stays w Same (spend_of n s) (spend_of n s')
spend_of_kept st zero = ended_here st
spend_of_kept st (suc n) = done_here (other_states st st.handles st.answers st.events refl) is

spent : {w : World} {s s' : State} → States w s s' → Stays w Same (spend s) (spend s')
spent {w} {s} {s'} st = subst (λ n. Stays w Same (spend_of s.turns s) (spend_of n s')) (sym st.turns) (spend_of_kept st s.turns)

pub spend_kept : {w : World} → Keeps w Same spend spend
spend_kept = record { at = λ st. spent st }
