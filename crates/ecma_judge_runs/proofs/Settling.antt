-- Runs that leave each state as it was, and what is so of the states behind them; texts of elements there.
use Rattle.std.proofs.Common.{◌≡◌, refl, sym, ap, ◌∙◌, subst, ℕ, List, [], ◌∷◌, ◌++◌, Option, None, length}
use Rattle.ecma_runs.specs.Values.{Value, Own}
use Rattle.ecma_runs.specs.State.{Array, Object, State}
use Rattle.ecma_runs.specs.Run.{Outcome, Done, Thrown, Returned, Broken, Continued, Ended, Run, then_outcome, ◌>>=◌, give, outside}
use Rattle.ecma_runs.specs.Objects.{element_entries, new_array}
use Rattle.ecma_judge_runs.specs.Still.{Still}
use Rattle.ecma_judge_runs.specs.InState.{behind_commas, with_commas, HaveTextsIn, none_left, empty_text, own_text, array_text, HasArrayText}
use Rattle.ecma_judge_runs.proofs.Fronts.{last_at, front_at, still_itself, still_further}
use Rattle.ecma_judge_runs.proofs.Leaving.{Follows, Leaves}
use Rattle.ecma_judge_runs.proofs.Giving.{Gave, GivesBy}
use Rattle.ecma_judge_runs.proofs.Keeping.{Any, FollowsIn}
use Rattle.ecma_judge_runs.proofs.Objects.{new_object_by}

-- ---- runs

-- from each state that is R it leaves that as it was, and what it gives is P in the state behind
pub record SettlesFrom {A : Type 0} (R : State → Type 0) (P : A → State → Type 0) (m : Run A) : Type 0 where
  pub at : (s : State) → R s → FollowsIn s P (m s)

abbrev pub Settles : {A : Type 0} → (A → State → Type 0) → Run A → Type 0
Settles P m = SettlesFrom Any P m

raised : {A : Type 0} (s t : State) (P : A → State → Type 0) (r : Outcome A) → Still s t → FollowsIn t P r → FollowsIn s P r
raised s t P (Done a u) h e = (still_further s t u h e.0, e.1)
raised s t P (Thrown v u) h e = still_further s t u h e
raised s t P (Returned v u) h e = still_further s t u h e
raised s t P (Broken u) h e = still_further s t u h e
raised s t P (Continued u) h e = still_further s t u h e
raised s t P (Ended why u) h e = still_further s t u h e

then_settles : {A B : Type 0} (s : State) (P : A → State → Type 0) (Q : B → State → Type 0) (k : A → Run B) → ((a : A) → SettlesFrom (P a) Q (k a)) → (r : Outcome A) → FollowsIn s P r → FollowsIn s Q (then_outcome r k)
then_settles s P Q k h (Done a t) e = raised s t Q (k a t) e.0 ((h a).at t e.1)
then_settles s P Q k h (Thrown v t) e = e
then_settles s P Q k h (Returned v t) e = e
then_settles s P Q k h (Broken t) e = e
then_settles s P Q k h (Continued t) e = e
then_settles s P Q k h (Ended why t) e = e

pub bind_settles : {A B : Type 0} {R : State → Type 0} {P : A → State → Type 0} {Q : B → State → Type 0} {m : Run A} {k : A → Run B}
    → SettlesFrom R P m → ((a : A) → SettlesFrom (P a) Q (k a)) → SettlesFrom R Q (m >>= k)
bind_settles {P = P} {Q = Q} {m = m} {k = k} hm hk = record { at = λ s r. then_settles s P Q k hk (m s) (hm.at s r) }

weaker_in : {A : Type 0} (s : State) (P Q : A → State → Type 0) → ((a : A) (t : State) → Still s t → P a t → Q a t) → (r : Outcome A) → FollowsIn s P r → FollowsIn s Q r
weaker_in s P Q h (Done a t) e = (e.0, h a t e.0 e.1)
weaker_in s P Q h (Thrown v t) e = e
weaker_in s P Q h (Returned v t) e = e
weaker_in s P Q h (Broken t) e = e
weaker_in s P Q h (Continued t) e = e
weaker_in s P Q h (Ended why t) e = e

pub weaker_settles : {A : Type 0} {R : State → Type 0} {P Q : A → State → Type 0} {m : Run A} → ((a : A) (t : State) → P a t → Q a t) → SettlesFrom R P m → SettlesFrom R Q m
weaker_settles {P = P} {Q = Q} {m = m} h hm = record { at = λ s r. weaker_in s P Q (λ a t still p. h a t p) (m s) (hm.at s r) }

-- what was so before is so behind it, if it stays so
pub beside_settles : {A : Type 0} {R : State → Type 0} {P : A → State → Type 0} {m : Run A} → ((s t : State) → Still s t → R s → R t) → Settles P m → SettlesFrom R (λ a t. R t × P a t) m
beside_settles {R = R} {P = P} {m = m} stays hm = record { at = λ s r. weaker_in s P (λ a t. R t × P a t) (λ a t still p. (stays s t still r, p)) (m s) (hm.at s tt) }

pub give_settles : {A : Type 0} {R : State → Type 0} {P : A → State → Type 0} (a : A) → ((s : State) → R s → P a s) → SettlesFrom R P (give a)
give_settles a h = record { at = λ s r. (still_itself s, h s r) }

pub outside_settles : {A : Type 0} {R : State → Type 0} {P : A → State → Type 0} → SettlesFrom R P outside
outside_settles = record { at = λ s r. still_itself s }

settled_in : {A : Type 0} (s : State) (Q : A → Type 0) (r : Outcome A) → Follows s (λ a. Unit {0}) r → Gave Q r → FollowsIn s (λ a t. Q a) r
settled_in s Q (Done a t) f g = (f.0, g)
settled_in s Q (Thrown v t) f g = f
settled_in s Q (Returned v t) f g = f
settled_in s Q (Broken t) f g = f
settled_in s Q (Continued t) f g = f
settled_in s Q (Ended why t) f g = f

pub settled : {A : Type 0} {Q : A → Type 0} {m : Run A} → ((old : State) → Leaves old m) → GivesBy Q m → Settles (λ a t. Q a) m
settled {Q = Q} {m = m} h g = record { at = λ s r. settled_in s Q (m s) ((h s).at s (still_itself s)) (g.at s) }

-- ---- texts of elements

pub have_still : {s t : State} {elements : List (Option Value)} {texts : List (List ℕ)} → Still s t → HaveTextsIn s elements texts → HaveTextsIn t elements texts
have_still h none_left = none_left
have_still h (empty_text e k) = empty_text e (have_still h k)
have_still h (own_text e is k) = own_text e is (have_still h k)
have_still {s = s} {t = t} h (array_text {place = place} {o = o} at array inner k) = array_text (front_at s.objects t.objects place o h.objects at) array (have_still h inner) (have_still h k)

-- one element, before others
pub one_more : {s : State} {element : Option Value} {elements : List (Option Value)} {text : List ℕ} {texts : List (List ℕ)} → HaveTextsIn s (element ∷ []) (text ∷ []) → HaveTextsIn s elements texts
    → HaveTextsIn s (element ∷ elements) (text ∷ texts)
one_more (empty_text e none_left) h = empty_text e h
one_more (own_text e is none_left) h = own_text e is h
one_more (array_text at array inner none_left) h = array_text at array inner h

-- what an element of an array literal adds: one element, with this text
pub record OneText (s : State) (elements : List (Option Value)) (text : List ℕ) : Type 0 where
  pub element : Option Value
  pub is : elements ≡ element ∷ []
  pub have : HaveTextsIn s (element ∷ []) (text ∷ [])

pub one_still : (text : List ℕ) (elements : List (Option Value)) (s t : State) → Still s t → OneText s elements text → OneText t elements text
one_still text elements s t h o = record { element = o.element; is = o.is; have = have_still h o.have }

-- texts, the first behind `front` and each other behind a comma (44)
abbrev pub joined_from : List ℕ → List (List ℕ) → List ℕ
joined_from front [] = []
joined_from front (text ∷ texts) = (front ++ text) ++ joined_from (44 ∷ []) texts

behind : (texts : List (List ℕ)) → joined_from (44 ∷ []) texts ≡ behind_commas texts
behind [] = refl
behind (text ∷ texts) = ap (λ l. 44 ∷ text ++ l) (behind texts)

pub from_first : (texts : List (List ℕ)) → joined_from [] texts ≡ with_commas texts
from_first [] = refl
from_first (text ∷ texts) = ap (λ l. text ++ l) (behind texts)

pub record JoinedTexts (s : State) (elements : List (Option Value)) (front text : List ℕ) : Type 0 where
  pub texts : List (List ℕ)
  pub have : HaveTextsIn s elements texts
  pub joined : text ≡ joined_from front texts

pub joined_more : {s : State} {vs ws : List (Option Value)} (front : List ℕ) (text others : List ℕ) → OneText s vs text → JoinedTexts s ws (44 ∷ []) others → JoinedTexts s (vs ++ ws) front ((front ++ text) ++ others)
joined_more {s = s} {ws = ws} front text others o j = record {
  texts = text ∷ j.texts;
  have = subst (λ (l : List (Option Value)). HaveTextsIn s (l ++ ws) (text ∷ j.texts)) (sym o.is) (one_more o.have j.have);
  joined = ap (λ l. (front ++ text) ++ l) j.joined;
}

-- an array that is made of these has their texts, with commas between them
pub array_settles : (elements : List (Option Value)) (text : List ℕ) → SettlesFrom (λ s. JoinedTexts s elements [] text) (λ v s. HasArrayText s v text) (new_array elements >>= λ o. give (Own o))
array_settles elements text = record {
  at = λ s j.
      let object : Object = record { entries = element_entries 0 elements; prototype = None; callable = None; extent = Array (length elements) } in
      let still = ((new_object_by s object).at s (still_itself s)).0 in (
        still,
        record {
          place = length s.objects;
          is = refl;
          object = object;
          at = last_at s.objects object;
          elements = elements;
          array = record { entries = refl; extent = refl };
          parts = j.texts;
          have = have_still still j.have;
          joined = j.joined ∙ from_first j.texts;
        },
      );
}
