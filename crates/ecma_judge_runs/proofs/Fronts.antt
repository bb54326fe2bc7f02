-- Lists that have another at their front, and states that leave another as it was.
use Rattle.std.proofs.Common.{◌≡◌, refl, sym, ap, ◌∙◌, subst, ℕ, zero, suc, List, [], ◌∷◌, ◌++◌, ◌+◌, ◌≤◌, arith, length, length-append, Some, slice_get}
use Rattle.std.proofs.lemmas.List.{append-nil, append_assoc}
use Rattle.ecma_runs.specs.State.{State}
use Rattle.ecma_runs.specs.Run.{changed_at}
use Rattle.ecma_judge_runs.specs.Still.{Front, Still}

pub front_itself : {A : Type 0} (xs : List A) → Front xs xs
front_itself xs = ([], sym (append-nil xs))

pub front_further : {A : Type 0} (xs ys zs : List A) → Front xs ys → Front ys zs → Front xs zs
front_further xs ys zs h k = (h.0 ++ k.0, k.1 ∙ ap (λ l. l ++ k.0) h.1 ∙ append_assoc xs h.0 k.0)

pub front_push : {A : Type 0} (xs ys : List A) (y : A) → Front xs ys → Front xs (ys ++ y ∷ [])
front_push xs ys y h = front_further xs ys (ys ++ y ∷ []) h (y ∷ [], refl)

pub front_length : {A : Type 0} (xs ys : List A) → Front xs ys → length xs ≤ length ys
front_length xs ys h = let e : length ys ≡ length xs + length h.0 = ap length h.1 ∙ length-append xs h.0 in omega (arith, e)

changed_behind : {A : Type 0} (f : A → A) (xs more : List A) (n : ℕ) → length xs ≤ n → Front xs (changed_at f n (xs ++ more))
changed_behind f [] more n le = (changed_at f n more, refl)
changed_behind f (x ∷ xs) more zero le = absurd (omega (arith, le))
changed_behind f (x ∷ xs) more (suc n) le = let t = changed_behind f xs more n (omega (arith, le)) in (t.0, ap (λ l. x ∷ l) t.1)

-- what is changed stands behind
pub front_changed : {A : Type 0} (f : A → A) (xs ys : List A) (n : ℕ) → length xs ≤ n → Front xs ys → Front xs (changed_at f n ys)
front_changed f xs ys n le h = subst (λ l. Front xs (changed_at f n l)) (sym h.1) (changed_behind f xs h.0 n le)

pub last_at : {A : Type 0} (xs : List A) (y : A) → slice_get (xs ++ y ∷ []) (length xs) ≡ Some y
last_at [] y = refl
last_at (x ∷ xs) y = last_at xs y

-- what stands in a list stands in one that has it at its front
slice_get_front : {A : Type 0} (xs more : List A) (n : ℕ) (y : A) → slice_get xs n ≡ Some y → slice_get (xs ++ more) n ≡ Some y
slice_get_front [] more n y at = cc
slice_get_front (x ∷ xs) more zero y at = at
slice_get_front (x ∷ xs) more (suc n) y at = slice_get_front xs more n y at

pub front_at : {A : Type 0} (xs ys : List A) (n : ℕ) (y : A) → Front xs ys → slice_get xs n ≡ Some y → slice_get ys n ≡ Some y
front_at xs ys n y h at = subst (λ l. slice_get l n ≡ Some y) (sym h.1) (slice_get_front xs h.0 n y at)

pub still_itself : (s : State) → Still s s
still_itself s = record { environments = front_itself s.environments; objects = front_itself s.objects; handles = refl; answers = refl; events = refl }

pub still_further : (s t u : State) → Still s t → Still t u → Still s u
still_further s t u h k = record {
  environments = front_further s.environments t.environments u.environments h.environments k.environments;
  objects = front_further s.objects t.objects u.objects h.objects k.objects;
  handles = k.handles ∙ h.handles;
  answers = k.answers ∙ h.answers;
  events = k.events ∙ h.events;
}
