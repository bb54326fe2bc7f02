-- Ids among others, and which of them are caught.
use Rattle.std.proofs.Common.{◌≡◌, ◌⊎◌, inl, inr, refl, sym, ap, ◌∙◌, List, [], ◌∷◌, ◌++◌, Bool, true, false, not, ◌&&◌, ◌||◌}
use Rattle.ecma_hygiene.proofs.Telling.{and-both, or-first, or-second, true-false}
use Rattle.ecma_runs.specs.State.{Id, same_id, Binding}
use Rattle.ecma_runs.specs.Environment.{except, ids_of, is_among}
use Rattle.ecma_runs.specs.Sought.{outside_of}
use Rattle.ecma_runs.specs.Meeting.{catches_none, is_told}
use Rattle.ecma_runs.proofs.Names.{among_first, same_id-equal, same_id-itself}

pub either-of : {A B C : Type 0} → A ⊎ B → (A → C) → (B → C) → C
either-of (inl a) f g = f a
either-of (inr b) f g = g b

pub and-true : (a : Bool) → (a && true) ≡ a
and-true true = refl
and-true false = refl

pub and-false : (a : Bool) → (a && false) ≡ false
and-false true = refl
and-false false = refl

pub among-left : (id : Id) (xs ys : List Id) → is_among id xs ≡ true → is_among id (xs ++ ys) ≡ true
among-left id [] ys h = absurd (true-false h refl)
among-left id (x ∷ xs) ys h = go (same_id x id) (among-left id xs ys) h
  where
    go : (b : Bool) → (is_among id xs ≡ true → is_among id (xs ++ ys) ≡ true) → (b || is_among id xs) ≡ true → (b || is_among id (xs ++ ys)) ≡ true
    go true rec h = refl
    go false rec h = rec h

pub among-right : (id : Id) (xs ys : List Id) → is_among id ys ≡ true → is_among id (xs ++ ys) ≡ true
among-right id [] ys h = h
among-right id (x ∷ xs) ys h = or-second (same_id x id) (is_among id (xs ++ ys)) (among-right id xs ys h)

pub among-cases : (id : Id) (xs ys : List Id) → is_among id (xs ++ ys) ≡ true → (is_among id xs ≡ true) ⊎ (is_among id ys ≡ true)
among-cases id [] ys h = inr h
among-cases id (x ∷ xs) ys h = go (same_id x id) (among-cases id xs ys) h
  where
    go : (b : Bool) → (is_among id (xs ++ ys) ≡ true → (is_among id xs ≡ true) ⊎ (is_among id ys ≡ true)) → (b || is_among id (xs ++ ys)) ≡ true → ((b || is_among id xs) ≡ true) ⊎ (is_among id ys ≡ true)
    go true rec h = inl refl
    go false rec h = rec h

pub among-one : (x id : Id) → is_among id (x ∷ []) ≡ true → x ≡ id
among-one x id h = go (same_id x id) refl h
  where
    go : (b : Bool) → same_id x id ≡ b → (b || false) ≡ true → x ≡ id
    go true e h = same_id-equal x id e
    go false e h = absurd (true-false h refl)

-- what is left outside of a record is none of its names
pub outside-both : (id : Id) (ids xs : List Id) → is_among id (outside_of ids xs) ≡ true → (is_among id xs ≡ true) × (is_among id ids ≡ false)
outside-both id ids [] h = absurd (true-false h refl)
outside-both id ids (y ∷ ys) h = step (outside-both id ids ys) (is_among y ids) refl
  where
    later : (is_among id ys ≡ true) × (is_among id ids ≡ false) → (is_among id (y ∷ ys) ≡ true) × (is_among id ids ≡ false)
    later t = (or-second (same_id y id) (is_among id ys) t.0, t.1)

    first : (is_among id (outside_of ids ys) ≡ true → (is_among id ys ≡ true) × (is_among id ids ≡ false)) → is_among y ids ≡ false → (b : Bool) → same_id y id ≡ b → (b || is_among id (outside_of ids ys)) ≡ true → (is_among id (y ∷ ys) ≡ true) × (is_among id ids ≡ false)
    first rec away true e g = (or-first (same_id y id) (is_among id ys) e, ap (λ z. is_among z ids) (sym (same_id-equal y id e)) ∙ away)
    first rec away false e g = later (rec g)

    step : (is_among id (outside_of ids ys) ≡ true → (is_among id ys ≡ true) × (is_among id ids ≡ false)) → (b : Bool) → is_among y ids ≡ b → (is_among id (y ∷ ys) ≡ true) × (is_among id ids ≡ false)
    step rec true e =
        let g : is_among id (outside_of ids (y ∷ ys)) ≡ is_among id (outside_of ids ys) = rw e refl in later (rec (sym g ∙ h))
    step rec false e =
        let g : is_among id (outside_of ids (y ∷ ys)) ≡ (same_id y id || is_among id (outside_of ids ys)) = rw e refl in first rec e (same_id y id) refl (sym g ∙ h)

-- variables whose names are none of these
pub except-among : (id : Id) (names : List Id) (bs : List Binding) → is_among id (ids_of (except names bs)) ≡ (is_among id (ids_of bs) && not (is_among id names))
except-among id names [] = refl
except-among id names (b ∷ bs) = step (except-among id names bs) (is_among b.id names) refl (same_id b.id id) refl
  where
    named : same_id b.id id ≡ true → is_among id names ≡ is_among b.id names
    named e = ap (λ z. is_among z names) (sym (same_id-equal b.id id e))

    step : is_among id (ids_of (except names bs)) ≡ (is_among id (ids_of bs) && not (is_among id names)) → (p : Bool) → is_among b.id names ≡ p → (q : Bool) → same_id b.id id ≡ q → is_among id (ids_of (except names (b ∷ bs))) ≡ ((same_id b.id id || is_among id (ids_of bs)) && not (is_among id names))
    step rec true e true f =
        let g : is_among id (ids_of (except names (b ∷ bs))) ≡ is_among id (ids_of (except names bs)) = rw e refl in
        let among : is_among id names ≡ true = named f ∙ e in
        g ∙ rec ∙ ap (λ z. is_among id (ids_of bs) && not z) among ∙ and-false (is_among id (ids_of bs))
        ∙ sym (ap (λ z. (same_id b.id id || is_among id (ids_of bs)) && not z) among ∙ and-false (same_id b.id id || is_among id (ids_of bs)))
    step rec true e false f =
        let g : is_among id (ids_of (except names (b ∷ bs))) ≡ is_among id (ids_of (except names bs)) = rw e refl in
        g ∙ rec ∙ ap (λ z. (z || is_among id (ids_of bs)) && not (is_among id names)) (sym f)
    step rec false e true f =
        let g : is_among id (ids_of (except names (b ∷ bs))) ≡ (same_id b.id id || is_among id (ids_of (except names bs))) = rw e refl in
        let away : is_among id names ≡ false = named f ∙ e in
        g ∙ ap (λ z. z || is_among id (ids_of (except names bs))) f
        ∙ sym (ap (λ z. (z || is_among id (ids_of bs)) && not (is_among id names)) f ∙ ap not away)
    step rec false e false f =
        let g : is_among id (ids_of (except names (b ∷ bs))) ≡ (same_id b.id id || is_among id (ids_of (except names bs))) = rw e refl in
        g ∙ ap (λ z. z || is_among id (ids_of (except names bs))) f ∙ rec
        ∙ ap (λ z. (z || is_among id (ids_of bs)) && not (is_among id names)) (sym f)

-- names of which no other becomes what one does are told

module _ (to : Id → Id) where
  pub told-true : (ids : List Id) (id : Id) → ((other : Id) → is_among other ids ≡ true → to other ≡ to id → other ≡ id) → is_told to ids id ≡ true
  told-true [] id h = refl
  told-true (x ∷ xs) id h =
      and-both (same_id x id || not (same_id (to x) (to id))) (is_told to xs id) (first (same_id (to x) (to id)) refl)
      (told-true xs id (λ other among. h other (or-second (same_id x other) (is_among other xs) among)))
    where
      first : (b : Bool) → same_id (to x) (to id) ≡ b → (same_id x id || not (same_id (to x) (to id))) ≡ true
      first true e =
          let is : x ≡ id = h x (among_first x xs) (same_id-equal (to x) (to id) e) in
          or-first (same_id x id) (not (same_id (to x) (to id))) (ap (λ z. same_id z id) is ∙ same_id-itself id)
      first false e = or-second (same_id x id) (not (same_id (to x) (to id))) (ap not e)

  pub catches-true : (ids inner : List Id) → ((id other : Id) → is_among id inner ≡ true → is_among other ids ≡ true → to other ≡ to id → other ≡ id) → catches_none to ids inner ≡ true
  catches-true ids [] h = refl
  catches-true ids (y ∷ ys) h =
      and-both (is_told to ids y) (catches_none to ids ys) (told-true ids y (λ other among. h y other (among_first y ys) among))
      (catches-true ids ys (λ id other i. h id other (or-second (same_id y id) (is_among id ys) i)))
