-- Which bindings get other texts, as they are found among the declarations.
use Rattle.std.proofs.Common.{◌≡◌, Bool, true, false, ◌&&◌, ◌||◌, not, cond, List, [], ◌∷◌, filter, refl, sym, ap, ◌∙◌}
use Rattle.ecma_hygiene.specs.declared.sight.Sight.{Sight}
use Rattle.ecma_hygiene.specs.Ids.{Id, same_id}
use Rattle.ecma_hygiene.specs.Sets.{is_declared_outside}
use Rattle.ecma_hygiene.specs.Texts.{distinct, is_bound, is_in_source, is_new}
use Rattle.ecma_hygiene.proofs.Telling.{id-same, or-left, or-right, true-false}

-- ---- ids that are chosen, each where it stands first

-- it matters only which of the chosen ids were met
distinct-agree : (p m n : Id → Bool) (ids : List Id) → ((x : Id) → p x ≡ true → m x ≡ n x) → distinct m (filter p ids) ≡ distinct n (filter p ids)
distinct-agree p m n [] agree = refl
distinct-agree p m n (x ∷ xs) agree = go (λ k l. distinct-agree p k l xs) (p x) refl
  where
    go : ((k l : Id → Bool) → ((y : Id) → p y ≡ true → k y ≡ l y) → distinct k (filter p xs) ≡ distinct l (filter p xs)) → (b : Bool) → p x ≡ b
        → distinct m (cond b (x ∷ filter p xs) (filter p xs)) ≡ distinct n (cond b (x ∷ filter p xs) (filter p xs))
    go rec true e =
        let rest = rec (λ y. same_id x y || m y) (λ y. same_id x y || n y) (λ y h. ap (λ (b : Bool). same_id x y || b) (agree y h)) in
        (λ j. cond (agree x e j) (rec m n agree j) (x ∷ rest j))
    go rec false e = rec m n agree

-- one that is not chosen is none of the chosen
met-others : (p met : Id → Bool) (x y : Id) → p x ≡ false → p y ≡ true → (same_id x y || met y) ≡ met y
met-others p met x y apart chosen = go (same_id x y) refl
  where
    go : (b : Bool) → same_id x y ≡ b → (b || met y) ≡ met y
    go true e = absurd (true-false (ap p (id-same x y e) ∙ chosen) apart)
    go false e = refl

pub filter-distinct : (p met : Id → Bool) (ids : List Id) → filter p (distinct met ids) ≡ distinct met (filter p ids)
filter-distinct p met [] = refl
filter-distinct p met (x ∷ xs) = go (λ m. filter-distinct p m xs) (met x) (p x) refl refl
  where
    go : ((m : Id → Bool) → filter p (distinct m xs) ≡ distinct m (filter p xs)) → (b c : Bool) → met x ≡ b → p x ≡ c
        → filter p (cond b (distinct met xs) (x ∷ distinct (λ y. same_id x y || met y) xs)) ≡ distinct met (cond c (x ∷ filter p xs) (filter p xs))
    go rec true true e k = rec met ∙ sym (ap (λ (b : Bool). cond b (distinct met (filter p xs)) (x ∷ distinct (λ y. same_id x y || met y) (filter p xs))) e)
    go rec true false e k = rec met
    go rec false true e k =
        ap (λ (c : Bool). cond c (x ∷ filter p (distinct (λ y. same_id x y || met y) xs)) (filter p (distinct (λ y. same_id x y || met y) xs))) k
        ∙ ap (λ (ys : List Id). x ∷ ys) (rec (λ y. same_id x y || met y))
        ∙ sym (ap (λ (b : Bool). cond b (distinct met (filter p xs)) (x ∷ distinct (λ y. same_id x y || met y) (filter p xs))) e)
    go rec false false e k =
        ap (λ (c : Bool). cond c (x ∷ filter p (distinct (λ y. same_id x y || met y) xs)) (filter p (distinct (λ y. same_id x y || met y) xs))) k
        ∙ rec (λ y. same_id x y || met y)
        ∙ distinct-agree p (λ y. same_id x y || met y) met xs (λ y h. met-others p met x y k h)

-- ---- new ids

outside-item : (same declares in_source : Bool) → (same && in_source) ≡ false → (same && (declares && not in_source)) ≡ (same && declares)
outside-item false declares in_source h = refl
outside-item true true true h = cc
outside-item true false true h = refl
outside-item true true false h = refl
outside-item true false false h = refl

-- an id that is not in the source is bound outside it
outside-bound : (seen : List Sight) (id : Id) → is_in_source seen id ≡ false → is_declared_outside seen id ≡ is_bound seen id
outside-bound [] id h = refl
outside-bound (x ∷ xs) id h =
    let here = outside-item (same_id x.id id) x.declares x.in_source (or-left (same_id x.id id && x.in_source) (is_in_source xs id) h) in
    let rest = outside-bound xs id (or-right (same_id x.id id && x.in_source) (is_in_source xs id) h) in
    (λ j. here j || rest j)

and-false : (a : Bool) → (a && false) ≡ false
and-false true = refl
and-false false = refl

pub outside-new : (seen : List Sight) (id : Id) → (is_declared_outside seen id && not (is_in_source seen id)) ≡ is_new seen id
outside-new seen id = go (is_in_source seen id) refl
  where
    go : (b : Bool) → is_in_source seen id ≡ b → (is_declared_outside seen id && not b) ≡ (is_bound seen id && not b)
    go true e = and-false (is_declared_outside seen id) ∙ sym (and-false (is_bound seen id))
    go false e = ap (λ (a : Bool). a && true) (outside-bound seen id e)
