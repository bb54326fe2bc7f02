-- What is known of the scopes that were entered: they are those of records, and a name that is looked up in them is told from the others until one declares it.
use Rattle.std.proofs.Common.{◌≡◌, ℕ, zero, suc, refl, sym, ap, ◌∙◌, subst, List, [], ◌∷◌, ◌++◌, map, Option, Some, None, Bool, true, false, ◌||◌, option_map, slice_get, length, append-nil}
use Rattle.ecma_runs.specs.State.{Id, same_id, Entered, Environment}
use Rattle.ecma_runs.specs.Run.{changed_at}
use Rattle.ecma_runs.specs.Environment.{ids_of, bindings_in, empty, is_among}
use Rattle.ecma_runs.proofs.Names.{Naming, Unless, unless_is, unless_map, unless_both, unless_flat, Told, EachTold, among_first}

-- the ids of the record at a place
abbrev pub ids_at : List Environment → ℕ → Option (List Id)
ids_at es place = option_map (λ e. ids_of e.bindings) (slice_get es place)

abbrev pub IsThere : Entered → List Environment → Type 0
IsThere e es = ids_at es e.place ≡ Some e.ids

abbrev pub AreThere : List Entered → List Environment → Type 0
AreThere [] es = Unit {0}
AreThere (e ∷ scope) es = IsThere e es × AreThere scope es

-- what records there are stay, with their ids
abbrev pub Keep : List Environment → List Environment → Type 0
Keep es es' = (place : ℕ) (ids : List Id) → ids_at es place ≡ Some ids → ids_at es' place ≡ Some ids

pub still_there : (scope : List Entered) (es es' : List Environment) → Keep es es' → AreThere scope es → AreThere scope es'
still_there [] es es' stay there = tt
still_there (e ∷ scope) es es' stay there = (stay e.place e.ids there.0, still_there scope es es' stay there.1)

pub keep_push : (es : List Environment) (e : Environment) → Keep es (es ++ e ∷ [])
keep_push [] e place ids is = absurd (cc)
keep_push (d ∷ es) e zero ids is = is
keep_push (d ∷ es) e (suc place) ids is = keep_push es e place ids is

pub keep_changed : (f : Environment → Environment) → ((e : Environment) → ids_of (f e).bindings ≡ ids_of e.bindings) → (n : ℕ) (es : List Environment) → Keep es (changed_at f n es)
keep_changed f h n [] place ids is = is
keep_changed f h zero (e ∷ es) zero ids is = ap Some (h e) ∙ is
keep_changed f h zero (e ∷ es) (suc place) ids is = is
keep_changed f h (suc n) (e ∷ es) zero ids is = is
keep_changed f h (suc n) (e ∷ es) (suc place) ids is = keep_changed f h n es place ids is

pub pushed_there : (es : List Environment) (e : Environment) → ids_at (es ++ e ∷ []) (length es) ≡ Some (ids_of e.bindings)
pushed_there [] e = refl
pushed_there (d ∷ es) e = pushed_there es e

some_same : {ids ids' : List Id} → Some ids ≡ Some ids' → ids ≡ ids'
some_same e = cc

there_in : (o : Option Environment) (ids : List Id) → option_map (λ e. ids_of e.bindings) o ≡ Some ids → ids_of (bindings_in o) ≡ ids
there_in None ids is = absurd (cc)
there_in (Some e) ids is = some_same is

-- the variables of a record that is there
pub ids_there : (e : Entered) (es : List Environment) → IsThere e es → ids_of (bindings_in (slice_get es e.place)) ≡ e.ids
ids_there e es there = there_in (slice_get es e.place) e.ids there

pub ids_of-empties : (is_constant : Bool) (ids : List Id) → ids_of (map (empty is_constant) ids) ≡ ids
ids_of-empties is_constant [] = refl
ids_of-empties is_constant (id ∷ ids) = ap (λ z. id ∷ z) (ids_of-empties is_constant ids)

module _ (names : Naming) where
  module _ (declared : List Id) where
    -- a name that is looked up: each scope's ids are told from it, until one declares it; and those of the module, where it declares the name nowhere
    abbrev pub Free : List Entered → Id → Type 0
    Free [] id = is_among id declared ≡ false → Told names declared id
    Free (e ∷ outer) id = Told names e.ids id × (is_among id e.ids ≡ false → Free outer id)

    abbrev pub NotCaught : List Entered → Id → Type 0
    NotCaught scope id = Unless names.plain (Free scope id)

    pub record Stands (scope : List Entered) (ids : List Id) : Type 0 where
      pub free : Unless names.plain ((id : Id) → is_among id ids ≡ true → Free scope id)

  -- in a record with these ids, what is looked up inside is told from them, and they from each other; and what is none of them is looked up outside
  pub record Opens (ids outer inner : List Id) : Type 0 where
    pub told : (id : Id) → is_among id inner ≡ true → Told names ids id
    pub left : (id : Id) → is_among id inner ≡ true → is_among id ids ≡ false → is_among id outer ≡ true

  pub opened : {declared : List Id} {scope : List Entered} {ids outer inner : List Id} → Unless names.plain (Opens ids outer inner) → Stands declared scope outer
      → (e : Entered) → e.ids ≡ ids → Stands declared (e ∷ scope) inner
  opened {declared} {scope} {ids} {outer} {inner} opens stands e is = record {
    free = unless_both names.plain (λ o f id sought.
        (subst (λ z. Told names z id) (sym is) (o.told id sought), λ away. f id (o.left id sought (subst (λ z. is_among id z ≡ false) is away))))
        opens stands.free;
  }

  -- parts of what is looked up

  among_either : (b p q : Bool) → (p ≡ true → q ≡ true) → (b || p) ≡ true → (b || q) ≡ true
  among_either true p q f h = refl
  among_either false p q f h = f h

  among_left : (id : Id) (xs ys : List Id) → is_among id xs ≡ true → is_among id (xs ++ ys) ≡ true
  among_left id [] ys h = absurd (cc)
  among_left id (x ∷ xs) ys h = among_either (same_id x id) (is_among id xs) (is_among id (xs ++ ys)) (among_left id xs ys) h

  pub among_right : (id : Id) (xs ys : List Id) → is_among id ys ≡ true → is_among id (xs ++ ys) ≡ true
  among_right id [] ys h = h
  among_right id (x ∷ xs) ys h = either (same_id x id) (is_among id (xs ++ ys)) (among_right id xs ys h)
    where
      either : (a b : Bool) → b ≡ true → (a || b) ≡ true
      either true b h = refl
      either false b h = h

  among_cases : (id : Id) (ids outer : List Id) (b : Bool) → is_among id ids ≡ b → (is_among id ids ≡ false → is_among id outer ≡ true) → is_among id (ids ++ outer) ≡ true
  among_cases id ids outer true e f = among_left id ids outer e
  among_cases id ids outer false e f = among_right id ids outer (f e)

  -- where a record with these ids may be made, what is looked up inside stands outside with them
  pub named_stand : {declared : List Id} {scope : List Entered} (ids outer inner : List Id) → Unless names.plain (Opens ids outer (ids ++ inner)) → Stands declared scope (ids ++ outer) → Stands declared scope inner
  named_stand {declared} {scope} ids outer inner opens stands = record {
    free = unless_both names.plain (λ o f id sought. f id (among_cases id ids outer (is_among id ids) refl (λ away. o.left id (among_right id ids inner sought) away))) opens stands.free;
  }

  module _ {declared : List Id} {scope : List Entered} where
    pub fewer : {ids ids' : List Id} → ((id : Id) → is_among id ids' ≡ true → is_among id ids ≡ true) → Stands declared scope ids → Stands declared scope ids'
    fewer h stands = record { free = unless_map names.plain (λ f id sought. f id (h id sought)) stands.free }

    pub one : (xs ys : List Id) → Stands declared scope (xs ++ ys) → Stands declared scope xs
    one xs ys stands = fewer (λ id h. among_left id xs ys h) stands

    pub rest : (xs ys : List Id) → Stands declared scope (xs ++ ys) → Stands declared scope ys
    rest xs ys stands = fewer (λ id h. among_right id xs ys h) stands

    pub two : (xs ys zs : List Id) → Stands declared scope (xs ++ (ys ++ zs)) → Stands declared scope ys
    two xs ys zs stands = one ys zs (rest xs (ys ++ zs) stands)

    pub three : (xs ys zs us : List Id) → Stands declared scope (xs ++ (ys ++ (zs ++ us))) → Stands declared scope zs
    three xs ys zs us stands = two ys zs us (rest xs (ys ++ (zs ++ us)) stands)

  pub stands_unless : {declared : List Id} {scope : List Entered} {ids : List Id} → Unless names.plain (Stands declared scope ids) → Stands declared scope ids
  stands_unless {declared} {scope} {ids} stands = record { free = unless_flat ((id : Id) → is_among id ids ≡ true → Free declared scope id) names.plain (unless_map names.plain (λ s. s.free) stands) }

  pub not_caught : {declared : List Id} {scope : List Entered} {ids : List Id} → Stands declared scope ids → (id : Id) → is_among id ids ≡ true → NotCaught declared scope id
  not_caught stands id h = unless_map names.plain (λ f. f id h) stands.free

  pub each_told : {declared : List Id} (e : Entered) (scope : List Entered) (ids : List Id) → Stands declared (e ∷ scope) ids → EachTold names e.ids ids
  each_told e scope [] stands = tt
  each_told e scope (id ∷ ids) stands = (unless_map names.plain (λ f. (f id (among_first id ids)).0) stands.free, each_told e scope ids (rest (id ∷ []) ids stands))

  pub always_stands : names.plain ≡ true → {declared : List Id} {scope : List Entered} {ids : List Id} → Stands declared scope ids
  always_stands is {declared} {scope} {ids} = record { free = subst (λ b. Unless b ((id : Id) → is_among id ids ≡ true → Free declared scope id)) (sym is) tt }

  pub none_stand : {declared : List Id} {scope : List Entered} → Stands declared scope []
  none_stand = record { free = unless_is names.plain (λ id h. absurd (cc)) }

  -- where nothing is looked up, no record is made that may not be
  pub nothing_opens : (outer : List Id) → Opens [] outer []
  nothing_opens outer = record { told = λ id h. absurd (cc); left = λ id h away. absurd (cc) }

  none_there : (other : Id) (ids : List Id) → ids ≡ [] → is_among other ids ≡ true → ⊥
  none_there other [] is h = cc
  none_there other (id ∷ ids) is h = cc

  -- in a record without variables stands what stands outside
  pub in_empty : {declared : List Id} {scope : List Entered} {ids : List Id} (e : Entered) → e.ids ≡ [] → Stands declared scope ids → Stands declared (e ∷ scope) ids
  in_empty e is stands = record { free = unless_map names.plain (λ f id h. (λ other among same. absurd (none_there other e.ids is among), λ away. f id h)) stands.free }

  -- and where no record is made
  pub body_stands : {declared : List Id} {scope : List Entered} {outer inner : List Id} → Unless names.plain (Opens [] outer inner) → Stands declared scope outer → Stands declared scope inner
  body_stands opens stands = record { free = unless_both names.plain (λ o f id sought. f id (o.left id sought refl)) opens stands.free }

  -- in a copy of a record stands what stands in the record
  pub same_ids_stand : {declared : List Id} {scope : List Entered} {ids : List Id} (e next : Entered) → next.ids ≡ e.ids → Stands declared (e ∷ scope) ids → Stands declared (next ∷ scope) ids
  same_ids_stand e next is stands = record {
    free = unless_map names.plain (λ f id h. (subst (λ z. Told names z id) (sym is) (f id h).0, λ away. (f id h).1 (subst (λ z. is_among id z ≡ false) is away))) stands.free;
  }

  -- what a round of `for` looks up
  pub for_parts : {declared : List Id} {scope : List Entered} (xs ys zs : List Id) → Stands declared scope (xs ++ (ys ++ (zs ++ []))) → Stands declared scope (xs ++ (ys ++ zs))
  for_parts {declared} {scope} xs ys zs stands = subst (λ z. Stands declared scope (xs ++ (ys ++ z))) (append-nil zs) stands
