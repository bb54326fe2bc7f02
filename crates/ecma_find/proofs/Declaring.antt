-- The equations of what is added to a set.
use Rattle.std.proofs.Common.{◌≡◌, Bool, true, false, ◌||◌, List, [], ◌++◌, refl, sym, ap, ◌∙◌}
use Rattle.std.specs.HashSet.{HashSet, contains}
use Rattle.std.specs.List.{list_any}
use Rattle.std.proofs.lemmas.List.Folds.{list_any-append}
use Rattle.ecma_find.specs.Names.{AddsAll}

or-assoc : (a b c : Bool) → (a || b) || c ≡ a || (b || c)
or-assoc true b c = refl
or-assoc false b c = refl

or-false : (a : Bool) → a || false ≡ a
or-false true = refl
or-false false = refl

module _ (I S : Type 0) (eq : I → I → Bool) where
  pub AddsAll-none : (set : HashSet I S) → AddsAll I S eq set set []
  AddsAll-none set item = sym (or-false (contains eq set item))

  -- one after the other
  pub AddsAll-append : (old now new : HashSet I S) (first more : List I) → AddsAll I S eq old now first
      → AddsAll I S eq now new more → AddsAll I S eq old new (first ++ more)
  AddsAll-append old now new first more a b item =
      b item ∙ ap (λ z. z || list_any (eq item) more) (a item)
      ∙ or-assoc (contains eq old item) (list_any (eq item) first) (list_any (eq item) more)
      ∙ ap (λ z. contains eq old item || z) (sym (list_any-append (eq item) first more))

  -- what a set has, and what is still to be added, make what is to be had in the end
  pub record SetRest (old now : HashSet I S) (rest whole : List I) : Type 0 where
    pub has : (item : I) → (contains eq now item || list_any (eq item) rest) ≡ (contains eq old item || list_any (eq item) whole)

  pub SetRest-first : (old now : HashSet I S) (here rest whole : List I) → whole ≡ here ++ rest → AddsAll I S eq old now here
      → SetRest old now rest whole
  SetRest-first old now here rest whole is adds = record {
    has = λ item.
        ap (λ z. z || list_any (eq item) rest) (adds item)
        ∙ or-assoc (contains eq old item) (list_any (eq item) here) (list_any (eq item) rest)
        ∙ ap (λ z. contains eq old item || z) (sym (list_any-append (eq item) here rest) ∙ ap (list_any (eq item)) (sym is));
  }

  pub SetRest-next : (old now more : HashSet I S) (items rest others whole : List I) → rest ≡ items ++ others
      → AddsAll I S eq now more items → SetRest old now rest whole → SetRest old more others whole
  SetRest-next old now more items rest others whole is adds so_far = record {
    has = λ item.
        ap (λ z. z || list_any (eq item) others) (adds item)
        ∙ or-assoc (contains eq now item) (list_any (eq item) items) (list_any (eq item) others)
        ∙ ap (λ z. contains eq now item || z) (sym (list_any-append (eq item) items others) ∙ ap (list_any (eq item)) (sym is))
        ∙ so_far.has item;
  }

  pub SetRest-all : (old now : HashSet I S) (rest whole : List I) → rest ≡ [] → SetRest old now rest whole → AddsAll I S eq old now whole
  SetRest-all old now rest whole is so_far item =
      sym (or-false (contains eq now item)) ∙ ap (λ z. contains eq now item || list_any (eq item) z) (sym is) ∙ so_far.has item

  pub SetRest-start : (set : HashSet I S) (whole : List I) → SetRest set set whole whole
  SetRest-start set whole = record { has = λ item. refl }
