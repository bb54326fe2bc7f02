-- What a slice pattern with as many names as there are items says of the list.
use Rattle.std.proofs.Common.{◌≡◌, List, [], ◌∷◌, length, refl, arith, get_or, ◌≤◌, ◌<◌}
use Rattle.item_list.proofs.Arrays.{items_of_three}

module _ {X : Type 0} where
  pub items_of_four : (xs : List X) (a b c d : X) → 4 ≤ length xs → length xs < 5 → a ≡ get_or xs 0 a → b ≡ get_or xs 1 b → c ≡ get_or xs 2 c → d ≡ get_or xs 3 d → xs ≡ a ∷ b ∷ c ∷ d ∷ []
  items_of_four [] a b c d least below first second third fourth = absurd (omega arith)
  items_of_four (x ∷ []) a b c d least below first second third fourth = absurd (omega arith)
  items_of_four (x ∷ y ∷ []) a b c d least below first second third fourth = absurd (omega arith)
  items_of_four (x ∷ y ∷ z ∷ []) a b c d least below first second third fourth = absurd (omega arith)
  items_of_four (x ∷ y ∷ z ∷ w ∷ []) a b c d least below first second third fourth = rw (first, second, third, fourth) refl
  items_of_four (x ∷ y ∷ z ∷ w ∷ v ∷ xs) a b c d least below first second third fourth = absurd (omega arith)

  pub items_of_five : (xs : List X) (a b c d e : X) → 5 ≤ length xs → length xs < 6 → a ≡ get_or xs 0 a → b ≡ get_or xs 1 b → c ≡ get_or xs 2 c → d ≡ get_or xs 3 d → e ≡ get_or xs 4 e → xs ≡ a ∷ b ∷ c ∷ d ∷ e ∷ []
  items_of_five [] a b c d e least below first second third fourth fifth = absurd (omega arith)
  items_of_five (x ∷ []) a b c d e least below first second third fourth fifth = absurd (omega arith)
  items_of_five (x ∷ y ∷ []) a b c d e least below first second third fourth fifth = absurd (omega arith)
  items_of_five (x ∷ y ∷ z ∷ []) a b c d e least below first second third fourth fifth = absurd (omega arith)
  items_of_five (x ∷ y ∷ z ∷ w ∷ []) a b c d e least below first second third fourth fifth = absurd (omega arith)
  items_of_five (x ∷ y ∷ z ∷ w ∷ v ∷ []) a b c d e least below first second third fourth fifth = rw (first, second, third, fourth, fifth) refl
  items_of_five (x ∷ y ∷ z ∷ w ∷ v ∷ u ∷ xs) a b c d e least below first second third fourth fifth = absurd (omega arith)

pub ruleset threes = (items_of_three)

pub ruleset fours = (items_of_four)

pub ruleset fives = (items_of_five)
