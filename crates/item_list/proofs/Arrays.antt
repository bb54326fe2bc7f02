-- What a slice pattern with as many names as there are items says of the list.
use Rattle.std.proofs.Common.{◌≡◌, List, [], ◌∷◌, length, refl, arith, get_or, ◌≤◌, ◌<◌}

module _ {X : Type 0} where
  pub items_of_three : (xs : List X) (a b c : X) → 3 ≤ length xs → length xs < 4 → a ≡ get_or xs 0 a → b ≡ get_or xs 1 b → c ≡ get_or xs 2 c → xs ≡ a ∷ b ∷ c ∷ []
  items_of_three [] a b c least below first second third = absurd (omega arith)
  items_of_three (x ∷ []) a b c least below first second third = absurd (omega arith)
  items_of_three (x ∷ y ∷ []) a b c least below first second third = absurd (omega arith)
  items_of_three (x ∷ y ∷ z ∷ []) a b c least below first second third = rw (first, second, third) refl
  items_of_three (x ∷ y ∷ z ∷ w ∷ xs) a b c least below first second third = absurd (omega arith)
