-- The equations of a text with its escapes.
use Rattle.std.proofs.Common.{◌≡◌, ℕ, length, arith, true, false, List, [], ◌∷◌, ◌++◌, cond, refl, sym, append-nil, append_assoc}
use Rattle.ecma_print.specs.Escapes.{escape, escaped, is_separator, separator_escape, unit, behind_unit}

pub escaped-none : (s : List ℕ) → length s ≡ 0 → escaped s ≡ []
unfolding escaped
escaped-none [] none = refl
escaped-none (a ∷ s) none = absurd (omega arith)

-- what stands at the front, and what stands behind it
pub escaped-unit : (s : List ℕ) → escaped s ≡ unit s ++ escaped (behind_unit s)
unfolding escaped
escaped-unit [] = refl
escaped-unit (a ∷ []) = sym (append-nil (escape a))
escaped-unit (a ∷ b ∷ []) = refl
escaped-unit (a ∷ b ∷ c ∷ s) = elim (is_separator a b c) as (λ v. cond v (separator_escape c ++ escaped s) (escape a ++ escaped (b ∷ c ∷ s)) ≡ cond v (separator_escape c) (escape a) ++ escaped (cond v s (b ∷ c ∷ s))) [ true ↦ refl | false ↦ refl ]

-- the same, in front of any text
pub escaped-front : (s rest : List ℕ) → escaped s ++ rest ≡ unit s ++ (escaped (behind_unit s) ++ rest)
escaped-front s rest = rw (escaped-unit s, append_assoc) refl
