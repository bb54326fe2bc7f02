-- How long the text is that is made for a value.
use Rattle.std.proofs.Common.{◌≡◌, ◌∙◌, ◌+◌, ◌<◌, ◌≤◌, ℕ, Bool, true, false, List, [], ◌∷◌, ◌++◌, length, arith, ap, refl, sym}
use Rattle.std.specs.Prelude.{codes, nat_lt}
use Rattle.std.proofs.lemmas.Bool.{le-ltb}
use Rattle.std.proofs.lemmas.List.{length-append}
use Rattle.ecma_leaves.specs.Words.{is_readable}
use Rattle.ecma_print.specs.Escapes.{behind_unit, escaped, made_text, unit}
use Rattle.ecma_print.proofs.Escaping.{escaped-none, escaped-unit}
use Rattle.ecma_plain.specs.Writable.{big_text}

-- before anything is counted but the quotes
pub counted-first : (value : List ℕ) → (2 + length (escaped value) ≡ length (made_text value)) × (2 < 4294967302)
counted-first value = let e = length-append (escaped value) (34 ∷ []) in (omega arith, omega arith)

escaped-length : (s : List ℕ) → length (escaped s) ≡ length (unit s) + length (escaped (behind_unit s))
escaped-length s = ap length (escaped-unit s) ∙ length-append (unit s) (escaped (behind_unit s))

-- behind what is written for one unit
pub counted-next : (value left behind : List ℕ) (written more : ℕ) → written + length (escaped left) ≡ length (made_text value) → written < 4294967296 → more ≡ length (unit left) → more ≤ 6
    → behind ≡ behind_unit left → (written + more + length (escaped behind) ≡ length (made_text value)) × (written + more < 4294967302)
counted-next value left behind written more so_far few is small same =
    let e = escaped-length left in
    let b = ap (λ s. length (escaped s)) same in
    (omega arith, omega arith)

-- more was counted than is read
pub too_long : (value left : List ℕ) (written : ℕ) → written + length (escaped left) ≡ length (made_text value) → 4294967296 ≤ written → false ≡ is_readable (made_text value)
too_long value left written so_far many = sym (le-ltb (length (made_text value)) 4294967296 (omega arith))

-- all was counted
pub as_counted : (value left : List ℕ) (written : ℕ) → written + length (escaped left) ≡ length (made_text value) → length left ≡ 0 → nat_lt written 4294967296 ≡ is_readable (made_text value)
as_counted value left written so_far none =
    let nothing = ap length (escaped-none left none) in
    let all : written ≡ length (made_text value) = omega arith in
    ap (λ n. nat_lt n 4294967296) all

pub big-length : (value : List ℕ) → length value + 1 ≡ length (big_text value)
big-length value = sym (length-append value (codes "n"))
