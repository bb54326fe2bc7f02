-- The last element of an array.
use Rattle.std.proofs.Common.{◌≡◌, List, [], ◌∷◌, map, refl, ◌∙◌, length, get_or, ◌-◌, ◌≤◌, ap, sym, arith}
use Rattle.ecma_tree.specs.declared.node.Node.{Node}
use Rattle.ecma_print.specs.Laid.{is_absent}
use Rattle.ecma_print.specs.Lists.{ends_in_hole}
use Rattle.ecma_print.specs.Layout.{laid}

last_at : (y z : Node) (zs : List Node) (x : Node) → get_or (y ∷ z ∷ zs) (length (y ∷ z ∷ zs) - 1) x ≡ get_or (z ∷ zs) (length (z ∷ zs) - 1) x
last_at y z zs x =
    let long : length (y ∷ z ∷ zs) - 1 ≡ length (z ∷ zs) = omega arith in
    let short : length (z ∷ zs) - 1 ≡ length zs = omega arith in
    rw (long, short) refl

-- an array ends in a hole where its last element is one
pub ends_in_hole-last : (xs : List Node) (x : Node) → 1 ≤ length xs → x ≡ get_or xs (length xs - 1) x → ends_in_hole (map laid xs) ≡ is_absent (laid x).kind
ends_in_hole-last [] x least is = absurd (omega arith)
ends_in_hole-last (y ∷ []) x least is = ap (λ z. is_absent (laid z).kind) (sym is)
ends_in_hole-last (y ∷ z ∷ zs) x least is = ends_in_hole-last (z ∷ zs) x (omega arith) (is ∙ last_at y z zs x)

pub ruleset holes = (ends_in_hole-last)
