-- Bytes of ASCII.
use Rattle.std.proofs.Common.{◌≡◌, ℕ, zero, suc, true, List, [], ◌∷◌, arith}
use Rattle.std.specs.List.{list_all}
use Rattle.std.specs.Str.{IsAscii}
use Rattle.std.proofs.lemmas.Bool.{and_parts}
use Rattle.std.proofs.lemmas.Bool.Decides.{nat_tests}
use Rattle.ecma_number.proofs.NumericLiterals.{is_plain}

pub plain_ascii : (w : List ℕ) → list_all is_plain w ≡ true → IsAscii w
plain_ascii [] h k = omega arith
plain_ascii (c ∷ w) h zero = let p = and_parts (is_plain c) (list_all is_plain w) h in let q = p.0 in grind (arith, nat_tests)
plain_ascii (c ∷ w) h (suc k) = plain_ascii w (and_parts (is_plain c) (list_all is_plain w) h).1 k
