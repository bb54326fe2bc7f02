-- Two pieces that a sink takes, one behind the other.
use Rattle.std.proofs.Common.{◌≡◌, ◌≤◌, ◌+◌, ℕ, List, ◌++◌, length, take, Some, None, refl, sym, ◌∙◌, ap, arith, append_assoc, length-append}
use Rattle.std.specs.Prelude.{Option}
use Rattle.std.proofs.lemmas.List.{take-append-le}
use Rattle.std.proofs.Math.Seq.{take-append-add}
use Rattle.std.specs.Io.KnownBytes.{append_known}
use Rattle.devices.specs.Sink.{TakesPart}

pub append_known-append : (known : Option (List ℕ)) (xs ys : List ℕ) → append_known (append_known known xs) ys ≡ append_known known (xs ++ ys)
append_known-append None xs ys = refl
append_known-append (Some zs) xs ys = ap Some (append_assoc zs xs ys)

-- a part of the first
pub TakesPart-front : (before after : Option (List ℕ)) (xs ys : List ℕ) → TakesPart before after xs → TakesPart before after (xs ++ ys)
TakesPart-front before after xs ys (n, short, taken) =
    let less : n ≤ length xs = omega arith in
    (n, omega (arith, length-append xs ys), taken ∙ ap (append_known before) (sym (take-append-le n xs ys less)))

-- all of the first, and a part of the second
pub TakesPart-behind : (before mid after : Option (List ℕ)) (xs ys : List ℕ) → mid ≡ append_known before xs → TakesPart mid after ys → TakesPart before after (xs ++ ys)
TakesPart-behind before mid after xs ys whole (n, short, taken) = (
  length xs + n,
  omega (arith, length-append xs ys),
  taken ∙ ap (λ known. append_known known (take n ys)) whole ∙ append_known-append before xs (take n ys) ∙ ap (append_known before) (sym (take-append-add xs ys n)),
)

pub ruleset pieces = (append_known-append, TakesPart-front, TakesPart-behind)
