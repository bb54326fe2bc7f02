use Rattle.std.proofs.Common.{◌≡◌, List, ℕ, take, bytes_eq}
use Rattle.std.specs.HashSet.{contains}
use Rattle.ecma_exports.specs.Exports.{is_among}
use Rattle.ecma_exports.proofs.check.text_set.Given as goal

-- the first i are in the set
abbrev pub invariant-loop-i : goal.invariant-loop-i
invariant-loop-i l = (text : List ℕ) → contains bytes_eq l.set text ≡ is_among (take l.i l.texts) text
