use Rattle.std.proofs.Common.{rules, [], ◌∷◌, refl}
use Rattle.ecma_judge.proofs.Joining.{joining}
use Rattle.ecma_judge.proofs.casts.+casts.Goals as goal

-- the comma is UTF-8
pub joined-loop-i-preserved : goal.joined-loop-i-preserved
unfolding lib.Utf8.encode
joined-loop-i-preserved t c = (search (rules, joining), (44 ∷ [], (refl, refl)))
