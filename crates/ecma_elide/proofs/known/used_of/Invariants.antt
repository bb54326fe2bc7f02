use Rattle.std.proofs.Common.{◌≡◌, take}
use Rattle.std.specs.List.{list_any}
use Rattle.ecma_scope.specs.Uses.{UsedId}
use Rattle.ecma_elide.specs.Elision.{same_id}
use Rattle.ecma_elide.specs.Sets.{is_used_by}
use Rattle.ecma_elide.proofs.known.used_of.Given as goal

-- the first i are used
abbrev pub invariant-loop-i : goal.invariant-loop-i
invariant-loop-i l = (id : UsedId) → is_used_by l.used id ≡ list_any (λ u. same_id u id) (take l.i l.ids)
