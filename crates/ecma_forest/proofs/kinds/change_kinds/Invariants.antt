use Rattle.std.proofs.Common.{◌≡◌}
use Rattle.item_list.proofs.Walking.{front_mapped}
use Rattle.ecma_forest.proofs.kinds.change_kinds.Given as goal

abbrev pub invariant-loop-i : goal.invariant-loop-i
invariant-loop-i g l = l.kinds.items ≡ front_mapped (g.C.Change.kind_to l.change) l.initial.kinds.items l.i
