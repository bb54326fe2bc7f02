use Rattle.std.proofs.Common.{◌≡◌, ◌++◌, take}
use Rattle.ecma_forest.specs.Slots.{Extends}
use Rattle.ecma_forest.proofs.convert.+push_node.Given as goal

-- what had a place has it, and the children so far stand behind the roots
abbrev pub invariant-loop-child : goal.invariant-loop-child
invariant-loop-child l =
    Extends l.fn.forest.below l.forest.below
    × (l.forest.roots ≡ l.fn.forest.roots ++ take l.child-index l.child-items)
