use Rattle.std.proofs.Common.{◌≡◌, List, ℕ, take}
use Rattle.ecma_scope.specs.Declarations.{stated}
use Rattle.ecma_scope.specs.Indexed.{states_of}
use Rattle.ecma_scope.specs.Located.{declarations_of}
use Rattle.ecma_scope.proofs.index.index_of.Given as goal

-- the first i are in the index
abbrev pub invariant-loop-i : goal.invariant-loop-i
invariant-loop-i l = (text : List ℕ) → states_of l.index text ≡ stated (take l.i (declarations_of l.names)) text
