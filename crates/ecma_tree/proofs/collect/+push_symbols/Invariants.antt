use Rattle.std.proofs.Common.{◌≡◌, ◌++◌, map, drop, flat_map}
use Rattle.ecma_tree.specs.Gathering.{symbols_of}
use Rattle.ecma_tree.proofs.collect.+push_symbols.Given as goal

-- what is there, and what the other children give
abbrev pub invariant-loop-child : goal.invariant-loop-child
invariant-loop-child l = l.symbols ++ flat_map (λ items. items) (map symbols_of (drop l.child-index l.child-items)) ≡ l.fn.symbols ++ symbols_of l.node
