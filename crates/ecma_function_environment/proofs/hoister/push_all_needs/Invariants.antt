use Rattle.std.proofs.Common.{◌≡◌, ◌++◌}
use Rattle.ecma_function_environment.specs.Hoisting.{needs_of}
use Rattle.ecma_function_environment.proofs.Hoisted.{needs_from}
use Rattle.ecma_function_environment.proofs.hoister.push_all_needs.Given as goal

-- what is there, and what those from the one at i on need
abbrev pub invariant-loop-i : goal.invariant-loop-i
invariant-loop-i l = l.to ++ needs_from l.flags l.seat l.nodes l.i ≡ l.fn.to ++ needs_of l.flags l.seat l.nodes
