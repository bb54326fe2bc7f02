use Rattle.std.proofs.Common.{◌≡◌, ◌++◌, []}
use Rattle.ecma_merging.specs.Merging.{found_among, is_twice, twice_of}
use Rattle.ecma_merging.proofs.Among.{and_found}
use Rattle.ecma_merging.proofs.list.push_twice.Given as goal

-- what is there, and what is found of the others
abbrev pub invariant-loop-i : goal.invariant-loop-i
invariant-loop-i l = and_found is_twice twice_of l.given l.i l.findings ≡ l.fn.findings ++ found_among is_twice twice_of [] l.given
