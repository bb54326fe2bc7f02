-- Of the contexts that are needed the scopes leave 16.
use Rattle.std.proofs.Common.{arith}
use Rattle.ecma_scope.specs.declared.role.Role.TheVariants as role
use Rattle.ecma_scope.proofs.Needing.{suffices}
use Rattle.ecma_hygiene_exists.specs.Laws.{NeededLeaveSixteen}

pub leave-sixteen : NeededLeaveSixteen
leave-sixteen tree = let enough = suffices tree role.Root in omega arith
