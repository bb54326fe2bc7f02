use Rattle.std.proofs.Common.{ap}
use Rattle.std.specs.Prelude.{nat_lt}
use Rattle.ecma_plain.proofs.Counting.{big-length}
use Rattle.ecma_plain.proofs.literals.is_big_readable.Goals as goal

pub returns : goal.returns
returns c = ap (λ n. nat_lt n 4294967296) (big-length c.args.value.now)
