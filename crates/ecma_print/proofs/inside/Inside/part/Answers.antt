use Rattle.std.proofs.Common.{rules}
use Rattle.ecma_print.proofs.Parts.{first_part}
use Rattle.ecma_print.proofs.inside.Inside.part.Goals as goal

pub returns : goal.returns
returns g c = rw (first_part c.args.list.now c.args.index c.item_of.result.now c.item_of.ensures.item) (search rules)
