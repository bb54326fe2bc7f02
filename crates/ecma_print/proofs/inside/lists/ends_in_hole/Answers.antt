use Rattle.std.proofs.Common.{arith, ◌∙◌, sym}
use Rattle.ecma_print.proofs.Holes.{ends_in_hole-last}
use Rattle.ecma_print.proofs.inside.lists.ends_in_hole.Goals as goal

pub returns-in-len1-up : goal.returns-in-len1-up
returns-in-len1-up c = c.is_absent.ensures ∙ sym (ends_in_hole-last c.args.items.now c.last-item.result (omega arith) c.last-item.is)
