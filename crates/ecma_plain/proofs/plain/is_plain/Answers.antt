use Rattle.ecma_plain.proofs.Whole.{assigned_is_not_plain, plain_by_kinds, unusual_is_not_plain}
use Rattle.ecma_plain.proofs.plain.is_plain.Goals as goal

pub returns-then-has_unusual : goal.returns-then-has_unusual
returns-then-has_unusual c = unusual_is_not_plain c.args.keep_assign c.args.tree.now c.if-has_unusual.ensures

pub returns-then-has_plain_items : goal.returns-then-has_plain_items
returns-then-has_plain_items c =
    plain_by_kinds c.args.keep_assign c.args.tree.now c.are_plain_kinds.result c.if-has_unusual.ensures c.if-has_plain_items.ensures c.are_plain_kinds.ensures

pub returns : goal.returns
returns c = assigned_is_not_plain c.args.keep_assign c.args.tree.now c.if-has_plain_items.ensures
