use Rattle.std.proofs.Common.{◌≡◌, drop}
use Rattle.std.specs.List.{list_all}
use Rattle.ecma_plain.specs.Items.{is_plain_item}
use Rattle.ecma_plain.proofs.items.are_plain_items.Given as goal

-- what is left to be looked at decides
abbrev pub invariant-loop-item : goal.invariant-loop-item
invariant-loop-item l = list_all (is_plain_item l.keep_assign) (drop l.item-index l.items) ≡ list_all (is_plain_item l.keep_assign) l.items
