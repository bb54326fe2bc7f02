use Rattle.std.proofs.Common.{◌≡◌, drop}
use Rattle.std.specs.List.{list_any}
use Rattle.ecma_utils.specs.Statements.{is_declaration}
use Rattle.ecma_lower.proofs.marking.has_declaration.Given as goal

-- the items that are left decide
abbrev pub invariant-loop-item : goal.invariant-loop-item
invariant-loop-item l = list_any is_declaration (drop l.item-index l.items) ≡ list_any is_declaration l.items
