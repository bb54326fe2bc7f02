use Rattle.std.proofs.Common.{◌≡◌, drop}
use Rattle.std.specs.List.{list_any}
use Rattle.ecma_lower.specs.Assignments.{is_required_import}
use Rattle.ecma_lower.proofs.pass.requires_any.Given as goal

-- the items that are left decide
abbrev pub invariant-loop-item : goal.invariant-loop-item
invariant-loop-item l = list_any is_required_import (drop l.item-index l.items) ≡ list_any is_required_import l.items
