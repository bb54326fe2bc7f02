use Rattle.std.proofs.Common.{◌≡◌, ◌+◌, drop}
use Rattle.ecma_utils.specs.Directives.{front_length, is_text_stmt}
use Rattle.ecma_helpers.proofs.importing.front_length.Given as goal

-- all before stand in front, and those that are left decide
abbrev pub invariant-loop-i : goal.invariant-loop-i
invariant-loop-i l = front_length is_text_stmt l.items ≡ l.i + front_length is_text_stmt (drop l.i l.items)
