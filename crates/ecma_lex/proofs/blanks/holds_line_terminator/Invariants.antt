use Rattle.std.proofs.Common.{length, ◌-◌, ◌≡◌, ◌≤◌, drop}
use Rattle.std.specs.List.{list_any}
use Rattle.std.specs.Str.{chars}
use Rattle.ecma_number.specs.Blanks.{is_line_terminator}
use Rattle.ecma_lex.proofs.blanks.holds_line_terminator.Given as goal

abbrev pub invariant-loop-i : goal.invariant-loop-i
invariant-loop-i l = (list_any is_line_terminator (chars (drop l.i l.bytes)) ≡ list_any is_line_terminator (chars l.bytes)) × (l.i ≤ length l.bytes)

abbrev pub decreases-loop-i : goal.decreases-loop-i
decreases-loop-i l = length l.bytes - l.i
