use Rattle.std.proofs.Common.{length, is_some, ◌-◌, ◌≡◌, ◌≤◌}
use Rattle.ecma_lex.specs.Escapes.{listed}
use Rattle.ecma_lex.specs.Values.{IsHigh, value_behind, literal_value}
use Rattle.ecma_lex.proofs.values.has_literal_value.Given as goal

abbrev pub invariant-loop-i : goal.invariant-loop-i
invariant-loop-i l = (is_some (value_behind (listed l.high) l.in_template l.text l.i) ≡ is_some (literal_value l.in_template l.text)) × IsHigh l.high × (l.i ≤ length l.text)

abbrev pub decreases-loop-i : goal.decreases-loop-i
decreases-loop-i l = length l.text - l.i
