use Rattle.std.proofs.Common.{length, ◌-◌, ◌≡◌, ◌≤◌}
use Rattle.std.specs.String.{string_bytes}
use Rattle.ecma_lex.specs.Escapes.{listed}
use Rattle.ecma_lex.specs.Values.{IsHigh, onto, value_behind, literal_value}
use Rattle.ecma_lex.proofs.values.literal_value.Given as goal

abbrev pub invariant-loop-i : goal.invariant-loop-i
invariant-loop-i l = (onto (string_bytes l.value) (value_behind (listed l.high) l.in_template l.text l.i) ≡ literal_value l.in_template l.text) × IsHigh l.high × (l.i ≤ length l.text)

abbrev pub decreases-loop-i : goal.decreases-loop-i
decreases-loop-i l = length l.text - l.i
