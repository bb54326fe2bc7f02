use Rattle.std.proofs.Common.{length, ◌-◌, ◌≡◌, ◌≤◌}
use Rattle.ecma_lex.specs.Escapes.{listed}
use Rattle.ecma_lex.specs.Values.{IsHigh, value_behind, literal_value}
use Rattle.ecma_leaves.specs.Sayings.{is_said}
use Rattle.ecma_leaves.proofs.says.says.Given as goal

-- what is left of the literal decides, by what is left of the text
abbrev pub invariant-loop-i : goal.invariant-loop-i
invariant-loop-i l = (is_said (value_behind (listed l.high) l.in_template l.inside l.i) l.rest ≡ is_said (literal_value l.in_template l.inside) l.value) × IsHigh l.high × (l.i ≤ length l.inside)

abbrev pub decreases-loop-i : goal.decreases-loop-i
decreases-loop-i l = length l.inside - l.i
