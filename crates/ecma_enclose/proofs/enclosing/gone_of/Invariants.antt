use Rattle.std.proofs.Common.{◌≡◌, ◌+◌, drop}
use Rattle.ecma_enclose.specs.Enclosing.{front_length, goes}
use Rattle.ecma_enclose.proofs.enclosing.gone_of.Given as goal

-- all before pass, and those that are left decide
abbrev pub invariant-loop-i : goal.invariant-loop-i
invariant-loop-i l = front_length goes l.statements ≡ l.i + front_length goes (drop l.i l.statements)
