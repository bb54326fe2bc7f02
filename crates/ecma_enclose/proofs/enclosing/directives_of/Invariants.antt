use Rattle.std.proofs.Common.{◌≡◌, ◌+◌, drop}
use Rattle.ecma_enclose.specs.Enclosing.{front_length, is_text_statement}
use Rattle.ecma_enclose.proofs.enclosing.directives_of.Given as goal

-- all before pass, and those that are left decide
abbrev pub invariant-loop-i : goal.invariant-loop-i
invariant-loop-i l = front_length is_text_statement l.statements ≡ l.i + front_length is_text_statement (drop l.i l.statements)
