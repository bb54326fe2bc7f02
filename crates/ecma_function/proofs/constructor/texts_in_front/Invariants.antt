use Rattle.std.proofs.Common.{◌≡◌, ◌+◌, drop}
use Rattle.ecma_utils.specs.Directives.{front_length, is_text_stmt}
use Rattle.ecma_function.proofs.constructor.texts_in_front.Given as goal

-- all before are text literals, and those that are left decide
abbrev pub invariant-loop-i : goal.invariant-loop-i
invariant-loop-i l = front_length is_text_stmt l.stmts ≡ l.i + front_length is_text_stmt (drop l.i l.stmts)
