use Rattle.std.proofs.Common.{◌≡◌, drop}
use Rattle.std.specs.List.{list_any}
use Rattle.ecma_properties.specs.Supers.{is_super_stmt}
use Rattle.ecma_properties.proofs.supers.any_is_super_stmt.Given as goal

-- the statements that are left decide
abbrev pub invariant-loop-stmt : goal.invariant-loop-stmt
invariant-loop-stmt l = list_any is_super_stmt (drop l.stmt-index l.stmts) ≡ list_any is_super_stmt l.stmts
