use Rattle.std.proofs.Common.{◌≡◌, drop}
use Rattle.std.specs.List.{list_any}
use Rattle.ecma_find.specs.Statements.{terminates}
use Rattle.ecma_find.proofs.stmt_ext.NodesStmtExt.terminates.Given as goal

-- the statements that are left decide
abbrev pub invariant-loop-stmt : goal.invariant-loop-stmt
invariant-loop-stmt l = list_any terminates (drop l.stmt-index l.stmt-items) ≡ list_any terminates l.self
