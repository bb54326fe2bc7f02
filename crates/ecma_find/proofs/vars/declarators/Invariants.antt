use Rattle.std.proofs.Common.{◌≡◌, map}
use Rattle.ecma_find.specs.Vars.{declarator}
use Rattle.ecma_find.proofs.vars.declarators.Given as goal

-- those of the names so far
abbrev pub invariant-loop-ident : goal.invariant-loop-ident
invariant-loop-ident l = l.nodes ≡ map declarator l.yielded
