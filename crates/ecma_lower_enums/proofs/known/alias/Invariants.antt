use Rattle.std.proofs.Common.{◌≡◌, drop}
use Rattle.ecma_lower_enums.specs.Known.{alias_by}
use Rattle.ecma_lower_enums.proofs.known.alias.Given as goal

-- it is among the names that are left
abbrev pub invariant-loop-name : goal.invariant-loop-name
invariant-loop-name l = alias_by l.sym l.ctxt (drop l.name-index l.names) ≡ alias_by l.sym l.ctxt l.names
