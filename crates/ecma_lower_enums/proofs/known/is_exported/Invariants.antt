use Rattle.std.proofs.Common.{◌≡◌, drop}
use Rattle.ecma_lower_enums.specs.Known.{is_exported}
use Rattle.ecma_lower_enums.proofs.known.is_exported.Given as goal

-- the names that are left decide
abbrev pub invariant-loop-name : goal.invariant-loop-name
invariant-loop-name l = is_exported l.ident (drop l.name-index l.names) ≡ is_exported l.ident l.names
