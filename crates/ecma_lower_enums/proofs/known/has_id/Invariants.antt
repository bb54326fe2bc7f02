use Rattle.std.proofs.Common.{◌≡◌, drop}
use Rattle.ecma_lower_enums.specs.Known.{has_id}
use Rattle.ecma_lower_enums.proofs.known.has_id.Given as goal

-- the ids that are left decide
abbrev pub invariant-loop-id : goal.invariant-loop-id
invariant-loop-id l = has_id l.ident (drop l.id-index l.ids) ≡ has_id l.ident l.ids
