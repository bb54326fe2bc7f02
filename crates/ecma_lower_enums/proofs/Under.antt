-- The equations of the name that an expression is.
use Rattle.ecma_enums.proofs.Naming.{name-none, name-out, name-some}

pub ruleset naming = (name-out, name-some, name-none)
