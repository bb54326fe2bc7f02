use Rattle.ecma_hygiene_fits.proofs.unreserved_texts_keep_clauses_of_what_fits.Goals as goal
use Rattle.ecma_hygiene_fits.proofs.Roles.{roles_kept}
use Rattle.ecma_hygiene_fits.proofs.Rules.{rules_kept}
use Rattle.ecma_hygiene_fits.proofs.Strays.{strays_kept}
use Rattle.ecma_hygiene_fits.proofs.Targets.{targets_kept}

pub returns-clause-roles : goal.returns-clause-roles
returns-clause-roles c = roles_kept

pub returns-clause-rules : goal.returns-clause-rules
returns-clause-rules c = rules_kept

pub returns-clause-strays : goal.returns-clause-strays
returns-clause-strays c = strays_kept

pub returns-clause-targets : goal.returns-clause-targets
returns-clause-targets c = targets_kept
