-- The laws that are proved below, as they are stated.
use Rattle.ecma_text_fits.specs.Laws.{FinishedClassesHaveOneConstructor, FinishedTreesHaveNoStrays, FinishedTreesKeepRules, RawModulesHaveTheirRoles}
use Rattle.ecma_text_fits_finished.proofs.Constructors.{one_constructor}
use Rattle.ecma_text_fits_finished.proofs.Rules.{keeps_rules}
use Rattle.ecma_text_fits_finished.proofs.Strays.{no_strays}
use Rattle.ecma_text_fits_roles.proofs.RoleReads.{modules_placed}

pub have_no_strays : FinishedTreesHaveNoStrays
have_no_strays = no_strays

pub keep_rules : FinishedTreesKeepRules
keep_rules = keeps_rules

pub have_one_constructor : FinishedClassesHaveOneConstructor
have_one_constructor = one_constructor

pub have_roles : RawModulesHaveTheirRoles
have_roles = modules_placed

pub ruleset strayless = (have_no_strays)

pub ruleset rules_kept = (keep_rules)

pub ruleset single = (have_one_constructor)

pub ruleset roles_given = (have_roles)
