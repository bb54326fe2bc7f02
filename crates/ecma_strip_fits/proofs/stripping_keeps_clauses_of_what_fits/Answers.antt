use Rattle.ecma_strip_fits.proofs.stripping_keeps_clauses_of_what_fits.Goals as goal
use Rattle.ecma_strip_fits.proofs.Branches.{branches_kept}
use Rattle.ecma_strip_fits.proofs.Constructors.{constructors_kept}
use Rattle.ecma_strip_fits.proofs.FullNodes.{counts_kept}
use Rattle.ecma_strip_fits.proofs.Leaves.{leaves_kept, targets_kept}
use Rattle.ecma_strip_fits.proofs.Chains.{chains_kept}
use Rattle.ecma_strip_fits.proofs.NamesKept.{names_kept}
use Rattle.ecma_strip_fits.proofs.RulesKept.{rules_kept}
use Rattle.ecma_strip_fits.proofs.SortsKept.{sorts_kept}
use Rattle.ecma_strip_fits.proofs.Strays.{keeps_strays}
use Rattle.ecma_strip_fits.proofs.Tests.{members_kept}

pub returns-clause-members : goal.returns-clause-members
returns-clause-members c = members_kept

pub returns-clause-chains : goal.returns-clause-chains
returns-clause-chains c = chains_kept

pub returns-clause-strays : goal.returns-clause-strays
returns-clause-strays c = keeps_strays

pub returns-clause-branches : goal.returns-clause-branches
returns-clause-branches c = branches_kept

pub returns-clause-counts : goal.returns-clause-counts
returns-clause-counts c = counts_kept

pub returns-clause-constructors : goal.returns-clause-constructors
returns-clause-constructors c = constructors_kept

pub returns-clause-leaves : goal.returns-clause-leaves
returns-clause-leaves c = leaves_kept

pub returns-clause-targets : goal.returns-clause-targets
returns-clause-targets c = targets_kept

pub returns-clause-rules : goal.returns-clause-rules
returns-clause-rules c = rules_kept

pub returns-clause-sorts : goal.returns-clause-sorts
returns-clause-sorts c = sorts_kept

pub returns-clause-names : goal.returns-clause-names
returns-clause-names c = names_kept
