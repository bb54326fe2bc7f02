use Rattle.ecma_hygiene_fits.proofs.final_texts_keep_clauses_of_what_fits.Goals as goal
use Rattle.ecma_hygiene_fits.proofs.Constructors.{constructors_kept}
use Rattle.ecma_hygiene_fits.proofs.Counts.{counts_kept}
use Rattle.ecma_hygiene_fits.proofs.Sorts.{sorts_kept}
use Rattle.ecma_hygiene_fits.proofs.Tests.{branches_kept, chains_kept, members_kept}

pub returns-clause-branches : goal.returns-clause-branches
returns-clause-branches c = branches_kept

pub returns-clause-chains : goal.returns-clause-chains
returns-clause-chains c = chains_kept

pub returns-clause-members : goal.returns-clause-members
returns-clause-members c = members_kept

pub returns-clause-constructors : goal.returns-clause-constructors
returns-clause-constructors c = constructors_kept

pub returns-clause-counts : goal.returns-clause-counts
returns-clause-counts c = counts_kept

pub returns-clause-sorts : goal.returns-clause-sorts
returns-clause-sorts c = sorts_kept
