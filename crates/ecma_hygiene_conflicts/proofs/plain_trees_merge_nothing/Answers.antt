use Rattle.ecma_hygiene_conflicts.proofs.Plain.{plain-merge-nothing}
use Rattle.ecma_hygiene_conflicts.proofs.plain_trees_merge_nothing.Goals as goal

pub returns : goal.returns
returns c = plain-merge-nothing
