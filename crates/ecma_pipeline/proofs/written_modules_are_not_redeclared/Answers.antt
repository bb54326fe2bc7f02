use Rattle.ecma_pipeline.proofs.Conflicts.{written-not-redeclared}
use Rattle.ecma_pipeline.proofs.written_modules_are_not_redeclared.Goals as goal

pub returns : goal.returns
returns c = written-not-redeclared c.parentheses_do_not_matter_to_conflicts.ensures c.spans_do_not_matter_to_conflicts.ensures
