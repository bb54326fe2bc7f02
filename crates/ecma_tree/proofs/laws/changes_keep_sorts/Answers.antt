use Rattle.ecma_tree.proofs.ShapeLaws.{changes_keep_shapes, spans_keep_sorts, contexts_keep_sorts}
use Rattle.ecma_tree.proofs.laws.changes_keep_sorts.Goals as goal

pub returns-clause-changes : goal.returns-clause-changes
returns-clause-changes c = changes_keep_shapes

pub returns-clause-spans : goal.returns-clause-spans
returns-clause-spans c = spans_keep_sorts

pub returns-clause-contexts : goal.returns-clause-contexts
returns-clause-contexts c = contexts_keep_sorts
