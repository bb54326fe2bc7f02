use Rattle.ecma_hygiene_scopes.proofs.Collapsing.{collapsed-is-right}
use Rattle.ecma_hygiene_scopes.proofs.collapsed_contexts_are_right.Goals as goal

pub returns : goal.returns
returns c = collapsed-is-right
