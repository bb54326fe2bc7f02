use Rattle.ecma_tree.specs.declared.node.Node.{out-Node}
use Rattle.ecma_scope.specs.Scopes.{is_there}
use Rattle.ecma_scope.proofs.Roles.{role_by-unsourced}
use Rattle.ecma_scope.proofs.role.is_sourced.Goals as goal

pub returns-in_default : goal.returns-in_default
returns-in_default c = λ r i. role_by-unsourced r (out-Node c.args.node.now).kind (is_there (out-Node c.args.node.now).children 1) i c.in_default.not-NamedExport
