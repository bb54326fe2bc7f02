use Rattle.std.proofs.Common.{◌∙◌}
use Rattle.ecma_tree.specs.declared.node.Node.{out-Node}
use Rattle.ecma_scope.specs.Scopes.{is_there}
use Rattle.ecma_scope.proofs.Roles.{role_by-unsourced}
use Rattle.ecma_scope.proofs.role.role_in.Goals as goal

pub returns-in_default : goal.returns-in_default
returns-in_default c =
    c.role_by.ensures ∙ role_by-unsourced c.args.role (out-Node c.args.node.now).kind (is_there (out-Node c.args.node.now).children 1) c.args.index c.in_default.not-NamedExport
