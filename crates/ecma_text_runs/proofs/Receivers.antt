-- In what is read no item of a list is the name `this`.
use Rattle.std.proofs.Common.{◌≡◌, true, Bool, None}
use Rattle.ecma_tree.specs.declared.node.Node.{Node}
use Rattle.ecma_fits.specs.declared.unfit.Where.{Where}
use Rattle.ecma_fits.specs.Fitting.{at_top, breaks_rule}
use Rattle.ecma_fits.specs.Roles.{is_out_of_role}
use Rattle.ecma_strip_runs.specs.UsualBodies.{has_no_arrow_receivers}
use Rattle.ecma_pipeline_runs.proofs.Keeping.{KeepsRules}
use Rattle.ecma_pipeline_runs.proofs.Receivers.{none-received}
use Rattle.ecma_text_runs.proofs.Walks.{none_below, none_here, walk}

abbrev out_of_role : Where → Node → Bool
out_of_role w n = is_out_of_role w.role n

-- all keep the rules and have their roles
abbrev Good : Node → Where → Type 0
Good n w = (walk breaks_rule n w ≡ None) × (walk out_of_role n w ≡ None)

keeps : KeepsRules Good
keeps = record { rule = λ n w good. none_here breaks_rule n w good.0; below = λ n w good i c at. (none_below breaks_rule n w good.0 i c at, none_below out_of_role n w good.1 i c at) }

pub no_receivers : (tree : Node) → walk breaks_rule tree at_top ≡ None → walk out_of_role tree at_top ≡ None → has_no_arrow_receivers tree ≡ true
no_receivers tree rules roles = none-received Good keeps (λ n w good. none_here out_of_role n w good.1) tree (rules, roles)
