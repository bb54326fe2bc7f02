-- What is said of a node in its place, where the node keeps the context rules then, and the same is so below it.
use Rattle.std.proofs.Common.{◌≡◌, ℕ, false, ◌||◌, Some, None, slice_get}
use Rattle.ecma_tree.specs.declared.node.Node.{Node, out-Node}
use Rattle.ecma_fits.specs.declared.unfit.Where.{Where}
use Rattle.ecma_fits.specs.Fitting.{breaks_rule, first_unfit_in, where_in}
use Rattle.ecma_fits.specs.Roles.{is_out_of_role}
use Rattle.ecma_fits.specs.Strays.{is_stray_target}
use Rattle.ecma_pipeline_runs.proofs.Clearing.{fits-below, fits-here}
use Rattle.ecma_pipeline_runs.proofs.Nodes.{neither}

pub record KeepsRules (Good : Node → Where → Type 0) : Type 0 where
  pub rule : (n : Node) (w : Where) → Good n w → breaks_rule w n ≡ false
  pub below : (n : Node) (w : Where) → Good n w → (i : ℕ) (c : Node) → slice_get (out-Node n).children i ≡ Some c → Good c (where_in w n i)

abbrev pub Fits : Node → Where → Type 0
Fits n w = first_unfit_in n w ≡ None

pub what-fits-keeps-rules : KeepsRules Fits
what-fits-keeps-rules = record {
  rule = λ n w fits. (neither (is_stray_target w.role w.arguments n) (breaks_rule w n) (neither (is_out_of_role w.role n) (is_stray_target w.role w.arguments n || breaks_rule w n) (fits-here w n fits)).1).1;
  below = λ n w fits i c at. fits-below w n fits i c at;
}
