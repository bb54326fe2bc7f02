-- A module as it is read does the same with bound names.
use Rattle.std.proofs.Common.{◌≡◌, ◌∙◌, ◌≤◌, ℕ, None, sym, ap, subst}
use Rattle.ecma_kind.specs.declared.shapes.Sort.TheVariants as sort
use Rattle.ecma_tree.specs.declared.node.Node.{Node}
use Rattle.ecma_tree.specs.Sorted.{HasSort}
use Rattle.ecma_runs.specs.Observation.{observe}
use Rattle.ecma_scope.specs.Resolved.{resolved, AreGiven}
use Rattle.ecma_scope.proofs.Unchanged.{keeps-sorts}
use Rattle.ecma_bind.specs.Binding.{with_bound_names}
use Rattle.ecma_bind_runs.proofs.Runs.{runs_alike}
use Rattle.ecma_bind_scopes.proofs.Placed.{resolve_alike}
use Rattle.ecma_bind_sources.proofs.Taken.{trees_are_taken}
use Rattle.ecma_enclose_runs.proofs.Untaken.{taken_lacks_enums}
use Rattle.ecma_forms.specs.Forms.{first_untaken}
use Rattle.ecma_pipeline_plain.proofs.Untaken.{resolved_taken}
use Rattle.ecma_pipeline.specs.Laws.{BoundSourcesRunAlike}

pub sources_run_alike : BoundSourcesRunAlike
sources_run_alike assign source is taken unresolved top left turns options script =
    let tree : Node = resolved unresolved top left source in
    let sorted : HasSort sort.Module tree = (keeps-sorts unresolved top left source sort.Module).1 is in
    let taken_there : first_untaken assign tree ≡ None = resolved_taken assign unresolved top left source taken in
    ap (λ (z : Node). observe turns options z script) ((resolve_alike source is).same unresolved top left)
    ∙ runs_alike tree sorted (taken_lacks_enums assign tree taken_there) (taken_lacks_enums assign (with_bound_names tree) (trees_are_taken assign tree taken_there)) turns options script

pub bound_given : (unresolved top left : ℕ) (source : Node) → HasSort sort.Module source → AreGiven unresolved top left source → AreGiven unresolved top left (with_bound_names source)
bound_given unresolved top left source sorted given = record {
  unresolved_above = given.unresolved_above;
  top_above = given.top_above;
  apart = given.apart;
  enough = subst (λ (n : ℕ). n ≤ left) (sym (resolve_alike source sorted).count) given.enough;
}
