-- Trees that nothing refuses, and what comes of trees.
use Rattle.std.proofs.Common.{◌≡◌, ◌≤◌, ◌+◌, ◌-◌, ℕ, List, [], Bool, true, false, Some, None, refl, arith, nat_lt}
use Rattle.std.proofs.lemmas.Bool.Decides.{nat_tests}
use Rattle.std.specs.Prelude.{Option}
use Rattle.ecma_tree.specs.declared.node.Node.{Node}
use Rattle.ecma_config.specs.declared.config.Config.{Config}
use Rattle.ecma_exports.specs.Exports.{first_captured, first_unbound}
use Rattle.ecma_forms.specs.Forms.{first_untaken}
use Rattle.ecma_lower.specs.Checking.{first_refusal}
use Rattle.ecma_lower.specs.declared.error.LowerError.{LowerError}
use Rattle.ecma_scope.specs.Conflicts.{redeclared}
use Rattle.ecma_scope.specs.Clashes.{first_redeclared}
use Rattle.ecma_scope.specs.Needs.{needed}
use Rattle.ecma_scope.specs.Resolved.{contexts, AreGiven}
use Rattle.ecma_scope.proofs.Telling.{told_where_redeclared}
use Rattle.ecma_hygiene_exists.specs.Laws.{NeededLeaveSixteen}
use Rattle.ts_to_js.specs.Refusals.{refused, refused_assignment, refused_by, refused_early, refused_form, refused_late, refused_name}
use Rattle.ts_to_js.specs.Stages.{kept, ready_of}
use Rattle.ts_to_js.specs.declared.error.TsError.{TsError}

-- what a tree is that nothing refuses
pub record IsAccepted (config : Config) (left : ℕ) (tree : Node) : Type 0 where
  pub taken : first_untaken config.import_export_assign_config tree ≡ None
  pub enough : needed tree ≤ left
  pub unrefused : first_refusal config.import_export_assign_config (kept config left tree) ≡ None
  pub distinct : redeclared (kept config left tree) ≡ []
  pub uncaptured : first_captured left (ready_of config left tree) ≡ None

accepted_by : (early late : Option TsError) → refused_by early late ≡ None → (early ≡ None) × (late ≡ None)
accepted_by None late h = (refl, h)
accepted_by (Some refusal) late h = cc

accepted_assignment : (refusal : Option LowerError) → refused_assignment refusal ≡ None → refusal ≡ None
accepted_assignment None h = refl
accepted_assignment (Some refusal) h = cc

accepted_form : (untaken : Option ℕ) (short : Bool) → refused_form untaken short ≡ None → (untaken ≡ None) × (short ≡ false)
accepted_form None false h = (refl, refl)
accepted_form None true h = cc
accepted_form (Some at) short h = cc

accepted_name : (told unbound captured : Option (List ℕ)) → refused_name told unbound captured ≡ None → (told ≡ None) × (captured ≡ None)
accepted_name None None None h = (refl, refl)
accepted_name None None (Some name) h = cc
accepted_name None (Some name) captured h = cc
accepted_name (Some name) unbound captured h = cc

not_short : (needed left : ℕ) → nat_lt left needed ≡ false → needed ≤ left
not_short needed left h = grind (arith, nat_tests)

pub accepted : (config : Config) (left : ℕ) (tree : Node) → refused config left tree ≡ None → IsAccepted config left tree
accepted config left tree h =
    let parts = accepted_by (refused_early config left tree) (refused_late config left tree) h in
    let form = accepted_form (first_untaken config.import_export_assign_config tree) (nat_lt left (needed tree)) parts.0 in
    let refusals : Option TsError = refused_assignment (first_refusal config.import_export_assign_config (kept config left tree)) in
    let late =
    accepted_by refusals (refused_name (first_redeclared (kept config left tree)) (first_unbound left (ready_of config left tree)) (first_captured left (ready_of config left tree))) parts.1 in
    let names = accepted_name (first_redeclared (kept config left tree)) (first_unbound left (ready_of config left tree)) (first_captured left (ready_of config left tree)) late.1 in
    record {
      taken = form.0;
      enough = not_short (needed tree) left form.1;
      unrefused = accepted_assignment (first_refusal config.import_export_assign_config (kept config left tree)) late.0;
      distinct = (told_where_redeclared (kept config left tree)).0 names.0;
      uncaptured = names.1;
    }

-- so contexts enough are given for its scopes
pub given : NeededLeaveSixteen → (left : ℕ) (tree : Node) → needed tree ≤ left → AreGiven left (left - 1) (left - 2) tree
given law left tree e =
    let sixteen : contexts tree + 16 ≤ needed tree = law tree in
    record { unresolved_above = omega arith; top_above = omega arith; apart = λ same. omega arith; enough = omega arith }
