-- Binding names changes no item of a module that is an assignment.
use Rattle.std.proofs.Common.{◌≡◌, ◌∙◌, ℕ, zero, suc, Bool, true, false, ◌&&◌, List, [], ◌∷◌, Option, refl, sym, ap, ap₂, subst, slice_get}
use Rattle.ecma_kind.specs.Sorts.{is_type_wrapper}
use Rattle.ecma_kind.specs.declared.kind.Kind.{Kind}
use Rattle.ecma_kind.specs.declared.kind.Kind.TheVariants as kind
use Rattle.ecma_tree.specs.declared.node.Node.{Node, Node-F, out-Node}
use Rattle.ecma_tree.specs.declared.node.Node.TheViews.{out-roll-Node}
use Rattle.ecma_tree.specs.Nodes.{node_of}
use Rattle.ecma_bind.specs.Binding.{bound_at, binds, is_name_under_types, is_typed_name, with_bound_names}
use Rattle.ecma_bind_fits.proofs.Alike.{child_same, kind_same, quiet_usual, six_at, typed_kind, typed_parts, usual_children, usual_kind, usual_span}
use Rattle.ecma_bind_fits.proofs.Bound.{bound_each, children_of}
use Rattle.ecma_fits.specs.declared.role.Role.{Role}
use Rattle.ecma_fits.specs.declared.role.Role.TheVariants as role
use Rattle.ecma_fits.specs.Roles.{role_in}
use Rattle.ecma_rules.specs.Children.{kind_of, of_kind}
use Rattle.ecma_lower.specs.Assignments.{is_export_assignment, is_export_by, is_required, is_required_import}
use Rattle.ecma_lower.specs.Checking.{first_refusal}
use Rattle.ecma_lower.specs.Items.{items_by, items_of}
use Rattle.ecma_lower_strip.proofs.Modules.{as_module, module-form}
use Rattle.ecma_lower_refusals.specs.Laws.{BoundTreesAreRefusedAlike}
use Rattle.ecma_lower_refusals.proofs.Refused.{Alike, import-kind, import-parts, is_import_kind, more, none, refused_alike}

and_no : (b : Bool) → (b && false) ≡ false
and_no true = refl
and_no false = refl

not_typed : (n : Node) (r : Role) → is_type_wrapper (kind_of n) ≡ false → is_typed_name r n ≡ false
not_typed n r e = ap (λ w. binds r && (w && is_name_under_types n)) e ∙ and_no (binds r)

export-plain : (k : Kind) → is_export_by k ≡ true → is_type_wrapper k ≡ false
export-plain kind.TsExportAssignment h = refl
export-plain _ h = cc

import-plain : (k : Kind) → is_import_kind k ≡ true → is_type_wrapper k ≡ false
import-plain (kind.TsImportEqualsDecl is_export false) h = refl
import-plain _ h = cc

export_same : (n : Node) (r : Role) → is_export_assignment (bound_at n r) ≡ is_export_assignment n
export_same n r = kind_same Bool is_export_by (refl, refl, refl, refl, refl, refl) n r

import_same : (n : Node) (r : Role) → is_required_import (bound_at n r) ≡ is_required_import n
import_same n r = by (is_typed_name r n) refl
  where
    by : (t : Bool) → is_typed_name r n ≡ t → is_required_import (bound_at n r) ≡ is_required_import n
    by true t =
        import-parts (bound_at n r) ∙ ap (λ (k : Kind). is_import_kind k && of_kind is_required (slice_get (children_of (bound_at n r)) 1)) (typed_kind n r t)
        ∙ sym (import-parts n ∙ ap (λ b. b && of_kind is_required (slice_get (children_of n) 1)) (six_at Bool is_import_kind false (refl, refl, refl, refl, refl, refl) (kind_of n) (typed_parts n r t).1))
    by false u =
        import-parts (bound_at n r) ∙ ap₂ (λ a b. a && b) (ap is_import_kind (usual_kind n r u)) (child_same is_required (refl, refl, refl, refl, refl, refl) 1 n r u) ∙ sym (import-parts n)

bound_alike : (roles : ℕ → Role) (ns : List Node) → Alike ns (bound_each roles ns)
bound_alike roles [] = none
bound_alike roles (n ∷ ns) =
    more (export_same n (roles 0)) (import_same n (roles 0)) (λ e. usual_span n (roles 0) (not_typed n (roles 0) (export-plain (kind_of n) e)))
    (λ i. usual_span n (roles 0) (not_typed n (roles 0) (import-plain (kind_of n) (import-kind n i)))) (bound_alike (λ j. roles (suc j)) ns)

-- ---- the items of a module

quiet : (s : Option (List ℕ)) → binds (role_in role.Free (kind.Module s) 0) ≡ false
unfolding role_in
quiet s = refl

items_parts : (n : Node) (list : Node) → children_of n ≡ list ∷ [] → items_of n ≡ children_of list
items_parts n list is = ap items_by is

pub trees_are_refused_alike : BoundTreesAreRefusedAlike
trees_are_refused_alike assign tree sorted =
    let form = module-form tree sorted in
    let span = form.0 in
    let shebang = form.1 in
    let place = form.2 in
    let ns = form.3 in
    let list : Node = node_of place kind.List ns in
    let whole : Node = as_module span shebang place ns in
    let parts : out-Node whole ≡ record { span = span; kind = kind.Module shebang; children = list ∷ [] } = out-roll-Node (record { span = span; kind = kind.Module shebang; children = list ∷ [] }) in
    let inside : out-Node list ≡ record { span = place; kind = kind.List; children = ns } = out-roll-Node (record { span = place; kind = kind.List; children = ns }) in
    let roles : ℕ → Role = role_in role.Free (kind_of whole) in
    let below : children_of (bound_at whole role.Free) ≡ bound_at list (roles 0) ∷ [] =
    usual_children whole role.Free (quiet_usual whole role.Free refl) ∙ ap (bound_each roles) (ap (λ (z : Node-F Node). z.children) parts) in
    let calm : binds (roles 0) ≡ false = ap (λ (z : Node-F Node). binds (role_in role.Free z.kind 0)) parts ∙ quiet shebang in
    let others : children_of (bound_at list (roles 0)) ≡ bound_each (role_in (roles 0) (kind_of list)) ns =
    usual_children list (roles 0) (quiet_usual list (roles 0) calm) ∙ ap (bound_each (role_in (roles 0) (kind_of list))) (ap (λ (z : Node-F Node). z.children) inside) in
    let items : items_of whole ≡ ns = items_parts whole list (ap (λ (z : Node-F Node). z.children) parts) ∙ ap (λ (z : Node-F Node). z.children) inside in
    let bound : items_of (with_bound_names whole) ≡ bound_each (role_in (roles 0) (kind_of list)) ns = items_parts (bound_at whole role.Free) (bound_at list (roles 0)) below ∙ others in
    let alike : Alike (items_of whole) (items_of (with_bound_names whole)) =
    subst (λ l. Alike l (items_of (with_bound_names whole))) (sym items) (subst (Alike ns) (sym bound) (bound_alike (role_in (roles 0) (kind_of list)) ns)) in
    ap (λ z. first_refusal assign (with_bound_names z)) form.4 ∙ refused_alike assign whole (with_bound_names whole) alike ∙ sym (ap (first_refusal assign) form.4)
