-- In a plain module that fits, each scope for which the evaluator makes a record is that record.
use Rattle.std.proofs.Common.{◌≡◌, ◌⊎◌, inl, inr, refl, sym, ap, ◌∙◌, subst, List, [], ◌++◌, map, Bool, true, false, cond, ◌&&◌, ◌||◌}
use Rattle.ecma_kind.specs.Sorts.{belongs}
use Rattle.ecma_kind.specs.declared.kind.Kind.{Kind}
use Rattle.ecma_kind.specs.declared.kind.Kind.TheVariants as kind
use Rattle.ecma_kind.specs.declared.shapes.Sort.TheVariants as sort
use Rattle.ecma_tree.specs.declared.node.Node.{Node, out-Node}
use Rattle.ecma_tree.specs.Sorted.{is_list, one}
use Rattle.ecma_tree.specs.Values.{is_value_where}
use Rattle.ecma_fits.specs.Fitting.{Fits, at_top, where_in}
use Rattle.ecma_fits.specs.Roles.{is_out_of_role}
use Rattle.ecma_scope.specs.declared.form.Part.TheVariants as part
use Rattle.ecma_scope.specs.declared.role.Role.{Role}
use Rattle.ecma_scope.specs.declared.role.Role.TheVariants as role
use Rattle.ecma_scope.specs.Declarations.{holds_vars, in_item, own_part}
use Rattle.ecma_scope.specs.Scopes.{is_default, is_root, is_there, opens, opens_by}
use Rattle.ecma_hygiene.specs.Ids.{innermost, is_block, is_body_block, is_own}
use Rattle.ecma_hygiene.specs.Sights.{Around, nowhere, own_scope}
use Rattle.ecma_hygiene.proofs.Bound.{own-bound}
use Rattle.ecma_hygiene.proofs.Telling.{true-false}
use Rattle.ecma_hygiene_scopes.specs.DeclaredIds.{id_here, ids_declared, ids_in, scope_ids}
use Rattle.ecma_hygiene_scopes.proofs.Membership.{own-agrees}
use Rattle.ecma_hygiene_runs.specs.Laws.{BindingsAreDeclared}
use Rattle.ecma_hygiene_runs.proofs.PlainEnums.{plain-lacks}
use Rattle.ecma_hygiene_runs.specs.Plain.{is_plain}
use Rattle.ecma_runs.specs.State.{Id, default_name, same_id}
use Rattle.ecma_runs.specs.Environment.{ids_of, is_among}
use Rattle.ecma_runs.specs.Evaluation.{meaning, meaning_by}
use Rattle.ecma_runs.proofs.Layer.{meaning_out}
use Rattle.ecma_runs.proofs.Names.{same_id-equal, same_id-itself}
use Rattle.ecma_hygiene_meeting.specs.Records.{IsFormed, IsRecord, declares_id, has_record, record_names}
use Rattle.ecma_pipeline_meeting.specs.Laws.{PlainModulesHaveRecordsOfScopes}
use Rattle.ecma_pipeline_meeting.proofs.Locals.{module-declares}
use Rattle.ecma_pipeline_meeting.proofs.Parts.{kept, plain-out, sound-out}
use Rattle.ecma_pipeline_meeting.proofs.Patterns.{shape_out}
use Rattle.ecma_pipeline_meeting.proofs.Scopes.{default-by, is_module_kind, own-found, record-by, scope-kept, scope-part}
use Rattle.ecma_pipeline_meeting.proofs.Standing.{Stands, down, formed, low-kind}
use Rattle.ecma_pipeline_meeting.proofs.Variables.{has-vars, is_inner, item_sought, var_sought}
use Rattle.ecma_pipeline_meeting.proofs.Walks.{held}

block-inner : (k : Kind) → is_block k ≡ true → is_inner k ≡ true
block-inner kind.BlockStmt e = refl
block-inner _ e = absurd (true-false e refl)

block-list : (k : Kind) → is_block k ≡ true → is_list k ≡ true → ⊥
block-list kind.BlockStmt e l = true-false l refl
block-list _ e l = true-false e refl

root-module : (k : Kind) (r : Role) → belongs sort.Module k ≡ true → is_root r ≡ true → has_record r k ≡ true → ⊥
root-module (kind.Module s) role.Root b e h = true-false h refl
root-module (kind.Module s) _ b e h = true-false e refl
root-module _ r b e h = true-false b refl

default-role : (r : Role) → is_default r ≡ true → r ≡ role.Default
default-role role.Default e = refl
default-role _ e = absurd (true-false e refl)

by-root : (b : Bool) (A : Type 0) → (b ≡ true → A) → (b ≡ false → A) → A
by-root true A f g = f refl
by-root false A f g = g refl

module _ (n : Node) (s : Around) (h : Stands n s) (recorded : has_record s.role (out-Node n).kind ≡ true) (opened : opens s.role n ≡ true) (id : Id) where
  abbrev k : Kind
  k = (out-Node n).kind

  abbrev cs : List Node
  cs = (out-Node n).children

  no-root : is_root s.role ≡ false
  no-root = by-root (is_root s.role) (is_root s.role ≡ false) (λ e. absurd (root-module k s.role (h.top e) e recorded)) (λ e. e)

  no-module : is_module_kind k ≡ false
  no-module = low-kind h.shape.count h.shape.sort k (h.low no-root) (shape_out h.shape n h.has).0

  vars : is_block k ≡ true → kept id (ids_declared n var_sought) ≡ is_among id (ids_of (meaning_by n k (map meaning cs)).vars)
  vars e = has-vars id n h.w h.shape (block-inner k e) (λ l. absurd (block-list k e l)) h.placed h.has h.plain ∙ ap (λ m. is_among id (ids_of m.vars)) (meaning_out n)

  names-plain : is_default s.role ≡ false → kept id (scope_ids s.role n) ≡ is_among id (record_names s.role k (map meaning cs))
  names-plain d =
      scope-kept id s.role n h.calm
      ∙ ap (λ b. b || kept id (cond (holds_vars s.role k) (ids_declared n var_sought) [])) (own-found id s.role part.Scope n (scope-part id s.role d))
      ∙ record-by id s.role h.w.role (is_value_where true n) n k h.shape cs (where_in h.w n) (λ i. refl) d no-module recorded opened (sound-out (λ w node. is_out_of_role w.role node) h.w n h.placed).1
      (shape_out h.shape n h.has).1 (plain-out n h.plain).1 vars

  names-default : is_default s.role ≡ true → kept id (scope_ids s.role n) ≡ is_among id (record_names s.role k (map meaning cs))
  names-default d =
      let is : s.role ≡ role.Default = default-role s.role d in
      scope-kept id s.role n h.calm
      ∙ ap (λ b. b || kept id (cond (holds_vars s.role k) (ids_declared n var_sought) [])) (own-found id s.role part.Item n (ap own_part is))
      ∙ subst (λ r. (kept id (id_here item_sought k ++ ids_in (λ i. in_item true (is_value_where true n) k i) 0 (map ids_declared cs)) || kept id (cond (holds_vars r k) (ids_declared n var_sought) []))
      ≡ is_among id (record_names r k (map meaning cs))) (sym is)
      (default-by id (is_value_where true n) (is_there cs 0) k cs (ids_declared n var_sought) (h.default d) (subst (λ r. opens r n ≡ true) is opened))

  names-are : kept id (scope_ids s.role n) ≡ is_among id (record_names s.role k (map meaning cs))
  names-are = by-root (is_default s.role) (kept id (scope_ids s.role n) ≡ is_among id (record_names s.role k (map meaning cs))) names-default names-plain

  record-is : declares_id (own_scope s.role s.scopes n) id ≡ is_among id (record_names s.role k (map meaning cs)) && is_own (is_body_block s.role k) (innermost s.scopes) (id.sym, id.ctxt)
  record-is = own-agrees (id.sym, id.ctxt) s.role s.scopes n ∙ ap (λ b. b && is_own (is_body_block s.role k) (innermost s.scopes) (id.sym, id.ctxt)) names-are

is-record : (n : Node) (s : Around) → Stands n s → IsRecord (record { around = s; node = n })
is-record n s h recorded opened id = record-is n s h recorded opened id

-- the module itself
root-stands : (tree : Node) → Fits tree → is_plain tree ≡ true → Stands tree nowhere
root-stands tree fits plain = record {
  w = at_top;
  shape = one sort.Module;
  has = fits.sorted;
  plain = plain;
  placed = fits.roles;
  single = fits.constructors;
  top = λ e. (shape_out (one sort.Module) tree fits.sorted).0;
  low = λ e. absurd (true-false refl e);
  calm = refl;
  default = λ e. absurd (true-false e refl);
  body = λ e. absurd (true-false e refl);
}

module-opens : (k : Kind) (there : Bool) → belongs sort.Module k ≡ true → opens_by role.Root k there ≡ true
unfolding opens_by
module-opens (kind.Module s) there e = refl
module-opens _ there e = absurd (true-false e refl)

-- a variable of the module is that of a default export without a name, or its scope declares it
local-by : (tree : Node) → Fits tree → is_plain tree ≡ true → (id : Id) → is_among id (ids_of (meaning tree).locals) ≡ true → (b : Bool) → same_id id default_name ≡ b
    → (id ≡ default_name) ⊎ (declares_id (own_scope role.Root [] tree) id ≡ true)
local-by tree fits plain id h true e = inl (same_id-equal id default_name e)
local-by tree fits plain id h false e =
    inr (module-declares id (λ d. true-false (ap (λ z. same_id z default_name) d ∙ same_id-itself default_name) e) at_top tree fits.roles fits.sorted plain h)

pub plain_modules_have_records_of_scopes : BindingsAreDeclared → PlainModulesHaveRecordsOfScopes
plain_modules_have_records_of_scopes bindings tree fits plain =
    let stands = root-stands tree fits plain in
    let whole : belongs sort.Module (out-Node tree).kind ≡ true = (shape_out (one sort.Module) tree fits.sorted).0 in
    record {
      whole = whole;
      locals = λ id h. local-by tree fits plain id h (same_id id default_name) refl;
      declared = λ id h. bindings tree fits.sorted plain (id.sym, id.ctxt) (own-bound tree nowhere (id.sym, id.ctxt) (module-opens (out-Node tree).kind (is_there (out-Node tree).children 0) whole) h);
      formed = held Stands IsFormed down formed tree nowhere stands;
      records = held Stands IsRecord down is-record tree nowhere stands;
      no_enums = plain-lacks tree plain;
    }
