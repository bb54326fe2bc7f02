-- The scope of a module with its assignments lowered declares the ids that it declared.
use Rattle.std.proofs.Common.{◌≡◌, ◌∙◌, ℕ, suc, Bool, true, false, refl, sym, ap, ap₂, List, [], ◌∷◌, ◌++◌, append-nil, filter, map, Option}
use Rattle.std.specs.List.{list_any}
use Rattle.ecma_config.specs.declared.config.TsImportExportAssignConfig.{TsImportExportAssignConfig}
use Rattle.ecma_kind.specs.declared.kind.Kind.{Kind}
use Rattle.ecma_kind.specs.declared.kind.Kind.TheVariants as kind
use Rattle.ecma_kind.specs.declared.span.Span.{Span}
use Rattle.ecma_tree.specs.Nodes.{absent, dummy_span, node_of}
use Rattle.ecma_tree.specs.declared.node.Node.{Node}
use Rattle.ecma_tree.proofs.Layers.{from_leaves-roll}
use Rattle.ecma_utils.specs.Quotes.{name_of}
use Rattle.ecma_rules.specs.Children.{kind_of}
use Rattle.ecma_scope.specs.declared.form.Form.TheVariants as form
use Rattle.ecma_scope.specs.declared.form.Part.TheVariants as part
use Rattle.ecma_scope.specs.declared.form.Sought.{Sought}
use Rattle.ecma_scope.specs.declared.role.Role.TheVariants as role
use Rattle.ecma_scope.specs.Declarations.{holds_vars, in_item, in_name, in_var, sought_by}
use Rattle.ecma_hygiene.specs.Ids.{Id, declared_by, declared_here, declared_ids, declares, found, is_own, nothing, own_ids, scope_soughts, soughts_in}
use Rattle.ecma_hygiene.specs.Walks.{gather_step, gathered_from}
use Rattle.ecma_hygiene.proofs.Seeking.{nothing-declared}
use Rattle.ecma_lower_scopes.proofs.Declared.{scope-inside, var-inside, whole-kind}
use Rattle.ecma_lower_scopes.proofs.Still.{is_still, kind-of, list_at, no-id, sought-is}
use Rattle.ecma_lower_scopes.proofs.Lists.{all_given, given-alike}
use Rattle.ecma_lower_scopes.proofs.Lowering.{given-same, lowered_items}
use Rattle.ecma_lower_scopes.proofs.Walks.{Seats, Walk, given_from}
use Rattle.ecma_lower_strip.proofs.Lists.{AreItems}
use Rattle.ecma_lower_strip.proofs.Modules.{as_module}

-- ---- what is looked for

abbrev pub soughts_below : Kind → List Sought → ℕ → List Sought
soughts_below k [] i = []
soughts_below k (s ∷ soughts) i = found (sought_by s.part s.stays false k i) ++ soughts_below k soughts i

pub soughts-still : (soughts : List Sought) (n : Node) (k : Kind) (i : ℕ) → kind_of n ≡ k → is_still k ≡ true → soughts_in soughts n i ≡ soughts_below k soughts i
soughts-still [] n k i e h = refl
soughts-still (s ∷ soughts) n k i e h = ap₂ (λ (x y : List Sought). x ++ y) (ap found (sought-is s n k i e h)) (soughts-still soughts n k i e h)

-- among the items of a module: their names, and `var` names
abbrev pub item_soughts : List Sought
item_soughts = record { part = part.Item; stays = true } ∷ record { part = part.Var; stays = true } ∷ []

abbrev pub name_soughts : List Sought
name_soughts = record { part = part.Name form.Lexical; stays = true } ∷ []

-- ---- ids

ids-roll : (span : Span) (k : Kind) (cs : List Node) (soughts : List Sought)
    → declared_ids (node_of span k cs) soughts
    ≡ declared_by (list_any declares soughts) (kind_of (node_of span k cs)) ++ gathered_from (List Sought) Id (soughts_in soughts (node_of span k cs)) 0 (map declared_ids cs)
ids-roll span k cs soughts =
    ap (λ f. f soughts) (from_leaves-roll (List Sought → List Id) (gather_step (List Sought) Id declared_here soughts_in) (record { span = span; kind = k; children = cs }))

ids-given : (into other : ℕ → List Sought) → ((i : ℕ) → into i ≡ other i) → (i : ℕ) (cs : List Node) → gathered_from (List Sought) Id into i (map declared_ids cs) ≡ given_from declared_ids other i cs
ids-given into other same i [] = refl
ids-given into other same i (c ∷ cs) = ap₂ (λ (x y : List Id). x ++ y) (ap (declared_ids c) (same i)) (ids-given into other same (suc i) cs)

pub ids-out : (span : Span) (k : Kind) (cs : List Node) (soughts : List Sought) → is_still k ≡ true → declared_ids (node_of span k cs) soughts ≡ given_from declared_ids (soughts_below k soughts) 0 cs
ids-out span k cs soughts h =
    let n = node_of span k cs in
    let wanted = list_any declares soughts in
    ids-roll span k cs soughts
    ∙ ap₂ (λ (x y : List Id). x ++ y) (ap (declared_by wanted) (kind-of span k cs) ∙ no-id wanted k h)
    (ids-given (soughts_in soughts n) (soughts_below k soughts) (λ i. soughts-still soughts n k i (kind-of span k cs) h) 0 cs)

no-absent-id : (b : Bool) → declared_by b kind.Absent ≡ []
no-absent-id true = refl
no-absent-id false = refl

pub missing-ids : (soughts : List Sought) → declared_ids absent soughts ≡ []
missing-ids soughts =
    let wanted = list_any declares soughts in
    ids-roll dummy_span kind.Absent [] soughts ∙ ap (λ (z : List Id). z ++ []) (ap (declared_by wanted) (kind-of dummy_span kind.Absent []) ∙ no-absent-id wanted)

abbrev pub gathering : Walk (List Sought) Id
gathering = record { gives = declared_ids; into = soughts_below; out = ids-out; missing = missing-ids }

id-seats : (free : ℕ) → Seats gathering free item_soughts name_soughts []
unfolding in_item in_name in_var
id-seats free = record {
  import_name = λ e. refl;
  import_value = λ e. refl;
  constant_name = refl;
  constant_value = refl;
  exported = refl;
  statement = refl;
  assignment = refl;
  inner = λ k i h. refl;
  free_name = λ text. nothing-declared (name_of free dummy_span text);
}

items-below : (i : ℕ) → soughts_below kind.List item_soughts i ≡ item_soughts
unfolding in_item in_var
items-below i = refl

-- ---- the scope of a module

abbrev pub module_soughts : List Sought
module_soughts = record { part = part.Scope; stays = true } ∷ record { part = part.Var; stays = true } ∷ []

scope-soughts : (shebang : Option (List ℕ)) → scope_soughts role.Root (kind.Module shebang) ≡ module_soughts
unfolding holds_vars
scope-soughts shebang = refl

module _ (span : Span) (shebang : Option (List ℕ)) (at : Span) where
  abbrev whole : List Node → Node
  whole ns = as_module span shebang at ns

  pub module-soughts : (ns : List Node) → scope_soughts role.Root (kind_of (whole ns)) ≡ module_soughts
  module-soughts ns = ap (scope_soughts role.Root) (whole-kind span shebang at ns) ∙ scope-soughts shebang

  pub soughts-inside : (ns : List Node) → soughts_in module_soughts (whole ns) 0 ≡ item_soughts
  soughts-inside ns =
      λ j. found (scope-inside shebang (whole ns) (whole-kind span shebang at ns) j) ++ (found (var-inside shebang (whole ns) (whole-kind span shebang at ns) j) ++ [])

  module-ids : (ns : List Node) → declared_ids (whole ns) module_soughts ≡ all_given gathering item_soughts ns
  module-ids ns =
      ids-roll span (kind.Module shebang) (list_at at ns ∷ []) module_soughts
      ∙ append-nil (declared_ids (list_at at ns) (soughts_in module_soughts (whole ns) 0))
      ∙ ap (declared_ids (list_at at ns)) (soughts-inside ns)
      ∙ ids-out at kind.List ns item_soughts refl
      ∙ given-alike gathering item_soughts (soughts_below kind.List item_soughts) items-below 0 ns

  own-ids : (ns : List Node) → own_ids role.Root nothing (whole ns) ≡ filter (is_own false nothing) (all_given gathering item_soughts ns)
  own-ids ns = ap (filter (is_own false nothing)) (ap (declared_ids (whole ns)) (module-soughts ns) ∙ module-ids ns)

  -- with other items that declare the same it declares the same
  pub own-ids-same : (ns ms : List Node) → all_given gathering item_soughts ms ≡ all_given gathering item_soughts ns → own_ids role.Root nothing (whole ms) ≡ own_ids role.Root nothing (whole ns)
  own-ids-same ns ms same = own-ids ms ∙ ap (filter (is_own false nothing)) same ∙ sym (own-ids ns)

pub lowered-ids : (assign : TsImportExportAssignConfig) (free : ℕ) (ns : List Node) → AreItems ns → all_given gathering item_soughts (lowered_items assign free ns) ≡ all_given gathering item_soughts ns
lowered-ids assign free ns items = given-same gathering assign free item_soughts (id-seats free) nothing-declared ns items
