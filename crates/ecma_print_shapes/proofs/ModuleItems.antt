-- Imports, exports and other items of modules have their shapes, where all nodes have theirs.
use Rattle.std.proofs.Common.{◌≡◌, ◌∙◌, ◌⊎◌, inl, inr, refl, sym, ap, subst, Bool, true, false, not, ◌&&◌, ◌||◌, List, [], ◌∷◌, slice_get}
use Rattle.std.specs.List.{list_all}
use Rattle.std.proofs.lemmas.Bool.{and_parts, false≢true}
use Rattle.ecma_kind.specs.Sorts.{is_decl, is_module_decl, is_stmt}
use Rattle.ecma_kind.specs.declared.span.Span.{Span}
use Rattle.ecma_kind.specs.declared.kind.Kind.{Kind}
use Rattle.ecma_kind.specs.declared.kind.Kind.TheVariants as kind
use Rattle.ecma_kind.specs.declared.shapes.Sort.TheVariants as sort
use Rattle.ecma_tree.specs.declared.node.Node.{Node, out-Node}
use Rattle.ecma_tree.specs.Nodes.{node_of}
use Rattle.ecma_tree.specs.Sorted.{allows, is_absent, maybe, one}
use Rattle.ecma_rules.specs.declared.target.Target.TheVariants as target
use Rattle.ecma_rules.specs.Children.{children_of, holds_of, is_present, kind_of, of_kind}
use Rattle.ecma_rules.specs.Targets.{target_in}
use Rattle.ecma_covers.specs.Covering.{cover_at, cover_in}
use Rattle.ecma_fits.specs.declared.role.Role.TheVariants as role
use Rattle.ecma_fits.specs.Counts.{are, are_exports, are_imports, holds_attributes, is_full_by, is_named_export, is_star_of}
use Rattle.ecma_fits.specs.Roles.{role_in}
use Rattle.ecma_print.specs.declared.place.Begins.TheVariants.{DefaultStart}
use Rattle.ecma_print.specs.Places.{beginning, free}
use Rattle.ecma_shapes.specs.Modules.{AreModuleItems, IsModuleItem, IsString, export_all, export_assignment, export_bindings, export_bindings_from, export_declaration, export_default, export_default_class, export_default_function, export_namespace, import_alone, import_bindings, import_require, more_items, no_items}
use Rattle.ecma_shapes.specs.Modules as modules
use Rattle.ecma_shapes.specs.Starts.{is_declaration_word, start_of}
use Rattle.ecma_plain.specs.Items.{is_external, is_plain_item, is_plain_kind}
use Rattle.ecma_print_shapes.proofs.Assignments.{full}
use Rattle.ecma_print_shapes.proofs.Attributes.{with_formed}
use Rattle.ecma_print_shapes.proofs.Blocks.{ItemsIn, items_covered, items_in}
use Rattle.ecma_print_shapes.proofs.Building.{absent_shape}
use Rattle.ecma_print_shapes.proofs.ByKind.{made_as, seen_as, sort_there}
use Rattle.ecma_print_shapes.proofs.Claims.{Formed, seen}
use Rattle.ecma_print_shapes.proofs.Covered.{covered}
use Rattle.ecma_print_shapes.proofs.Definitions.{optional_name}
use Rattle.ecma_print_shapes.proofs.ExportNames.{string_formed}
use Rattle.ecma_print_shapes.proofs.Lists.{cover_of_list}
use Rattle.ecma_print_shapes.proofs.Sound.{Here, Sound, children_made}
use Rattle.ecma_print_shapes.proofs.Specifiers.{either_true, exports_of, imports_of, local_formed, star_export_of}
use Rattle.ecma_print_shapes.proofs.Spots.{assigned, child_value, proper_beginning, proper_free}

-- what is exported by default begins with no word of a declaration
abbrev pub BeginsNoDeclaration : Type 0
BeginsNoDeclaration = (n : Node) → Sound role.Free (beginning 1 DefaultStart false) (one sort.Expr) n → is_declaration_word (start_of (cover_at n target.Free)) ≡ false

abbrev ItemHere : Span → Kind → List Node → Type 0
ItemHere at k cs = Here role.Free (free 0) (one sort.ModuleItem) at k cs

declared_stmt : (k : Kind) → is_decl k ≡ true → is_stmt k ≡ true
declared_stmt (kind.ClassDecl declare) h = refl
declared_stmt (kind.FnDecl declare) h = refl
declared_stmt (kind.VarDecl k declare) h = refl
declared_stmt (kind.TsInterfaceDecl declare) h = refl
declared_stmt (kind.TsTypeAliasDecl declare) h = refl
declared_stmt (kind.TsEnumDecl declare is_const) h = refl
declared_stmt (kind.TsModuleDecl declare global) h = refl
declared_stmt k h = absurd (false≢true h)

or_not : (a b : Bool) → (a || not b) ≡ true → a ≡ false → b ≡ false
or_not true b h e = absurd (false≢true (sym e))
or_not false true h e = absurd (false≢true h)
or_not false false h e = refl

absent_by : (b : Bool) → not b ≡ false → b ≡ true
absent_by true h = refl
absent_by false h = absurd (false≢true (sym h))

present_by : (b : Bool) → not b ≡ true → b ≡ false
present_by true h = absurd (false≢true h)
present_by false h = refl

module _ (formed : (n : Node) → Formed n) (assignments : Bool) (at : Span) where
  abbrev ItemOf : Kind → List Node → Type 0
  ItemOf k cs = IsModuleItem assignments (cover_at (node_of at k cs) target.Free)

  -- imports

  import_by : (at_list : Span) (cs : List Node) (b c : Node) → ItemsIn (free 0) (one sort.ImportSpecifier) cs → are_imports cs ≡ true → Sound role.Free (free 0) (one sort.Str) b → Sound role.Free (free 0) (maybe sort.ObjectLit) c → holds_attributes c ≡ true
      → IsModuleItem assignments (node_of at (kind.ImportDecl false) (node_of at_list kind.List (items_covered cs) ∷ cover_at b target.Free ∷ cover_at c target.Free ∷ []))
  import_by at_list [] b c h is s t attributes = import_alone at at_list (string_formed b s (seen b s).allowed) (with_formed c t attributes)
  import_by at_list (d ∷ ds) b c h is s t attributes = import_bindings at at_list (imports_of d ds h is) (string_formed b s (seen b s).allowed) (with_formed c t attributes)

  import_here : (cs : List Node) → ItemHere at (kind.ImportDecl false) cs → ItemOf (kind.ImportDecl false) cs
  unfolding cover_in target_in role_in is_full_by
  import_here [] h = absurd h.below
  import_here (a ∷ []) h = absurd h.below.1
  import_here (a ∷ b ∷ []) h = absurd h.below.1.1
  import_here (a ∷ b ∷ c ∷ []) h =
      let k = kind.ImportDecl false in
      let listed = (seen a h.below.0).allowed in
      let whole = subst (λ z. (are_imports (children_of (slice_get z 0)) && holds_of holds_attributes (slice_get z 2)) ≡ true) (children_made at k (a ∷ b ∷ c ∷ [])) (full at k (a ∷ b ∷ c ∷ []) h) in
      let p = and_parts (are_imports (out-Node a).children) (holds_attributes c) whole in
      subst (IsModuleItem assignments) (sym (covered at k (a ∷ b ∷ c ∷ []) target.Free refl ∙ ap (λ z. node_of at k (z ∷ cover_at b target.Free ∷ cover_at c target.Free ∷ [])) (cover_of_list a listed)))
      (import_by (out-Node a).span (out-Node a).children b c (items_in a h.below.0 listed) p.0 h.below.1.0 h.below.1.1.0 p.1)
  import_here (a ∷ b ∷ c ∷ d ∷ cs) h = absurd h.below.1.1.1

  -- exports

  abbrev ExportOf : Span → List Node → Node → Node → Type 0
  ExportOf at_list cs b c = IsModuleItem assignments (node_of at (kind.NamedExport false) (node_of at_list kind.List (items_covered cs) ∷ cover_at b target.Free ∷ cover_at c target.Free ∷ []))

  star_of : (at_list : Span) (cs : List Node) (b c : Node) → ItemsIn (free 0) (one sort.ExportSpecifier) cs → is_star_of true cs ≡ true → IsString (cover_at b target.Free) → Sound role.Free (free 0) (maybe sort.ObjectLit) c → holds_attributes c ≡ true → ExportOf at_list cs b c
  star_of at_list [] b c h is s t attributes = absurd (false≢true is)
  star_of at_list (d ∷ []) b c h is s t attributes =
      let x = star_export_of d h.0 is in
      subst (λ z. IsModuleItem assignments (node_of at (kind.NamedExport false) (node_of at_list kind.List (z ∷ []) ∷ cover_at b target.Free ∷ cover_at c target.Free ∷ []))) (sym x.3)
      (export_namespace at at_list x.0 x.2 s (with_formed c t attributes))
  star_of at_list (d ∷ e ∷ es) b c h is s t attributes = absurd (false≢true is)

  no_star : (cs : List Node) → is_star_of false cs ≡ true → false ≡ true
  no_star [] h = h
  no_star (c ∷ []) h = h
  no_star (c ∷ d ∷ cs) h = h

  export_by : (at_list : Span) (cs : List Node) (b c : Node) (missing : Bool) → is_absent (kind_of b) ≡ missing → ItemsIn (free 0) (one sort.ExportSpecifier) cs → are_exports (not missing) (is_present (kind_of c)) cs ≡ true
      → Sound role.Free (free 0) (maybe sort.Str) b → Sound role.Free (free 0) (maybe sort.ObjectLit) c → holds_attributes c ≡ true → ExportOf at_list cs b c
  export_by at_list cs b c true e h is s t attributes =
      let p = and_parts (are is_named_export cs || is_star_of false cs) (false || not (is_present (kind_of c))) is in
      let none = absent_by (is_absent (kind_of c)) (or_not false (is_present (kind_of c)) p.1 refl) in
      export_bindings at at_list (exports_of cs h (go (either_true (are is_named_export cs) (is_star_of false cs) p.0))) (absent_shape target.Free b s e) (absent_shape target.Free c t none)
    where
      go : (are is_named_export cs ≡ true) ⊎ (is_star_of false cs ≡ true) → are is_named_export cs ≡ true
      go (inl x) = x
      go (inr x) = absurd (false≢true (no_star cs x))
  export_by at_list cs b c false e h is s t attributes =
      let p = and_parts (are is_named_export cs || is_star_of true cs) (true || not (is_present (kind_of c))) is in
      go (either_true (are is_named_export cs) (is_star_of true cs) p.0)
    where
      there : allows (one sort.Str) (kind_of b) ≡ true
      there = sort_there sort.Str (kind_of b) (seen b s).allowed e

      go : (are is_named_export cs ≡ true) ⊎ (is_star_of true cs ≡ true) → ExportOf at_list cs b c
      go (inl x) = export_bindings_from at at_list (exports_of cs h x) (string_formed b s there) (with_formed c t attributes)
      go (inr x) = star_of at_list cs b c h x (string_formed b s there) t attributes

  named_here : (cs : List Node) → ItemHere at (kind.NamedExport false) cs → ItemOf (kind.NamedExport false) cs
  unfolding cover_in target_in role_in is_full_by
  named_here [] h = absurd h.below
  named_here (a ∷ []) h = absurd h.below.1
  named_here (a ∷ b ∷ []) h = absurd h.below.1.1
  named_here (a ∷ b ∷ c ∷ []) h =
      let k = kind.NamedExport false in
      let listed = (seen a h.below.0).allowed in
      let whole = subst (λ z. (are_exports (of_kind is_present (slice_get z 1)) (of_kind is_present (slice_get z 2)) (children_of (slice_get z 0)) && holds_of holds_attributes (slice_get z 2)) ≡ true) (children_made at k (a ∷ b ∷ c ∷ []))
      (full at k (a ∷ b ∷ c ∷ []) h) in
      let p = and_parts (are_exports (is_present (kind_of b)) (is_present (kind_of c)) (out-Node a).children) (holds_attributes c) whole in
      subst (IsModuleItem assignments) (sym (covered at k (a ∷ b ∷ c ∷ []) target.Free refl ∙ ap (λ z. node_of at k (z ∷ cover_at b target.Free ∷ cover_at c target.Free ∷ [])) (cover_of_list a listed)))
      (export_by (out-Node a).span (out-Node a).children b c (is_absent (kind_of b)) refl (items_in a h.below.0 listed) p.0 h.below.1.0 h.below.1.1.0 p.1)
  named_here (a ∷ b ∷ c ∷ d ∷ cs) h = absurd h.below.1.1.1

  all_here : (cs : List Node) → ItemHere at (kind.ExportAll false) cs → ItemOf (kind.ExportAll false) cs
  unfolding cover_in target_in role_in is_full_by
  all_here [] h = absurd h.below
  all_here (a ∷ []) h = absurd h.below.1
  all_here (a ∷ b ∷ []) h =
      let k = kind.ExportAll false in
      let attributes = subst (λ z. holds_of holds_attributes (slice_get z 1) ≡ true) (children_made at k (a ∷ b ∷ [])) (full at k (a ∷ b ∷ []) h) in
      subst (IsModuleItem assignments) (sym (covered at k (a ∷ b ∷ []) target.Free refl)) (export_all at (string_formed a h.below.0 (seen a h.below.0).allowed) (with_formed b h.below.1.0 attributes))
  all_here (a ∷ b ∷ c ∷ cs) h = absurd h.below.1.1

  declaration_here : (cs : List Node) → ItemHere at kind.ExportDecl cs → ItemOf kind.ExportDecl cs
  unfolding cover_in target_in role_in
  declaration_here [] h = absurd h.below
  declaration_here (a ∷ []) h =
      let is = (seen a h.below.0).allowed in
      let x = (formed a).statement (one sort.Decl) h.below.0 (declared_stmt (kind_of a) is) in
      subst (IsModuleItem assignments) (sym (covered at kind.ExportDecl (a ∷ []) target.Free refl)) (export_declaration at x.shape (x.declares is))
  declaration_here (a ∷ b ∷ cs) h = absurd h.below.1

  default_here : BeginsNoDeclaration → (cs : List Node) → ItemHere at kind.ExportDefaultExpr cs → ItemOf kind.ExportDefaultExpr cs
  unfolding cover_in target_in role_in
  default_here starts [] h = absurd h.below
  default_here starts (a ∷ []) h =
      subst (IsModuleItem assignments) (sym (covered at kind.ExportDefaultExpr (a ∷ []) target.Free refl)) (export_default at (assigned (child_value (formed a) h.below.0 refl (proper_beginning 1 DefaultStart false)) refl) (starts a h.below.0))
  default_here starts (a ∷ b ∷ cs) h = absurd h.below.1

  default_function : (at_function : Span) (cs : List Node) → Here role.Free (free 0) (one sort.DefaultDecl) at_function kind.FnExpr cs → IsModuleItem assignments (node_of at kind.ExportDefaultDecl (cover_at (node_of at_function kind.FnExpr cs) target.Free ∷ []))
  unfolding cover_in target_in role_in
  default_function at_function [] h = absurd h.below
  default_function at_function (a ∷ []) h = absurd h.below.1
  default_function at_function (a ∷ b ∷ []) h =
      subst (λ z. IsModuleItem assignments (node_of at kind.ExportDefaultDecl (z ∷ []))) (sym (covered at_function kind.FnExpr (a ∷ b ∷ []) target.Free refl))
      (export_default_function at at_function (optional_name a h.below.0) ((formed b).function h.below.1.0))
  default_function at_function (a ∷ b ∷ c ∷ cs) h = absurd h.below.1.1

  default_class : (at_class : Span) (cs : List Node) → Here role.Free (free 0) (one sort.DefaultDecl) at_class kind.ClassExpr cs → IsModuleItem assignments (node_of at kind.ExportDefaultDecl (cover_at (node_of at_class kind.ClassExpr cs) target.Free ∷ []))
  unfolding cover_in target_in role_in
  default_class at_class [] h = absurd h.below
  default_class at_class (a ∷ []) h = absurd h.below.1
  default_class at_class (a ∷ b ∷ []) h =
      subst (λ z. IsModuleItem assignments (node_of at kind.ExportDefaultDecl (z ∷ []))) (sym (covered at_class kind.ClassExpr (a ∷ b ∷ []) target.Free refl))
      (export_default_class at at_class (optional_name a h.below.0) ((formed b).class h.below.1.0))
  default_class at_class (a ∷ b ∷ c ∷ cs) h = absurd h.below.1.1

  default_by : (n : Node) → Sound role.Free (free 0) (one sort.DefaultDecl) n → IsModuleItem assignments (node_of at kind.ExportDefaultDecl (cover_at n target.Free ∷ []))
  default_by n s = go (kind_of n) refl (seen n s).allowed
    where
      go : (k : Kind) → kind_of n ≡ k → allows (one sort.DefaultDecl) k ≡ true → IsModuleItem assignments (node_of at kind.ExportDefaultDecl (cover_at n target.Free ∷ []))
      go kind.FnExpr e is = made_as (λ m. IsModuleItem assignments (node_of at kind.ExportDefaultDecl (cover_at m target.Free ∷ []))) n kind.FnExpr e (default_function (out-Node n).span (out-Node n).children (seen_as n kind.FnExpr e s))
      go kind.ClassExpr e is = made_as (λ m. IsModuleItem assignments (node_of at kind.ExportDefaultDecl (cover_at m target.Free ∷ []))) n kind.ClassExpr e (default_class (out-Node n).span (out-Node n).children (seen_as n kind.ClassExpr e s))
      go (kind.TsInterfaceDecl declare) e is = absurd (false≢true (seen_as n (kind.TsInterfaceDecl declare) e s).bare.1)
      go k e is = absurd (false≢true is)

  default_decl_here : (cs : List Node) → ItemHere at kind.ExportDefaultDecl cs → ItemOf kind.ExportDefaultDecl cs
  unfolding cover_in target_in role_in
  default_decl_here [] h = absurd h.below
  default_decl_here (a ∷ []) h = subst (IsModuleItem assignments) (sym (covered at kind.ExportDefaultDecl (a ∷ []) target.Free refl)) (default_by a h.below.0)
  default_decl_here (a ∷ b ∷ cs) h = absurd h.below.1

  -- assignments

  require_here : (is_export : Bool) (a : Node) (at_source : Span) (cs : List Node) → assignments ≡ true → Sound role.Free (free 0) (one sort.Ident) a → Here role.Free (free 0) (one sort.TsModuleRef) at_source kind.TsExternalModuleRef cs
      → IsModuleItem assignments (node_of at (kind.TsImportEqualsDecl is_export false) (cover_at a target.Free ∷ cover_at (node_of at_source kind.TsExternalModuleRef cs) target.Free ∷ []))
  unfolding cover_in target_in role_in
  require_here is_export a at_source [] may s h = absurd h.below
  require_here is_export a at_source (b ∷ []) may s h =
      subst (λ z. IsModuleItem assignments (node_of at (kind.TsImportEqualsDecl is_export false) (cover_at a target.Free ∷ z ∷ []))) (sym (covered at_source kind.TsExternalModuleRef (b ∷ []) target.Free refl))
      (import_require may at at_source is_export (local_formed a s) (string_formed b h.below.0 (seen b h.below.0).allowed))
  require_here is_export a at_source (b ∷ c ∷ cs) may s h = absurd h.below.1

  external_kind : (k : Kind) → is_external k ≡ true → k ≡ kind.TsExternalModuleRef
  external_kind kind.TsExternalModuleRef h = refl
  external_kind k h = absurd (false≢true h)

  equals_here : (is_export : Bool) (cs : List Node) → ItemHere at (kind.TsImportEqualsDecl is_export false) cs → (assignments && of_kind is_external (slice_get cs 1)) ≡ true → ItemOf (kind.TsImportEqualsDecl is_export false) cs
  unfolding cover_in target_in role_in
  equals_here is_export [] h may = absurd h.below
  equals_here is_export (a ∷ []) h may = absurd h.below.1
  equals_here is_export (a ∷ b ∷ []) h may =
      let k = kind.TsImportEqualsDecl is_export false in
      let p = and_parts assignments (is_external (kind_of b)) may in
      let e = external_kind (kind_of b) p.1 in
      subst (IsModuleItem assignments) (sym (covered at k (a ∷ b ∷ []) target.Free refl))
      (made_as (λ m. IsModuleItem assignments (node_of at k (cover_at a target.Free ∷ cover_at m target.Free ∷ []))) b kind.TsExternalModuleRef e
      (require_here is_export a (out-Node b).span (out-Node b).children p.0 h.below.0 (seen_as b kind.TsExternalModuleRef e h.below.1.0)))
  equals_here is_export (a ∷ b ∷ c ∷ cs) h may = absurd h.below.1.1

  assignment_here : (cs : List Node) → ItemHere at kind.TsExportAssignment cs → assignments ≡ true → ItemOf kind.TsExportAssignment cs
  unfolding cover_in target_in role_in
  assignment_here [] h may = absurd h.below
  assignment_here (a ∷ []) h may =
      let e = child_value (formed a) h.below.0 refl (proper_free 0) in
      subst (IsModuleItem assignments) (sym (covered at kind.TsExportAssignment (a ∷ []) target.Free refl)) (export_assignment may at e.shape)
  assignment_here (a ∷ b ∷ cs) h may = absurd h.below.1

-- items

module _ (formed : (n : Node) → Formed n) (starts : BeginsNoDeclaration) (assignments : Bool) (n : Node) (s : Sound role.Free (free 0) (one sort.ModuleItem) n) where
  abbrev at : Span
  at = (out-Node n).span

  abbrev cs : List Node
  cs = (out-Node n).children

  abbrev Item : Node → Type 0
  Item m = IsModuleItem assignments (cover_at m target.Free)

  by : (k : Kind) → kind_of n ≡ k → IsModuleItem assignments (cover_at (node_of at k cs) target.Free) → IsModuleItem assignments (cover_at n target.Free)
  by k e x = made_as Item n k e x

  declared_by : (k : Kind) → kind_of n ≡ k → is_module_decl k ≡ true → is_plain_kind assignments k n ≡ true → IsModuleItem assignments (cover_at n target.Free)
  declared_by (kind.ImportDecl false) e is may = by (kind.ImportDecl false) e (import_here formed assignments at cs (seen_as n (kind.ImportDecl false) e s))
  declared_by (kind.NamedExport false) e is may = by (kind.NamedExport false) e (named_here formed assignments at cs (seen_as n (kind.NamedExport false) e s))
  declared_by (kind.ExportAll false) e is may = by (kind.ExportAll false) e (all_here formed assignments at cs (seen_as n (kind.ExportAll false) e s))
  declared_by kind.ExportDecl e is may = by kind.ExportDecl e (declaration_here formed assignments at cs (seen_as n kind.ExportDecl e s))
  declared_by kind.ExportDefaultExpr e is may = by kind.ExportDefaultExpr e (default_here formed assignments at starts cs (seen_as n kind.ExportDefaultExpr e s))
  declared_by kind.ExportDefaultDecl e is may = by kind.ExportDefaultDecl e (default_decl_here formed assignments at cs (seen_as n kind.ExportDefaultDecl e s))
  declared_by (kind.TsImportEqualsDecl is_export false) e is may =
      by (kind.TsImportEqualsDecl is_export false) e (equals_here formed assignments at is_export cs (seen_as n (kind.TsImportEqualsDecl is_export false) e s) may)
  declared_by kind.TsExportAssignment e is may = by kind.TsExportAssignment e (assignment_here formed assignments at cs (seen_as n kind.TsExportAssignment e s) may)
  declared_by (kind.ImportDecl true) e is may = absurd (false≢true (seen_as n (kind.ImportDecl true) e s).bare.1)
  declared_by (kind.NamedExport true) e is may = absurd (false≢true (seen_as n (kind.NamedExport true) e s).bare.1)
  declared_by (kind.ExportAll true) e is may = absurd (false≢true (seen_as n (kind.ExportAll true) e s).bare.1)
  declared_by (kind.TsImportEqualsDecl is_export true) e is may = absurd (false≢true (seen_as n (kind.TsImportEqualsDecl is_export true) e s).bare.1)
  declared_by kind.TsNamespaceExportDecl e is may = absurd (false≢true (seen_as n kind.TsNamespaceExportDecl e s).bare.1)
  declared_by k e is may = absurd (false≢true is)

  pub item_formed : is_plain_item assignments n ≡ true → IsModuleItem assignments (cover_at n target.Free)
  item_formed may = go (either_true (is_stmt (kind_of n)) (is_module_decl (kind_of n)) (seen n s).allowed)
    where
      go : (is_stmt (kind_of n) ≡ true) ⊎ (is_module_decl (kind_of n) ≡ true) → IsModuleItem assignments (cover_at n target.Free)
      go (inl is) = modules.IsModuleItem.statement ((formed n).statement (one sort.ModuleItem) s is).shape
      go (inr is) = declared_by (kind_of n) refl is may

pub items_of : (formed : (n : Node) → Formed n) (starts : BeginsNoDeclaration) (assignments : Bool) (ns : List Node) → ItemsIn (free 0) (one sort.ModuleItem) ns → list_all (is_plain_item assignments) ns ≡ true → AreModuleItems assignments (items_covered ns)
items_of formed starts assignments [] h may = no_items
items_of formed starts assignments (n ∷ ns) h may =
    let p = and_parts (is_plain_item assignments n) (list_all (is_plain_item assignments) ns) may in
    more_items (item_formed formed starts assignments n h.0 p.0) (items_of formed starts assignments ns h.1 p.1)
