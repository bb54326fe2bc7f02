-- The specifiers of imports and exports have their shapes.
use Rattle.std.proofs.Common.{◌≡◌, ◌⊎◌, inl, inr, refl, sym, subst, Bool, true, false, ◌&&◌, ◌||◌, List, [], ◌∷◌}
use Rattle.std.proofs.lemmas.Bool.{and_parts, false≢true}
use Rattle.ecma_kind.specs.declared.span.Span.{Span}
use Rattle.ecma_kind.specs.declared.kind.Kind.{Kind}
use Rattle.ecma_kind.specs.declared.kind.Kind.TheVariants as kind
use Rattle.ecma_kind.specs.declared.shapes.Sort.TheVariants as sort
use Rattle.ecma_tree.specs.declared.node.Node.{Node, out-Node}
use Rattle.ecma_tree.specs.Nodes.{node_of}
use Rattle.ecma_tree.specs.Sorted.{is_absent, one}
use Rattle.ecma_rules.specs.declared.target.Target.TheVariants as target
use Rattle.ecma_rules.specs.Children.{kind_of}
use Rattle.ecma_rules.specs.Targets.{target_in}
use Rattle.ecma_covers.specs.Covering.{cover_at, cover_in}
use Rattle.ecma_fits.specs.declared.role.Role.TheVariants as role
use Rattle.ecma_fits.specs.Counts.{are, are_imports, are_stars_or_names, is_default_import, is_named_export, is_named_import, is_star_export, is_star_import}
use Rattle.ecma_fits.specs.Roles.{role_in}
use Rattle.ecma_print.specs.Places.{free}
use Rattle.ecma_shapes.specs.Modules.{AreNamedExports, AreNamedImports, IsDefaultImport, IsExportClause, IsExportName, IsImportClause, IsNamedExport, IsNamedImport, IsNamespaceImport, default_import, export_names, export_nothing, import_default, import_default_and_names, import_default_and_namespace, import_names, import_namespace, more_exports, more_imports, namespace_import, no_exports, no_imports, other_export, other_import, same_export, same_import}
use Rattle.ecma_shapes.specs.Shapes.{IsIdent}
use Rattle.ecma_print_shapes.proofs.Blocks.{ItemsIn, items_covered}
use Rattle.ecma_print_shapes.proofs.Building.{absent_shape}
use Rattle.ecma_print_shapes.proofs.ByKind.{made_as, seen_as, sort_there}
use Rattle.ecma_print_shapes.proofs.Claims.{names_value, seen}
use Rattle.ecma_print_shapes.proofs.Covered.{covered}
use Rattle.ecma_print_shapes.proofs.ExportNames.{export_name_formed}
use Rattle.ecma_print_shapes.proofs.Names.{ident_formed}
use Rattle.ecma_print_shapes.proofs.Sound.{Here, Sound}

pub either_true : (a b : Bool) → (a || b) ≡ true → (a ≡ true) ⊎ (b ≡ true)
either_true true b h = inl refl
either_true false b h = inr h

-- the name of what is imported here
pub local_formed : (n : Node) → Sound role.Free (free 0) (one sort.Ident) n → IsIdent (cover_at n target.Free)
local_formed n s = ident_formed n role.Free (free 0) (one sort.Ident) s (seen n s).allowed (names_value refl)

-- imports

module _ (at : Span) where
  named_import_here : (type_only : Bool) (cs : List Node) → Here role.Free (free 0) (one sort.ImportSpecifier) at (kind.ImportNamedSpecifier type_only) cs → IsNamedImport (cover_at (node_of at (kind.ImportNamedSpecifier type_only) cs) target.Free)
  unfolding cover_in target_in role_in
  named_import_here true cs h = absurd (false≢true h.bare.1)
  named_import_here false [] h = absurd h.below
  named_import_here false (a ∷ []) h = absurd h.below.1
  named_import_here false (a ∷ b ∷ []) h =
      subst IsNamedImport (sym (covered at (kind.ImportNamedSpecifier false) (a ∷ b ∷ []) target.Free refl)) (go (is_absent (kind_of b)) refl)
    where
      go : (missing : Bool) → is_absent (kind_of b) ≡ missing → IsNamedImport (node_of at (kind.ImportNamedSpecifier false) (cover_at a target.Free ∷ cover_at b target.Free ∷ []))
      go true e = same_import at (local_formed a h.below.0) (absent_shape target.Free b h.below.1.0 e)
      go false e = other_import at (local_formed a h.below.0) (export_name_formed b h.below.1.0 (sort_there sort.ModuleExportName (kind_of b) (seen b h.below.1.0).allowed e))
  named_import_here false (a ∷ b ∷ c ∷ cs) h = absurd h.below.1.1

  default_import_here : (cs : List Node) → Here role.Free (free 0) (one sort.ImportSpecifier) at kind.ImportDefaultSpecifier cs → IsDefaultImport (cover_at (node_of at kind.ImportDefaultSpecifier cs) target.Free)
  unfolding cover_in target_in role_in
  default_import_here [] h = absurd h.below
  default_import_here (a ∷ []) h = subst IsDefaultImport (sym (covered at kind.ImportDefaultSpecifier (a ∷ []) target.Free refl)) (default_import at (local_formed a h.below.0))
  default_import_here (a ∷ b ∷ cs) h = absurd h.below.1

  star_import_here : (cs : List Node) → Here role.Free (free 0) (one sort.ImportSpecifier) at kind.ImportStarAsSpecifier cs → IsNamespaceImport (cover_at (node_of at kind.ImportStarAsSpecifier cs) target.Free)
  unfolding cover_in target_in role_in
  star_import_here [] h = absurd h.below
  star_import_here (a ∷ []) h = subst IsNamespaceImport (sym (covered at kind.ImportStarAsSpecifier (a ∷ []) target.Free refl)) (namespace_import at (local_formed a h.below.0))
  star_import_here (a ∷ b ∷ cs) h = absurd h.below.1

module _ (n : Node) (s : Sound role.Free (free 0) (one sort.ImportSpecifier) n) where
  named_import_of : is_named_import (kind_of n) ≡ true → IsNamedImport (cover_at n target.Free)
  named_import_of is = go (kind_of n) refl is
    where
      go : (k : Kind) → kind_of n ≡ k → is_named_import k ≡ true → IsNamedImport (cover_at n target.Free)
      go (kind.ImportNamedSpecifier type_only) e h =
          let k = kind.ImportNamedSpecifier type_only in
          made_as (λ m. IsNamedImport (cover_at m target.Free)) n k e (named_import_here (out-Node n).span type_only (out-Node n).children (seen_as n k e s))
      go k e h = absurd (false≢true h)

  default_import_of : is_default_import (kind_of n) ≡ true → IsDefaultImport (cover_at n target.Free)
  default_import_of is = go (kind_of n) refl is
    where
      go : (k : Kind) → kind_of n ≡ k → is_default_import k ≡ true → IsDefaultImport (cover_at n target.Free)
      go kind.ImportDefaultSpecifier e h = made_as (λ m. IsDefaultImport (cover_at m target.Free)) n kind.ImportDefaultSpecifier e (default_import_here (out-Node n).span (out-Node n).children (seen_as n kind.ImportDefaultSpecifier e s))
      go k e h = absurd (false≢true h)

  star_import_of : is_star_import (kind_of n) ≡ true → IsNamespaceImport (cover_at n target.Free)
  star_import_of is = go (kind_of n) refl is
    where
      go : (k : Kind) → kind_of n ≡ k → is_star_import k ≡ true → IsNamespaceImport (cover_at n target.Free)
      go kind.ImportStarAsSpecifier e h = made_as (λ m. IsNamespaceImport (cover_at m target.Free)) n kind.ImportStarAsSpecifier e (star_import_here (out-Node n).span (out-Node n).children (seen_as n kind.ImportStarAsSpecifier e s))
      go k e h = absurd (false≢true h)

abbrev pub Imports : List Node → Type 0
Imports cs = ItemsIn (free 0) (one sort.ImportSpecifier) cs

named_imports_of : (cs : List Node) → Imports cs → are is_named_import cs ≡ true → AreNamedImports (items_covered cs)
named_imports_of [] h is = no_imports
named_imports_of (c ∷ cs) h is = let p = and_parts (is_named_import (kind_of c)) (are is_named_import cs) is in more_imports (named_import_of c h.0 p.0) (named_imports_of cs h.1 p.1)

all_named : (c : Node) (cs : List Node) → Imports (c ∷ cs) → are is_named_import (c ∷ cs) ≡ true → IsImportClause (items_covered (c ∷ cs))
all_named c cs h is = let p = and_parts (is_named_import (kind_of c)) (are is_named_import cs) is in import_names (named_import_of c h.0 p.0) (named_imports_of cs h.1 p.1)

stars_or_names : (c : Node) (cs : List Node) → Imports (c ∷ cs) → are_stars_or_names (c ∷ cs) ≡ true → IsImportClause (items_covered (c ∷ cs))
stars_or_names c [] h is = go (either_true (is_star_import (kind_of c)) (is_named_import (kind_of c)) is)
  where
    go : (is_star_import (kind_of c) ≡ true) ⊎ (is_named_import (kind_of c) ≡ true) → IsImportClause (items_covered (c ∷ []))
    go (inl e) = import_namespace (star_import_of c h.0 e)
    go (inr e) = import_names (named_import_of c h.0 e) no_imports
stars_or_names c (d ∷ ds) h is = all_named c (d ∷ ds) h is

behind_default : (c : Node) (cs : List Node) → Imports (c ∷ cs) → is_default_import (kind_of c) ≡ true → are_stars_or_names cs ≡ true → IsImportClause (items_covered (c ∷ cs))
behind_default c [] h e is = import_default (default_import_of c h.0 e)
behind_default c (d ∷ []) h e is = go (either_true (is_star_import (kind_of d)) (is_named_import (kind_of d)) is)
  where
    go : (is_star_import (kind_of d) ≡ true) ⊎ (is_named_import (kind_of d) ≡ true) → IsImportClause (items_covered (c ∷ d ∷ []))
    go (inl f) = import_default_and_namespace (default_import_of c h.0 e) (star_import_of d h.1.0 f)
    go (inr f) = import_default_and_names (default_import_of c h.0 e) (named_import_of d h.1.0 f) no_imports
behind_default c (d ∷ f ∷ fs) h e is =
    let p = and_parts (is_named_import (kind_of d)) (are is_named_import (f ∷ fs)) is in
    import_default_and_names (default_import_of c h.0 e) (named_import_of d h.1.0 p.0) (named_imports_of (f ∷ fs) h.1.1 p.1)

pub imports_of : (c : Node) (cs : List Node) → Imports (c ∷ cs) → are_imports (c ∷ cs) ≡ true → IsImportClause (items_covered (c ∷ cs))
imports_of c cs h is = go (either_true (are_stars_or_names (c ∷ cs)) (is_default_import (kind_of c) && are_stars_or_names cs) is)
  where
    go : (are_stars_or_names (c ∷ cs) ≡ true) ⊎ ((is_default_import (kind_of c) && are_stars_or_names cs) ≡ true) → IsImportClause (items_covered (c ∷ cs))
    go (inl e) = stars_or_names c cs h e
    go (inr e) = let p = and_parts (is_default_import (kind_of c)) (are_stars_or_names cs) e in behind_default c cs h p.0 p.1

-- exports

module _ (at : Span) where
  named_export_here : (type_only : Bool) (cs : List Node) → Here role.Free (free 0) (one sort.ExportSpecifier) at (kind.ExportNamedSpecifier type_only) cs → IsNamedExport (cover_at (node_of at (kind.ExportNamedSpecifier type_only) cs) target.Free)
  unfolding cover_in target_in role_in
  named_export_here true cs h = absurd (false≢true h.bare.1)
  named_export_here false [] h = absurd h.below
  named_export_here false (a ∷ []) h = absurd h.below.1
  named_export_here false (a ∷ b ∷ []) h =
      subst IsNamedExport (sym (covered at (kind.ExportNamedSpecifier false) (a ∷ b ∷ []) target.Free refl)) (go (is_absent (kind_of b)) refl)
    where
      go : (missing : Bool) → is_absent (kind_of b) ≡ missing → IsNamedExport (node_of at (kind.ExportNamedSpecifier false) (cover_at a target.Free ∷ cover_at b target.Free ∷ []))
      go true e = same_export at (export_name_formed a h.below.0 (seen a h.below.0).allowed) (absent_shape target.Free b h.below.1.0 e)
      go false e = other_export at (export_name_formed a h.below.0 (seen a h.below.0).allowed) (export_name_formed b h.below.1.0 (sort_there sort.ModuleExportName (kind_of b) (seen b h.below.1.0).allowed e))
  named_export_here false (a ∷ b ∷ c ∷ cs) h = absurd h.below.1.1

  -- `* as a`
  star_export_here : (cs : List Node) → Here role.Free (free 0) (one sort.ExportSpecifier) at kind.ExportNamespaceSpecifier cs → (name : Node) × IsExportName name × (cover_at (node_of at kind.ExportNamespaceSpecifier cs) target.Free ≡ node_of at kind.ExportNamespaceSpecifier (name ∷ []))
  unfolding cover_in target_in role_in
  star_export_here [] h = absurd h.below
  star_export_here (a ∷ []) h = (cover_at a target.Free, export_name_formed a h.below.0 (seen a h.below.0).allowed, covered at kind.ExportNamespaceSpecifier (a ∷ []) target.Free refl)
  star_export_here (a ∷ b ∷ cs) h = absurd h.below.1

abbrev pub Exports : List Node → Type 0
Exports cs = ItemsIn (free 0) (one sort.ExportSpecifier) cs

module _ (n : Node) (s : Sound role.Free (free 0) (one sort.ExportSpecifier) n) where
  named_export_of : is_named_export (kind_of n) ≡ true → IsNamedExport (cover_at n target.Free)
  named_export_of is = go (kind_of n) refl is
    where
      go : (k : Kind) → kind_of n ≡ k → is_named_export k ≡ true → IsNamedExport (cover_at n target.Free)
      go (kind.ExportNamedSpecifier type_only) e h =
          let k = kind.ExportNamedSpecifier type_only in
          made_as (λ m. IsNamedExport (cover_at m target.Free)) n k e (named_export_here (out-Node n).span type_only (out-Node n).children (seen_as n k e s))
      go k e h = absurd (false≢true h)

  pub star_export_of : is_star_export (kind_of n) ≡ true → (at : Span) × (name : Node) × IsExportName name × (cover_at n target.Free ≡ node_of at kind.ExportNamespaceSpecifier (name ∷ []))
  star_export_of is = go (kind_of n) refl is
    where
      go : (k : Kind) → kind_of n ≡ k → is_star_export k ≡ true → (at : Span) × (name : Node) × IsExportName name × (cover_at n target.Free ≡ node_of at kind.ExportNamespaceSpecifier (name ∷ []))
      go kind.ExportNamespaceSpecifier e h =
          let x = star_export_here (out-Node n).span (out-Node n).children (seen_as n kind.ExportNamespaceSpecifier e s) in
          made_as (λ m. (at : Span) × (name : Node) × IsExportName name × (cover_at m target.Free ≡ node_of at kind.ExportNamespaceSpecifier (name ∷ []))) n kind.ExportNamespaceSpecifier e ((out-Node n).span, x.0, x.1, x.2)
      go k e h = absurd (false≢true h)

named_exports_of : (cs : List Node) → Exports cs → are is_named_export cs ≡ true → AreNamedExports (items_covered cs)
named_exports_of [] h is = no_exports
named_exports_of (c ∷ cs) h is = let p = and_parts (is_named_export (kind_of c)) (are is_named_export cs) is in more_exports (named_export_of c h.0 p.0) (named_exports_of cs h.1 p.1)

pub exports_of : (cs : List Node) → Exports cs → are is_named_export cs ≡ true → IsExportClause (items_covered cs)
exports_of [] h is = export_nothing
exports_of (c ∷ cs) h is = let p = and_parts (is_named_export (kind_of c)) (are is_named_export cs) is in export_names (named_export_of c h.0 p.0) (named_exports_of cs h.1 p.1)
