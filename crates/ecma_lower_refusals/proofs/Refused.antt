-- What is refused hangs on the kinds of a module's items, on those of their second children, and on where they begin.
use Rattle.std.proofs.Common.{◌≡◌, ◌∙◌, ℕ, zero, suc, Bool, true, false, ◌&&◌, List, [], ◌∷◌, map, Option, Some, None, refl, sym, ap, ap₂, slice_get}
use Rattle.std.specs.List.{filter}
use Rattle.ecma_config.specs.declared.config.TsImportExportAssignConfig.{TsImportExportAssignConfig}
use Rattle.ecma_kind.specs.declared.kind.Kind.{Kind}
use Rattle.ecma_kind.specs.declared.kind.Kind.TheVariants as kind
use Rattle.ecma_tree.specs.declared.node.Node.{Node, out-Node}
use Rattle.ecma_rules.specs.Children.{of_kind}
use Rattle.ecma_lower.specs.Assignments.{is_export_assignment, is_import_by, is_required, is_required_import, requires_by}
use Rattle.ecma_lower.specs.Checking.{first_refusal, places_of, refusal_at, refuses_exports, refuses_imports}
use Rattle.ecma_lower.specs.Items.{items_of}
use Rattle.ecma_lower.specs.declared.error.LowerError.{LowerError}
use Rattle.ecma_lower.specs.declared.error.LowerError.TheVariants as lower_error

-- items of which each is as refused as the other
pub data Alike : List Node → List Node → Type 0 where
  none : Alike [] []
  more : {n m : Node} {ns ms : List Node} → is_export_assignment m ≡ is_export_assignment n → is_required_import m ≡ is_required_import n
      → (is_export_assignment n ≡ true → (out-Node m).span ≡ (out-Node n).span) → (is_required_import n ≡ true → (out-Node m).span ≡ (out-Node n).span) → Alike ns ms → Alike (n ∷ ns) (m ∷ ms)

abbrev place : Node → ℕ
place item = (out-Node item).span.lo

kept_cons : (test : Node → Bool) (n m : Node) (ns ms : List Node) (b c : Bool) → test n ≡ b → test m ≡ c → c ≡ b → (b ≡ true → (out-Node m).span ≡ (out-Node n).span) → places_of test ms ≡ places_of test ns
    → places_of test (m ∷ ms) ≡ places_of test (n ∷ ns)
kept_cons test n m ns ms true true e f same at rest = rw e (rw f (ap₂ (λ (a : ℕ) (l : List ℕ). a ∷ l) (ap (λ s. s.lo) (at refl)) rest))
kept_cons test n m ns ms false false e f same at rest = rw e (rw f rest)
kept_cons test n m ns ms true false e f same at rest = cc
kept_cons test n m ns ms false true e f same at rest = cc

exports_alike : {ns ms : List Node} → Alike ns ms → places_of is_export_assignment ms ≡ places_of is_export_assignment ns
exports_alike none = refl
exports_alike (more {n} {m} {ns} {ms} e i at at' rest) = kept_cons is_export_assignment n m ns ms (is_export_assignment n) (is_export_assignment m) refl refl e at (exports_alike rest)

imports_alike : {ns ms : List Node} → Alike ns ms → places_of is_required_import ms ≡ places_of is_required_import ns
imports_alike none = refl
imports_alike (more {n} {m} {ns} {ms} e i at at' rest) = kept_cons is_required_import n m ns ms (is_required_import n) (is_required_import m) refl refl i at' (imports_alike rest)

abbrev refused : TsImportExportAssignConfig → List ℕ → List ℕ → Option LowerError
refused assign exports imports =
    refusal_at true (slice_get exports 1) lower_error.ExportAssignTwice
    (refusal_at (refuses_imports assign) (slice_get imports 0) lower_error.ImportAssign
    (refusal_at (refuses_exports assign) (slice_get exports 0) lower_error.ExportAssign None))

pub refused_alike : (assign : TsImportExportAssignConfig) (tree other : Node) → Alike (items_of tree) (items_of other) → first_refusal assign other ≡ first_refusal assign tree
refused_alike assign tree other alike = ap₂ (refused assign) (exports_alike alike) (imports_alike alike)

-- ---- an import of a required module, by its kind and that of its second child

abbrev pub is_import_kind : Kind → Bool
is_import_kind (kind.TsImportEqualsDecl is_export false) = true
is_import_kind _ = false

requires-parts : (cs : List Node) → requires_by cs ≡ of_kind is_required (slice_get cs 1)
requires-parts [] = refl
requires-parts (a ∷ []) = refl
requires-parts (a ∷ b ∷ cs) = refl

import-by : (k : Kind) (cs : List Node) → is_import_by k cs ≡ (is_import_kind k && of_kind is_required (slice_get cs 1))
import-by (kind.TsImportEqualsDecl is_export false) cs = requires-parts cs
import-by (kind.TsImportEqualsDecl is_export true) cs = refl
import-by _ cs = refl

pub import-parts : (n : Node) → is_required_import n ≡ (is_import_kind (out-Node n).kind && of_kind is_required (slice_get (out-Node n).children 1))
import-parts n = import-by (out-Node n).kind (out-Node n).children

pub import-kind : (n : Node) → is_required_import n ≡ true → is_import_kind (out-Node n).kind ≡ true
import-kind n h = by (is_import_kind (out-Node n).kind) (of_kind is_required (slice_get (out-Node n).children 1)) (sym (import-parts n) ∙ h)
  where
    by : (a b : Bool) → (a && b) ≡ true → a ≡ true
    by true b h = refl
    by false b h = h
