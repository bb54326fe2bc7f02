-- Modules, imports and exports are laid out alike.
use Rattle.std.proofs.Common.{◌≡◌, refl, ℕ, List, [], ◌∷◌, map, Bool, false, codes, Option}
use Rattle.ecma_kind.specs.declared.kind.Kind.{Kind}
use Rattle.ecma_kind.specs.declared.kind.Kind.TheVariants as kind
use Rattle.ecma_print.specs.Laid.{Laid}
use Rattle.ecma_print.specs.declared.place.Spot.{Spot}
use Rattle.ecma_print.specs.Places.{free, beginning}
use Rattle.ecma_round_trip_literals.specs.Sources.{with_source}
use Rattle.ecma_round_trip_literals.proofs.Telling.{told}
use Rattle.ecma_print.specs.declared.place.Begins.TheVariants.{DefaultStart}
use Rattle.ecma_print.specs.Modules.{whole_module, import_text, import_specifier, behind_word, ended_behind_word, named_export, export_specifier, export_all, import_equals, module_reference, qualified_name, importing, exporting}

whole_module_told : (shebang : Option (List ℕ)) (children : List Laid) → whole_module shebang (map told children) ≡ whole_module shebang children
whole_module_told shebang [] = refl
whole_module_told shebang (a ∷ []) = refl
whole_module_told shebang (a ∷ b ∷ more) = refl

import_text_told : (children : List Laid) → import_text (map told children) ≡ import_text children
import_text_told [] = refl
import_text_told (a ∷ []) = refl
import_text_told (a ∷ b ∷ []) = refl
import_text_told (a ∷ b ∷ c ∷ []) = refl
import_text_told (a ∷ b ∷ c ∷ d ∷ more) = refl

import_specifier_told : (children : List Laid) → import_specifier (map told children) ≡ import_specifier children
import_specifier_told [] = refl
import_specifier_told (a ∷ []) = refl
import_specifier_told (a ∷ b ∷ []) = refl
import_specifier_told (a ∷ b ∷ c ∷ more) = refl

behind_word_told : (word : List ℕ) (children : List Laid) → behind_word word (map told children) ≡ behind_word word children
behind_word_told word [] = refl
behind_word_told word (a ∷ []) = refl
behind_word_told word (a ∷ b ∷ more) = refl

ended_behind_word_told : (word : List ℕ) (children : List Laid) (spot : Spot) → ended_behind_word word (map told children) spot ≡ ended_behind_word word children spot
ended_behind_word_told word [] spot = refl
ended_behind_word_told word (a ∷ []) spot = refl
ended_behind_word_told word (a ∷ b ∷ more) spot = refl

named_export_told : (children : List Laid) → named_export (map told children) ≡ named_export children
named_export_told [] = refl
named_export_told (a ∷ []) = refl
named_export_told (a ∷ b ∷ []) = refl
named_export_told (a ∷ b ∷ c ∷ []) = refl
named_export_told (a ∷ b ∷ c ∷ d ∷ more) = refl

export_specifier_told : (children : List Laid) → export_specifier (map told children) ≡ export_specifier children
export_specifier_told [] = refl
export_specifier_told (a ∷ []) = refl
export_specifier_told (a ∷ b ∷ []) = refl
export_specifier_told (a ∷ b ∷ c ∷ more) = refl

export_all_told : (children : List Laid) → export_all (map told children) ≡ export_all children
export_all_told [] = refl
export_all_told (a ∷ []) = refl
export_all_told (a ∷ b ∷ []) = refl
export_all_told (a ∷ b ∷ c ∷ more) = refl

import_equals_told : (is_export : Bool) (children : List Laid) → import_equals is_export (map told children) ≡ import_equals is_export children
import_equals_told is_export [] = refl
import_equals_told is_export (a ∷ []) = refl
import_equals_told is_export (a ∷ b ∷ []) = refl
import_equals_told is_export (a ∷ b ∷ c ∷ more) = refl

module_reference_told : (children : List Laid) → module_reference (map told children) ≡ module_reference children
module_reference_told [] = refl
module_reference_told (a ∷ []) = refl
module_reference_told (a ∷ b ∷ more) = refl

qualified_name_told : (children : List Laid) → qualified_name (map told children) ≡ qualified_name children
qualified_name_told [] = refl
qualified_name_told (a ∷ []) = refl
qualified_name_told (a ∷ b ∷ []) = refl
qualified_name_told (a ∷ b ∷ c ∷ more) = refl

pub importing_told : (k : Kind) (children : List Laid) → importing (with_source k) (map told children) ≡ importing k children
importing_told (kind.Module shebang) children = whole_module_told shebang children
importing_told (kind.Script shebang) children = whole_module_told shebang children
importing_told (kind.ImportDecl type_only) children = import_text_told children
importing_told (kind.ImportNamedSpecifier is_type_only) children = import_specifier_told children
importing_told kind.ImportDefaultSpecifier children = behind_word_told [] children
importing_told kind.ImportStarAsSpecifier children = behind_word_told (codes "* as ") children
importing_told (kind.TsImportEqualsDecl is_export is_type_only) children = import_equals_told is_export children
importing_told kind.TsExternalModuleRef children = module_reference_told children
importing_told kind.TsQualifiedName children = qualified_name_told children
importing_told _ children = refl

pub exporting_told : (k : Kind) (children : List Laid) → exporting (with_source k) (map told children) ≡ exporting k children
exporting_told kind.ExportDecl children = behind_word_told (codes "export ") children
exporting_told (kind.NamedExport type_only) children = named_export_told children
exporting_told (kind.ExportNamedSpecifier is_type_only) children = export_specifier_told children
exporting_told kind.ExportDefaultSpecifier children = behind_word_told [] children
exporting_told kind.ExportNamespaceSpecifier children = behind_word_told (codes "* as ") children
exporting_told kind.ExportDefaultDecl children = behind_word_told (codes "export default ") children
exporting_told kind.ExportDefaultExpr children = ended_behind_word_told (codes "export default ") children (beginning 1 DefaultStart false)
exporting_told (kind.ExportAll type_only) children = export_all_told children
exporting_told kind.TsExportAssignment children = ended_behind_word_told (codes "export = ") children (free 0)
exporting_told _ children = refl
