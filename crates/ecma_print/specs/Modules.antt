-- The layout of modules, imports and exports (ECMAScript, 16).
use Rattle.std.specs.Prelude.{ℕ, Bool, true, false, List, [], ◌∷◌, Option, Some, None, codes}
use Rattle.ecma_kind.specs.declared.kind.Kind.{Kind}
use Rattle.ecma_kind.specs.declared.kind.Kind.TheVariants.{Module, Script, ImportDecl, ImportNamedSpecifier, ImportDefaultSpecifier, ImportStarAsSpecifier, ExportDecl, NamedExport, ExportNamedSpecifier, ExportDefaultSpecifier, ExportNamespaceSpecifier, ExportDefaultDecl, ExportDefaultExpr, ExportAll, TsImportEqualsDecl, TsExternalModuleRef, TsQualifiedName, TsExportAssignment}
use Rattle.ecma_print.specs.declared.place.Begins.TheVariants.{DefaultStart}
use Rattle.ecma_print.specs.declared.place.Spot.{Spot}
use Rattle.ecma_print.specs.declared.place.Between.TheVariants.{From, As, BeforeAs, Attributes}
use Rattle.ecma_print.specs.declared.place.Place.TheVariants.{At, Within, Lines, Imports, Exports}
use Rattle.ecma_print.specs.Precedences as precedence
use Rattle.ecma_print.specs.Pieces.{Piece, nothing, say, ◌>>◌}
use Rattle.ecma_print.specs.Places.{alone, beginning}
use Rattle.ecma_print.specs.Laid.{Laid}

-- the first line, if the text begins with `#!`
abbrev pub hashbang : Option (List ℕ) → Piece
hashbang None = nothing
hashbang (Some text) = say (codes "#!") >> say text >> say (codes "\n")

abbrev pub whole_module : Option (List ℕ) → List Laid → Piece
whole_module shebang (body ∷ []) = hashbang shebang >> body.at Lines
whole_module shebang children = nothing

abbrev pub import_text : List Laid → Piece
import_text (specifiers ∷ source ∷ attributes ∷ []) = say (codes "import") >> specifiers.at Imports >> source.at (At alone) >> attributes.at (Within Attributes alone) >> say (codes ";")
import_text children = nothing

abbrev pub import_specifier : List Laid → Piece
import_specifier (local ∷ imported ∷ []) = imported.at (Within BeforeAs alone) >> local.at (At alone)
import_specifier children = nothing

-- these characters, and the one child after them
abbrev pub behind_word : List ℕ → List Laid → Piece
behind_word word (child ∷ []) = say word >> child.at (At alone)
behind_word word children = nothing

-- the same, and the end of the statement
abbrev pub ended_behind_word : List ℕ → List Laid → Spot → Piece
ended_behind_word word (child ∷ []) spot = say word >> child.at (At spot) >> say (codes ";")
ended_behind_word word children spot = nothing

abbrev pub named_export : List Laid → Piece
named_export (specifiers ∷ source ∷ attributes ∷ []) = say (codes "export ") >> specifiers.at Exports >> source.at (Within From alone) >> attributes.at (Within Attributes alone) >> say (codes ";")
named_export children = nothing

abbrev pub export_specifier : List Laid → Piece
export_specifier (original ∷ exported ∷ []) = original.at (At alone) >> exported.at (Within As alone)
export_specifier children = nothing

abbrev pub export_all : List Laid → Piece
export_all (source ∷ attributes ∷ []) = say (codes "export * from ") >> source.at (At alone) >> attributes.at (Within Attributes alone) >> say (codes ";")
export_all children = nothing

abbrev pub import_equals_word : Bool → List ℕ
import_equals_word true = codes "export import "
import_equals_word false = codes "import "

abbrev pub import_equals : Bool → List Laid → Piece
import_equals is_export (name ∷ reference ∷ []) = say (import_equals_word is_export) >> name.at (At alone) >> say (codes " = ") >> reference.at (At alone) >> say (codes ";")
import_equals is_export children = nothing

abbrev pub module_reference : List Laid → Piece
module_reference (text ∷ []) = say (codes "require(") >> text.at (At alone) >> say (codes ")")
module_reference children = nothing

abbrev pub qualified_name : List Laid → Piece
qualified_name (first ∷ second ∷ []) = first.at (At alone) >> say (codes ".") >> second.at (At alone)
qualified_name children = nothing

-- modules and imports; other nodes have no such text
abbrev pub importing : Kind → List Laid → Piece
importing (Module shebang) children = whole_module shebang children
importing (Script shebang) children = whole_module shebang children
importing (ImportDecl type_only) children = import_text children
importing (ImportNamedSpecifier is_type_only) children = import_specifier children
importing ImportDefaultSpecifier children = behind_word [] children
importing ImportStarAsSpecifier children = behind_word (codes "* as ") children
importing (TsImportEqualsDecl is_export is_type_only) children = import_equals is_export children
importing TsExternalModuleRef children = module_reference children
importing TsQualifiedName children = qualified_name children
importing kind children = nothing

-- exports
abbrev pub exporting : Kind → List Laid → Piece
exporting ExportDecl children = behind_word (codes "export ") children
exporting (NamedExport type_only) children = named_export children
exporting (ExportNamedSpecifier is_type_only) children = export_specifier children
exporting ExportDefaultSpecifier children = behind_word [] children
exporting ExportNamespaceSpecifier children = behind_word (codes "* as ") children
exporting ExportDefaultDecl children = behind_word (codes "export default ") children
exporting ExportDefaultExpr children = ended_behind_word (codes "export default ") children (beginning precedence.assignment DefaultStart false)
exporting (ExportAll type_only) children = export_all children
exporting TsExportAssignment children = ended_behind_word (codes "export = ") children alone
exporting kind children = nothing
