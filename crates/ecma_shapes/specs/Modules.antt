-- The trees of modules (ECMAScript, 16.2), a constructor for each form of their items.
use Rattle.std.specs.Prelude.{not, ◌≡◌, ℕ, ◌-◌, Bool, true, false, List, [], ◌∷◌, length, Some, None}
use Rattle.std.specs.List.{list_all}
use Rattle.std.specs.Str.{IsUtf8, chars}
use Rattle.ecma_lex.specs.Blanks.{is_line_terminator}
use Rattle.ecma_lex.specs.Text.{piece}
use Rattle.ecma_lex.specs.Keys.{key_end}
use Rattle.ecma_lex.specs.Strings.{str_end, str_value}
use Rattle.ecma_kind.specs.declared.span.Span.{Span}
use Rattle.ecma_kind.specs.declared.kind.Kind.TheVariants as kind
use Rattle.ecma_tree.specs.declared.node.Node.{Node}
use Rattle.ecma_tree.specs.Nodes.{node_of}
use Rattle.ecma_print_tokens.specs.Good.{IsToken}
use Rattle.ecma_shapes.specs.Starts.{is_declaration_word, start_of}
use Rattle.ecma_shapes.specs.Shapes.{IsIdent, IsKey, IsAbsent, Level, assignment, IsExpression, Ending, IsStatement, declaration, function_statement, IsFunctionName, IsFunction, class_statement, IsClass}

pub data IsString : Node → Type 0 where
  string_literal : (at : Span) (raw : List ℕ) → IsToken str_end raw → IsString (node_of at (kind.Str (str_value (piece raw 1 (length raw - 1))) (Some raw)) [])

-- what another module calls it: a key, also a reserved word, or a text (ModuleExportName)
pub data IsExportName : Node → Type 0 where
  word_name : (at : Span) (word : List ℕ) → IsToken key_end word → IsExportName (node_of at (kind.Ident word 0 false) [])
  string_name : {n : Node} → IsString n → IsExportName n

pub data IsAttributeKey : Node → Type 0 where
  word_key : {n : Node} → IsKey n → IsAttributeKey n
  string_key : {n : Node} → IsString n → IsAttributeKey n

pub data IsAttribute : Node → Type 0 where
  attribute : (at : Span) {name value : Node} → IsAttributeKey name → IsString value → IsAttribute (node_of at kind.KeyValueProp (name ∷ value ∷ []))

pub data AreAttributes : List Node → Type 0 where
  no_attributes : AreAttributes []
  more_attributes : {n : Node} {ns : List Node} → IsAttribute n → AreAttributes ns → AreAttributes (n ∷ ns)

-- `with { type: "json" }` (WithClause), or nothing
pub data IsWithClause : Node → Type 0 where
  no_with : {none : Node} → IsAbsent none → IsWithClause none
  with_nothing : (at of_list : Span) → IsWithClause (node_of at kind.ObjectLit (node_of of_list kind.List [] ∷ []))
  with_attributes : (at of_list : Span) {n : Node} {ns : List Node} → IsAttribute n → AreAttributes ns → IsWithClause (node_of at kind.ObjectLit (node_of of_list kind.List (n ∷ ns) ∷ []))

-- imports (ECMAScript, 16.2.2)

pub data IsDefaultImport : Node → Type 0 where
  default_import : (at : Span) {local : Node} → IsIdent local → IsDefaultImport (node_of at kind.ImportDefaultSpecifier (local ∷ []))

pub data IsNamespaceImport : Node → Type 0 where
  namespace_import : (at : Span) {local : Node} → IsIdent local → IsNamespaceImport (node_of at kind.ImportStarAsSpecifier (local ∷ []))

pub data IsNamedImport : Node → Type 0 where
  same_import : (at : Span) {local none : Node} → IsIdent local → IsAbsent none → IsNamedImport (node_of at (kind.ImportNamedSpecifier false) (local ∷ none ∷ []))
  other_import : (at : Span) {local imported : Node} → IsIdent local → IsExportName imported → IsNamedImport (node_of at (kind.ImportNamedSpecifier false) (local ∷ imported ∷ []))

pub data AreNamedImports : List Node → Type 0 where
  no_imports : AreNamedImports []
  more_imports : {n : Node} {ns : List Node} → IsNamedImport n → AreNamedImports ns → AreNamedImports (n ∷ ns)

-- what an import binds (ImportClause)
pub data IsImportClause : List Node → Type 0 where
  import_default : {d : Node} → IsDefaultImport d → IsImportClause (d ∷ [])
  import_namespace : {a : Node} → IsNamespaceImport a → IsImportClause (a ∷ [])
  import_names : {n : Node} {ns : List Node} → IsNamedImport n → AreNamedImports ns → IsImportClause (n ∷ ns)
  import_default_and_namespace : {d a : Node} → IsDefaultImport d → IsNamespaceImport a → IsImportClause (d ∷ a ∷ [])
  import_default_and_names : {d n : Node} {ns : List Node} → IsDefaultImport d → IsNamedImport n → AreNamedImports ns → IsImportClause (d ∷ n ∷ ns)

-- exports (ECMAScript, 16.2.3)

pub data IsNamedExport : Node → Type 0 where
  same_export : (at : Span) {name none : Node} → IsExportName name → IsAbsent none → IsNamedExport (node_of at (kind.ExportNamedSpecifier false) (name ∷ none ∷ []))
  other_export : (at : Span) {name exported : Node} → IsExportName name → IsExportName exported → IsNamedExport (node_of at (kind.ExportNamedSpecifier false) (name ∷ exported ∷ []))

pub data AreNamedExports : List Node → Type 0 where
  no_exports : AreNamedExports []
  more_exports : {n : Node} {ns : List Node} → IsNamedExport n → AreNamedExports ns → AreNamedExports (n ∷ ns)

-- what stands in braces (NamedExports)
pub data IsExportClause : List Node → Type 0 where
  export_nothing : IsExportClause []
  export_names : {n : Node} {ns : List Node} → IsNamedExport n → AreNamedExports ns → IsExportClause (n ∷ ns)

-- what stands behind `export` as it is
abbrev pub is_declaration : {ending : Ending} {s : Node} → IsStatement ending s → Bool
is_declaration (declaration at at' k d ds) = true
is_declaration (function_statement at i f) = true
is_declaration (class_statement at i c) = true
is_declaration s = false

-- modules, where `import a = require("m")` and `export =` may stand or not

pub data IsModuleItem (assignments : Bool) : Node → Type 0 where
  statement : {ending : Ending} {s : Node} → IsStatement ending s → IsModuleItem assignments s
  import_alone : (at of_list : Span) {source attributes : Node} → IsString source → IsWithClause attributes
      → IsModuleItem assignments (node_of at (kind.ImportDecl false) (node_of of_list kind.List [] ∷ source ∷ attributes ∷ []))
  import_bindings : (at of_list : Span) {bindings : List Node} {source attributes : Node} → IsImportClause bindings → IsString source → IsWithClause attributes
      → IsModuleItem assignments (node_of at (kind.ImportDecl false) (node_of of_list kind.List bindings ∷ source ∷ attributes ∷ []))
  export_bindings : (at of_list : Span) {bindings : List Node} {none none' : Node} → IsExportClause bindings → IsAbsent none → IsAbsent none'
      → IsModuleItem assignments (node_of at (kind.NamedExport false) (node_of of_list kind.List bindings ∷ none ∷ none' ∷ []))
  export_bindings_from : (at of_list : Span) {bindings : List Node} {source attributes : Node} → IsExportClause bindings → IsString source → IsWithClause attributes
      → IsModuleItem assignments (node_of at (kind.NamedExport false) (node_of of_list kind.List bindings ∷ source ∷ attributes ∷ []))
  export_namespace : (at of_list of_name : Span) {name source attributes : Node} → IsExportName name → IsString source → IsWithClause attributes
      → IsModuleItem assignments (node_of at (kind.NamedExport false) (node_of of_list kind.List (node_of of_name kind.ExportNamespaceSpecifier (name ∷ []) ∷ []) ∷ source ∷ attributes ∷ []))
  export_all : (at : Span) {source attributes : Node} → IsString source → IsWithClause attributes → IsModuleItem assignments (node_of at (kind.ExportAll false) (source ∷ attributes ∷ []))
  export_declaration : (at : Span) {ending : Ending} {s : Node} (is : IsStatement ending s) → is_declaration is ≡ true → IsModuleItem assignments (node_of at kind.ExportDecl (s ∷ []))
  export_default : (at : Span) {e : Node} → IsExpression assignment e → is_declaration_word (start_of e) ≡ false → IsModuleItem assignments (node_of at kind.ExportDefaultExpr (e ∷ []))
  export_default_function : (at at_function : Span) {name function : Node} → IsFunctionName name → IsFunction function → IsModuleItem assignments (node_of at kind.ExportDefaultDecl (node_of at_function kind.FnExpr (name ∷ function ∷ []) ∷ []))
  export_default_class : (at at_class : Span) {name class : Node} → IsFunctionName name → IsClass class → IsModuleItem assignments (node_of at kind.ExportDefaultDecl (node_of at_class kind.ClassExpr (name ∷ class ∷ []) ∷ []))
  import_require : assignments ≡ true → (at of_source : Span) (is_export : Bool) {id source : Node} → IsIdent id → IsString source
      → IsModuleItem assignments (node_of at (kind.TsImportEqualsDecl is_export false) (id ∷ node_of of_source kind.TsExternalModuleRef (source ∷ []) ∷ []))
  export_assignment : assignments ≡ true → (at : Span) {level : Level} {e : Node} → IsExpression level e → IsModuleItem assignments (node_of at kind.TsExportAssignment (e ∷ []))

pub data AreModuleItems (assignments : Bool) : List Node → Type 0 where
  no_items : AreModuleItems assignments []
  more_items : {n : Node} {ns : List Node} → IsModuleItem assignments n → AreModuleItems assignments ns → AreModuleItems assignments (n ∷ ns)

-- what stands behind `#!` in its line (HashbangComment, ECMAScript, 12.5)
pub record IsHashbangText (text : List ℕ) : Type 0 where
  pub utf8 : IsUtf8 text
  pub on_line : list_all (λ c. not (is_line_terminator c)) (chars text) ≡ true

pub data IsModule (assignments : Bool) : Node → Type 0 where
  module_of : (at of_list : Span) {body : List Node} → AreModuleItems assignments body → IsModule assignments (node_of at (kind.Module None) (node_of of_list kind.List body ∷ []))
  module_behind_hashbang : (at of_list : Span) {text : List ℕ} {body : List Node} → IsHashbangText text → AreModuleItems assignments body → IsModule assignments (node_of at (kind.Module (Some text)) (node_of of_list kind.List body ∷ []))
