-- The tokens that a module is laid out as, and its tree without spans.
use Rattle.std.specs.Prelude.{ℕ, ◌-◌, Bool, true, false, List, [], ◌∷◌, ◌++◌, length, Some, None, codes}
use Rattle.ecma_lex.specs.Text.{piece}
use Rattle.ecma_lex.specs.Strings.{str_value}
use Rattle.ecma_kind.specs.declared.kind.Kind.TheVariants as kind
use Rattle.ecma_tree.specs.declared.node.Node.{Node}
use Rattle.ecma_tree.specs.Nodes.{absent, list_node}
use Rattle.ecma_print_tokens.specs.Items as items
use Rattle.ecma_print_tokens.specs.Items.{Tok, sign, Gap, no_gap, Items, ends, it}
use Rattle.ecma_shapes.specs.Modules.{IsString, string_literal, IsExportName, word_name, string_name, IsAttributeKey, word_key, string_key, IsAttribute, attribute, AreAttributes, no_attributes, more_attributes, IsWithClause, no_with, with_nothing, with_attributes, IsDefaultImport, default_import, IsNamespaceImport, namespace_import, IsNamedImport, same_import, other_import, AreNamedImports, no_imports, more_imports, IsImportClause, import_default, import_namespace, import_names, import_default_and_namespace, import_default_and_names, IsNamedExport, same_export, other_export, AreNamedExports, no_exports, more_exports, IsExportClause, export_nothing, export_names, IsModuleItem, statement, import_alone, import_bindings, export_bindings, export_bindings_from, export_namespace, export_all, export_declaration, export_default, import_require, export_assignment, AreModuleItems, no_items, more_items, IsModule, module_of, module_behind_hashbang, export_default_function, export_default_class}
use Rattle.ecma_shapes.proofs.Tokens.{ident_word, key_word, expression_tokens, statement_tokens, is_generator, is_async, function_name_tokens, function_tokens, class_tokens}
use Rattle.ecma_shapes.proofs.Signs.{blank, line, sign_of, function_word}
use Rattle.ecma_shapes.proofs.Bare.{bare, bare_ident, bare_expression, bare_statement, bare_function_name, bare_function, bare_class}

-- a token behind a blank
abbrev pub spaced : Tok → Items → Items
spaced t us = it blank t us

abbrev pub spaced_word : List ℕ → Items → Items
spaced_word w us = spaced (items.key w) us

abbrev pub spaced_sign : List ℕ → Items → Items
spaced_sign w us = spaced (sign w) us

abbrev pub string_raw : {n : Node} → IsString n → List ℕ
string_raw (string_literal at raw t) = raw

abbrev pub export_name_token : {n : Node} → IsExportName n → Tok
export_name_token (word_name at word t) = items.key word
export_name_token (string_name s) = items.string (string_raw s)

abbrev pub attribute_key_token : {n : Node} → IsAttributeKey n → Tok
attribute_key_token (word_key k) = items.key (key_word k)
attribute_key_token (string_key s) = items.string (string_raw s)

abbrev pub attribute_tokens : {n : Node} → IsAttribute n → Items → Items
attribute_tokens (attribute at k s) us = spaced (attribute_key_token k) (sign_of (codes ":") (spaced (items.string (string_raw s)) us))

abbrev pub more_attributes_tokens : {ns : List Node} → AreAttributes ns → Items → Items
more_attributes_tokens no_attributes us = us
more_attributes_tokens (more_attributes a more) us = sign_of (codes ",") (attribute_tokens a (more_attributes_tokens more us))

abbrev pub with_tokens : {n : Node} → IsWithClause n → Items → Items
with_tokens (no_with a) us = us
with_tokens (with_nothing at at') us = spaced_word (codes "with") (spaced_sign (codes "{") (sign_of (codes "}") us))
with_tokens (with_attributes at at' a more) us = spaced_word (codes "with") (spaced_sign (codes "{") (attribute_tokens a (more_attributes_tokens more (spaced_sign (codes "}") us))))

-- the module that is meant, and with which attributes
abbrev pub source_tokens : {n m : Node} → IsString n → IsWithClause m → Items → Items
source_tokens s w us = spaced (items.string (string_raw s)) (with_tokens w us)

abbrev pub from_tokens : {n m : Node} → IsString n → IsWithClause m → Items → Items
from_tokens s w us = spaced_word (codes "from") (source_tokens s w us)

abbrev pub default_import_tokens : {n : Node} → IsDefaultImport n → Items → Items
default_import_tokens (default_import at i) us = spaced_word (ident_word i) us

abbrev pub namespace_import_tokens : {n : Node} → IsNamespaceImport n → Items → Items
namespace_import_tokens (namespace_import at i) us = spaced_sign (codes "*") (spaced_word (codes "as") (spaced_word (ident_word i) us))

abbrev pub named_import_tokens : {n : Node} → IsNamedImport n → Items → Items
named_import_tokens (same_import at i a) us = spaced_word (ident_word i) us
named_import_tokens (other_import at i x) us = spaced (export_name_token x) (spaced_word (codes "as") (spaced_word (ident_word i) us))

abbrev pub more_imports_tokens : {ns : List Node} → AreNamedImports ns → Items → Items
more_imports_tokens no_imports us = us
more_imports_tokens (more_imports n ns) us = sign_of (codes ",") (named_import_tokens n (more_imports_tokens ns us))

abbrev pub named_imports_tokens : {n : Node} {ns : List Node} → IsNamedImport n → AreNamedImports ns → Items → Items
named_imports_tokens n ns us = spaced_sign (codes "{") (named_import_tokens n (more_imports_tokens ns (spaced_sign (codes "}") us)))

abbrev pub import_clause_tokens : {ns : List Node} → IsImportClause ns → Items → Items
import_clause_tokens (import_default d) us = default_import_tokens d us
import_clause_tokens (import_namespace a) us = namespace_import_tokens a us
import_clause_tokens (import_names n ns) us = named_imports_tokens n ns us
import_clause_tokens (import_default_and_namespace d a) us = default_import_tokens d (sign_of (codes ",") (namespace_import_tokens a us))
import_clause_tokens (import_default_and_names d n ns) us = default_import_tokens d (sign_of (codes ",") (named_imports_tokens n ns us))

abbrev pub named_export_tokens : {n : Node} → IsNamedExport n → Items → Items
named_export_tokens (same_export at x a) us = spaced (export_name_token x) us
named_export_tokens (other_export at x y) us = spaced (export_name_token x) (spaced_word (codes "as") (spaced (export_name_token y) us))

abbrev pub more_exports_tokens : {ns : List Node} → AreNamedExports ns → Items → Items
more_exports_tokens no_exports us = us
more_exports_tokens (more_exports n ns) us = sign_of (codes ",") (named_export_tokens n (more_exports_tokens ns us))

abbrev pub export_clause_tokens : {ns : List Node} → IsExportClause ns → Items → Items
export_clause_tokens export_nothing us = spaced_sign (codes "{") (sign_of (codes "}") us)
export_clause_tokens (export_names n ns) us = spaced_sign (codes "{") (named_export_tokens n (more_exports_tokens ns (spaced_sign (codes "}") us)))

abbrev pub require_tokens : {n : Node} → IsString n → Items → Items
require_tokens s us = spaced_word (codes "require") (sign_of (codes "(") (it no_gap (items.string (string_raw s)) (sign_of (codes ")") us)))

abbrev pub import_equals_tokens : Bool → Gap → Items → Items
import_equals_tokens true g us = it g (items.key (codes "export")) (spaced_word (codes "import") us)
import_equals_tokens false g us = it g (items.key (codes "import")) us

abbrev pub item_tokens : {assignments : Bool} {n : Node} → IsModuleItem assignments n → Gap → Items → Items
item_tokens (statement s) g us = statement_tokens s 0 g us
item_tokens (import_alone at at' s w) g us = it g (items.key (codes "import")) (source_tokens s w (sign_of (codes ";") us))
item_tokens (import_bindings at at' c s w) g us = it g (items.key (codes "import")) (import_clause_tokens c (from_tokens s w (sign_of (codes ";") us)))
item_tokens (export_bindings at at' c a b) g us = it g (items.key (codes "export")) (export_clause_tokens c (sign_of (codes ";") us))
item_tokens (export_bindings_from at at' c s w) g us = it g (items.key (codes "export")) (export_clause_tokens c (from_tokens s w (sign_of (codes ";") us)))
item_tokens (export_namespace at at' of x s w) g us = it g (items.key (codes "export")) (spaced_sign (codes "*") (spaced_word (codes "as") (spaced (export_name_token x) (from_tokens s w (sign_of (codes ";") us)))))
item_tokens (export_all at s w) g us = it g (items.key (codes "export")) (spaced_sign (codes "*") (from_tokens s w (sign_of (codes ";") us)))
item_tokens (export_declaration at is d) g us = it g (items.key (codes "export")) (statement_tokens is 0 blank us)
item_tokens (export_default at e z) g us = it g (items.key (codes "export")) (spaced_word (codes "default") (expression_tokens e 0 blank (sign_of (codes ";") us)))
item_tokens (export_default_function at at' i f) g us = it g (items.key (codes "export")) (spaced_word (codes "default") (function_word (is_generator f) (is_async f) blank (function_name_tokens i (function_tokens f 0 us))))
item_tokens (export_default_class at at' i c) g us = it g (items.key (codes "export")) (spaced_word (codes "default") (spaced_word (codes "class") (function_name_tokens i (class_tokens c 0 us))))
item_tokens (import_require z at of is_export i s) g us = import_equals_tokens is_export g (spaced_word (ident_word i) (spaced_sign (codes "=") (require_tokens s (sign_of (codes ";") us))))
item_tokens (export_assignment z at e) g us = it g (items.key (codes "export")) (spaced_sign (codes "=") (expression_tokens e 0 blank (sign_of (codes ";") us)))

-- each item ends its line
abbrev pub items_tokens : {assignments : Bool} {ns : List Node} → AreModuleItems assignments ns → Gap → Items
items_tokens no_items g = ends g
items_tokens (more_items i is) g = item_tokens i g (items_tokens is line)

abbrev pub module_tokens : {assignments : Bool} {tree : Node} → IsModule assignments tree → Items
module_tokens (module_of at at' is) = items_tokens is no_gap
module_tokens (module_behind_hashbang at at' h is) = items_tokens is line

-- the text before the tokens
abbrev pub module_head : {assignments : Bool} {tree : Node} → IsModule assignments tree → List ℕ
module_head (module_of at at' is) = []
module_head (module_behind_hashbang at at' {text = text} h is) = codes "#!" ++ text

-- the trees without spans

abbrev pub bare_string : {n : Node} → IsString n → Node
bare_string s = bare (kind.Str (str_value (piece (string_raw s) 1 (length (string_raw s) - 1))) (Some (string_raw s))) []

abbrev pub bare_export_name : {n : Node} → IsExportName n → Node
bare_export_name (word_name at word t) = bare (kind.Ident word 0 false) []
bare_export_name (string_name s) = bare_string s

abbrev pub bare_attribute_key : {n : Node} → IsAttributeKey n → Node
bare_attribute_key (word_key k) = bare (kind.IdentName (key_word k)) []
bare_attribute_key (string_key s) = bare_string s

abbrev pub bare_attribute : {n : Node} → IsAttribute n → Node
bare_attribute (attribute at k s) = bare kind.KeyValueProp (bare_attribute_key k ∷ bare_string s ∷ [])

abbrev pub bare_attributes : {ns : List Node} → AreAttributes ns → List Node
bare_attributes no_attributes = []
bare_attributes (more_attributes a more) = bare_attribute a ∷ bare_attributes more

abbrev pub bare_with : {n : Node} → IsWithClause n → Node
bare_with (no_with a) = absent
bare_with (with_nothing at at') = bare kind.ObjectLit (list_node [] ∷ [])
bare_with (with_attributes at at' a more) = bare kind.ObjectLit (list_node (bare_attribute a ∷ bare_attributes more) ∷ [])

abbrev pub bare_default_import : {n : Node} → IsDefaultImport n → Node
bare_default_import (default_import at i) = bare kind.ImportDefaultSpecifier (bare_ident i ∷ [])

abbrev pub bare_namespace_import : {n : Node} → IsNamespaceImport n → Node
bare_namespace_import (namespace_import at i) = bare kind.ImportStarAsSpecifier (bare_ident i ∷ [])

abbrev pub bare_named_import : {n : Node} → IsNamedImport n → Node
bare_named_import (same_import at i a) = bare (kind.ImportNamedSpecifier false) (bare_ident i ∷ absent ∷ [])
bare_named_import (other_import at i x) = bare (kind.ImportNamedSpecifier false) (bare_ident i ∷ bare_export_name x ∷ [])

abbrev pub bare_named_imports : {ns : List Node} → AreNamedImports ns → List Node
bare_named_imports no_imports = []
bare_named_imports (more_imports n ns) = bare_named_import n ∷ bare_named_imports ns

abbrev pub bare_import_clause : {ns : List Node} → IsImportClause ns → List Node
bare_import_clause (import_default d) = bare_default_import d ∷ []
bare_import_clause (import_namespace a) = bare_namespace_import a ∷ []
bare_import_clause (import_names n ns) = bare_named_import n ∷ bare_named_imports ns
bare_import_clause (import_default_and_namespace d a) = bare_default_import d ∷ bare_namespace_import a ∷ []
bare_import_clause (import_default_and_names d n ns) = bare_default_import d ∷ bare_named_import n ∷ bare_named_imports ns

abbrev pub bare_named_export : {n : Node} → IsNamedExport n → Node
bare_named_export (same_export at x a) = bare (kind.ExportNamedSpecifier false) (bare_export_name x ∷ absent ∷ [])
bare_named_export (other_export at x y) = bare (kind.ExportNamedSpecifier false) (bare_export_name x ∷ bare_export_name y ∷ [])

abbrev pub bare_named_exports : {ns : List Node} → AreNamedExports ns → List Node
bare_named_exports no_exports = []
bare_named_exports (more_exports n ns) = bare_named_export n ∷ bare_named_exports ns

abbrev pub bare_export_clause : {ns : List Node} → IsExportClause ns → List Node
bare_export_clause export_nothing = []
bare_export_clause (export_names n ns) = bare_named_export n ∷ bare_named_exports ns

abbrev pub bare_item : {assignments : Bool} {n : Node} → IsModuleItem assignments n → Node
bare_item (statement s) = bare_statement s
bare_item (import_alone at at' s w) = bare (kind.ImportDecl false) (list_node [] ∷ bare_string s ∷ bare_with w ∷ [])
bare_item (import_bindings at at' c s w) = bare (kind.ImportDecl false) (list_node (bare_import_clause c) ∷ bare_string s ∷ bare_with w ∷ [])
bare_item (export_bindings at at' c a b) = bare (kind.NamedExport false) (list_node (bare_export_clause c) ∷ absent ∷ absent ∷ [])
bare_item (export_bindings_from at at' c s w) = bare (kind.NamedExport false) (list_node (bare_export_clause c) ∷ bare_string s ∷ bare_with w ∷ [])
bare_item (export_namespace at at' of x s w) = bare (kind.NamedExport false) (list_node (bare kind.ExportNamespaceSpecifier (bare_export_name x ∷ []) ∷ []) ∷ bare_string s ∷ bare_with w ∷ [])
bare_item (export_all at s w) = bare (kind.ExportAll false) (bare_string s ∷ bare_with w ∷ [])
bare_item (export_declaration at is d) = bare kind.ExportDecl (bare_statement is ∷ [])
bare_item (export_default at e z) = bare kind.ExportDefaultExpr (bare_expression e ∷ [])
bare_item (export_default_function at at' i f) = bare kind.ExportDefaultDecl (bare kind.FnExpr (bare_function_name i ∷ bare_function f ∷ []) ∷ [])
bare_item (export_default_class at at' i c) = bare kind.ExportDefaultDecl (bare kind.ClassExpr (bare_function_name i ∷ bare_class c ∷ []) ∷ [])
bare_item (import_require z at of is_export i s) = bare (kind.TsImportEqualsDecl is_export false) (bare_ident i ∷ bare kind.TsExternalModuleRef (bare_string s ∷ []) ∷ [])
bare_item (export_assignment z at e) = bare kind.TsExportAssignment (bare_expression e ∷ [])

abbrev pub bare_items : {assignments : Bool} {ns : List Node} → AreModuleItems assignments ns → List Node
bare_items no_items = []
bare_items (more_items i is) = bare_item i ∷ bare_items is

abbrev pub bare_module : {assignments : Bool} {tree : Node} → IsModule assignments tree → Node
bare_module (module_of at at' is) = bare (kind.Module None) (list_node (bare_items is) ∷ [])
bare_module (module_behind_hashbang at at' {text = text} h is) = bare (kind.Module (Some text)) (list_node (bare_items is) ∷ [])
