-- The tree that is read of a module is the tree without spans.
use Rattle.std.proofs.Common.{Bool, None, Some, false, ◌≡◌, List, [], ◌∷◌, map, refl, ap, ap₂, ◌∙◌}
use Rattle.ecma_kind.specs.declared.span.Span.{Span}
use Rattle.ecma_kind.specs.declared.kind.Kind.{Kind}
use Rattle.ecma_kind.specs.declared.kind.Kind.TheVariants as kind
use Rattle.ecma_tree.specs.declared.node.Node.{Node}
use Rattle.ecma_tree.specs.Nodes.{node_of, list_node}
use Rattle.ecma_tree.specs.Spans.{without_spans}
use Rattle.ecma_shapes.specs.Modules as modules
use Rattle.ecma_shapes.specs.Modules.{IsString, IsExportName, IsAttributeKey, IsAttribute, AreAttributes, IsWithClause, IsDefaultImport, IsNamespaceImport, IsNamedImport, AreNamedImports, IsImportClause, IsNamedExport, AreNamedExports, IsExportClause, IsModuleItem, AreModuleItems, IsModule}
use Rattle.ecma_shapes.proofs.Bare.{bare}
use Rattle.ecma_shapes.proofs.ModuleTokens.{bare_string, bare_export_name, bare_attribute_key, bare_attribute, bare_attributes, bare_with, bare_default_import, bare_namespace_import, bare_named_import, bare_named_imports, bare_import_clause, bare_named_export, bare_named_exports, bare_export_clause, bare_item, bare_items, bare_module}
use Rattle.ecma_print_readings.proofs.Unplaced.{without_spans-node}
use Rattle.ecma_print_reread.proofs.Whole.{absent_bare, ident_bare, key_bare, expression_bare, statement_bare, function_name_bare, function_bare, class_bare}

string_bare : {n : Node} (s : IsString n) → without_spans n ≡ bare_string s
string_bare (modules.string_literal at raw t) = without_spans-node at _ []

export_name_bare : {n : Node} (x : IsExportName n) → without_spans n ≡ bare_export_name x
export_name_bare (modules.word_name at w t) = without_spans-node at (kind.Ident w 0 false) []
export_name_bare (modules.string_name s) = string_bare s

attribute_key_bare : {n : Node} (k : IsAttributeKey n) → without_spans n ≡ bare_attribute_key k
attribute_key_bare (modules.word_key k) = key_bare k
attribute_key_bare (modules.string_key s) = string_bare s

attribute_bare : {n : Node} (is : IsAttribute n) → without_spans n ≡ bare_attribute is
attribute_bare (modules.attribute at k s) = without_spans-node at kind.KeyValueProp _ ∙ ap₂ (λ x y. bare kind.KeyValueProp (x ∷ y ∷ [])) (attribute_key_bare k) (string_bare s)

attributes_bare : {ns : List Node} (is : AreAttributes ns) → map without_spans ns ≡ bare_attributes is
attributes_bare modules.no_attributes = refl
attributes_bare (modules.more_attributes a more) = ap₂ (λ x xs. x ∷ xs) (attribute_bare a) (attributes_bare more)

with_bare : {n : Node} (is : IsWithClause n) → without_spans n ≡ bare_with is
with_bare (modules.no_with a) = absent_bare a
with_bare (modules.with_nothing at at') = without_spans-node at kind.ObjectLit _ ∙ ap (λ x. bare kind.ObjectLit (x ∷ [])) (without_spans-node at' kind.List [])
with_bare (modules.with_attributes at at' a more) =
    without_spans-node at kind.ObjectLit _ ∙ ap (λ x. bare kind.ObjectLit (x ∷ [])) (without_spans-node at' kind.List _ ∙ ap₂ (λ x xs. list_node (x ∷ xs)) (attribute_bare a) (attributes_bare more))

default_import_bare : {n : Node} (is : IsDefaultImport n) → without_spans n ≡ bare_default_import is
default_import_bare (modules.default_import at i) = without_spans-node at kind.ImportDefaultSpecifier _ ∙ ap (λ x. bare kind.ImportDefaultSpecifier (x ∷ [])) (ident_bare i)

namespace_import_bare : {n : Node} (is : IsNamespaceImport n) → without_spans n ≡ bare_namespace_import is
namespace_import_bare (modules.namespace_import at i) = without_spans-node at kind.ImportStarAsSpecifier _ ∙ ap (λ x. bare kind.ImportStarAsSpecifier (x ∷ [])) (ident_bare i)

named_import_bare : {n : Node} (is : IsNamedImport n) → without_spans n ≡ bare_named_import is
named_import_bare (modules.same_import at i a) = without_spans-node at _ _ ∙ ap₂ (λ x y. bare (kind.ImportNamedSpecifier false) (x ∷ y ∷ [])) (ident_bare i) (absent_bare a)
named_import_bare (modules.other_import at i x) = without_spans-node at _ _ ∙ ap₂ (λ x y. bare (kind.ImportNamedSpecifier false) (x ∷ y ∷ [])) (ident_bare i) (export_name_bare x)

named_imports_bare : {ns : List Node} (is : AreNamedImports ns) → map without_spans ns ≡ bare_named_imports is
named_imports_bare modules.no_imports = refl
named_imports_bare (modules.more_imports n ns) = ap₂ (λ x xs. x ∷ xs) (named_import_bare n) (named_imports_bare ns)

import_clause_bare : {ns : List Node} (is : IsImportClause ns) → map without_spans ns ≡ bare_import_clause is
import_clause_bare (modules.import_default d) = ap (λ x. x ∷ []) (default_import_bare d)
import_clause_bare (modules.import_namespace a) = ap (λ x. x ∷ []) (namespace_import_bare a)
import_clause_bare (modules.import_names n ns) = ap₂ (λ x xs. x ∷ xs) (named_import_bare n) (named_imports_bare ns)
import_clause_bare (modules.import_default_and_namespace d a) = ap₂ (λ x y. x ∷ y ∷ []) (default_import_bare d) (namespace_import_bare a)
import_clause_bare (modules.import_default_and_names d n ns) = ap₂ (λ x xs. x ∷ xs) (default_import_bare d) (ap₂ (λ x xs. x ∷ xs) (named_import_bare n) (named_imports_bare ns))

named_export_bare : {n : Node} (is : IsNamedExport n) → without_spans n ≡ bare_named_export is
named_export_bare (modules.same_export at x a) = without_spans-node at _ _ ∙ ap₂ (λ x y. bare (kind.ExportNamedSpecifier false) (x ∷ y ∷ [])) (export_name_bare x) (absent_bare a)
named_export_bare (modules.other_export at x y) = without_spans-node at _ _ ∙ ap₂ (λ x y. bare (kind.ExportNamedSpecifier false) (x ∷ y ∷ [])) (export_name_bare x) (export_name_bare y)

named_exports_bare : {ns : List Node} (is : AreNamedExports ns) → map without_spans ns ≡ bare_named_exports is
named_exports_bare modules.no_exports = refl
named_exports_bare (modules.more_exports n ns) = ap₂ (λ x xs. x ∷ xs) (named_export_bare n) (named_exports_bare ns)

export_clause_bare : {ns : List Node} (is : IsExportClause ns) → map without_spans ns ≡ bare_export_clause is
export_clause_bare modules.export_nothing = refl
export_clause_bare (modules.export_names n ns) = ap₂ (λ x xs. x ∷ xs) (named_export_bare n) (named_exports_bare ns)

-- bindings, source and attributes
sourced_bare : (k : Kind) (at of_list : Span) (n m : Node) (ns bs : List Node) (x y : Node) → map without_spans ns ≡ bs → without_spans n ≡ x → without_spans m ≡ y
    → without_spans (node_of at k (node_of of_list kind.List ns ∷ n ∷ m ∷ [])) ≡ bare k (list_node bs ∷ x ∷ y ∷ [])
sourced_bare k at of_list n m ns bs x y h i j =
    without_spans-node at k _
    ∙ (ap (λ l. bare k (l ∷ without_spans n ∷ without_spans m ∷ [])) (without_spans-node of_list kind.List _ ∙ ap list_node h)
    ∙ ap₂ (λ a b. bare k (list_node bs ∷ a ∷ b ∷ [])) i j)

item_bare : {assignments : Bool} {n : Node} (is : IsModuleItem assignments n) → without_spans n ≡ bare_item is
item_bare (modules.statement s) = statement_bare s
item_bare (modules.import_alone at at' s w) = sourced_bare (kind.ImportDecl false) at at' _ _ [] [] _ _ refl (string_bare s) (with_bare w)
item_bare (modules.import_bindings at at' c s w) = sourced_bare (kind.ImportDecl false) at at' _ _ _ (bare_import_clause c) _ _ (import_clause_bare c) (string_bare s) (with_bare w)
item_bare (modules.export_bindings at at' c a b) = sourced_bare (kind.NamedExport false) at at' _ _ _ (bare_export_clause c) _ _ (export_clause_bare c) (absent_bare a) (absent_bare b)
item_bare (modules.export_bindings_from at at' c s w) = sourced_bare (kind.NamedExport false) at at' _ _ _ (bare_export_clause c) _ _ (export_clause_bare c) (string_bare s) (with_bare w)
item_bare (modules.export_namespace at at' of {name = name} x s w) =
    sourced_bare (kind.NamedExport false) at at' _ _ (node_of of kind.ExportNamespaceSpecifier (name ∷ []) ∷ []) _ _ _
    (ap (λ x. x ∷ []) (without_spans-node of kind.ExportNamespaceSpecifier _ ∙ ap (λ x. bare kind.ExportNamespaceSpecifier (x ∷ [])) (export_name_bare x))) (string_bare s) (with_bare w)
item_bare (modules.export_all at s w) = without_spans-node at (kind.ExportAll false) _ ∙ ap₂ (λ x y. bare (kind.ExportAll false) (x ∷ y ∷ [])) (string_bare s) (with_bare w)
item_bare (modules.export_declaration at is d) = without_spans-node at kind.ExportDecl _ ∙ ap (λ x. bare kind.ExportDecl (x ∷ [])) (statement_bare is)
item_bare (modules.export_default at e z) = without_spans-node at kind.ExportDefaultExpr _ ∙ ap (λ x. bare kind.ExportDefaultExpr (x ∷ [])) (expression_bare e)
item_bare (modules.export_default_function at at' i f) =
    without_spans-node at kind.ExportDefaultDecl _ ∙ ap (λ x. bare kind.ExportDefaultDecl (x ∷ [])) (without_spans-node at' kind.FnExpr _ ∙ ap₂ (λ x y. bare kind.FnExpr (x ∷ y ∷ [])) (function_name_bare i) (function_bare f))
item_bare (modules.export_default_class at at' i c) =
    without_spans-node at kind.ExportDefaultDecl _ ∙ ap (λ x. bare kind.ExportDefaultDecl (x ∷ [])) (without_spans-node at' kind.ClassExpr _ ∙ ap₂ (λ x y. bare kind.ClassExpr (x ∷ y ∷ [])) (function_name_bare i) (class_bare c))
item_bare (modules.import_require z at of is_export i s) =
    without_spans-node at (kind.TsImportEqualsDecl is_export false) _
    ∙ ap₂ (λ x y. bare (kind.TsImportEqualsDecl is_export false) (x ∷ y ∷ [])) (ident_bare i) (without_spans-node of kind.TsExternalModuleRef _ ∙ ap (λ x. bare kind.TsExternalModuleRef (x ∷ [])) (string_bare s))
item_bare (modules.export_assignment z at e) = without_spans-node at kind.TsExportAssignment _ ∙ ap (λ x. bare kind.TsExportAssignment (x ∷ [])) (expression_bare e)

items_bare : {assignments : Bool} {ns : List Node} (is : AreModuleItems assignments ns) → map without_spans ns ≡ bare_items is
items_bare modules.no_items = refl
items_bare (modules.more_items i is) = ap₂ (λ x xs. x ∷ xs) (item_bare i) (items_bare is)

pub module_bare : {assignments : Bool} {tree : Node} (is : IsModule assignments tree) → without_spans tree ≡ bare_module is
module_bare (modules.module_of at at' is) = without_spans-node at (kind.Module None) _ ∙ ap (λ x. bare (kind.Module None) (x ∷ [])) (without_spans-node at' kind.List _ ∙ ap list_node (items_bare is))
module_bare (modules.module_behind_hashbang at at' {text = text} h is) = without_spans-node at (kind.Module (Some text)) _ ∙ ap (λ x. bare (kind.Module (Some text)) (x ∷ [])) (without_spans-node at' kind.List _ ∙ ap list_node (items_bare is))
