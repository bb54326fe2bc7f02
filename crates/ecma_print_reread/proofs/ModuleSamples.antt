-- A module with imports and exports that has the shape, and its text.
use Rattle.std.proofs.Common.{◌≡◌, ◌-◌, true, false, List, [], ◌∷◌, ◌++◌, length, refl, ◌∙◌, codes, Some, ap}
use Rattle.std.proofs.lemmas.Str.{IsUtf8-from_is_utf8}
use Rattle.std.specs.Str.{chars, is_utf8}
use lib.Utf8.{encode}
use Rattle.std.specs.Char.Utf16.{utf16_chars}
use Rattle.ecma_lex.specs.Text.{after, piece}
use Rattle.ecma_lex.specs.Values.{literal_part, string_part, literal_value, value_behind, text_of, code_points, code_points_up_to, part_value}
use Rattle.ecma_lex.specs.Parts.{many, at_most}
use Rattle.ecma_lex.specs.Strings.{str_end, str_value, string_literal as literal, quoted, string_character}
use Rattle.ecma_kind.specs.declared.operators.VarDeclKind.TheVariants.{Const}
use Rattle.ecma_kind.specs.declared.kind.Kind.TheVariants as kind
use Rattle.ecma_tree.specs.declared.node.Node.{Node}
use Rattle.ecma_tree.specs.Nodes.{node_of}
use Rattle.ecma_print.specs.Layout.{layout}
use Rattle.ecma_print_tokens.specs.Items.{render}
use Rattle.ecma_print_tokens.specs.Good.{IsToken}
use Rattle.ecma_shapes.specs.Shapes.{name_pattern, ident, key, absent, name, no_initializer, declarator, no_declarators, declaration}
use Rattle.ecma_shapes.specs.Starts.{is_declaration_word}
use Rattle.ecma_shapes.proofs.Starts.{starts_agree}
use Rattle.ecma_shapes.specs.Modules.{string_literal, word_name, string_name, word_key, attribute, no_attributes, no_with, with_attributes, default_import, same_import, other_import, no_imports, more_imports, import_default_and_names, same_export, other_export, no_exports, more_exports, export_names, import_alone, import_bindings, export_bindings, export_all, export_declaration, export_default, import_require, no_items, more_items, IsHashbangText, IsModule, module_behind_hashbang}
use Rattle.ecma_shapes.proofs.ModuleTokens.{module_head, module_tokens}
use Rattle.ecma_print_layouts.proofs.ModuleLayouts.{module_laid}
use Rattle.ecma_print_layouts.proofs.Words.{whole, async_spelled, layout_words}
use Rattle.ecma_print_reread.proofs.Samples.{at, a_spelled, a_name, async_name, gone, a, async, out}

pub m_whole : IsToken str_end (codes "\"m\"")
unfolding chars is_utf8 encode after literal_part string_part literal_value value_behind text_of utf16_chars code_points code_points_up_to part_value str_end literal quoted string_character many at_most
m_whole = record { utf8 = IsUtf8-from_is_utf8 (codes "\"m\"") refl; whole = refl }

hashbang_text : IsHashbangText (codes "/bin/a")
unfolding chars is_utf8 encode
hashbang_text = record { utf8 = IsUtf8-from_is_utf8 (codes "/bin/a") refl; on_line = refl }

abbrev m : Node
m = node_of at (kind.Str (str_value (piece (codes "\"m\"") 1 (length (codes "\"m\"") - 1))) (Some (codes "\"m\""))) []

abbrev list : List Node → Node
list ns = node_of at kind.List ns

abbrev attributes : Node
attributes = node_of at kind.ObjectLit (list (node_of at kind.KeyValueProp (node_of at (kind.IdentName (codes "a")) [] ∷ m ∷ []) ∷ []) ∷ [])

abbrev tree : Node
tree =
    node_of at (kind.Module (Some (codes "/bin/a")))
    (list
    (node_of at (kind.ImportDecl false) (list [] ∷ m ∷ gone ∷ [])
    ∷ node_of at (kind.ImportDecl false)
    (list
    (node_of at kind.ImportDefaultSpecifier (a ∷ []) ∷ node_of at (kind.ImportNamedSpecifier false) (async ∷ gone ∷ []) ∷ node_of at (kind.ImportNamedSpecifier false) (a ∷ node_of at (kind.Ident (codes "default") 0 false) [] ∷ []) ∷ [])
    ∷ m ∷ attributes ∷ [])
    ∷ node_of at (kind.NamedExport false) (list (node_of at (kind.ExportNamedSpecifier false) (a ∷ gone ∷ []) ∷ node_of at (kind.ExportNamedSpecifier false) (async ∷ m ∷ []) ∷ []) ∷ gone ∷ gone ∷ [])
    ∷ node_of at (kind.ExportAll false) (m ∷ gone ∷ [])
    ∷ node_of at kind.ExportDecl (node_of at (kind.VarDecl Const false) (list (node_of at (kind.VarDeclarator false) (node_of at kind.BindingIdent (a ∷ gone ∷ []) ∷ gone ∷ []) ∷ []) ∷ []) ∷ [])
    ∷ node_of at kind.ExportDefaultExpr (a ∷ [])
    ∷ node_of at (kind.TsImportEqualsDecl false false) (a ∷ node_of at kind.TsExternalModuleRef (m ∷ []) ∷ [])
    ∷ [])
    ∷ [])

shape : IsModule true tree
shape =
    let id = ident at (codes "a") a_name in
    let async' = ident at (codes "async") async_name in
    let source = string_literal at (codes "\"m\"") m_whole in
    let exported = word_name at (codes "a") (whole (codes "a") a_spelled) in
    let with_a = with_attributes at at (attribute at (word_key (key at (codes "a") (whole (codes "a") a_spelled))) source) no_attributes in
    module_behind_hashbang at at hashbang_text
    (more_items (import_alone at at source (no_with (absent at)))
    (more_items (import_bindings at at (import_default_and_names (default_import at id) (same_import at async' (absent at)) (more_imports (other_import at id (word_name at (codes "default") layout_words.default_whole)) no_imports)) source with_a)
    (more_items (export_bindings at at (export_names (same_export at exported (absent at)) (more_exports (other_export at (word_name at (codes "async") (whole (codes "async") async_spelled)) (string_name source)) no_exports)) (absent at) (absent at))
    (more_items (export_all at source (no_with (absent at)))
    (more_items (export_declaration at (declaration at at Const (declarator at (name_pattern at id (absent at)) (no_initializer (absent at))) no_declarators) refl)
    (more_items (export_default at (out 18 (name id)) (ap is_declaration_word (starts_agree (out 18 (name id)))))
    (more_items (import_require refl at at false id source) no_items)))))))

text : module_head shape ++ render (module_tokens shape) ≡ codes "#!/bin/a\nimport \"m\";\nimport a, { async, default as a } from \"m\" with { a: \"m\" };\nexport { a, async as \"m\" };\nexport * from \"m\";\nexport const a;\nexport default a;\nimport a = require(\"m\");\n"
unfolding render shape
text = refl

laid : layout tree ≡ codes "#!/bin/a\nimport \"m\";\nimport a, { async, default as a } from \"m\" with { a: \"m\" };\nexport { a, async as \"m\" };\nexport * from \"m\";\nexport const a;\nexport default a;\nimport a = require(\"m\");\n"
laid = module_laid shape ∙ text
