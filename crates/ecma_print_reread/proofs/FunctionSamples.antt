-- Functions and classes that have the shape, and their text.
use Rattle.std.proofs.Common.{◌≡◌, false, true, refl, ap, ◌∙◌, [], codes}
use Rattle.ecma_kind.specs.declared.kind.Kind.TheVariants as kind
use Rattle.ecma_tree.specs.declared.node.Node.{Node}
use Rattle.ecma_grammar.specs.trees.Classes.{is_constructor_key}
use Rattle.ecma_print.specs.Layout.{layout}
use Rattle.ecma_print_tokens.specs.Items.{render}
use Rattle.ecma_shapes.specs.Shapes.{ident, name, key, absent, arguments, no_arguments, bound, no_default, name_pattern, no_elements, no_params, more_params, no_initializer, initializer, block_of, no_statements, more_statements, return_nothing, function_of, function_statement, unnamed, function_name, function_expression, class_expression, no_heritage, heritage, new_alone, constructor_callee, class_of, class_statement, class_constructor, method, field, key_name, string_name, computed_name, property_member, static_block, no_members, more_members}
use Rattle.ecma_shapes.specs.Modules.{statement, export_declaration, export_default_function, no_items, more_items, IsModule, module_of}
use Rattle.ecma_shapes.proofs.ModuleTokens.{module_tokens}
use Rattle.ecma_print_layouts.proofs.ModuleLayouts.{module_laid}
use Rattle.ecma_print_layouts.proofs.Words.{whole, layout_words}
use Rattle.ecma_print_reread.proofs.ModuleSamples.{m_whole}
use Rattle.ecma_print_readings.proofs.Heads.{kind-node}
use Rattle.ecma_print_reread.proofs.Samples.{at, a_spelled, a_name, out}

abbrev sample : (tree : Node) × IsModule false tree
sample =
    let id = ident at (codes "a") a_name in
    let none = absent at in
    let word = whole (codes "a") a_spelled in
    let params = arguments at (bound (no_default (name_pattern at id none))) no_elements in
    let body = block_of at at (more_statements (return_nothing at none) no_statements) in
    let nothing = block_of at at no_statements in
    let members =
    more_members (class_constructor at at (key_name (key at (codes "constructor") layout_words.constructor_whole)) (ap is_constructor_key (kind-node at (kind.IdentName (codes "constructor")) [])) params (more_params at no_params) nothing)
    (more_members (method at true (property_member (string_name at (codes "\"m\"") m_whole)) (function_of at at true true params (more_params at no_params) body none none) refl)
    (more_members (field at false (property_member (key_name (key at (codes "a") word))) (initializer (out 18 (function_expression at (function_name id) (function_of at at true true (no_arguments at) no_params nothing none none)))) none)
    (more_members (field at true (property_member (computed_name at (out 18 (name id)))) (no_initializer none) none)
    (more_members (static_block at body) no_members)))) in (
      _,
      module_of at at
          (more_items (statement (function_statement at id (function_of at at false true params (more_params at no_params) body none none)))
          (more_items (export_declaration at (class_statement at id (class_of at at at (heritage (new_alone at constructor_callee (class_expression at (unnamed none) (class_of at at at (no_heritage none) no_members none none)) none none)) members none none)) refl)
          (more_items (export_default_function at at (unnamed none) (function_of at at true false (no_arguments at) no_params nothing none none)) no_items))),
    )

text : render (module_tokens sample.1) ≡ codes "async function a(a) {\n    return;\n}\nexport class a extends new class {} {\n    constructor(a) {}\n    static async *\"m\"(a) {\n        return;\n    }\n    a = async function* a() {};\n    static [a];\n    static {\n        return;\n    }\n}\nexport default function*() {}\n"
unfolding render
text = refl

laid : layout sample.0 ≡ codes "async function a(a) {\n    return;\n}\nexport class a extends new class {} {\n    constructor(a) {}\n    static async *\"m\"(a) {\n        return;\n    }\n    a = async function* a() {};\n    static [a];\n    static {\n        return;\n    }\n}\nexport default function*() {}\n"
laid = module_laid sample.1 ∙ text
