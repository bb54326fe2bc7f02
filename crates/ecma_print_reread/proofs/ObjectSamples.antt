-- Functions in expressions that have the shape, and their text.
use Rattle.std.proofs.Common.{◌≡◌, false, true, refl, ◌∙◌, codes}
use Rattle.ecma_kind.specs.declared.operators.VarDeclKind.TheVariants.{Const}
use Rattle.ecma_tree.specs.declared.node.Node.{Node}
use Rattle.ecma_print.specs.Layout.{layout}
use Rattle.ecma_print_tokens.specs.Items.{render}
use Rattle.ecma_shapes.specs.Shapes.{ident, key, absent, arguments, bound, no_default, name_pattern, no_elements, no_params, more_params, initializer, declarator, no_declarators, declaration, block_of, no_statements, more_statements, return_nothing, function_of, arrow_block, object_literal, no_properties, more_properties, key_name, key_value, method_property, getter_property, setter_property}
use Rattle.ecma_shapes.specs.Modules.{statement, no_items, more_items, IsModule, module_of}
use Rattle.ecma_shapes.proofs.ModuleTokens.{module_tokens}
use Rattle.ecma_print_layouts.proofs.ModuleLayouts.{module_laid}
use Rattle.ecma_print_layouts.proofs.Words.{whole}
use Rattle.ecma_print_reread.proofs.Samples.{at, a_spelled, a_name, out}

abbrev sample : (tree : Node) × IsModule false tree
sample =
    let id = ident at (codes "a") a_name in
    let none = absent at in
    let name = key_name (key at (codes "a") (whole (codes "a") a_spelled)) in
    let param = no_default (name_pattern at id none) in
    let params = arguments at (bound param) no_elements in
    let body = block_of at at (more_statements (return_nothing at none) no_statements) in
    let nothing = block_of at at no_statements in
    let object =
    object_literal at at
    (more_properties (method_property at name (function_of at at true true params (more_params at no_params) body none none))
    (more_properties (getter_property at name none nothing)
    (more_properties (setter_property at name none param nothing) (more_properties (key_value at name (arrow_block at true params body none none)) no_properties)))) in (
      _,
      module_of at at (more_items (statement (declaration at at Const (declarator at (name_pattern at id none) (initializer (out 18 object))) no_declarators)) no_items),
    )

text : render (module_tokens sample.1) ≡ codes "const a = { async *a(a) {\n    return;\n}, get a() {}, set a(a) {}, a: async (a) => {\n    return;\n} };\n"
unfolding render
text = refl

laid : layout sample.0 ≡ codes "const a = { async *a(a) {\n    return;\n}, get a() {}, set a(a) {}, a: async (a) => {\n    return;\n} };\n"
laid = module_laid sample.1 ∙ text
