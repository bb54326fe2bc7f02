-- Members of classes by all kinds of names that have the shape, and their text.
use Rattle.std.proofs.Common.{◌≡◌, ◌++◌, false, true, [], ap, refl, ◌∙◌, codes}
use Rattle.std.proofs.lemmas.Str.{IsUtf8-from_is_utf8}
use Rattle.std.specs.Str.{chars, is_utf8}
use lib.Utf8.{encode}
use Rattle.ecma_lex.specs.Keys.{priv_name_end}
use Rattle.ecma_kind.specs.declared.kind.Kind.TheVariants as kind
use Rattle.ecma_tree.specs.declared.node.Node.{Node}
use Rattle.ecma_grammar.specs.trees.Classes.{is_constructor_key}
use Rattle.ecma_print.specs.Layout.{layout}
use Rattle.ecma_print_tokens.specs.Good.{IsToken}
use Rattle.ecma_print_tokens.specs.Items.{render}
use Rattle.ecma_print_tokens.proofs.Privates.{private_again}
use Rattle.ecma_lex.proofs.Spelled.{alone}
use Rattle.ecma_shapes.specs.Shapes.{ident, name, key, absent, arguments, no_arguments, bound, no_default, name_pattern, no_elements, no_params, more_params, no_initializer, block_of, no_statements, function_of, no_heritage, class_of, class_statement, method, field, accessor, empty_member, key_name, string_name, computed_name, property_member, private_member, no_members, more_members}
use Rattle.ecma_shapes.specs.Modules.{statement, no_items, more_items, IsModule, module_of}
use Rattle.ecma_shapes.proofs.ModuleTokens.{module_tokens}
use Rattle.ecma_print_readings.proofs.Heads.{kind-node}
use Rattle.ecma_print_layouts.proofs.ModuleLayouts.{module_laid}
use Rattle.ecma_print_layouts.proofs.Words.{layout_words}
use Rattle.ecma_print_reread.proofs.ModuleSamples.{m_whole}
use Rattle.ecma_print_reread.proofs.Samples.{at, a_spelled, a_name, out}

private_a : IsToken priv_name_end (codes "#" ++ codes "a")
unfolding chars is_utf8 encode
private_a = record {
  utf8 = IsUtf8-from_is_utf8 (codes "#a") refl;
  whole = private_again (codes "#a") 0 (codes "#a") [] (record { name = codes "a"; is = refl; key = a_spelled }) (alone (codes "#a")) refl refl;
}

abbrev sample : (tree : Node) × IsModule false tree
sample =
    let id = ident at (codes "a") a_name in
    let none = absent at in
    let nothing = block_of at at no_statements in
    let param = arguments at (bound (no_default (name_pattern at id none))) no_elements in
    let words = property_member (key_name (key at (codes "constructor") layout_words.constructor_whole)) in
    let private = private_member at (codes "a") private_a in
    let members =
    more_members (method at true words (function_of at at false false (no_arguments at) no_params nothing none none) refl)
    (more_members (method at false private (function_of at at true true (no_arguments at) no_params nothing none none) (ap is_constructor_key (kind-node at (kind.PrivateName (codes "a")) [])))
    (more_members (accessor at at at true false private (no_arguments at) no_params nothing none none)
    (more_members (accessor at at at false true (property_member (string_name at (codes "\"m\"") m_whole)) param (more_params at no_params) nothing none none)
    (more_members (empty_member at) (more_members (field at true (property_member (computed_name at (out 18 (name id)))) (no_initializer none) none) (more_members (field at false private (no_initializer none) none) no_members)))))) in
    (_, module_of at at (more_items (statement (class_statement at id (class_of at at at (no_heritage none) members none none))) no_items))

text : render (module_tokens sample.1) ≡ codes "class a {\n    static constructor() {}\n    async *#a() {}\n    static get #a() {}\n    set \"m\"(a) {}\n    ;\n    static [a];\n    #a;\n}\n"
unfolding render
text = refl

laid : layout sample.0 ≡ codes "class a {\n    static constructor() {}\n    async *#a() {}\n    static get #a() {}\n    set \"m\"(a) {}\n    ;\n    static [a];\n    #a;\n}\n"
laid = module_laid sample.1 ∙ text
