-- A module with optional chains, `new`, `super`, sequences and literals, and its text.
use Rattle.std.proofs.Common.{◌≡◌, false, true, [], refl, ◌∙◌, codes, Bool, ◌||◌}
use Rattle.ecma_kind.specs.declared.kind.Kind.TheVariants as kind
use Rattle.ecma_tree.specs.declared.node.Node.{Node}
use Rattle.ecma_tree.specs.Nodes.{node_of}
use Rattle.ecma_print.specs.Layout.{layout}
use Rattle.ecma_print_tokens.specs.Items.{render}
use Rattle.ecma_shapes.specs.Shapes.{ident, name, key, plain_key, absent, one, no_elements, arguments, no_expressions, member, member_of_new, new_expression, new_alone, new_target, constructor_callee, chain_member, chain_element, chain_call, opens_chain, asks_on, goes_on, super_element, import_call, import_meta, parenthesized, sequence_expression, yield_value, coalesced, first_head, IsRegex, IsPart, part, regex, tagged_template, template, more_parts, last_part, index_of_new}
use Rattle.ecma_shapes.specs.Modules.{statement, no_items, more_items, IsModule, module_of}
use Rattle.ecma_shapes.proofs.ModuleTokens.{module_tokens}
use Rattle.ecma_print_layouts.proofs.ModuleLayouts.{module_laid}
use Rattle.ecma_print_layouts.proofs.Words.{whole}
use Rattle.ecma_print_reread.proofs.Samples.{at, a_spelled, a_name, out, plainly}
use Rattle.ecma_lex.specs.Regexes.{backslash_sequence, class_char, class_chars, class, regex_char, regex_chars, body, opened, regex_end, regex_body_end}
use Rattle.ecma_lex.specs.Parts.{many, at_most}
use Rattle.ecma_lex.specs.Keys.{identifier_parts}
use Rattle.ecma_lex.specs.Text.{after}
use Rattle.ecma_lex.specs.Templates.{template_text_end, any_template_text_end, template_characters, template_character, template_part, template_text_end_at, substitution, template_raw, template_value}
use Rattle.ecma_lex.specs.Values.{literal_part, literal_value, value_behind, code_points, code_points_up_to, part_value, text_of, string_part}
use Rattle.ecma_lex.specs.Escapes.{escape, escape_value, escape_sequence, hex_or_unicode, hex_escape_sequence, unicode_escape_sequence, braced_digits, hex4_digits, hex_digits, hex_digit, hex_value, numeric_escape, character_escape_sequence, decimal_digit, null_escape, cr_lf, line_terminator_sequence}
use Rattle.std.proofs.lemmas.Str.{IsUtf8-from_is_utf8}
use Rattle.std.specs.Str.{chars, is_utf8}
use lib.Utf8.{encode}
use Rattle.unicode_ident.specs.Ident.{is_xid_start, is_xid_continue}
use Rattle.ucd_table.specs.Rows.{in_ranges}
use Rattle.ucd_derived.specs.XidStartRanges.{xid_start_ranges}
use Rattle.ucd_derived.specs.XidContinueRanges.{xid_continue_ranges}
use Rattle.std.specs.Char.Utf16.{utf16_chars}

regex_a : IsRegex (codes "a") (codes "g")
unfolding regex_end regex_body_end opened body regex_chars regex_char class class_chars class_char backslash_sequence many at_most identifier_parts after chars is_utf8 encode is_xid_start is_xid_continue in_ranges xid_start_ranges xid_continue_ranges
regex_a = record { whole = record { utf8 = IsUtf8-from_is_utf8 (codes "/a/g") refl; whole = refl }; ends = refl }

first_part : (t : Bool) → IsPart t true false (node_of at (kind.TplElement (codes "a") (template_value (codes "a")) false) [])
unfolding template_text_end any_template_text_end template_characters template_character template_part template_text_end_at substitution template_raw template_value literal_part literal_value value_behind string_part utf16_chars code_points code_points_up_to part_value text_of escape escape_value escape_sequence hex_or_unicode hex_escape_sequence unicode_escape_sequence braced_digits hex4_digits hex_digits hex_digit hex_value numeric_escape character_escape_sequence decimal_digit null_escape cr_lf line_terminator_sequence many at_most after chars is_utf8 encode
first_part t = part at (codes "a") (record { utf8 = IsUtf8-from_is_utf8 (codes "`a${") refl; whole = refl; plain = λ h. refl }) refl (valued t)
  where
    valued : (t : Bool) → (t || true) ≡ true
    valued true = refl
    valued false = refl

second_part : (t : Bool) → IsPart t false true (node_of at (kind.TplElement [] (template_value []) true) [])
unfolding template_text_end any_template_text_end template_characters template_character template_part template_text_end_at substitution template_raw template_value literal_part literal_value value_behind string_part utf16_chars code_points code_points_up_to part_value text_of escape escape_value escape_sequence hex_or_unicode hex_escape_sequence unicode_escape_sequence braced_digits hex4_digits hex_digits hex_digit hex_value numeric_escape character_escape_sequence decimal_digit null_escape cr_lf line_terminator_sequence many at_most after chars is_utf8 encode
second_part t = part at [] (record { utf8 = IsUtf8-from_is_utf8 (codes "}`") refl; whole = refl; plain = λ h. refl }) refl (valued t)
  where
    valued : (t : Bool) → (t || true) ≡ true
    valued true = refl
    valued false = refl

abbrev sample : (tree : Node) × IsModule false tree
sample =
    let id = name (ident at (codes "a") a_name) in
    let k = plain_key (key at (codes "a") (whole (codes "a") a_spelled)) in
    let args = arguments at (one (out 18 id)) no_elements in
    let made = new_expression at constructor_callee (member at member_of_new id k) args (absent at) in
    let chain = chain_call at at goes_on (chain_element at at at asks_on (chain_member at at opens_chain (out 2 made) k) id) args (absent at) in
    let both = sequence_expression at (out 18 id) (yield_value at true (out 2 (coalesced at first_head (out 14 id) (out 14 (parenthesized at (new_alone at constructor_callee (new_target at) (absent at) (absent at))))))) no_expressions in (
      _,
      module_of at at
          (more_items (statement (plainly chain refl))
          (more_items (statement (plainly (parenthesized at both) refl))
          (more_items (statement (plainly (member at member_of_new (regex at (codes "a") (codes "g") regex_a) k) refl))
          (more_items (statement (plainly (tagged_template at at at at index_of_new (template at at at (more_parts (first_part false) id (last_part (second_part false)))) (absent at) (more_parts (first_part true) id (last_part (second_part true)))) refl))
          (more_items (statement (plainly (import_call at at (arguments at (one (out 18 (super_element at at at (import_meta at)))) no_elements) (absent at)) refl)) no_items))))),
    )

text : render (module_tokens sample.1) ≡ codes "new a.a(a)?.a?.[a](a);\n(a, yield* a ?? (new new.target));\n/a/g.a;\n`a${a}``a${a}`;\nimport(super[import.meta]);\n"
unfolding render first_part second_part
text = refl

laid : layout sample.0 ≡ codes "new a.a(a)?.a?.[a](a);\n(a, yield* a ?? (new new.target));\n/a/g.a;\n`a${a}``a${a}`;\nimport(super[import.meta]);\n"
laid = module_laid sample.1 ∙ text
