-- Every production, opened.
use Rattle.ecma_grammar.specs.productions.Names.{binding_ident, computed_prop_name, prop_name, class_element_name, prop_start, member_start, module_export_name, expression, block}
use Rattle.ecma_grammar.specs.productions.Types.{type_param, type_params, type_args, entity, type_list, return_type, some_annotation, some_return_annotation, parameter_modifier, rest_pattern, default_value, param, params, parenthesized_params, call_signature, new_signature, function_type, intersection_type, union_type, type_body, array_suffixes, array_suffix_body, import_type, tuple_element, mapped_type, signature_type, type_member, object_type, template_type, primary_type, type_operator_body, after_type_args}
use Rattle.ecma_grammar.specs.productions.Patterns.{pattern_element, array_pattern, pattern_property, object_pattern, pattern_body}
use Rattle.ecma_grammar.specs.productions.Primary.{template, spread, element, array, property, object, parenthesized, class_expression, primary}
use Rattle.ecma_grammar.specs.productions.Chains.{arguments, chain_key, index, template_start, import_meta, super_of_member, super_of_link, import_call, construction, links, tagged_template, optional_link, dot_body, optional_body, bracket_body, call_body, tagged_body, non_null_body, instantiation_body, chain, new_links, new_dot_body, new_bracket_body, new_tagged_body, new_non_null_body, new_body}
use Rattle.ecma_grammar.specs.productions.Operators.{update, prefixed, operand, assertion_body, exponentiation, power_body, factors, terms, shifts, shift, relations, relation, equalities, equality, bit_and, bit_xor, bit_or, short_circuit}
use Rattle.ecma_grammar.specs.productions.Expressions.{conditional, assignments}
use Rattle.ecma_grammar.specs.productions.Functions.{signature, full_signature, function_expression, default_function, function_declaration, method_async, getter_property, setter_property, method_property, arrow_rest, arrow}
use Rattle.ecma_grammar.specs.productions.Classes.{modifier, question_or_exclamation, getter, setter, method, field, index_signature, member, class_declaration, abstract_class_declaration, abstract_class_expression}
use Rattle.ecma_grammar.specs.productions.Statements.{in_parentheses, if_, for_left, for_await, for_rest, for_head, for_, while_, do_while, switch_case, switch, catch_clause, try_, jump, labeled, expression_statement, statement_body}
use Rattle.ecma_grammar.specs.productions.Declarations.{type_alias, interface, enum_member, enum_rest, enum_, dotted_names, dotted_name_body, namespace, declaration, declared_body}
use Rattle.ecma_grammar.specs.productions.Modules.{attributes, from, star, import_specifier, import_specifiers, import_clause, import, require, dotted_keys, dotted_key_body, import_equals, export_specifier, export_names, export_star_as, export_star, export_default, export, module_item, namespace_block, module_body}

-- what names this in its `unfolding` line sees through the name of each production
unfoldable pub productions : Unit {0}
unfolding binding_ident computed_prop_name prop_name class_element_name prop_start member_start module_export_name expression block type_param type_params type_args entity type_list return_type some_annotation some_return_annotation parameter_modifier rest_pattern default_value param params parenthesized_params call_signature new_signature function_type intersection_type union_type type_body array_suffixes array_suffix_body import_type tuple_element mapped_type signature_type type_member object_type template_type primary_type type_operator_body after_type_args pattern_element array_pattern pattern_property object_pattern pattern_body template spread element array property object parenthesized class_expression primary arguments chain_key index template_start import_meta super_of_member super_of_link import_call construction links tagged_template optional_link dot_body optional_body bracket_body call_body tagged_body non_null_body instantiation_body chain new_links new_dot_body new_bracket_body new_tagged_body new_non_null_body new_body update prefixed operand assertion_body exponentiation power_body factors terms shifts shift relations relation equalities equality bit_and bit_xor bit_or short_circuit conditional assignments signature full_signature function_expression default_function function_declaration method_async getter_property setter_property method_property arrow_rest arrow modifier question_or_exclamation getter setter method field index_signature member class_declaration abstract_class_declaration abstract_class_expression in_parentheses if_ for_left for_await for_rest for_head for_ while_ do_while switch_case switch catch_clause try_ jump labeled expression_statement statement_body type_alias interface enum_member enum_rest enum_ dotted_names dotted_name_body namespace declaration declared_body attributes from star import_specifier import_specifiers import_clause import require dotted_keys dotted_key_body import_equals export_specifier export_names export_star_as export_star export_default export module_item namespace_block module_body
productions = tt
