-- The productions, opened: what names `productions` in its `unfolding` line sees through the name of each.
use Rattle.ecma_grammar.specs.productions.Chains as chains
use Rattle.ecma_grammar.specs.productions.Classes as classes
use Rattle.ecma_grammar.specs.productions.Declarations as declarations
use Rattle.ecma_grammar.specs.productions.Expressions as expressions
use Rattle.ecma_grammar.specs.productions.Functions as functions
use Rattle.ecma_grammar.specs.productions.Modules as modules
use Rattle.ecma_grammar.specs.productions.Names as names
use Rattle.ecma_grammar.specs.productions.Operators as operators
use Rattle.ecma_grammar.specs.productions.Patterns as patterns
use Rattle.ecma_grammar.specs.productions.Primary as primaries
use Rattle.ecma_grammar.specs.productions.Statements as statements
use Rattle.ecma_grammar.specs.productions.Types as types

unfoldable pub heads_of_chains : Unit {0}
unfolding chains.arguments chains.chain_key chains.index chains.template_start chains.import_meta chains.super_of_member chains.super_of_link chains.import_call chains.construction
heads_of_chains = tt

unfoldable pub links_of_chains : Unit {0}
unfolding chains.links chains.tagged_template chains.optional_link chains.dot_body chains.optional_body chains.bracket_body chains.call_body chains.tagged_body chains.non_null_body chains.instantiation_body chains.chain
links_of_chains = tt

unfoldable pub links_of_constructions : Unit {0}
unfolding chains.new_links chains.new_dot_body chains.new_bracket_body chains.new_tagged_body chains.new_non_null_body chains.new_body
links_of_constructions = tt

unfoldable pub members_of_classes : Unit {0}
unfolding classes.modifier classes.question_or_exclamation classes.getter classes.setter classes.method classes.field classes.index_signature classes.member
members_of_classes = tt

unfoldable pub all_classes : Unit {0}
unfolding classes.class_declaration classes.abstract_class_declaration classes.abstract_class_expression
all_classes = tt

unfoldable pub all_declarations : Unit {0}
unfolding declarations.type_alias declarations.interface declarations.enum_member declarations.enum_rest declarations.enum_ declarations.dotted_names declarations.dotted_name_body declarations.namespace declarations.declaration declarations.declared_body
all_declarations = tt

unfoldable pub all_expressions : Unit {0}
unfolding expressions.conditional expressions.assignments
all_expressions = tt

unfoldable pub all_functions : Unit {0}
unfolding functions.signature functions.full_signature functions.function_expression functions.default_function functions.function_declaration functions.method_async functions.getter_property functions.setter_property functions.method_property functions.arrow_rest functions.arrow
all_functions = tt

unfoldable pub imports : Unit {0}
unfolding modules.attributes modules.from modules.star modules.import_specifier modules.import_specifiers modules.import_clause modules.import modules.require modules.dotted_keys modules.dotted_key_body modules.import_equals
imports = tt

unfoldable pub exports : Unit {0}
unfolding modules.export_specifier modules.export_names modules.export_star_as modules.export_star modules.export_default modules.export modules.module_item modules.namespace_block
exports = tt

unfoldable pub all_names : Unit {0}
unfolding names.binding_ident names.computed_prop_name names.prop_name names.class_element_name names.prop_start names.member_start names.module_export_name names.expression names.block
all_names = tt

unfoldable pub all_operators : Unit {0}
unfolding operators.update operators.prefixed operators.operand operators.assertion_body operators.exponentiation operators.power_body operators.factors operators.terms operators.shifts operators.shift operators.relations operators.relation operators.equalities operators.equality operators.bit_and operators.bit_xor operators.bit_or operators.short_circuit
all_operators = tt

unfoldable pub all_patterns : Unit {0}
unfolding patterns.pattern_element patterns.array_pattern patterns.pattern_property patterns.object_pattern patterns.pattern_body
all_patterns = tt

unfoldable pub all_primaries : Unit {0}
unfolding primaries.template primaries.spread primaries.element primaries.array primaries.property primaries.object primaries.parenthesized primaries.class_expression primaries.primary
all_primaries = tt

unfoldable pub loops : Unit {0}
unfolding statements.for_left statements.for_await statements.for_rest statements.for_head statements.for_ statements.while_ statements.do_while
loops = tt

unfoldable pub all_statements : Unit {0}
unfolding statements.in_parentheses statements.if_ statements.switch_case statements.switch statements.catch_clause statements.try_ statements.jump statements.labeled statements.expression_statement statements.statement_body
all_statements = tt

unfoldable pub parameters_of_types : Unit {0}
unfolding types.type_param types.type_params types.type_args types.entity types.type_list types.return_type types.some_annotation types.some_return_annotation
parameters_of_types = tt

unfoldable pub parameters : Unit {0}
unfolding types.parameter_modifier types.rest_pattern types.default_value types.param types.params types.parenthesized_params
parameters = tt

unfoldable pub operators_of_types : Unit {0}
unfolding types.call_signature types.new_signature types.function_type types.intersection_type types.union_type types.type_body types.array_suffixes types.array_suffix_body types.type_operator_body types.after_type_args
operators_of_types = tt

unfoldable pub all_types : Unit {0}
unfolding types.import_type types.tuple_element types.mapped_type types.signature_type types.type_member types.object_type types.template_type types.primary_type
all_types = tt

unfoldable pub productions : Unit {0}
unfolding heads_of_chains links_of_chains links_of_constructions members_of_classes all_classes all_declarations all_expressions all_functions imports exports all_names all_operators all_patterns all_primaries loops all_statements parameters_of_types parameters operators_of_types all_types
productions = tt
