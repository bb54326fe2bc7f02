-- The productions that have a name in the code, by topic.
use Rattle.ecma_grammar.specs.declared.production.Rule.{Rule}
use Rattle.ecma_grammar.specs.declared.production.Rule.TheVariants as rule
use Rattle.ecma_grammar.specs.Grammar.{Grammar}
use Rattle.ecma_grammar.specs.declared.productions.names.NameRule.{NameRule}
use Rattle.ecma_grammar.specs.declared.productions.names.NameRule.TheVariants as name_name
use Rattle.ecma_grammar.specs.productions.Names.{binding_ident, computed_prop_name, prop_name, class_element_name, prop_start, member_start, module_export_name, block, expression}
use Rattle.ecma_grammar.specs.declared.productions.types.TypeRule.{TypeRule}
use Rattle.ecma_grammar.specs.declared.productions.types.TypeRule.TheVariants as type_name
use Rattle.ecma_grammar.specs.productions.Types.{type_param, type_params, type_args, entity, type_list, return_type, some_annotation, some_return_annotation, parameter_modifier, rest_pattern, default_value, param, params, parenthesized_params, call_signature, new_signature, function_type, intersection_type, union_type, array_suffixes, import_type, tuple_element, mapped_type, signature_type, type_member, object_type, template_type, primary_type, type_operator_body, after_type_args}
use Rattle.ecma_grammar.specs.declared.productions.patterns.PatternRule.{PatternRule}
use Rattle.ecma_grammar.specs.declared.productions.patterns.PatternRule.TheVariants as pattern_name
use Rattle.ecma_grammar.specs.productions.Patterns.{pattern_element, array_pattern, pattern_property, object_pattern}
use Rattle.ecma_grammar.specs.declared.productions.functions.FunctionRule.{FunctionRule}
use Rattle.ecma_grammar.specs.declared.productions.functions.FunctionRule.TheVariants as function_name
use Rattle.ecma_grammar.specs.productions.Functions.{signature, full_signature, function_expression, default_function, function_declaration, method_async, getter_property, setter_property, method_property, arrow_rest, arrow}
use Rattle.ecma_grammar.specs.declared.productions.primary.PrimaryRule.{PrimaryRule}
use Rattle.ecma_grammar.specs.declared.productions.primary.PrimaryRule.TheVariants as primary_name
use Rattle.ecma_grammar.specs.productions.Primary.{spread, element, array, property, object, parenthesized, class_expression, primary, template}
use Rattle.ecma_grammar.specs.declared.productions.chains.ChainRule.{ChainRule}
use Rattle.ecma_grammar.specs.declared.productions.chains.ChainRule.TheVariants as chain_name
use Rattle.ecma_grammar.specs.productions.Chains.{arguments, chain_key, index, template_start, import_meta, super_of_member, super_of_link, import_call, construction, links, tagged_template, optional_link, chain, new_links}
use Rattle.ecma_grammar.specs.declared.productions.operators.OperatorRule.{OperatorRule}
use Rattle.ecma_grammar.specs.declared.productions.operators.OperatorRule.TheVariants as operator_name
use Rattle.ecma_grammar.specs.productions.Operators.{update, prefixed, operand, exponentiation, factors, terms, shifts, shift, relations, relation, equalities, equality, bit_and, bit_xor, bit_or, short_circuit}
use Rattle.ecma_grammar.specs.declared.productions.expressions.ExpressionRule.{ExpressionRule}
use Rattle.ecma_grammar.specs.declared.productions.expressions.ExpressionRule.TheVariants as expression_name
use Rattle.ecma_grammar.specs.productions.Expressions.{conditional, assignments}
use Rattle.ecma_grammar.specs.declared.productions.classes.ClassRule.{ClassRule}
use Rattle.ecma_grammar.specs.declared.productions.classes.ClassRule.TheVariants as class_name
use Rattle.ecma_grammar.specs.productions.Classes.{modifier, question_or_exclamation, getter, setter, method, field, index_signature, member, class_declaration, abstract_class_declaration, abstract_class_expression}
use Rattle.ecma_grammar.specs.declared.productions.declarations.DeclarationRule.{DeclarationRule}
use Rattle.ecma_grammar.specs.declared.productions.declarations.DeclarationRule.TheVariants as declaration_name
use Rattle.ecma_grammar.specs.productions.Declarations.{type_alias, interface, enum_member, enum_rest, enum_, dotted_names, namespace, declaration}
use Rattle.ecma_grammar.specs.declared.productions.statements.StatementRule.{StatementRule}
use Rattle.ecma_grammar.specs.declared.productions.statements.StatementRule.TheVariants as statement_name
use Rattle.ecma_grammar.specs.productions.Statements.{in_parentheses, if_, for_left, for_await, for_rest, for_head, for_, while_, do_while, switch_case, switch, catch_clause, try_, jump, labeled, expression_statement, statement_body}
use Rattle.ecma_grammar.specs.declared.productions.modules.ModuleRule.{ModuleRule}
use Rattle.ecma_grammar.specs.declared.productions.modules.ModuleRule.TheVariants as module_name
use Rattle.ecma_grammar.specs.productions.Modules.{attributes, from, star, import_specifier, import_specifiers, import_clause, import, require, dotted_keys, import_equals, export_specifier, export_names, export_star_as, export_star, export_default, export, module_item}

abbrev pub name_rule : NameRule → Grammar
name_rule name_name.BindingIdent = binding_ident
name_rule name_name.ComputedPropName = computed_prop_name
name_rule name_name.PropName = prop_name
name_rule name_name.ClassElementName = class_element_name
name_rule name_name.PropStart = prop_start
name_rule name_name.MemberStart = member_start
name_rule name_name.ModuleExportName = module_export_name
name_rule name_name.Block = block
name_rule (name_name.Expression no_in) = expression no_in

abbrev pub type_rule : TypeRule → Grammar
type_rule type_name.TypeParam = type_param
type_rule type_name.TypeParams = type_params
type_rule type_name.TypeArgs = type_args
type_rule type_name.Entity = entity
type_rule type_name.TypeList = type_list
type_rule type_name.ReturnType = return_type
type_rule type_name.SomeAnnotation = some_annotation
type_rule type_name.SomeReturnAnnotation = some_return_annotation
type_rule type_name.ParameterModifier = parameter_modifier
type_rule type_name.RestPattern = rest_pattern
type_rule type_name.DefaultValue = default_value
type_rule type_name.Param = param
type_rule type_name.Params = params
type_rule type_name.ParenthesizedParams = parenthesized_params
type_rule type_name.CallSignature = call_signature
type_rule type_name.NewSignature = new_signature
type_rule type_name.FunctionType = function_type
type_rule type_name.IntersectionType = intersection_type
type_rule type_name.UnionType = union_type
type_rule type_name.ArraySuffixes = array_suffixes
type_rule type_name.ImportType = import_type
type_rule type_name.TupleElement = tuple_element
type_rule type_name.MappedType = mapped_type
type_rule type_name.SignatureType = signature_type
type_rule type_name.TypeMember = type_member
type_rule type_name.ObjectType = object_type
type_rule type_name.TemplateType = template_type
type_rule type_name.PrimaryType = primary_type
type_rule type_name.TypeOperator = type_operator_body
type_rule type_name.AfterTypeArgs = after_type_args

abbrev pub pattern_rule : PatternRule → Grammar
pattern_rule pattern_name.PatternElement = pattern_element
pattern_rule pattern_name.ArrayPattern = array_pattern
pattern_rule pattern_name.PatternProperty = pattern_property
pattern_rule pattern_name.ObjectPattern = object_pattern

abbrev pub function_rule : FunctionRule → Grammar
function_rule function_name.Signature = signature
function_rule function_name.FullSignature = full_signature
function_rule function_name.FunctionExpression = function_expression
function_rule function_name.DefaultFunction = default_function
function_rule function_name.FunctionDeclaration = function_declaration
function_rule function_name.MethodAsync = method_async
function_rule function_name.GetterProperty = getter_property
function_rule function_name.SetterProperty = setter_property
function_rule function_name.MethodProperty = method_property
function_rule (function_name.ArrowRest no_in middle) = arrow_rest no_in middle
function_rule (function_name.Arrow no_in middle) = arrow no_in middle

abbrev pub primary_rule : PrimaryRule → Grammar
primary_rule primary_name.Spread = spread
primary_rule primary_name.Element = element
primary_rule primary_name.Array = array
primary_rule primary_name.Property = property
primary_rule primary_name.Object = object
primary_rule primary_name.Parenthesized = parenthesized
primary_rule primary_name.ClassExpression = class_expression
primary_rule primary_name.Primary = primary
primary_rule (primary_name.Template tagged) = template tagged

abbrev pub chain_rule : ChainRule → Grammar
chain_rule chain_name.Arguments = arguments
chain_rule chain_name.ChainKey = chain_key
chain_rule chain_name.Index = index
chain_rule chain_name.TemplateStart = template_start
chain_rule chain_name.ImportMeta = import_meta
chain_rule chain_name.SuperOfMember = super_of_member
chain_rule chain_name.SuperOfLink = super_of_link
chain_rule chain_name.ImportCall = import_call
chain_rule chain_name.Construction = construction
chain_rule chain_name.Links = links
chain_rule chain_name.TaggedTemplate = tagged_template
chain_rule chain_name.OptionalLink = optional_link
chain_rule chain_name.Chain = chain
chain_rule chain_name.NewLinks = new_links

abbrev pub operator_rule : OperatorRule → Grammar
operator_rule operator_name.Update = update
operator_rule operator_name.Prefixed = prefixed
operator_rule operator_name.Operand = operand
operator_rule operator_name.Exponentiation = exponentiation
operator_rule operator_name.Factors = factors
operator_rule operator_name.Terms = terms
operator_rule operator_name.Shifts = shifts
operator_rule operator_name.Shift = shift
operator_rule (operator_name.Relations no_in) = relations no_in
operator_rule (operator_name.Relation no_in) = relation no_in
operator_rule (operator_name.Equalities no_in) = equalities no_in
operator_rule (operator_name.Equality no_in) = equality no_in
operator_rule (operator_name.BitAnd no_in) = bit_and no_in
operator_rule (operator_name.BitXor no_in) = bit_xor no_in
operator_rule (operator_name.BitOr no_in) = bit_or no_in
operator_rule (operator_name.ShortCircuit no_in) = short_circuit no_in

abbrev pub expression_rule : ExpressionRule → Grammar
expression_rule (expression_name.Conditional no_in middle) = conditional no_in middle
expression_rule (expression_name.Assignments no_in middle) = assignments no_in middle

abbrev pub class_rule : ClassRule → Grammar
class_rule class_name.Modifier = modifier
class_rule class_name.QuestionOrExclamation = question_or_exclamation
class_rule class_name.Getter = getter
class_rule class_name.Setter = setter
class_rule class_name.Method = method
class_rule class_name.Field = field
class_rule class_name.IndexSignature = index_signature
class_rule class_name.Member = member
class_rule class_name.ClassDeclaration = class_declaration
class_rule class_name.AbstractClassDeclaration = abstract_class_declaration
class_rule class_name.AbstractClassExpression = abstract_class_expression

abbrev pub declaration_rule : DeclarationRule → Grammar
declaration_rule declaration_name.TypeAlias = type_alias
declaration_rule declaration_name.Interface = interface
declaration_rule declaration_name.EnumMember = enum_member
declaration_rule declaration_name.EnumRest = enum_rest
declaration_rule declaration_name.Enum = enum_
declaration_rule declaration_name.DottedNames = dotted_names
declaration_rule declaration_name.Namespace = namespace
declaration_rule declaration_name.Declaration = declaration

abbrev pub statement_rule : StatementRule → Grammar
statement_rule statement_name.InParentheses = in_parentheses
statement_rule statement_name.If = if_
statement_rule statement_name.ForLeft = for_left
statement_rule statement_name.ForAwait = for_await
statement_rule statement_name.ForRest = for_rest
statement_rule statement_name.ForHead = for_head
statement_rule statement_name.For = for_
statement_rule statement_name.While = while_
statement_rule statement_name.DoWhile = do_while
statement_rule statement_name.SwitchCase = switch_case
statement_rule statement_name.Switch = switch
statement_rule statement_name.CatchClause = catch_clause
statement_rule statement_name.Try = try_
statement_rule statement_name.Jump = jump
statement_rule statement_name.Labeled = labeled
statement_rule statement_name.ExpressionStatement = expression_statement
statement_rule statement_name.Statement = statement_body

abbrev pub module_rule : ModuleRule → Grammar
module_rule module_name.Attributes = attributes
module_rule module_name.From = from
module_rule module_name.Star = star
module_rule module_name.ImportSpecifier = import_specifier
module_rule module_name.ImportSpecifiers = import_specifiers
module_rule module_name.ImportClause = import_clause
module_rule module_name.Import = import
module_rule module_name.Require = require
module_rule module_name.DottedKeys = dotted_keys
module_rule module_name.ImportEquals = import_equals
module_rule module_name.ExportSpecifier = export_specifier
module_rule module_name.ExportNames = export_names
module_rule module_name.ExportStarAs = export_star_as
module_rule module_name.ExportStar = export_star
module_rule module_name.ExportDefault = export_default
module_rule module_name.Export = export
module_rule module_name.ModuleItem = module_item

abbrev pub rule_grammar : Rule → Grammar
rule_grammar (rule.Name r) = name_rule r
rule_grammar (rule.«Type» r) = type_rule r
rule_grammar (rule.Pattern r) = pattern_rule r
rule_grammar (rule.Function r) = function_rule r
rule_grammar (rule.Primary r) = primary_rule r
rule_grammar (rule.Chain r) = chain_rule r
rule_grammar (rule.Operator r) = operator_rule r
rule_grammar (rule.Expression r) = expression_rule r
rule_grammar (rule.Class r) = class_rule r
rule_grammar (rule.Declaration r) = declaration_rule r
rule_grammar (rule.Statement r) = statement_rule r
rule_grammar (rule.Module r) = module_rule r
