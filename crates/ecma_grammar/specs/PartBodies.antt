-- What each part is.
use Rattle.ecma_grammar.specs.declared.production.Part.{Part}
use Rattle.ecma_grammar.specs.declared.production.Part.TheVariants as part
use Rattle.ecma_grammar.specs.declared.production.Link.{Link}
use Rattle.ecma_grammar.specs.declared.production.Link.TheVariants as link
use Rattle.ecma_grammar.specs.Grammar.{Grammar, nothing, unless}
use Rattle.ecma_grammar.specs.productions.Types.{type_body, type_operator_body, array_suffix_body}
use Rattle.ecma_grammar.specs.productions.Patterns.{pattern_body}
use Rattle.ecma_grammar.specs.productions.Chains.{dot_body, optional_body, bracket_body, call_body, tagged_body, non_null_body, instantiation_body, new_dot_body, new_bracket_body, new_tagged_body, new_non_null_body, new_body}
use Rattle.ecma_grammar.specs.productions.Operators.{operand, assertion_body, power_body, binary_body, as_body, satisfies_body}
use Rattle.ecma_grammar.specs.productions.Expressions.{assign_body}
use Rattle.ecma_grammar.specs.productions.Classes.{class_body}
use Rattle.ecma_grammar.specs.productions.Statements.{statement_body}
use Rattle.ecma_grammar.specs.productions.Declarations.{declared_body, dotted_name_body}
use Rattle.ecma_grammar.specs.productions.Modules.{namespace_block, dotted_key_body}

-- a link of a chain
abbrev pub link_body : Link → Grammar
link_body link.Dot = dot_body
link_body link.Optional = optional_body
link_body link.Bracket = bracket_body
link_body link.Call = call_body
link_body link.Tagged = tagged_body
link_body link.NonNull = non_null_body
link_body link.Instantiation = instantiation_body

-- a link of the callee of `new`
abbrev pub new_link_body : Link → Grammar
new_link_body link.Dot = new_dot_body
new_link_body link.Bracket = new_bracket_body
new_link_body link.Tagged = new_tagged_body
new_link_body link.NonNull = new_non_null_body
new_link_body link.Optional = unless nothing
new_link_body link.Call = unless nothing
new_link_body link.Instantiation = unless nothing

abbrev pub part_body : Part → Grammar
part_body part.Statement = statement_body
part_body part.NamespaceBody = namespace_block
part_body part.Declared = declared_body
part_body (part.Assign no_in middle) = assign_body no_in middle
part_body part.Pattern = pattern_body
part_body part.«Type» = type_body
part_body part.TypeOperator = type_operator_body
part_body part.ArraySuffix = array_suffix_body
part_body part.Operand = operand
part_body part.Assertion = assertion_body
part_body part.New = new_body
part_body part.Power = power_body
part_body (part.Class named) = class_body named
part_body (part.Binary op no_in) = binary_body op no_in
part_body (part.As no_in) = as_body no_in
part_body (part.Satisfies no_in) = satisfies_body no_in
part_body part.DottedName = dotted_name_body
part_body part.DottedKey = dotted_key_body
part_body (part.Link l) = link_body l
part_body (part.NewLink l) = new_link_body l
