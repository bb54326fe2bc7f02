-- What is tried before another reading of the same text, and is remembered where it fails.
use Rattle.std.specs.Prelude.{codes}
use Rattle.ecma_grammar.specs.Grammar.{Grammar, ◌▸◌, ahead, enter, list, marked, optional, punct, same_line, unless, word}
use Rattle.ecma_grammar.specs.declared.production.Link.TheVariants as link
use Rattle.ecma_grammar.specs.declared.production.Part.TheVariants as part
use Rattle.ecma_kind.specs.declared.operators.MethodKind.TheVariants as method_kind
use Rattle.ecma_grammar.specs.productions.Names.{a_name, left_angle, prop_name, prop_start}
use Rattle.ecma_grammar.specs.productions.Functions.{arrow, getter_property, setter_property, method_property}
use Rattle.ecma_grammar.specs.productions.Classes.{getter, setter, method}
use Rattle.ecma_grammar.specs.productions.Types.{accessor_signature, after_type_args, function_type, mapped_type, object_type, parenthesized_params, signature_type, some_return_annotation, type_args, type_param_instantiation, unconditional_type}
use Rattle.ecma_grammar.specs.productions.Chains.{arguments}
use Rattle.ecma_reader.specs.declared.reader.attempts.Attempt.{Attempt}
use Rattle.ecma_reader.specs.declared.reader.attempts.Attempt.TheVariants as attempt

-- what stands behind `get` or `set` in a signature
abbrev pub behind_accessor : Grammar
behind_accessor = ahead prop_start ▸ list prop_name ▸ parenthesized_params

-- the production that is tried
abbrev pub attempted : Attempt → Grammar
attempted (attempt.Arrow no_in middle) = arrow no_in middle
attempted attempt.GetterProperty = getter_property
attempted attempt.SetterProperty = setter_property
attempted attempt.MethodProperty = method_property
attempted attempt.Getter = getter
attempted attempt.Setter = setter
attempted attempt.Method = method
attempted attempt.Arguments = arguments
attempted attempt.FunctionType = function_type
attempted attempt.MappedType = mapped_type
attempted attempt.ObjectType = object_type
attempted attempt.SignatureType = signature_type
attempted attempt.GetterSignature = accessor_signature (codes "get") method_kind.Getter ▸ optional some_return_annotation
attempted attempt.SetterSignature = accessor_signature (codes "set") method_kind.Setter ▸ optional some_return_annotation
attempted attempt.TypeArguments = same_line ▸ type_args
attempted attempt.InstantiationLink = marked (ahead left_angle ▸ enter (part.Link link.Instantiation))
attempted attempt.InstantiationOfNew = marked (type_param_instantiation ▸ after_type_args)
attempted attempt.Constraint = same_line ▸ word (codes "extends") ▸ unconditional_type ▸ unless (punct (codes "?"))
attempted attempt.Inferred = word (codes "infer") ▸ a_name ▸ word (codes "extends") ▸ unconditional_type ▸ ahead (punct (codes "?"))
