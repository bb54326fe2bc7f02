-- No production of types is used unmarked, computed from the productions.
use Rattle.std.proofs.Common.{◌≡◌, Bool, true, false, refl}
use Rattle.ecma_kind.specs.declared.operators.BinaryOp.{BinaryOp}
use Rattle.ecma_kind.specs.declared.operators.BinaryOp.TheVariants as binary
use Rattle.ecma_grammar.specs.declared.production.Part.{Part}
use Rattle.ecma_grammar.specs.declared.production.Part.TheVariants as part
use Rattle.ecma_grammar.specs.declared.production.Link.{Link}
use Rattle.ecma_grammar.specs.declared.production.Link.TheVariants as link
use Rattle.ecma_grammar.specs.PartBodies.{part_body}
use Rattle.ecma_grammar.specs.productions.Modules.{module_body}
use Rattle.ecma_grammar_laws.proofs.Productions.{productions}
use Rattle.ecma_text_types.proofs.Untyped.{is_untyped, is_untyped_part}

pub module_untyped : is_untyped module_body ≡ true
unfolding productions
module_untyped = refl

abbrev IsUntyped : Part → Type 0
IsUntyped u = is_untyped (part_body u) ≡ true

statement_untyped : IsUntyped part.Statement
unfolding productions
statement_untyped = refl

namespace_untyped : IsUntyped part.NamespaceBody
unfolding productions
namespace_untyped = refl

assign_untyped : (no_in middle : Bool) → IsUntyped (part.Assign no_in middle)
unfolding productions
assign_untyped false false = refl
assign_untyped true false = refl
assign_untyped false true = refl
assign_untyped true true = refl

pattern_untyped : IsUntyped part.Pattern
unfolding productions
pattern_untyped = refl

operand_untyped : IsUntyped part.Operand
unfolding productions
operand_untyped = refl

new_untyped : IsUntyped part.New
unfolding productions
new_untyped = refl

power_untyped : IsUntyped part.Power
unfolding productions
power_untyped = refl

class_untyped : (named : Bool) → IsUntyped (part.Class named)
unfolding productions
class_untyped false = refl
class_untyped true = refl

name_untyped : IsUntyped part.DottedName
unfolding productions
name_untyped = refl

key_untyped : IsUntyped part.DottedKey
unfolding productions
key_untyped = refl

binary_untyped : (op : BinaryOp) → IsUntyped (part.Binary op false)
unfolding productions
binary_untyped binary.EqEq = refl
binary_untyped _ = refl

binary_no_in_untyped : (op : BinaryOp) → IsUntyped (part.Binary op true)
unfolding productions
binary_no_in_untyped binary.EqEq = refl
binary_no_in_untyped _ = refl

dot_untyped : IsUntyped (part.Link link.Dot)
unfolding productions
dot_untyped = refl

optional_untyped : IsUntyped (part.Link link.Optional)
unfolding productions
optional_untyped = refl

bracket_untyped : IsUntyped (part.Link link.Bracket)
unfolding productions
bracket_untyped = refl

call_untyped : IsUntyped (part.Link link.Call)
unfolding productions
call_untyped = refl

tagged_untyped : IsUntyped (part.Link link.Tagged)
unfolding productions
tagged_untyped = refl

nonnull_untyped : IsUntyped (part.Link link.NonNull)
unfolding productions
nonnull_untyped = refl

new_link_untyped : (l : Link) → IsUntyped (part.NewLink l)
unfolding productions
new_link_untyped link.Dot = refl
new_link_untyped _ = refl

pub part_untyped : (u : Part) → is_untyped_part u ≡ true → IsUntyped u
part_untyped part.Statement h = statement_untyped
part_untyped part.NamespaceBody h = namespace_untyped
part_untyped part.Declared h = absurd (cc)
part_untyped (part.Assign no_in middle) h = assign_untyped no_in middle
part_untyped part.Pattern h = pattern_untyped
part_untyped part.«Type» h = absurd (cc)
part_untyped part.TypeOperator h = absurd (cc)
part_untyped part.ArraySuffix h = absurd (cc)
part_untyped part.Operand h = operand_untyped
part_untyped part.Assertion h = absurd (cc)
part_untyped part.New h = new_untyped
part_untyped part.Power h = power_untyped
part_untyped (part.Class named) h = class_untyped named
part_untyped (part.Binary op false) h = binary_untyped op
part_untyped (part.Binary op true) h = binary_no_in_untyped op
part_untyped (part.As no_in) h = absurd (cc)
part_untyped (part.Satisfies no_in) h = absurd (cc)
part_untyped part.DottedName h = name_untyped
part_untyped part.DottedKey h = key_untyped
part_untyped (part.Link link.Dot) h = dot_untyped
part_untyped (part.Link link.Optional) h = optional_untyped
part_untyped (part.Link link.Bracket) h = bracket_untyped
part_untyped (part.Link link.Call) h = call_untyped
part_untyped (part.Link link.Tagged) h = tagged_untyped
part_untyped (part.Link link.NonNull) h = nonnull_untyped
part_untyped (part.Link link.Instantiation) h = absurd (cc)
part_untyped (part.NewLink l) h = new_link_untyped l
