-- What each part keeps, computed from the productions.
use Rattle.std.proofs.Common.{◌≡◌, Bool, true, false, [], ◌∷◌, refl}
use Rattle.ecma_kind.specs.declared.operators.BinaryOp.{BinaryOp}
use Rattle.ecma_kind.specs.declared.operators.BinaryOp.TheVariants as binary
use Rattle.ecma_grammar.specs.declared.production.Part.{Part}
use Rattle.ecma_grammar.specs.declared.production.Part.TheVariants as part
use Rattle.ecma_grammar.specs.declared.production.Link.{Link}
use Rattle.ecma_grammar.specs.declared.production.Link.TheVariants as link
use Rattle.ecma_grammar.specs.PartBodies.{part_body}
use Rattle.ecma_grammar.specs.productions.Modules.{module_body}
use Rattle.ecma_text_leaves.proofs.Productions.{productions}
use Rattle.ecma_fits.specs.Roles.{may_be, role_in}
use Rattle.ecma_raw_roles.specs.RawRoles.{may_be_raw, raw_role_in, usual_role_in}
use Rattle.ecma_text_fits_roles.proofs.RoleAsks.{free, these}
use Rattle.ecma_text_fits_roles.proofs.RoleNeeds.{keeps, part_keeps}

pub module_keeps : keeps module_body (these (free ∷ [])) ≡ true
unfolding productions may_be role_in may_be_raw raw_role_in usual_role_in
module_keeps = refl

abbrev pub IsKept : Part → Type 0
IsKept u = keeps (part_body u) (part_keeps u) ≡ true

pattern_kept : IsKept part.Pattern
unfolding productions may_be role_in may_be_raw raw_role_in usual_role_in
pattern_kept = refl

type_kept : IsKept part.«Type»
unfolding productions may_be role_in may_be_raw raw_role_in usual_role_in
type_kept = refl

operator_kept : IsKept part.TypeOperator
unfolding productions may_be role_in may_be_raw raw_role_in usual_role_in
operator_kept = refl

suffix_kept : IsKept part.ArraySuffix
unfolding productions may_be role_in may_be_raw raw_role_in usual_role_in
suffix_kept = refl

operand_kept : IsKept part.Operand
unfolding productions may_be role_in may_be_raw raw_role_in usual_role_in
operand_kept = refl

assertion_kept : IsKept part.Assertion
unfolding productions may_be role_in may_be_raw raw_role_in usual_role_in
assertion_kept = refl

new_kept : IsKept part.New
unfolding productions may_be role_in may_be_raw raw_role_in usual_role_in
new_kept = refl

power_kept : IsKept part.Power
unfolding productions may_be role_in may_be_raw raw_role_in usual_role_in
power_kept = refl

class_kept : (named : Bool) → IsKept (part.Class named)
unfolding productions may_be role_in may_be_raw raw_role_in usual_role_in
class_kept false = refl
class_kept true = refl

name_kept : IsKept part.DottedName
unfolding productions may_be role_in may_be_raw raw_role_in usual_role_in
name_kept = refl

key_kept : IsKept part.DottedKey
unfolding productions may_be role_in may_be_raw raw_role_in usual_role_in
key_kept = refl

assign_kept : (no_in middle : Bool) → IsKept (part.Assign no_in middle)
unfolding productions may_be role_in may_be_raw raw_role_in usual_role_in
assign_kept false false = refl
assign_kept true false = refl
assign_kept false true = refl
assign_kept true true = refl

statement_kept : IsKept part.Statement
unfolding productions may_be role_in may_be_raw raw_role_in usual_role_in
statement_kept = refl

namespace_kept : IsKept part.NamespaceBody
unfolding productions may_be role_in may_be_raw raw_role_in usual_role_in
namespace_kept = refl

declared_kept : IsKept part.Declared
unfolding productions may_be role_in may_be_raw raw_role_in usual_role_in
declared_kept = refl

as_kept : (no_in : Bool) → IsKept (part.As no_in)
unfolding productions may_be role_in may_be_raw raw_role_in usual_role_in
as_kept false = refl
as_kept true = refl

satisfies_kept : (no_in : Bool) → IsKept (part.Satisfies no_in)
unfolding productions may_be role_in may_be_raw raw_role_in usual_role_in
satisfies_kept false = refl
satisfies_kept true = refl

binary_kept : (op : BinaryOp) → IsKept (part.Binary op false)
unfolding productions may_be role_in may_be_raw raw_role_in usual_role_in
binary_kept binary.EqEq = refl
binary_kept _ = refl

binary_no_in_kept : (op : BinaryOp) → IsKept (part.Binary op true)
unfolding productions may_be role_in may_be_raw raw_role_in usual_role_in
binary_no_in_kept binary.EqEq = refl
binary_no_in_kept _ = refl

link_kept : (l : Link) → IsKept (part.Link l)
unfolding productions may_be role_in may_be_raw raw_role_in usual_role_in
link_kept link.Dot = refl
link_kept _ = refl

new_link_kept : (l : Link) → IsKept (part.NewLink l)
unfolding productions may_be role_in may_be_raw raw_role_in usual_role_in
new_link_kept link.Dot = refl
new_link_kept _ = refl

pub part_kept : (u : Part) → IsKept u
part_kept part.Statement = statement_kept
part_kept part.NamespaceBody = namespace_kept
part_kept part.Declared = declared_kept
part_kept (part.Assign no_in middle) = assign_kept no_in middle
part_kept part.Pattern = pattern_kept
part_kept part.«Type» = type_kept
part_kept part.TypeOperator = operator_kept
part_kept part.ArraySuffix = suffix_kept
part_kept part.Operand = operand_kept
part_kept part.Assertion = assertion_kept
part_kept part.New = new_kept
part_kept part.Power = power_kept
part_kept (part.Class named) = class_kept named
part_kept (part.Binary op false) = binary_kept op
part_kept (part.Binary op true) = binary_no_in_kept op
part_kept (part.As no_in) = as_kept no_in
part_kept (part.Satisfies no_in) = satisfies_kept no_in
part_kept part.DottedName = name_kept
part_kept part.DottedKey = key_kept
part_kept (part.Link l) = link_kept l
part_kept (part.NewLink l) = new_link_kept l
