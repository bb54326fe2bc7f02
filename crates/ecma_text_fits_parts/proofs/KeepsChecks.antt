-- What each part keeps, computed from the productions.
use Rattle.std.proofs.Common.{◌≡◌, Bool, true, false, codes, refl, sym}
use Rattle.ecma_kind.specs.declared.operators.BinaryOp.{BinaryOp}
use Rattle.ecma_kind.specs.declared.operators.BinaryOp.TheVariants as binary
use Rattle.ecma_grammar.specs.declared.production.Part.{Part}
use Rattle.ecma_grammar.specs.declared.production.Part.TheVariants as part
use Rattle.ecma_grammar.specs.declared.production.Link.{Link}
use Rattle.ecma_grammar.specs.declared.production.Link.TheVariants as link
use Rattle.ecma_grammar.specs.declared.production.Plain.TheVariants as plain
use Rattle.ecma_grammar.specs.Grammar as grammar
use Rattle.ecma_grammar.specs.Grammar.{Grammar}
use Rattle.ecma_grammar.specs.PartBodies.{part_body}
use Rattle.ecma_grammar.specs.productions.Declarations.{declaration}
use Rattle.ecma_grammar.specs.productions.Modules.{module_body}
use Rattle.ecma_grammar.specs.productions.Names.{block}
use Rattle.ecma_grammar.specs.productions.Statements.{do_while, expression_statement, in_parentheses, jump, switch, try_}
use Rattle.ecma_text_leaves.proofs.Productions.{productions}
use Rattle.ecma_text_fits_parts.proofs.Grades.{closed, good}
use Rattle.ecma_text_fits_parts.proofs.Keeps.{keeps, part_keeps}
use Rattle.ecma_raw_roles.proofs.Walks.{not_true}
use Rattle.ecma_text_fits_parts.proofs.Wanted.{done, ends, one}

pub module_kept : keeps module_body ends (one good done) ≡ true
unfolding productions
module_kept = refl

abbrev pub IsKept : Part → Type 0
IsKept u = keeps (part_body u) ends (part_keeps u) ≡ true

-- statements that end with no statement

abbrev EndsClosed : Grammar → Type 0
EndsClosed g = keeps g ends (one closed done) ≡ true

pub block_closed : EndsClosed block
unfolding productions
block_closed = refl

pub empty_closed : EndsClosed (grammar.node plain.EmptyStmt (grammar.punct (codes ";")))
empty_closed = refl

pub do_closed : EndsClosed do_while
unfolding productions
do_closed = refl

pub switch_closed : EndsClosed switch
unfolding productions
switch_closed = refl

pub try_closed : EndsClosed try_
unfolding productions
try_closed = refl

pub jump_closed : EndsClosed jump
unfolding productions
jump_closed = refl

pub declaration_closed : EndsClosed declaration
unfolding productions
declaration_closed = refl

pub expression_closed : EndsClosed expression_statement
unfolding productions
expression_closed = refl

pub condition_kept : keeps in_parentheses ends (one good done) ≡ true
unfolding productions
condition_kept = refl

namespace_kept : IsKept part.NamespaceBody
unfolding productions
namespace_kept = refl

declared_kept : IsKept part.Declared
unfolding productions
declared_kept = refl

assign_kept : (no_in middle : Bool) → IsKept (part.Assign no_in middle)
unfolding productions
assign_kept false false = refl
assign_kept true false = refl
assign_kept false true = refl
assign_kept true true = refl

pattern_kept : IsKept part.Pattern
unfolding productions
pattern_kept = refl

type_kept : IsKept part.«Type»
unfolding productions
type_kept = refl

operator_kept : IsKept part.TypeOperator
unfolding productions
operator_kept = refl

suffix_kept : IsKept part.ArraySuffix
unfolding productions
suffix_kept = refl

operand_kept : IsKept part.Operand
unfolding productions
operand_kept = refl

assertion_kept : IsKept part.Assertion
unfolding productions
assertion_kept = refl

new_kept : IsKept part.New
unfolding productions
new_kept = refl

power_kept : IsKept part.Power
unfolding productions
power_kept = refl

class_kept : (named : Bool) → IsKept (part.Class named)
unfolding productions
class_kept false = refl
class_kept true = refl

as_kept : (no_in : Bool) → IsKept (part.As no_in)
unfolding productions
as_kept false = refl
as_kept true = refl

satisfies_kept : (no_in : Bool) → IsKept (part.Satisfies no_in)
unfolding productions
satisfies_kept false = refl
satisfies_kept true = refl

name_kept : IsKept part.DottedName
unfolding productions
name_kept = refl

key_kept : IsKept part.DottedKey
unfolding productions
key_kept = refl

binary_kept : (op : BinaryOp) → IsKept (part.Binary op false)
unfolding productions
binary_kept binary.EqEq = refl
binary_kept _ = refl

binary_no_in_kept : (op : BinaryOp) → IsKept (part.Binary op true)
unfolding productions
binary_no_in_kept binary.EqEq = refl
binary_no_in_kept _ = refl

dot_kept : IsKept (part.Link link.Dot)
unfolding productions
dot_kept = refl

optional_kept : IsKept (part.Link link.Optional)
unfolding productions
optional_kept = refl

bracket_kept : IsKept (part.Link link.Bracket)
unfolding productions
bracket_kept = refl

call_kept : IsKept (part.Link link.Call)
unfolding productions
call_kept = refl

tagged_kept : IsKept (part.Link link.Tagged)
unfolding productions
tagged_kept = refl

non_null_kept : IsKept (part.Link link.NonNull)
unfolding productions
non_null_kept = refl

instantiation_kept : IsKept (part.Link link.Instantiation)
unfolding productions
instantiation_kept = refl

new_link_kept : (l : Link) → IsKept (part.NewLink l)
unfolding productions
new_link_kept link.Dot = refl
new_link_kept _ = refl

link_kept : (l : Link) → IsKept (part.Link l)
link_kept link.Dot = dot_kept
link_kept link.Optional = optional_kept
link_kept link.Bracket = bracket_kept
link_kept link.Call = call_kept
link_kept link.Tagged = tagged_kept
link_kept link.NonNull = non_null_kept
link_kept link.Instantiation = instantiation_kept

abbrev pub is_statement : Part → Bool
is_statement part.Statement = true
is_statement _ = false

pub part_kept : (u : Part) → is_statement u ≡ false → IsKept u
part_kept part.Statement h = not_true (sym h)
part_kept part.NamespaceBody h = namespace_kept
part_kept part.Declared h = declared_kept
part_kept (part.Assign no_in middle) h = assign_kept no_in middle
part_kept part.Pattern h = pattern_kept
part_kept part.«Type» h = type_kept
part_kept part.TypeOperator h = operator_kept
part_kept part.ArraySuffix h = suffix_kept
part_kept part.Operand h = operand_kept
part_kept part.Assertion h = assertion_kept
part_kept part.New h = new_kept
part_kept part.Power h = power_kept
part_kept (part.Class named) h = class_kept named
part_kept (part.Binary op false) h = binary_kept op
part_kept (part.Binary op true) h = binary_no_in_kept op
part_kept (part.As no_in) h = as_kept no_in
part_kept (part.Satisfies no_in) h = satisfies_kept no_in
part_kept part.DottedName h = name_kept
part_kept part.DottedKey h = key_kept
part_kept (part.Link l) h = link_kept l
part_kept (part.NewLink l) h = new_link_kept l
