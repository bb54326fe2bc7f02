-- Operators (ECMAScript, 13.4 to 13.13). Chains go to the left, and each operator stands one level deeper than the one before.
use Rattle.std.specs.Prelude.{ℕ, List, Bool, true, false, codes, if◌then◌else◌}
use Rattle.ecma_grammar.specs.Grammar.{Grammar, nothing, same_line, keep, ◌▸◌, ◌//◌, unless, marked, behind, build, any, word, punct, behind_word, behind_punct, optional, node, bare, item}
use Rattle.ecma_grammar.specs.declared.production.Part.TheVariants as part
use Rattle.ecma_grammar.specs.declared.production.TokenKind.TheVariants as token
use Rattle.ecma_grammar.specs.declared.production.Leaf.TheVariants as leaf
use Rattle.ecma_grammar.specs.declared.production.Plain.TheVariants as plain
use Rattle.ecma_grammar.specs.declared.production.Form.TheVariants as form
use Rattle.ecma_kind.specs.declared.operators.UnaryOp.TheVariants as unary
use Rattle.ecma_kind.specs.declared.operators.UpdateOp.TheVariants as update_op
use Rattle.ecma_kind.specs.declared.operators.BinaryOp.{BinaryOp}
use Rattle.ecma_kind.specs.declared.operators.BinaryOp.TheVariants as binary
use Rattle.ecma_grammar.specs.productions.Names.{type_, right_angle}
use Rattle.ecma_grammar.specs.productions.Chains.{chain}

-- (~('++' / '--'))?
--   a++;
--   a++ ++;   // refused
abbrev pub updates : Grammar
updates =
    same_line ▸ item (plain.UpdateExpr update_op.PlusPlus false) (punct (codes "++"))
    // same_line ▸ item (plain.UpdateExpr update_op.MinusMinus false) (punct (codes "--"))
    // nothing

-- Update = ('++' / '--') Operand / Chain (~('++' / '--'))?
--   ++a;
--   a--;
unfoldable pub update : Grammar
update =
    node (plain.UpdateExpr update_op.PlusPlus true) (behind_punct (codes "++") part.Operand)
    // node (plain.UpdateExpr update_op.MinusMinus true) (behind_punct (codes "--") part.Operand)
    // build form.Chain
    (chain ▸ updates)

-- Pre Operand
--   typeof a; -await b;
--   <T>a;
unfoldable pub prefixed : Grammar
prefixed =
    node (plain.UnaryExpr unary.Delete) (behind_word (codes "delete") part.Operand)
    // node (plain.UnaryExpr unary.Void) (behind_word (codes "void") part.Operand)
    // node (plain.UnaryExpr unary.TypeOf) (behind_word (codes "typeof") part.Operand)
    // node (plain.UnaryExpr unary.Plus) (behind_punct (codes "+") part.Operand)
    // node (plain.UnaryExpr unary.Minus) (behind_punct (codes "-") part.Operand)
    // node (plain.UnaryExpr unary.Tilde) (behind_punct (codes "~") part.Operand)
    // node (plain.UnaryExpr unary.Bang) (behind_punct (codes "!") part.Operand)
    // node plain.AwaitExpr (behind_word (codes "await") part.Operand)
    // marked (build form.Assertion (behind (any token.LeftAngle) part.Assertion))

-- Operand = Pre Operand / Update
--   - -a;
--   !a++;
unfoldable pub operand : Grammar
operand = prefixed // update

-- ('const' / Type) ">" Operand, after "<"
--   <T>a;
--   <const>[a];
unfoldable pub assertion_body : Grammar
assertion_body = (word (codes "const") // bare plain.TsType type_) ▸ right_angle ▸ operand

-- Exp = Pre Operand / Update ('**' Exp)?
--   a ** b ** c;   // a ** (b ** c)
--   -a ** b;   // refused
unfoldable pub exponentiation : Grammar
exponentiation = prefixed // build form.Chain (update ▸ optional (behind_punct (codes "**") part.Power))

--   a ** -b;   // ** -b
unfoldable pub power_body : Grammar
power_body = item (plain.BinExpr binary.Exp) exponentiation

abbrev pub operator : List ℕ → BinaryOp → Bool → Grammar
operator sign op no_in = behind_punct sign (part.Binary op no_in)

-- Mul, Add, Shift = left chains of `*` `/` `%`, of `+` `-`, of `<<` `>>` `>>>`
--   a * b / c % d;   // ((a * b) / c) % d
unfoldable pub factors : Grammar
factors = operator (codes "*") binary.Mul false // operator (codes "/") binary.Div false // operator (codes "%") binary.Mod false // nothing

--   a - b + c;   // (a - b) + c
unfoldable pub terms : Grammar
terms = operator (codes "+") binary.Add false // operator (codes "-") binary.Sub false // nothing

--   a << b >>> c;   // (a << b) >>> c
unfoldable pub shifts : Grammar
shifts = operator (codes "<<") binary.LShift false // operator (codes ">>") binary.RShift false // operator (codes ">>>") binary.ZeroFillRShift false // nothing

--   a * b ** c;   // a * (b ** c)
abbrev pub product : Grammar
product = build form.Chain (exponentiation ▸ factors)

--   a + b * c;   // a + (b * c)
abbrev pub sum : Grammar
sum = build form.Chain (product ▸ terms)

--   a << b + c;   // a << (b + c)
unfoldable pub shift : Grammar
shift = build form.Chain (sum ▸ shifts)

-- `in`, where it is an operator
--   for (let a = (b in c); d; );
--   for (let a = b in c; d; );   // refused
abbrev pub if_in : Bool → Grammar → Grammar
if_in no_in g = if no_in then unless nothing else g

-- (('<' / '>' / '<=' / '>=' / 'instanceof' / 'in') Shift / T ~'as' ('const' / Type) Tighter / T ~'satisfies' Type Tighter)*
--   a < b instanceof c;
--   a as T as U;
unfoldable pub relations : Bool → Grammar
relations no_in =
    operator (codes "<") binary.Lt no_in // operator (codes ">") binary.Gt no_in
    // operator (codes "<=") binary.LtEq no_in // operator (codes ">=") binary.GtEq no_in
    // behind_word (codes "instanceof") (part.Binary binary.InstanceOf no_in)
    // if_in no_in (behind_word (codes "in") (part.Binary binary.In no_in))
    // marked (same_line ▸ behind_word (codes "as") (part.As no_in))
    // marked (same_line ▸ behind_word (codes "satisfies") (part.Satisfies no_in))
    // nothing

-- Rel = (PrivName 'in' Shift / Shift) ..
--   class A { #b; f(c) { return #b in c; } }
--   class A { #b; f(c) { return #b < c; } }   // refused
unfoldable pub relation : Bool → Grammar
relation no_in =
    build form.Chain
    ((if_in no_in (keep leaf.PrivateName ▸ item (plain.BinExpr binary.In) (word (codes "in") ▸ shift)) // shift) ▸ relations no_in)

-- Tighter = ('**' Exp)? and left chains of `*` `/` `%`, of `+` `-`, of `<<` `>>` `>>>`, whose left operand is all that stands before, and what stands after these
--   a as T + b * c;   // (a as T) + (b * c)
--   a + b as T * c < d;   // (((a + b) as T) * c) < d
abbrev pub behind_type : Bool → Grammar
behind_type no_in = optional (behind_punct (codes "**") part.Power) ▸ factors ▸ terms ▸ shifts ▸ relations no_in

-- 'const' / Type, after `as`
--   a as T;
--   [a] as const;
abbrev pub as_body : Bool → Grammar
as_body no_in = (item plain.TsConstAssertion (word (codes "const")) // item plain.TsAsExpr (bare plain.TsType type_)) ▸ behind_type no_in

--   a satisfies T;
abbrev pub satisfies_body : Bool → Grammar
satisfies_body no_in = item plain.TsSatisfiesExpr (bare plain.TsType type_) ▸ behind_type no_in

-- Eq, BitAnd, BitXor, BitOr = left chains of `==` `!=` `===` `!==`, of `&`, of `^`, of `|`
--   a == b !== c;   // (a == b) !== c
unfoldable pub equalities : Bool → Grammar
equalities no_in =
    operator (codes "==") binary.EqEq no_in // operator (codes "!=") binary.NotEq no_in
    // operator (codes "===") binary.EqEqEq no_in // operator (codes "!==") binary.NotEqEq no_in // nothing

--   a & b & c;   // (a & b) & c
abbrev pub conjunctions : Bool → Grammar
conjunctions no_in = optional (operator (codes "&") binary.BitAnd no_in)

--   a ^ b ^ c;   // (a ^ b) ^ c
abbrev pub exclusions : Bool → Grammar
exclusions no_in = optional (operator (codes "^") binary.BitXor no_in)

--   a | b | c;   // (a | b) | c
abbrev pub disjunctions : Bool → Grammar
disjunctions no_in = optional (operator (codes "|") binary.BitOr no_in)

--   a == b < c;   // a == (b < c)
unfoldable pub equality : Bool → Grammar
equality no_in = build form.Chain (relation no_in ▸ equalities no_in)

--   a & b == c;   // a & (b == c)
unfoldable pub bit_and : Bool → Grammar
bit_and no_in = build form.Chain (equality no_in ▸ conjunctions no_in)

--   a ^ b & c;   // a ^ (b & c)
unfoldable pub bit_xor : Bool → Grammar
bit_xor no_in = build form.Chain (bit_and no_in ▸ exclusions no_in)

--   a | b ^ c;   // a | (b ^ c)
unfoldable pub bit_or : Bool → Grammar
bit_or no_in = build form.Chain (bit_xor no_in ▸ disjunctions no_in)

-- the right side of an operator, and the operators that stand after it in its chain
--   a + b * c;   // of +: b * c
abbrev pub right_side : BinaryOp → Bool → Grammar
right_side binary.Mul no_in = exponentiation
right_side binary.Div no_in = exponentiation
right_side binary.Mod no_in = exponentiation
right_side binary.Add no_in = product
right_side binary.Sub no_in = product
right_side binary.LShift no_in = sum
right_side binary.RShift no_in = sum
right_side binary.ZeroFillRShift no_in = sum
right_side binary.Lt no_in = shift
right_side binary.Gt no_in = shift
right_side binary.LtEq no_in = shift
right_side binary.GtEq no_in = shift
right_side binary.InstanceOf no_in = shift
right_side binary.In no_in = shift
right_side binary.EqEq no_in = relation no_in
right_side binary.NotEq no_in = relation no_in
right_side binary.EqEqEq no_in = relation no_in
right_side binary.NotEqEq no_in = relation no_in
right_side binary.BitAnd no_in = equality no_in
right_side binary.BitXor no_in = bit_and no_in
right_side binary.BitOr no_in = bit_xor no_in
right_side binary.Exp no_in = exponentiation
right_side binary.LogicalAnd no_in = bit_or no_in
right_side binary.LogicalOr no_in = bit_or no_in
right_side binary.NullishCoalescing no_in = bit_or no_in

-- Short = BitOr (('??' BitOr)+ / ('&&' BitOr)* ('||' BitOr ('&&' BitOr)*)*)
--   a ?? b ?? c;
--   a ?? b || c;   // refused
abbrev pub coalescing : Bool → Grammar
coalescing no_in = behind_punct (codes "??") (part.Binary binary.NullishCoalescing no_in)

--   a && b || c && d;   // (a && b) || (c && d)
--   a || b ?? c;   // refused
abbrev pub logicals : Bool → Grammar
logicals no_in =
    behind_punct (codes "&&") (part.Binary binary.LogicalAnd no_in) // behind_punct (codes "||") (part.Binary binary.LogicalOr no_in) // nothing

--   a ?? b | c;   // a ?? (b | c)
--   (a ?? b) || c;
unfoldable pub short_circuit : Bool → Grammar
short_circuit no_in = build form.Logical (bit_or no_in ▸ (coalescing no_in // logicals no_in))

-- the operators that stand after the right side in its chain
--   a - b + c;   // after - b: + c
abbrev pub more_operators : BinaryOp → Bool → Grammar
more_operators binary.Mul no_in = factors
more_operators binary.Div no_in = factors
more_operators binary.Mod no_in = factors
more_operators binary.Add no_in = terms
more_operators binary.Sub no_in = terms
more_operators binary.LShift no_in = shifts
more_operators binary.RShift no_in = shifts
more_operators binary.ZeroFillRShift no_in = shifts
more_operators binary.Lt no_in = relations no_in
more_operators binary.Gt no_in = relations no_in
more_operators binary.LtEq no_in = relations no_in
more_operators binary.GtEq no_in = relations no_in
more_operators binary.InstanceOf no_in = relations no_in
more_operators binary.In no_in = relations no_in
more_operators binary.EqEq no_in = equalities no_in
more_operators binary.NotEq no_in = equalities no_in
more_operators binary.EqEqEq no_in = equalities no_in
more_operators binary.NotEqEq no_in = equalities no_in
more_operators binary.BitAnd no_in = conjunctions no_in
more_operators binary.BitXor no_in = exclusions no_in
more_operators binary.BitOr no_in = disjunctions no_in
more_operators binary.Exp no_in = nothing
more_operators binary.LogicalAnd no_in = logicals no_in
more_operators binary.LogicalOr no_in = logicals no_in
more_operators binary.NullishCoalescing no_in = optional (coalescing no_in)

-- an operator's right side, with what stands after it
abbrev pub binary_body : BinaryOp → Bool → Grammar
binary_body op no_in = item (plain.BinExpr op) (right_side op no_in) ▸ more_operators op no_in
