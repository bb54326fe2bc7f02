-- Operators: their words and their precedences (ECMAScript, 13.4 to 13.15).
use Rattle.std.specs.Prelude.{ℕ, ◌+◌, List, codes}
use Rattle.ecma_kind.specs.declared.operators.UnaryOp.{UnaryOp}
use Rattle.ecma_kind.specs.declared.operators.UnaryOp.TheVariants.{Minus, Plus, Bang, Tilde, TypeOf, Void, Delete}
use Rattle.ecma_kind.specs.declared.operators.UpdateOp.{UpdateOp}
use Rattle.ecma_kind.specs.declared.operators.UpdateOp.TheVariants.{PlusPlus, MinusMinus}
use Rattle.ecma_kind.specs.declared.operators.BinaryOp.{BinaryOp}
use Rattle.ecma_kind.specs.declared.operators.BinaryOp.TheVariants.{EqEq, NotEq, EqEqEq, NotEqEq, Lt, LtEq, Gt, GtEq, LShift, RShift, ZeroFillRShift, Add, Sub, Mul, Div, Mod, BitOr, BitXor, BitAnd, LogicalOr, LogicalAnd, In, InstanceOf, Exp, NullishCoalescing}
use Rattle.ecma_kind.specs.declared.operators.AssignOp.{AssignOp}
use Rattle.ecma_kind.specs.declared.operators.AssignOp.TheVariants.{Assign, AddAssign, SubAssign, MulAssign, DivAssign, ModAssign, LShiftAssign, RShiftAssign, ZeroFillRShiftAssign, BitOrAssign, BitXorAssign, BitAndAssign, ExpAssign, AndAssign, OrAssign, NullishAssign}
use Rattle.ecma_print.specs.declared.place.Beside.{Beside}
use Rattle.ecma_print.specs.declared.place.Beside.TheVariants.{NoNeighbor, UnderNullish, UnderLogical, BehindMinus, BehindPlus}
use Rattle.ecma_print.specs.Precedences as precedence

-- what a unary operator puts before its operand: a word has a blank after it
abbrev pub unary_word : UnaryOp → List ℕ
unary_word Minus = codes "-"
unary_word Plus = codes "+"
unary_word Bang = codes "!"
unary_word Tilde = codes "~"
unary_word TypeOf = codes "typeof "
unary_word Void = codes "void "
unary_word Delete = codes "delete "

-- the sign that an operator is
abbrev pub unary_sign : UnaryOp → Beside
unary_sign Minus = BehindMinus
unary_sign Plus = BehindPlus
unary_sign op = NoNeighbor

abbrev pub update_word : UpdateOp → List ℕ
update_word PlusPlus = codes "++"
update_word MinusMinus = codes "--"

abbrev pub update_sign : UpdateOp → Beside
update_sign PlusPlus = BehindPlus
update_sign MinusMinus = BehindMinus

-- an operator of two operands, with a blank on each side
abbrev pub binary_word : BinaryOp → List ℕ
binary_word EqEq = codes " == "
binary_word NotEq = codes " != "
binary_word EqEqEq = codes " === "
binary_word NotEqEq = codes " !== "
binary_word Lt = codes " < "
binary_word LtEq = codes " <= "
binary_word Gt = codes " > "
binary_word GtEq = codes " >= "
binary_word LShift = codes " << "
binary_word RShift = codes " >> "
binary_word ZeroFillRShift = codes " >>> "
binary_word Add = codes " + "
binary_word Sub = codes " - "
binary_word Mul = codes " * "
binary_word Div = codes " / "
binary_word Mod = codes " % "
binary_word BitOr = codes " | "
binary_word BitXor = codes " ^ "
binary_word BitAnd = codes " & "
binary_word LogicalOr = codes " || "
binary_word LogicalAnd = codes " && "
binary_word In = codes " in "
binary_word InstanceOf = codes " instanceof "
binary_word Exp = codes " ** "
binary_word NullishCoalescing = codes " ?? "

-- the precedence of an expression with this operator
abbrev pub binary_level : BinaryOp → ℕ
binary_level NullishCoalescing = precedence.short_circuit
binary_level LogicalOr = precedence.short_circuit
binary_level LogicalAnd = precedence.logical_and
binary_level BitOr = precedence.bitwise_or
binary_level BitXor = precedence.bitwise_xor
binary_level BitAnd = precedence.bitwise_and
binary_level EqEq = precedence.equality
binary_level NotEq = precedence.equality
binary_level EqEqEq = precedence.equality
binary_level NotEqEq = precedence.equality
binary_level Lt = precedence.relational
binary_level LtEq = precedence.relational
binary_level Gt = precedence.relational
binary_level GtEq = precedence.relational
binary_level In = precedence.relational
binary_level InstanceOf = precedence.relational
binary_level LShift = precedence.shift
binary_level RShift = precedence.shift
binary_level ZeroFillRShift = precedence.shift
binary_level Add = precedence.additive
binary_level Sub = precedence.additive
binary_level Mul = precedence.multiplicative
binary_level Div = precedence.multiplicative
binary_level Mod = precedence.multiplicative
binary_level Exp = precedence.exponentiation

-- operators group to the left; on the left of `**` stands no unary operator
--   a - b - c; (a ** b) ** c;
--   (-a) ** b;
abbrev pub left_level : BinaryOp → ℕ
left_level Exp = precedence.update
left_level op = binary_level op

-- but `**` groups to the right
--   a - (b - c); a ** b ** c;
--   a ** -b;
abbrev pub right_level : BinaryOp → ℕ
right_level Exp = precedence.exponentiation
right_level op = binary_level op + 1

-- `??` does not go with `||` and `&&`
--   (a ?? b) || c; a ?? (b && c); a && b || c;
abbrev pub under : BinaryOp → Beside
under NullishCoalescing = UnderNullish
under LogicalOr = UnderLogical
under LogicalAnd = UnderLogical
under op = NoNeighbor

abbrev pub assign_word : AssignOp → List ℕ
assign_word Assign = codes " = "
assign_word AddAssign = codes " += "
assign_word SubAssign = codes " -= "
assign_word MulAssign = codes " *= "
assign_word DivAssign = codes " /= "
assign_word ModAssign = codes " %= "
assign_word LShiftAssign = codes " <<= "
assign_word RShiftAssign = codes " >>= "
assign_word ZeroFillRShiftAssign = codes " >>>= "
assign_word BitOrAssign = codes " |= "
assign_word BitXorAssign = codes " ^= "
assign_word BitAndAssign = codes " &= "
assign_word ExpAssign = codes " **= "
assign_word AndAssign = codes " &&= "
assign_word OrAssign = codes " ||= "
assign_word NullishAssign = codes " ??= "
