-- The tokens of operators, and of what stands before names and heads; the gaps between tokens.
use Rattle.ecma_kind.specs.declared.operators.BinaryOp.TheVariants as op
use Rattle.ecma_print_tokens.specs.Items as items
use Rattle.std.specs.Prelude.{ℕ, true, false, List, [], ◌∷◌, codes, zero, suc, Bool, ◌++◌}
use Rattle.ecma_kind.specs.declared.operators.UnaryOp.{UnaryOp}
use Rattle.ecma_kind.specs.declared.operators.UnaryOp.TheVariants.{Minus, Plus, Bang, Tilde, TypeOf, Void, Delete}
use Rattle.ecma_kind.specs.declared.operators.UpdateOp.{UpdateOp}
use Rattle.ecma_kind.specs.declared.operators.UpdateOp.TheVariants.{PlusPlus, MinusMinus}
use Rattle.ecma_kind.specs.declared.operators.AssignOp.{AssignOp}
use Rattle.ecma_kind.specs.declared.operators.AssignOp.TheVariants.{Assign, AddAssign, SubAssign, MulAssign, DivAssign, ModAssign, LShiftAssign, RShiftAssign, ZeroFillRShiftAssign, BitOrAssign, BitXorAssign, BitAndAssign, ExpAssign, AndAssign, OrAssign, NullishAssign}
use Rattle.ecma_kind.specs.declared.operators.BinaryOp.{BinaryOp}
use Rattle.ecma_tree.specs.declared.node.Node.{Node}
use Rattle.ecma_print.specs.declared.place.Beside.{Beside}
use Rattle.ecma_print.specs.declared.place.Beside.TheVariants.{BehindMinus, BehindPlus}
use Rattle.ecma_print_tokens.specs.Items.{Tok, sign, Gap, no_gap, Items, it, ends}

abbrev pub blank : Gap
blank = record { blanks = codes " "; new_line = false }

-- what the lines begin with that stand so many levels further in
abbrev pub margin : ℕ → List ℕ
margin zero = []
margin (suc depth) = margin depth ++ codes "    "

abbrev pub line_at : ℕ → Gap
line_at depth = record { blanks = codes "\n" ++ margin depth; new_line = true }

abbrev pub line : Gap
line = line_at 0

abbrev pub sign_of : List ℕ → Items → Items
sign_of w us = it no_gap (sign w) us

abbrev pub unary_token : UnaryOp → Tok
unary_token Minus = sign (codes "-")
unary_token Plus = sign (codes "+")
unary_token Bang = sign (codes "!")
unary_token Tilde = sign (codes "~")
unary_token TypeOf = items.key (codes "typeof")
unary_token Void = items.key (codes "void")
unary_token Delete = items.key (codes "delete")

abbrev pub update_token : UpdateOp → Tok
update_token PlusPlus = sign (codes "++")
update_token MinusMinus = sign (codes "--")

abbrev pub binary_token : BinaryOp → Tok
binary_token op.EqEq = sign (codes "==")
binary_token op.NotEq = sign (codes "!=")
binary_token op.EqEqEq = sign (codes "===")
binary_token op.NotEqEq = sign (codes "!==")
binary_token op.Lt = sign (codes "<")
binary_token op.LtEq = sign (codes "<=")
binary_token op.Gt = sign (codes ">")
binary_token op.GtEq = sign (codes ">=")
binary_token op.LShift = sign (codes "<<")
binary_token op.RShift = sign (codes ">>")
binary_token op.ZeroFillRShift = sign (codes ">>>")
binary_token op.Add = sign (codes "+")
binary_token op.Sub = sign (codes "-")
binary_token op.Mul = sign (codes "*")
binary_token op.Div = sign (codes "/")
binary_token op.Mod = sign (codes "%")
binary_token op.BitOr = sign (codes "|")
binary_token op.BitXor = sign (codes "^")
binary_token op.BitAnd = sign (codes "&")
binary_token op.LogicalOr = sign (codes "||")
binary_token op.LogicalAnd = sign (codes "&&")
binary_token op.In = items.key (codes "in")
binary_token op.InstanceOf = items.key (codes "instanceof")
binary_token op.Exp = sign (codes "**")
binary_token op.NullishCoalescing = sign (codes "??")

abbrev pub assign_token : AssignOp → Tok
assign_token Assign = sign (codes "=")
assign_token AddAssign = sign (codes "+=")
assign_token SubAssign = sign (codes "-=")
assign_token MulAssign = sign (codes "*=")
assign_token DivAssign = sign (codes "/=")
assign_token ModAssign = sign (codes "%=")
assign_token LShiftAssign = sign (codes "<<=")
assign_token RShiftAssign = sign (codes ">>=")
assign_token ZeroFillRShiftAssign = sign (codes ">>>=")
assign_token BitOrAssign = sign (codes "|=")
assign_token BitXorAssign = sign (codes "^=")
assign_token BitAndAssign = sign (codes "&=")
assign_token ExpAssign = sign (codes "**=")
assign_token AndAssign = sign (codes "&&=")
assign_token OrAssign = sign (codes "||=")
assign_token NullishAssign = sign (codes "??=")

-- what stands between `yield` and its operand
abbrev pub star_of : Bool → Items → Items
star_of true us = sign_of (codes "*") us
star_of false us = us

-- what stands before the key of a link of an optional chain, and before its brackets or parentheses
abbrev pub point_of : Bool → List ℕ
point_of true = codes "?."
point_of false = codes "."

abbrev pub question_of : Bool → Items → Items
question_of true us = sign_of (codes "?.") us
question_of false us = us

-- what stands between a unary operator and its operand
abbrev pub unary_gap : UnaryOp → Beside → Gap
unary_gap Minus BehindMinus = blank
unary_gap Plus BehindPlus = blank
unary_gap TypeOf b = blank
unary_gap Void b = blank
unary_gap Delete b = blank
unary_gap o b = no_gap

-- `for (`, and `await` between
abbrev pub for_tokens : Bool → Gap → Items → Items
for_tokens true g us = it g (items.key (codes "for")) (it blank (items.key (codes "await")) (it blank (sign (codes "(")) us))
for_tokens false g us = it g (items.key (codes "for")) (it blank (sign (codes "(")) us)

-- what stands before `}`
abbrev pub closing_gap : List Node → ℕ → Gap
closing_gap [] depth = no_gap
closing_gap (x ∷ xs) depth = line_at depth

-- what stands before `else`, and before the `while` of `do`: it stands on the line of `}`
abbrev pub branch_gap : Bool → ℕ → Gap
branch_gap true depth = blank
branch_gap false depth = line_at depth

-- what stands before the name of a function: whether it is a generator, and asynchronous
abbrev pub star_word : Bool → Gap → Items → Items
star_word true g us = it g (items.key (codes "function")) (sign_of (codes "*") us)
star_word false g us = it g (items.key (codes "function")) us

abbrev pub function_word : Bool → Bool → Gap → Items → Items
function_word is_generator true g us = it g (items.key (codes "async")) (star_word is_generator blank us)
function_word is_generator false g us = star_word is_generator g us

-- the name of a method and what follows, with what stands before it: whether it is a generator, and asynchronous
abbrev pub method_tokens : Bool → Bool → (Gap → Items) → Gap → Items
method_tokens true true f g = it g (items.key (codes "async")) (it blank (sign (codes "*")) (f no_gap))
method_tokens true false f g = it g (sign (codes "*")) (f no_gap)
method_tokens false true f g = it g (items.key (codes "async")) (f blank)
method_tokens false false f g = f g

-- with `static` before it, or without
abbrev pub static_tokens : Bool → (Gap → Items) → Gap → Items
static_tokens true f g = it g (items.key (codes "static")) (f blank)
static_tokens false f g = f g

abbrev pub accessor_text : Bool → List ℕ
accessor_text true = codes "set"
accessor_text false = codes "get"

-- `(`, a test, `)`
abbrev pub enclosed : (Gap → Items → Items) → Items → Items
enclosed f us = it blank (sign (codes "(")) (f no_gap (sign_of (codes ")") us))

-- how many tokens these are
abbrev pub count : Items → ℕ
count (ends g) = 0
count (it g t ts) = suc (count ts)
