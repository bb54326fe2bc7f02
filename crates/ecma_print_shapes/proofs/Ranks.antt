-- How tightly an expression binds by its kind, and that it binds as tightly as its spot asks where it needs no parentheses there.
use Rattle.std.proofs.Common.{◌≡◌, ℕ, Bool, true, List, nat_le, cond}
use Rattle.ecma_kind.specs.declared.kind.Kind.{Kind}
use Rattle.ecma_kind.specs.declared.kind.Kind.TheVariants as kind
use Rattle.ecma_kind.specs.declared.operators.BinaryOp.{BinaryOp}
use Rattle.ecma_kind.specs.declared.operators.BinaryOp.TheVariants as op
use Rattle.ecma_tree.specs.declared.node.Node.{Node}
use Rattle.ecma_print.specs.Laid.{Laid}
use Rattle.ecma_print.specs.Levels.{lacks_arguments}
use Rattle.ecma_shapes.specs.Shapes.{Level, new_callee, object, numeral, callee, chain, left_hand_side, update, unary, power, product, sum, shift, relation, equality, bit_and, bit_xor, bit_or, logical_and, logical_or, coalescing, short_circuit, assignment, sequence, IsExpression, looser}

-- of an operator
abbrev pub operator_level : BinaryOp → Level
operator_level op.NullishCoalescing = coalescing
operator_level op.LogicalOr = logical_or
operator_level op.LogicalAnd = logical_and
operator_level op.BitOr = bit_or
operator_level op.BitXor = bit_xor
operator_level op.BitAnd = bit_and
operator_level op.EqEq = equality
operator_level op.NotEq = equality
operator_level op.EqEqEq = equality
operator_level op.NotEqEq = equality
operator_level op.Lt = relation
operator_level op.LtEq = relation
operator_level op.Gt = relation
operator_level op.GtEq = relation
operator_level op.In = relation
operator_level op.InstanceOf = relation
operator_level op.LShift = shift
operator_level op.RShift = shift
operator_level op.ZeroFillRShift = shift
operator_level op.Add = sum
operator_level op.Sub = sum
operator_level op.Mul = product
operator_level op.Div = product
operator_level op.Mod = product
operator_level op.Exp = power

-- of a member: in the callee of `new` no call stands in its object
abbrev pub member_level : Bool → Level
member_level in_callee = cond in_callee new_callee object

abbrev pub new_level : Bool → Level
new_level is_alone = cond is_alone left_hand_side new_callee

-- of an expression of this kind, in the callee of `new` or not
abbrev pub own_level : Kind → List Laid → Bool → Level
own_level kind.SeqExpr children in_callee = sequence
own_level (kind.AssignExpr o) children in_callee = assignment
own_level (kind.ArrowExpr is_async is_generator) children in_callee = assignment
own_level (kind.YieldExpr delegate) children in_callee = assignment
own_level kind.CondExpr children in_callee = assignment
own_level (kind.BinExpr o) children in_callee = operator_level o
own_level (kind.UnaryExpr o) children in_callee = unary
own_level kind.AwaitExpr children in_callee = unary
own_level (kind.UpdateExpr o prefix) children in_callee = update
own_level (kind.OptChainExpr optional) children in_callee = chain
own_level kind.CallExpr children in_callee = object
own_level kind.NewExpr children in_callee = new_level (lacks_arguments children)
own_level (kind.Number value raw) children in_callee = numeral
own_level kind.MemberExpr children in_callee = member_level in_callee
own_level kind.TaggedTpl children in_callee = member_level in_callee
own_level k children in_callee = new_callee

-- the levels one behind the other; a numeral is beside a callee
abbrev pub rank : Level → ℕ
rank new_callee = 0
rank object = 1
rank numeral = 2
rank callee = 2
rank chain = 3
rank left_hand_side = 4
rank update = 5
rank unary = 6
rank power = 7
rank product = 8
rank sum = 9
rank shift = 10
rank relation = 11
rank equality = 12
rank bit_and = 13
rank bit_xor = 14
rank bit_or = 15
rank logical_and = 16
rank logical_or = 17
rank coalescing = 18
rank short_circuit = 19
rank assignment = 20
rank sequence = 21

abbrev pub IsWithin : ℕ → Level → Type 0
IsWithin most a = nat_le (rank a) most ≡ true

module _ {e : Node} where
  pub to_object : (a : Level) → IsWithin 1 a → IsExpression a e → IsExpression object e
  to_object object h x = x
  to_object new_callee h x = looser x
  to_object a h x = absurd (cc)

  pub to_callee : (a : Level) → IsWithin 2 a → IsExpression a e → IsExpression callee e
  to_callee callee h x = x
  to_callee numeral h x = looser x
  to_callee a h x = looser (to_object a h x)

  pub to_left_hand_side : (a : Level) → IsWithin 4 a → IsExpression a e → IsExpression left_hand_side e
  to_left_hand_side left_hand_side h x = x
  to_left_hand_side chain h x = looser x
  to_left_hand_side a h x = looser (to_callee a h x)

  pub to_update : (a : Level) → IsWithin 5 a → IsExpression a e → IsExpression update e
  to_update update h x = x
  to_update a h x = looser (to_left_hand_side a h x)

  pub to_unary : (a : Level) → IsWithin 6 a → IsExpression a e → IsExpression unary e
  to_unary unary h x = x
  to_unary a h x = looser (to_update a h x)

  pub to_power : (a : Level) → IsWithin 7 a → IsExpression a e → IsExpression power e
  to_power power h x = x
  to_power a h x = looser (to_unary a h x)

  pub to_product : (a : Level) → IsWithin 8 a → IsExpression a e → IsExpression product e
  to_product product h x = x
  to_product a h x = looser (to_power a h x)

  pub to_sum : (a : Level) → IsWithin 9 a → IsExpression a e → IsExpression sum e
  to_sum sum h x = x
  to_sum a h x = looser (to_product a h x)

  pub to_shift : (a : Level) → IsWithin 10 a → IsExpression a e → IsExpression shift e
  to_shift shift h x = x
  to_shift a h x = looser (to_sum a h x)

  pub to_relation : (a : Level) → IsWithin 11 a → IsExpression a e → IsExpression relation e
  to_relation relation h x = x
  to_relation a h x = looser (to_shift a h x)

  pub to_equality : (a : Level) → IsWithin 12 a → IsExpression a e → IsExpression equality e
  to_equality equality h x = x
  to_equality a h x = looser (to_relation a h x)

  pub to_bit_and : (a : Level) → IsWithin 13 a → IsExpression a e → IsExpression bit_and e
  to_bit_and bit_and h x = x
  to_bit_and a h x = looser (to_equality a h x)

  pub to_bit_xor : (a : Level) → IsWithin 14 a → IsExpression a e → IsExpression bit_xor e
  to_bit_xor bit_xor h x = x
  to_bit_xor a h x = looser (to_bit_and a h x)

  pub to_bit_or : (a : Level) → IsWithin 15 a → IsExpression a e → IsExpression bit_or e
  to_bit_or bit_or h x = x
  to_bit_or a h x = looser (to_bit_xor a h x)

  pub to_logical_and : (a : Level) → IsWithin 16 a → IsExpression a e → IsExpression logical_and e
  to_logical_and logical_and h x = x
  to_logical_and a h x = looser (to_bit_or a h x)

  pub to_logical_or : (a : Level) → IsWithin 17 a → IsExpression a e → IsExpression logical_or e
  to_logical_or logical_or h x = x
  to_logical_or a h x = looser (to_logical_and a h x)

  pub to_short_circuit : (a : Level) → IsWithin 19 a → IsExpression a e → IsExpression short_circuit e
  to_short_circuit short_circuit h x = x
  to_short_circuit coalescing h x = looser x
  to_short_circuit a h x = looser (to_logical_or a h x)

  pub to_assignment : (a : Level) → IsWithin 20 a → IsExpression a e → IsExpression assignment e
  to_assignment assignment h x = x
  to_assignment a h x = looser (to_short_circuit a h x)
