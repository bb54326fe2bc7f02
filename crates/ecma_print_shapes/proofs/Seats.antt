-- What needs no parentheses in its spot binds as tightly as the spot asks.
use Rattle.std.proofs.Common.{◌≡◌, ◌⊎◌, inl, inr, refl, ℕ, ◌+◌, ◌-◌, ◌≤◌, ◌<◌, Bool, true, false, ◌&&◌, ◌||◌, List, arith, ltb, nat_le}
use Rattle.std.proofs.lemmas.Bool.Decides.{leb_tells, nat_tests}
use Rattle.ecma_kind.specs.declared.kind.Kind.{Kind}
use Rattle.ecma_kind.specs.declared.kind.Kind.TheVariants as kind
use Rattle.ecma_kind.specs.declared.operators.BinaryOp.{BinaryOp}
use Rattle.ecma_kind.specs.declared.operators.BinaryOp.TheVariants as op
use Rattle.ecma_print.specs.declared.place.Beside.TheVariants as beside
use Rattle.ecma_print.specs.declared.place.Spot.{Spot}
use Rattle.ecma_print.specs.Laid.{Laid}
use Rattle.ecma_print.specs.Levels.{in_parentheses, lacks_arguments, level_of}
use Rattle.ecma_print.specs.Operators.{binary_level}
use Rattle.ecma_print.specs.Places.{left, right}
use Rattle.ecma_shapes.specs.Shapes.{coalescing}
use Rattle.ecma_print_shapes.proofs.Ranks.{IsWithin, member_level, new_level, operator_level, own_level}

pub either_parts : (a b : Bool) → (a || b) ≡ false → (a ≡ false) × (b ≡ false)
either_parts true b h = cc
either_parts false b h = (refl, h)

pub both_false : (a b : Bool) → (a && b) ≡ false → a ≡ true → b ≡ false
both_false true b h e = h
both_false false b h e = cc

-- numbers from 4 to 16

at_least : (v n : ℕ) → ltb v n ≡ false → n ≤ v
at_least v n h = grind (arith, leb_tells)

by_number : (r v n : ℕ) → r + v ≤ 20 → ltb v n ≡ false → nat_le r (20 - n) ≡ true
by_number r v n sum h = let low = at_least v n h in grind (arith, nat_tests)

by_rank : (r n : ℕ) → r ≤ 4 → n ≤ 16 → nat_le r (20 - n) ≡ true
by_rank r n small high = grind (arith, nat_tests)

too_loose : {A : Type 0} (v n : ℕ) → v < 4 → 4 ≤ n → ltb v n ≡ false → A
too_loose v n small big h = let low = at_least v n h in absurd (omega arith)

operator_binds : (o : BinaryOp) (n : ℕ) → 4 ≤ n → ltb (binary_level o) n ≡ false → IsWithin (20 - n) (operator_level o)
operator_binds op.NullishCoalescing n big h = too_loose 3 n (omega arith) big h
operator_binds op.LogicalOr n big h = too_loose 3 n (omega arith) big h
operator_binds op.LogicalAnd n big h = by_number 16 4 n (omega arith) h
operator_binds op.BitOr n big h = by_number 15 5 n (omega arith) h
operator_binds op.BitXor n big h = by_number 14 6 n (omega arith) h
operator_binds op.BitAnd n big h = by_number 13 7 n (omega arith) h
operator_binds op.EqEq n big h = by_number 12 8 n (omega arith) h
operator_binds op.NotEq n big h = by_number 12 8 n (omega arith) h
operator_binds op.EqEqEq n big h = by_number 12 8 n (omega arith) h
operator_binds op.NotEqEq n big h = by_number 12 8 n (omega arith) h
operator_binds op.Lt n big h = by_number 11 9 n (omega arith) h
operator_binds op.LtEq n big h = by_number 11 9 n (omega arith) h
operator_binds op.Gt n big h = by_number 11 9 n (omega arith) h
operator_binds op.GtEq n big h = by_number 11 9 n (omega arith) h
operator_binds op.In n big h = by_number 11 9 n (omega arith) h
operator_binds op.InstanceOf n big h = by_number 11 9 n (omega arith) h
operator_binds op.LShift n big h = by_number 10 10 n (omega arith) h
operator_binds op.RShift n big h = by_number 10 10 n (omega arith) h
operator_binds op.ZeroFillRShift n big h = by_number 10 10 n (omega arith) h
operator_binds op.Add n big h = by_number 9 11 n (omega arith) h
operator_binds op.Sub n big h = by_number 9 11 n (omega arith) h
operator_binds op.Mul n big h = by_number 8 12 n (omega arith) h
operator_binds op.Div n big h = by_number 8 12 n (omega arith) h
operator_binds op.Mod n big h = by_number 8 12 n (omega arith) h
operator_binds op.Exp n big h = by_number 7 13 n (omega arith) h

member_binds : (c : Bool) (n : ℕ) → n ≤ 16 → IsWithin (20 - n) (member_level c)
member_binds true n high = by_rank 0 n (omega arith) high
member_binds false n high = by_rank 1 n (omega arith) high

new_binds : (alone : Bool) (n : ℕ) → n ≤ 16 → IsWithin (20 - n) (new_level alone)
new_binds true n high = by_rank 4 n (omega arith) high
new_binds false n high = by_rank 0 n (omega arith) high

module _ (children : List Laid) (c : Bool) where
  pub binds : (k : Kind) (n : ℕ) → 4 ≤ n → n ≤ 16 → ltb (level_of k) n ≡ false → IsWithin (20 - n) (own_level k children c)
  binds kind.SeqExpr n big high h = too_loose 0 n (omega arith) big h
  binds (kind.AssignExpr o) n big high h = too_loose 1 n (omega arith) big h
  binds (kind.ArrowExpr is_async is_generator) n big high h = too_loose 1 n (omega arith) big h
  binds (kind.YieldExpr delegate) n big high h = too_loose 1 n (omega arith) big h
  binds kind.CondExpr n big high h = too_loose 2 n (omega arith) big h
  binds (kind.BinExpr o) n big high h = operator_binds o n big h
  binds (kind.UnaryExpr o) n big high h = by_number 6 14 n (omega arith) h
  binds kind.AwaitExpr n big high h = by_number 6 14 n (omega arith) h
  binds (kind.UpdateExpr o prefix) n big high h = by_number 5 15 n (omega arith) h
  binds (kind.OptChainExpr optional) n big high h = by_rank 3 n (omega arith) high
  binds kind.CallExpr n big high h = by_rank 1 n (omega arith) high
  binds kind.NewExpr n big high h = new_binds (lacks_arguments children) n high
  binds (kind.Number value raw) n big high h = by_rank 2 n (omega arith) high
  binds kind.MemberExpr n big high h = member_binds c n high
  binds kind.TaggedTpl n big high h = member_binds c n high
  binds k n big high h = by_rank 0 n (omega arith) high

  -- at the levels of assignments, of tests, and of the operands of `??`, `||` and `&&`

  operator_assigned : (o : BinaryOp) → IsWithin 20 (operator_level o)
  operator_assigned op.Exp = refl
  operator_assigned o = refl

  new_within : (alone : Bool) (most : ℕ) → nat_le 4 most ≡ true → IsWithin most (new_level alone)
  new_within true most h = h
  new_within false most h = grind (arith, nat_tests)

  member_within : (most : ℕ) → nat_le 1 most ≡ true → IsWithin most (member_level c)
  member_within most h = go c
    where
      go : (b : Bool) → IsWithin most (member_level b)
      go true = grind (arith, nat_tests)
      go false = h

  pub at_assignment : (k : Kind) → ltb (level_of k) 1 ≡ false → IsWithin 20 (own_level k children c)
  at_assignment kind.SeqExpr h = cc
  at_assignment (kind.BinExpr o) h = operator_assigned o
  at_assignment kind.NewExpr h = new_within (lacks_arguments children) 20 refl
  at_assignment kind.MemberExpr h = member_within 20 refl
  at_assignment kind.TaggedTpl h = member_within 20 refl
  at_assignment k h = refl

  operator_tested : (o : BinaryOp) → IsWithin 19 (operator_level o)
  operator_tested op.Exp = refl
  operator_tested o = refl

  pub at_test : (k : Kind) → ltb (level_of k) 3 ≡ false → IsWithin 19 (own_level k children c)
  at_test kind.SeqExpr h = cc
  at_test (kind.AssignExpr o) h = cc
  at_test (kind.ArrowExpr is_async is_generator) h = cc
  at_test (kind.YieldExpr delegate) h = cc
  at_test kind.CondExpr h = cc
  at_test (kind.BinExpr o) h = operator_tested o
  at_test kind.NewExpr h = new_within (lacks_arguments children) 19 refl
  at_test kind.MemberExpr h = member_within 19 refl
  at_test kind.TaggedTpl h = member_within 19 refl
  at_test k h = refl

module _ (children : List Laid) (spot : Spot) where
  either_operand : (o : BinaryOp) → in_parentheses (kind.BinExpr o) children (left spot 3 beside.UnderLogical) ≡ false → IsWithin 17 (operator_level o)
  either_operand op.NullishCoalescing h = cc
  either_operand op.In h = refl
  either_operand o h = refl

  -- left of `||`
  pub left_of_either : (k : Kind) → in_parentheses k children (left spot 3 beside.UnderLogical) ≡ false → IsWithin 17 (own_level k children spot.in_callee_of_new)
  left_of_either kind.SeqExpr h = cc
  left_of_either (kind.AssignExpr o) h = cc
  left_of_either (kind.ArrowExpr is_async is_generator) h = cc
  left_of_either (kind.YieldExpr delegate) h = cc
  left_of_either kind.CondExpr h = cc
  left_of_either (kind.BinExpr o) h = either_operand o h
  left_of_either kind.NewExpr h = new_within children spot.in_callee_of_new (lacks_arguments children) 17 refl
  left_of_either kind.MemberExpr h = member_within children spot.in_callee_of_new 17 refl
  left_of_either kind.TaggedTpl h = member_within children spot.in_callee_of_new 17 refl
  left_of_either k h = refl

  coalesced_operand : (o : BinaryOp) → in_parentheses (kind.BinExpr o) children (left spot 3 beside.UnderNullish) ≡ false → (operator_level o ≡ coalescing) ⊎ IsWithin 15 (operator_level o)
  coalesced_operand op.NullishCoalescing h = inl refl
  coalesced_operand op.LogicalOr h = cc
  coalesced_operand op.LogicalAnd h = cc
  coalesced_operand o h = inr refl

  -- left of `??`
  pub left_of_coalesced : (k : Kind) → in_parentheses k children (left spot 3 beside.UnderNullish) ≡ false
      → (own_level k children spot.in_callee_of_new ≡ coalescing) ⊎ IsWithin 15 (own_level k children spot.in_callee_of_new)
  left_of_coalesced kind.SeqExpr h = cc
  left_of_coalesced (kind.AssignExpr o) h = cc
  left_of_coalesced (kind.ArrowExpr is_async is_generator) h = cc
  left_of_coalesced (kind.YieldExpr delegate) h = cc
  left_of_coalesced kind.CondExpr h = cc
  left_of_coalesced (kind.BinExpr o) h = coalesced_operand o h
  left_of_coalesced kind.NewExpr h = inr (new_within children spot.in_callee_of_new (lacks_arguments children) 15 refl)
  left_of_coalesced kind.MemberExpr h = inr (member_within children spot.in_callee_of_new 15 refl)
  left_of_coalesced kind.TaggedTpl h = inr (member_within children spot.in_callee_of_new 15 refl)
  left_of_coalesced k h = inr refl

  nullish_operand : (o : BinaryOp) → in_parentheses (kind.BinExpr o) children (right spot 4 beside.UnderNullish) ≡ false → IsWithin 15 (operator_level o)
  nullish_operand op.NullishCoalescing h = cc
  nullish_operand op.LogicalOr h = cc
  nullish_operand op.LogicalAnd h = cc
  nullish_operand o h = refl

  -- right of `??`
  pub right_of_coalesced : (k : Kind) → in_parentheses k children (right spot 4 beside.UnderNullish) ≡ false → IsWithin 15 (own_level k children false)
  right_of_coalesced kind.SeqExpr h = cc
  right_of_coalesced (kind.AssignExpr o) h = cc
  right_of_coalesced (kind.ArrowExpr is_async is_generator) h = cc
  right_of_coalesced (kind.YieldExpr delegate) h = cc
  right_of_coalesced kind.CondExpr h = cc
  right_of_coalesced (kind.BinExpr o) h = nullish_operand o h
  right_of_coalesced kind.NewExpr h = new_within children false (lacks_arguments children) 15 refl
  right_of_coalesced kind.MemberExpr h = member_within children false 15 refl
  right_of_coalesced kind.TaggedTpl h = member_within children false 15 refl
  right_of_coalesced k h = refl
