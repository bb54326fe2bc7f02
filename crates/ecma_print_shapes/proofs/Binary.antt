-- Operators of two operands have their shapes.
use Rattle.std.proofs.Common.{◌≡◌, ◌⊎◌, inl, inr, refl, sym, subst, true, false, List, [], ◌∷◌, map, arith, ltb}
use Rattle.ecma_kind.specs.Sorts.{is_expr}
use Rattle.ecma_kind.specs.declared.span.Span.{Span}
use Rattle.ecma_kind.specs.declared.kind.Kind.{Kind}
use Rattle.ecma_kind.specs.declared.kind.Kind.TheVariants as kind
use Rattle.ecma_kind.specs.declared.operators.BinaryOp.{BinaryOp}
use Rattle.ecma_kind.specs.declared.operators.BinaryOp.TheVariants as op
use Rattle.ecma_kind.specs.declared.shapes.Shape.{Shape}
use Rattle.ecma_kind.specs.declared.shapes.Sort.TheVariants as sort
use Rattle.ecma_tree.specs.declared.node.Node.{Node}
use Rattle.ecma_tree.specs.Nodes.{node_of}
use Rattle.ecma_tree.specs.Sorted.{allows, one}
use Rattle.ecma_rules.specs.declared.target.Target.{Target}
use Rattle.ecma_rules.specs.declared.target.Target.TheVariants as target
use Rattle.ecma_rules.specs.Children.{kind_of}
use Rattle.ecma_rules.specs.Targets.{target_in}
use Rattle.ecma_covers.specs.Covering.{cover_at, cover_in}
use Rattle.ecma_fits.specs.declared.role.Role.{Role}
use Rattle.ecma_fits.specs.declared.role.Role.TheVariants as role
use Rattle.ecma_fits.specs.Roles.{is_free, operand_of, role_in}
use Rattle.ecma_print.specs.declared.place.Spot.{Spot}
use Rattle.ecma_print.specs.Layout.{laid}
use Rattle.ecma_print.specs.Operators.{binary_level, left_level, right_level, under}
use Rattle.ecma_print.specs.Places.{left, right}
use Rattle.ecma_shapes.specs.Shapes.{Level, coalescing, relation, shift, IsExpression, private_in, times, divided, modulo, plus, minus, left_shift, right_shift, unsigned_shift, less, greater, at_most, at_least, instance_of, contained, equal, unequal, same, other, conjunction, exclusion, disjunction, first_head, next_head, binary_expression, exponentiation, both, either, coalesced}
use Rattle.ecma_print_shapes.proofs.Claims.{AllFormed, Expressed, Formed, IsPrivateName, Proper, a_private_name, free_there, free_value, is_of_link, reads_values, seen}
use Rattle.ecma_print_shapes.proofs.Covered.{covered_children}
use Rattle.ecma_print_shapes.proofs.Ranks.{IsWithin, operator_level, own_level, to_bit_and, to_bit_or, to_bit_xor, to_equality, to_logical_and, to_logical_or, to_power, to_product, to_relation, to_shift, to_sum, to_update}
use Rattle.ecma_print_shapes.proofs.Seats.{left_of_coalesced, left_of_either, right_of_coalesced}
use Rattle.ecma_print_shapes.proofs.Sound.{Here, Sound}
use Rattle.ecma_print_shapes.proofs.Spots.{child_value, low_outside, proper_left, proper_right, tight}

-- the operands

operands : (o : BinaryOp) → is_of_link (under o) ≡ false
operands op.NullishCoalescing = refl
operands op.LogicalOr = refl
operands op.LogicalAnd = refl
operands o = refl

operand_reads : (o : BinaryOp) → reads_values (operand_of o) ≡ true
operand_reads op.In = refl
operand_reads o = refl

operator_low : (o : BinaryOp) → ltb (binary_level o) 16 ≡ true
operator_low op.In = refl
operator_low o = refl

-- what stands on the left: a private name before `in` alone
data LeftOperand (o : BinaryOp) (n : Node) : Type 0 where
  value_operand : is_free (kind_of n) ≡ true → LeftOperand o n
  private_operand : o ≡ op.In → IsPrivateName (cover_at n target.Free) → LeftOperand o n

data LeftKind (k : Kind) : Type 0 where
  value_left : is_free k ≡ true → LeftKind k
  private_left : allows (one sort.PrivateName) k ≡ true → LeftKind k

left_kind : (k : Kind) → is_expr k ≡ true → LeftKind k
left_kind (kind.PrivateName name) h = private_left refl
left_kind kind.AssignProp h = absurd (cc)
left_kind k h = value_left refl

left_operand : (o : BinaryOp) (spot : Spot) (n : Node) → Formed n → Sound (operand_of o) spot (one sort.Expr) n → LeftOperand o n
left_operand op.In spot n f s = go (left_kind (kind_of n) (seen n s).allowed)
  where
    go : LeftKind (kind_of n) → LeftOperand op.In n
    go (value_left h) = value_operand h
    go (private_left h) = private_operand refl (f.private_name role.Private spot (one sort.Expr) s h)
left_operand o spot n f s = value_operand (free_there n s)

-- values on both sides
pub record Operands (spot : Spot) (o : BinaryOp) (a b : Node) : Type 0 where
  pub outside : spot.in_callee_of_new ≡ false
  pub first : Expressed target.Free (left spot (left_level o) (under o)) a
  pub second : Expressed target.Free (right spot (right_level o) (under o)) b

module _ {r : Role} {spot : Spot} {shape : Shape} (at : Span) (o : BinaryOp) where
  second_of : (a b : Node) → AllFormed (a ∷ b ∷ []) → Here r spot shape at (kind.BinExpr o) (a ∷ b ∷ []) → Expressed target.Free (right spot (right_level o) (under o)) b
  unfolding role_in
  second_of a b f h = child_value f.1.0 h.below.1.0 refl (proper_right spot (right_level o) (under o) (operands o))

  operands_of : (a b : Node) → AllFormed (a ∷ b ∷ []) → Here r spot shape at (kind.BinExpr o) (a ∷ b ∷ []) → Proper spot → is_free (kind_of a) ≡ true → Operands spot o a b
  unfolding role_in
  operands_of a b f h p is_value =
      let out = low_outside (kind.BinExpr o) (map laid (a ∷ b ∷ [])) spot p (operator_low o) h.open_there in
      let x = seen a h.below.0 in
      record {
        outside = out;
        first = f.0.expression (operand_of o) target.Free (left spot (left_level o) (under o)) (one sort.Expr) h.below.0 (proper_left spot (left_level o) (under o) out (operands o)) (operand_reads o) (free_value (kind_of a) x.allowed x.bare.1 is_value);
        second = second_of a b f h;
      }

module _ (spot : Spot) (at : Span) (a b : Node) where
  -- an operand at the level of its side
  module _ {o : BinaryOp} (s : Operands spot o a b) where
    abbrev first_own : Level
    first_own = own_level s.first.kind s.first.children spot.in_callee_of_new

    abbrev second_own : Level
    second_own = own_level s.second.kind s.second.children false

  abbrev Made : BinaryOp → Type 0
  Made o = IsExpression (operator_level o) (node_of at (kind.BinExpr o) (cover_at a target.Free ∷ cover_at b target.Free ∷ []))

  coalesced_made : (s : Operands spot op.NullishCoalescing a b) → (first_own s ≡ coalescing) ⊎ IsWithin 15 (first_own s) → Made op.NullishCoalescing
  coalesced_made s (inl e) = coalesced at next_head (subst (λ l. IsExpression l (cover_at a target.Free)) e s.first.shape) (to_bit_or (second_own s) (right_of_coalesced s.second.children spot s.second.kind s.second.open_there) s.second.shape)
  coalesced_made s (inr w) = coalesced at first_head (to_bit_or (first_own s) w s.first.shape) (to_bit_or (second_own s) (right_of_coalesced s.second.children spot s.second.kind s.second.open_there) s.second.shape)

  pub made : (o : BinaryOp) → Operands spot o a b → Made o
  made op.Mul s = binary_expression at times (to_product (first_own s) (tight s.first (omega arith) (omega arith)) s.first.shape) (to_power (second_own s) (tight s.second (omega arith) (omega arith)) s.second.shape)
  made op.Div s = binary_expression at divided (to_product (first_own s) (tight s.first (omega arith) (omega arith)) s.first.shape) (to_power (second_own s) (tight s.second (omega arith) (omega arith)) s.second.shape)
  made op.Mod s = binary_expression at modulo (to_product (first_own s) (tight s.first (omega arith) (omega arith)) s.first.shape) (to_power (second_own s) (tight s.second (omega arith) (omega arith)) s.second.shape)
  made op.Add s = binary_expression at plus (to_sum (first_own s) (tight s.first (omega arith) (omega arith)) s.first.shape) (to_product (second_own s) (tight s.second (omega arith) (omega arith)) s.second.shape)
  made op.Sub s = binary_expression at minus (to_sum (first_own s) (tight s.first (omega arith) (omega arith)) s.first.shape) (to_product (second_own s) (tight s.second (omega arith) (omega arith)) s.second.shape)
  made op.LShift s = binary_expression at left_shift (to_shift (first_own s) (tight s.first (omega arith) (omega arith)) s.first.shape) (to_sum (second_own s) (tight s.second (omega arith) (omega arith)) s.second.shape)
  made op.RShift s = binary_expression at right_shift (to_shift (first_own s) (tight s.first (omega arith) (omega arith)) s.first.shape) (to_sum (second_own s) (tight s.second (omega arith) (omega arith)) s.second.shape)
  made op.ZeroFillRShift s = binary_expression at unsigned_shift (to_shift (first_own s) (tight s.first (omega arith) (omega arith)) s.first.shape) (to_sum (second_own s) (tight s.second (omega arith) (omega arith)) s.second.shape)
  made op.Lt s = binary_expression at less (to_relation (first_own s) (tight s.first (omega arith) (omega arith)) s.first.shape) (to_shift (second_own s) (tight s.second (omega arith) (omega arith)) s.second.shape)
  made op.Gt s = binary_expression at greater (to_relation (first_own s) (tight s.first (omega arith) (omega arith)) s.first.shape) (to_shift (second_own s) (tight s.second (omega arith) (omega arith)) s.second.shape)
  made op.LtEq s = binary_expression at at_most (to_relation (first_own s) (tight s.first (omega arith) (omega arith)) s.first.shape) (to_shift (second_own s) (tight s.second (omega arith) (omega arith)) s.second.shape)
  made op.GtEq s = binary_expression at at_least (to_relation (first_own s) (tight s.first (omega arith) (omega arith)) s.first.shape) (to_shift (second_own s) (tight s.second (omega arith) (omega arith)) s.second.shape)
  made op.InstanceOf s = binary_expression at instance_of (to_relation (first_own s) (tight s.first (omega arith) (omega arith)) s.first.shape) (to_shift (second_own s) (tight s.second (omega arith) (omega arith)) s.second.shape)
  made op.In s = binary_expression at contained (to_relation (first_own s) (tight s.first (omega arith) (omega arith)) s.first.shape) (to_shift (second_own s) (tight s.second (omega arith) (omega arith)) s.second.shape)
  made op.EqEq s = binary_expression at equal (to_equality (first_own s) (tight s.first (omega arith) (omega arith)) s.first.shape) (to_relation (second_own s) (tight s.second (omega arith) (omega arith)) s.second.shape)
  made op.NotEq s = binary_expression at unequal (to_equality (first_own s) (tight s.first (omega arith) (omega arith)) s.first.shape) (to_relation (second_own s) (tight s.second (omega arith) (omega arith)) s.second.shape)
  made op.EqEqEq s = binary_expression at same (to_equality (first_own s) (tight s.first (omega arith) (omega arith)) s.first.shape) (to_relation (second_own s) (tight s.second (omega arith) (omega arith)) s.second.shape)
  made op.NotEqEq s = binary_expression at other (to_equality (first_own s) (tight s.first (omega arith) (omega arith)) s.first.shape) (to_relation (second_own s) (tight s.second (omega arith) (omega arith)) s.second.shape)
  made op.BitAnd s = binary_expression at conjunction (to_bit_and (first_own s) (tight s.first (omega arith) (omega arith)) s.first.shape) (to_equality (second_own s) (tight s.second (omega arith) (omega arith)) s.second.shape)
  made op.BitXor s = binary_expression at exclusion (to_bit_xor (first_own s) (tight s.first (omega arith) (omega arith)) s.first.shape) (to_bit_and (second_own s) (tight s.second (omega arith) (omega arith)) s.second.shape)
  made op.BitOr s = binary_expression at disjunction (to_bit_or (first_own s) (tight s.first (omega arith) (omega arith)) s.first.shape) (to_bit_xor (second_own s) (tight s.second (omega arith) (omega arith)) s.second.shape)
  made op.Exp s = exponentiation at (to_update (first_own s) (tight s.first (omega arith) (omega arith)) s.first.shape) (to_power (second_own s) (tight s.second (omega arith) (omega arith)) s.second.shape)
  made op.LogicalAnd s = both at (to_logical_and (first_own s) (tight s.first (omega arith) (omega arith)) s.first.shape) (to_bit_or (second_own s) (tight s.second (omega arith) (omega arith)) s.second.shape)
  made op.LogicalOr s = either at (to_logical_or (first_own s) (left_of_either s.first.children spot s.first.kind s.first.open_there) s.first.shape) (to_logical_and (second_own s) (tight s.second (omega arith) (omega arith)) s.second.shape)
  made op.NullishCoalescing s = coalesced_made s (left_of_coalesced s.first.children spot s.first.kind s.first.open_there)

-- whether an object has a private name
private_made : (at : Span) (n b : Node) → IsPrivateName n → IsExpression shift b → IsExpression relation (node_of at (kind.BinExpr op.In) (n ∷ b ∷ []))
private_made at n b (a_private_name at_name name token) right_is = private_in at at_name name token right_is

module _ {r : Role} {spot : Spot} {shape : Shape} (at : Span) (a b : Node) (f : AllFormed (a ∷ b ∷ [])) (p : Proper spot) where
  by_operand : (o : BinaryOp) → Here r spot shape at (kind.BinExpr o) (a ∷ b ∷ []) → LeftOperand o a → IsExpression (operator_level o) (node_of at (kind.BinExpr o) (cover_at a target.Free ∷ cover_at b target.Free ∷ []))
  by_operand o h (value_operand is) = made spot at a b o (operands_of at o a b f h p is)
  by_operand o h (private_operand e is) =
      let right_of = second_of at op.In a b f (subst (λ z. Here r spot shape at (kind.BinExpr z) (a ∷ b ∷ [])) e h) in
      subst (λ z. IsExpression (operator_level z) (node_of at (kind.BinExpr z) (cover_at a target.Free ∷ cover_at b target.Free ∷ []))) (sym e)
      (private_made at (cover_at a target.Free) (cover_at b target.Free) is (to_shift (own_level right_of.kind right_of.children false) (tight right_of (omega arith) (omega arith)) right_of.shape))

module _ {r : Role} {spot : Spot} {shape : Shape} (t : Target) (at : Span) (o : BinaryOp) where
  pub binary_formed : (cs : List Node) → AllFormed cs → Here r spot shape at (kind.BinExpr o) cs → Proper spot → IsExpression (operator_level o) (node_of at (kind.BinExpr o) (covered_children t (kind.BinExpr o) cs))
  unfolding cover_in target_in role_in
  binary_formed [] f h p = absurd h.below
  binary_formed (a ∷ []) f h p = absurd h.below.1
  binary_formed (a ∷ b ∷ []) f h p = by_operand at a b f p o h (left_operand o (left spot (left_level o) (under o)) a f.0 h.below.0)
  binary_formed (a ∷ b ∷ c ∷ cs) f h p = absurd h.below.1.1
