-- What stands as an object, a callee or a tag without parentheses.
use Rattle.std.proofs.Common.{◌≡◌, ◌⊎◌, inl, inr, refl, ℕ, Bool, true, false, ◌&&◌, ◌||◌, List, ltb, nat_le, cond}
use Rattle.ecma_kind.specs.declared.kind.Kind.{Kind}
use Rattle.ecma_kind.specs.declared.kind.Kind.TheVariants as kind
use Rattle.ecma_kind.specs.declared.operators.BinaryOp.{BinaryOp}
use Rattle.ecma_kind.specs.declared.operators.BinaryOp.TheVariants as op
use Rattle.ecma_print.specs.declared.place.Beside.TheVariants as beside
use Rattle.ecma_print.specs.declared.place.Spot.{Spot}
use Rattle.ecma_print.specs.Laid.{Laid}
use Rattle.ecma_print.specs.Levels.{in_parentheses, lacks_arguments}
use Rattle.ecma_print.specs.Expressions.{callee_spot}
use Rattle.ecma_print.specs.Operators.{binary_level}
use Rattle.ecma_print.specs.Places.{left}
use Rattle.ecma_shapes.specs.Shapes.{Level, chain, callee, new_callee, numeral, object}
use Rattle.ecma_print_shapes.proofs.Ranks.{IsWithin, member_level, new_level, own_level, rank}

-- no operator of two operands does
binary_low : {A : Type 0} (o : BinaryOp) (n : Bool) → (ltb (binary_level o) 16 || n) ≡ false → A
binary_low op.Exp n h = absurd (cc)
binary_low o n h = absurd (cc)

binary_lower : {A : Type 0} (o : BinaryOp) (n : Bool) → (ltb (binary_level o) 17 || n) ≡ false → A
binary_lower op.Exp n h = absurd (cc)
binary_lower o n h = absurd (cc)

-- what stands before brackets, arguments or a template, but for a numeral
abbrev pub before_link : Bool → Level
before_link in_callee = cond in_callee new_callee callee

module _ (children : List Laid) (spot : Spot) where
  alone_false : (alone : Bool) → (false || (true && alone)) ≡ false → alone ≡ false
  alone_false true h = cc
  alone_false false h = refl

  new_here : (alone : Bool) (most : ℕ) → nat_le 0 most ≡ true → alone ≡ false → IsWithin most (new_level alone)
  new_here true most z h = cc
  new_here false most z h = z

  member_here : (c : Bool) → IsWithin (rank (member_level c)) (member_level c)
  member_here true = refl
  member_here false = refl

  member_linked : (c : Bool) → IsWithin (rank (before_link c)) (member_level c)
  member_linked true = refl
  member_linked false = refl

  zero_first : (c : Bool) → nat_le 0 (rank (member_level c)) ≡ true
  zero_first true = refl
  zero_first false = refl

  zero_linked : (c : Bool) → nat_le 0 (rank (before_link c)) ≡ true
  zero_linked true = refl
  zero_linked false = refl

  call_here : (c : Bool) → (false || c) ≡ false → IsWithin (rank (member_level c)) object
  call_here true h = cc
  call_here false h = refl

  call_linked : (c : Bool) → (false || c) ≡ false → IsWithin (rank (before_link c)) object
  call_linked true h = cc
  call_linked false h = refl

  -- before a point
  pub at_object : (k : Kind) → in_parentheses k children (left spot 16 beside.BeforeDot) ≡ false → IsWithin (rank (member_level spot.in_callee_of_new)) (own_level k children spot.in_callee_of_new)
  at_object kind.SeqExpr h = absurd (cc)
  at_object (kind.AssignExpr o) h = absurd (cc)
  at_object (kind.ArrowExpr is_async is_generator) h = absurd (cc)
  at_object (kind.YieldExpr delegate) h = absurd (cc)
  at_object kind.CondExpr h = absurd (cc)
  at_object (kind.BinExpr o) h = binary_low o _ h
  at_object (kind.UnaryExpr o) h = absurd (cc)
  at_object kind.AwaitExpr h = absurd (cc)
  at_object (kind.UpdateExpr o prefix) h = absurd (cc)
  at_object (kind.OptChainExpr optional) h = absurd (cc)
  at_object (kind.Number value raw) h = absurd (cc)
  at_object kind.CallExpr h = call_here spot.in_callee_of_new h
  at_object kind.NewExpr h = new_here (lacks_arguments children) (rank (member_level spot.in_callee_of_new)) (zero_first spot.in_callee_of_new) (alone_false (lacks_arguments children) h)
  at_object kind.MemberExpr h = member_here spot.in_callee_of_new
  at_object kind.TaggedTpl h = member_here spot.in_callee_of_new
  at_object k h = zero_first spot.in_callee_of_new

  -- before brackets, arguments or a template
  pub at_link : (k : Kind) → in_parentheses k children (left spot 16 beside.BeforeLink) ≡ false
      → (own_level k children spot.in_callee_of_new ≡ numeral) ⊎ IsWithin (rank (before_link spot.in_callee_of_new)) (own_level k children spot.in_callee_of_new)
  at_link kind.SeqExpr h = absurd (cc)
  at_link (kind.AssignExpr o) h = absurd (cc)
  at_link (kind.ArrowExpr is_async is_generator) h = absurd (cc)
  at_link (kind.YieldExpr delegate) h = absurd (cc)
  at_link kind.CondExpr h = absurd (cc)
  at_link (kind.BinExpr o) h = binary_low o _ h
  at_link (kind.UnaryExpr o) h = absurd (cc)
  at_link kind.AwaitExpr h = absurd (cc)
  at_link (kind.UpdateExpr o prefix) h = absurd (cc)
  at_link (kind.OptChainExpr optional) h = absurd (cc)
  at_link (kind.Number value raw) h = inl refl
  at_link kind.CallExpr h = inr (call_linked spot.in_callee_of_new h)
  at_link kind.NewExpr h = inr (new_here (lacks_arguments children) (rank (before_link spot.in_callee_of_new)) (zero_linked spot.in_callee_of_new) (alone_false (lacks_arguments children) h))
  at_link kind.MemberExpr h = inr (member_linked spot.in_callee_of_new)
  at_link kind.TaggedTpl h = inr (member_linked spot.in_callee_of_new)
  at_link k h = inr (zero_linked spot.in_callee_of_new)

  -- what `new` constructs
  pub at_constructor : (k : Kind) → in_parentheses k children (callee_spot spot) ≡ false → (own_level k children true ≡ numeral) ⊎ IsWithin 0 (own_level k children true)
  at_constructor kind.SeqExpr h = absurd (cc)
  at_constructor (kind.AssignExpr o) h = absurd (cc)
  at_constructor (kind.ArrowExpr is_async is_generator) h = absurd (cc)
  at_constructor (kind.YieldExpr delegate) h = absurd (cc)
  at_constructor kind.CondExpr h = absurd (cc)
  at_constructor (kind.BinExpr o) h = binary_lower o _ h
  at_constructor (kind.UnaryExpr o) h = absurd (cc)
  at_constructor kind.AwaitExpr h = absurd (cc)
  at_constructor (kind.UpdateExpr o prefix) h = absurd (cc)
  at_constructor (kind.OptChainExpr optional) h = absurd (cc)
  at_constructor (kind.Number value raw) h = inl refl
  at_constructor kind.CallExpr h = absurd (cc)
  at_constructor kind.NewExpr h = inr (new_here (lacks_arguments children) 0 refl (alone_false (lacks_arguments children) h))
  at_constructor k h = inr refl

  -- the object or the callee of a link of an optional chain
  pub at_base : (k : Kind) → spot.in_callee_of_new ≡ false → in_parentheses k children (left spot 16 beside.InChain) ≡ false → (own_level k children false ≡ chain) ⊎ IsWithin 2 (own_level k children false)
  at_base kind.SeqExpr n h = absurd (cc)
  at_base (kind.AssignExpr o) n h = absurd (cc)
  at_base (kind.ArrowExpr is_async is_generator) n h = absurd (cc)
  at_base (kind.YieldExpr delegate) n h = absurd (cc)
  at_base kind.CondExpr n h = absurd (cc)
  at_base (kind.BinExpr o) n h = binary_low o _ h
  at_base (kind.UnaryExpr o) n h = absurd (cc)
  at_base kind.AwaitExpr n h = absurd (cc)
  at_base (kind.UpdateExpr o prefix) n h = absurd (cc)
  at_base (kind.OptChainExpr optional) n h = inl refl
  at_base kind.NewExpr n h = inr (new_here (lacks_arguments children) 2 refl (alone_false (lacks_arguments children) h))
  at_base k n h = inr refl
