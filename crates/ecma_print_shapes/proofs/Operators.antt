-- Expressions with operators have their shapes.
use Rattle.std.proofs.Common.{◌≡◌, refl, false, List, [], ◌∷◌, map, arith}
use Rattle.ecma_kind.specs.declared.span.Span.{Span}
use Rattle.ecma_kind.specs.declared.kind.Kind.TheVariants as kind
use Rattle.ecma_kind.specs.declared.operators.UnaryOp.{UnaryOp}
use Rattle.ecma_kind.specs.declared.operators.UnaryOp.TheVariants.{Minus, Plus}
use Rattle.ecma_kind.specs.declared.shapes.Shape.{Shape}
use Rattle.ecma_tree.specs.declared.node.Node.{Node}
use Rattle.ecma_tree.specs.Nodes.{node_of}
use Rattle.ecma_rules.specs.declared.target.Target.{Target}
use Rattle.ecma_rules.specs.Targets.{target_in}
use Rattle.ecma_covers.specs.Covering.{cover_in}
use Rattle.ecma_fits.specs.declared.role.Role.{Role}
use Rattle.ecma_fits.specs.Roles.{role_in}
use Rattle.ecma_print.specs.declared.place.Beside.TheVariants as beside
use Rattle.ecma_print.specs.declared.place.Spot.{Spot}
use Rattle.ecma_print.specs.Operators.{unary_sign}
use Rattle.ecma_print.specs.Layout.{laid}
use Rattle.ecma_shapes.specs.Shapes.{IsExpression, unary, unary_expression, await_expression, assignment, conditional_expression}
use Rattle.ecma_print_shapes.proofs.Claims.{AllFormed, Proper, is_of_link, level_open}
use Rattle.ecma_print_shapes.proofs.Covered.{covered_children}
use Rattle.ecma_print_shapes.proofs.Ranks.{own_level, to_short_circuit, to_unary}
use Rattle.ecma_print_shapes.proofs.Seats.{at_test}
use Rattle.ecma_print_shapes.proofs.Sound.{Here}
use Rattle.ecma_print_shapes.proofs.Spots.{assigned, child_value, low_outside, proper_left, proper_right, tight}

signs : (o : UnaryOp) → is_of_link (unary_sign o) ≡ false
signs Minus = refl
signs Plus = refl
signs o = refl

module _ {r : Role} {spot : Spot} {shape : Shape} (t : Target) (at : Span) where
  pub unary_formed : (o : UnaryOp) (cs : List Node) → AllFormed cs → Here r spot shape at (kind.UnaryExpr o) cs → IsExpression unary (node_of at (kind.UnaryExpr o) (covered_children t (kind.UnaryExpr o) cs))
  unfolding cover_in target_in role_in
  unary_formed o [] f h = absurd h.below
  unary_formed o (a ∷ []) f h =
      let e = child_value f.0 h.below.0 refl (proper_right spot 14 (unary_sign o) (signs o)) in
      unary_expression at o (to_unary (own_level e.kind e.children false) (tight e (omega arith) (omega arith)) e.shape)
  unary_formed o (a ∷ b ∷ cs) f h = absurd h.below.1

  pub await_formed : (cs : List Node) → AllFormed cs → Here r spot shape at kind.AwaitExpr cs → IsExpression unary (node_of at kind.AwaitExpr (covered_children t kind.AwaitExpr cs))
  unfolding cover_in target_in role_in
  await_formed [] f h = absurd h.below
  await_formed (a ∷ []) f h =
      let e = child_value f.0 h.below.0 refl (proper_right spot 14 beside.NoNeighbor refl) in
      await_expression at (to_unary (own_level e.kind e.children false) (tight e (omega arith) (omega arith)) e.shape)
  await_formed (a ∷ b ∷ cs) f h = absurd h.below.1

  pub conditional_formed : (cs : List Node) → AllFormed cs → Here r spot shape at kind.CondExpr cs → Proper spot → IsExpression assignment (node_of at kind.CondExpr (covered_children t kind.CondExpr cs))
  unfolding cover_in target_in role_in
  conditional_formed [] f h p = absurd h.below
  conditional_formed (a ∷ []) f h p = absurd h.below.1
  conditional_formed (a ∷ b ∷ []) f h p = absurd h.below.1.1
  conditional_formed (a ∷ b ∷ c ∷ []) f h p =
      let out = low_outside kind.CondExpr (map laid (a ∷ b ∷ c ∷ [])) spot p refl h.open_there in
      let x = child_value f.0 h.below.0 refl (proper_left spot 3 beside.NoNeighbor out refl) in
      let y = child_value f.1.0 h.below.1.0 refl (proper_right spot 1 beside.NoNeighbor refl) in
      let z = child_value f.1.1.0 h.below.1.1.0 refl (proper_right spot 1 beside.NoNeighbor refl) in
      conditional_expression at (to_short_circuit (own_level x.kind x.children spot.in_callee_of_new) (at_test x.children spot.in_callee_of_new x.kind (level_open x)) x.shape) (assigned y refl) (assigned z refl)
  conditional_formed (a ∷ b ∷ c ∷ d ∷ cs) f h p = absurd h.below.1.1.1
