-- Assignments, `++` and `--`, `yield` and sequences have their shapes.
use Rattle.std.proofs.Common.{◌≡◌, ◌∙◌, refl, sym, ap, subst, Bool, true, false, not, ◌||◌, List, [], ◌∷◌, map, length, replicate, nat_lt}
use Rattle.ecma_kind.specs.Sorts.{is_expr}
use Rattle.ecma_kind.specs.declared.span.Span.{Span}
use Rattle.ecma_kind.specs.declared.kind.Kind.{Kind}
use Rattle.ecma_kind.specs.declared.kind.Kind.TheVariants as kind
use Rattle.ecma_kind.specs.declared.operators.AssignOp.{AssignOp}
use Rattle.ecma_kind.specs.declared.operators.AssignOp.TheVariants.{Assign}
use Rattle.ecma_kind.specs.declared.operators.UpdateOp.{UpdateOp}
use Rattle.ecma_kind.specs.declared.operators.UpdateOp.TheVariants.{MinusMinus, PlusPlus}
use Rattle.ecma_kind.specs.declared.shapes.Shape.{Shape}
use Rattle.ecma_kind.specs.declared.shapes.Sort.TheVariants as sort
use Rattle.ecma_tree.specs.declared.node.Node.{Node, out-Node}
use Rattle.ecma_tree.specs.Nodes.{node_of}
use Rattle.ecma_tree.specs.Sorted.{is_absent, maybe, one}
use Rattle.ecma_rules.specs.declared.target.Target.{Target}
use Rattle.ecma_rules.specs.declared.target.Target.TheVariants as target
use Rattle.ecma_rules.specs.Children.{is_present, kind_of}
use Rattle.ecma_rules.specs.Finishing.{each_in}
use Rattle.ecma_rules.specs.Targets.{is_simple_target, on_left, target_in}
use Rattle.ecma_covers.specs.Covering.{cover_at, cover_in}
use Rattle.ecma_fits.specs.declared.role.Role.{Role}
use Rattle.ecma_fits.specs.declared.role.Role.TheVariants as role
use Rattle.ecma_fits.specs.Counts.{is_full_by, is_short}
use Rattle.ecma_fits.specs.Roles.{is_pattern, left_of, may_be, role_in, takes}
use Rattle.ecma_print.specs.declared.place.Beside.TheVariants as beside
use Rattle.ecma_print.specs.declared.place.Spot.{Spot}
use Rattle.ecma_print.specs.Layout.{laid}
use Rattle.ecma_print.specs.Operators.{update_sign}
use Rattle.ecma_print.specs.Places.{left, right}
use Rattle.ecma_shapes.specs.Shapes.{AreExpressions, IsExpression, assignment, assignment_expression, callee, new_callee, more_expressions, no_expressions, postfix_update, prefix_update, sequence, sequence_expression, update, yield_nothing, yield_value}
use Rattle.ecma_plain.specs.Forms.{is_of_forms}
use Rattle.ecma_print_shapes.proofs.Bindings.{or_there}
use Rattle.ecma_print_shapes.proofs.Building.{absent_shape, first_there, simple_target, simple_tight, stands_as}
use Rattle.ecma_print_shapes.proofs.Claims as claims
use Rattle.ecma_print_shapes.proofs.Claims.{AllFormed, Expressed, Formed, Proper, is_of_link, is_simple, seen, value_kind}
use Rattle.ecma_print_shapes.proofs.Covered.{covered_children}
use Rattle.ecma_print_shapes.proofs.Ranks.{own_level, to_callee}
use Rattle.ecma_print_shapes.proofs.Seats.{either_parts}
use Rattle.ecma_print_shapes.proofs.Sound.{AllSound, Here, Sound, children_made, kind_made}
use Rattle.ecma_print_shapes.proofs.Spots.{assigned, child_value, low_outside, proper_left, proper_right}

-- what a node has by its counts
pub full : {r : Role} {spot : Spot} {shape : Shape} (at : Span) (k : Kind) (cs : List Node) → Here r spot shape at k cs → is_full_by k (node_of at k cs) ≡ true
full at k cs h =
    let n = node_of at k cs in
    subst (λ z. is_full_by z n ≡ true) (kind_made at k cs) (holds (is_full_by (kind_of n) n) (either_parts (is_short n) _ h.whole).0)
  where
    holds : (b : Bool) → not b ≡ false → b ≡ true
    holds true e = refl
    holds false e = cc

-- simple targets

is_target : (n : Node) → is_of_forms (kind_of n) ≡ true → is_simple_target (node_of (out-Node n).span (out-Node n).kind (out-Node n).children) ≡ true → is_simple (kind_of n) ≡ true
is_target n f h = simple_target (out-Node n).span (out-Node n).kind (out-Node n).children f h

simple_there : {spot : Spot} {shape : Shape} (n : Node) → Sound role.Simple spot shape n → is_simple (kind_of n) ≡ true
unfolding may_be takes
simple_there n s = let h = seen n s in is_target n h.bare.1 (stands_as role.Simple (out-Node n).span (out-Node n).kind (out-Node n).children h).1

left_there : {spot : Spot} {shape : Shape} (n : Node) → is_pattern (kind_of n) ≡ false → Sound role.Left spot shape n → is_simple (kind_of n) ≡ true
unfolding may_be takes
left_there n e s =
    let h = seen n s in
    is_target n h.bare.1 (or_there (is_pattern (kind_of n)) _ (stands_as role.Left (out-Node n).span (out-Node n).kind (out-Node n).children h).1 e)

-- it binds as a callee does
pub simple_shape : {t : Target} {spot : Spot} (n : Node) (e : Expressed t spot n) → is_simple (kind_of n) ≡ true → IsExpression callee (cover_at n t)
simple_shape {spot = spot} n e h = to_callee (own_level e.kind e.children spot.in_callee_of_new) (simple_tight e.kind e.children spot.in_callee_of_new (subst (λ k. is_simple k ≡ true) e.kind_is h)) e.shape

-- on the left of `=` a pattern is a literal
left_shape : (spot : Spot) (n : Node) (b : Bool) → is_pattern (kind_of n) ≡ b → spot.in_callee_of_new ≡ false → Formed n → Sound role.Left (left spot 16 beside.NoNeighbor) (one sort.AssignTarget) n → IsExpression callee (cover_at n target.Left)
left_shape spot n true e out f s = to_callee new_callee refl (f.literal role.Left target.Left (left spot 16 beside.NoNeighbor) (one sort.AssignTarget) claims.IsCovered.on_left s e)
left_shape spot n false e out f s =
    let is = left_there n e s in
    simple_shape n (f.expression role.Left target.Left (left spot 16 beside.NoNeighbor) (one sort.AssignTarget) s (proper_left spot 16 beside.NoNeighbor out refl) refl is) is

target_shape : (spot : Spot) (o : AssignOp) (n : Node) → spot.in_callee_of_new ≡ false → Formed n → Sound (left_of o) (left spot 16 beside.NoNeighbor) (one sort.AssignTarget) n → IsExpression callee (cover_at n (on_left target.Free o))
target_shape spot Assign n out f s = left_shape spot n (is_pattern (kind_of n)) refl out f s
target_shape spot o n out f s =
    let is = simple_there n s in
    simple_shape n (f.expression role.Simple target.Simple (left spot 16 beside.NoNeighbor) (one sort.AssignTarget) s (proper_left spot 16 beside.NoNeighbor out refl) refl is) is

signs : (o : UpdateOp) → is_of_link (update_sign o) ≡ false
signs PlusPlus = refl
signs MinusMinus = refl

module _ {r : Role} {spot : Spot} {shape : Shape} (at : Span) where
  pub assignment_formed : (o : AssignOp) (cs : List Node) → AllFormed cs → Here r spot shape at (kind.AssignExpr o) cs → Proper spot → IsExpression assignment (node_of at (kind.AssignExpr o) (covered_children target.Free (kind.AssignExpr o) cs))
  unfolding cover_in target_in role_in
  assignment_formed o [] f h p = absurd h.below
  assignment_formed o (a ∷ []) f h p = absurd h.below.1
  assignment_formed o (a ∷ b ∷ []) f h p =
      let out = low_outside (kind.AssignExpr o) (map laid (a ∷ b ∷ [])) spot p refl h.open_there in
      assignment_expression at o (target_shape spot o a out f.0 h.below.0) (assigned (child_value f.1.0 h.below.1.0 refl (proper_right spot 1 beside.NoNeighbor refl)) refl)
  assignment_formed o (a ∷ b ∷ c ∷ cs) f h p = absurd h.below.1.1

module _ {r : Role} {spot : Spot} {shape : Shape} (t : Target) (at : Span) where
  pub update_formed : (o : UpdateOp) (prefix : Bool) (cs : List Node) → AllFormed cs → Here r spot shape at (kind.UpdateExpr o prefix) cs → Proper spot
      → IsExpression update (node_of at (kind.UpdateExpr o prefix) (covered_children t (kind.UpdateExpr o prefix) cs))
  unfolding cover_in target_in role_in
  update_formed o true [] f h p = absurd h.below
  update_formed o false [] f h p = absurd h.below
  update_formed o true (a ∷ []) f h p =
      let is = simple_there a h.below.0 in
      prefix_update at o (simple_shape a (f.0.expression role.Simple target.Simple (right spot 16 (update_sign o)) (one sort.Expr) h.below.0 (proper_right spot 16 (update_sign o) (signs o)) refl is) is)
  update_formed o false (a ∷ []) f h p =
      let out = low_outside (kind.UpdateExpr o false) (map laid (a ∷ [])) spot p refl h.open_there in
      let is = simple_there a h.below.0 in
      postfix_update at o (simple_shape a (f.0.expression role.Simple target.Simple (left spot 16 beside.NoNeighbor) (one sort.Expr) h.below.0 (proper_left spot 16 beside.NoNeighbor out refl) refl is) is)
  update_formed o true (a ∷ b ∷ cs) f h p = absurd h.below.1
  update_formed o false (a ∷ b ∷ cs) f h p = absurd h.below.1

-- `yield`

no_delegate : (delegate there : Bool) → (there || not delegate) ≡ true → there ≡ false → delegate ≡ false
no_delegate true true h e = cc
no_delegate true false h e = cc
no_delegate false there h e = refl

yield_by : (spot : Spot) (at : Span) (delegate : Bool) (a : Node) (missing : Bool) → is_absent (kind_of a) ≡ missing → (is_present (kind_of a) || not delegate) ≡ true → Formed a → Sound role.Free (right spot 1 beside.NoNeighbor) (maybe sort.Expr) a
    → IsExpression assignment (node_of at (kind.YieldExpr delegate) (cover_at a target.Free ∷ []))
yield_by spot at delegate a true e whole f s =
    subst (λ d. IsExpression assignment (node_of at (kind.YieldExpr d) (cover_at a target.Free ∷ []))) (sym (no_delegate delegate (is_present (kind_of a)) whole (ap not e))) (yield_nothing at (absent_shape target.Free a s e))
yield_by spot at delegate a false e whole f s =
    let h = seen a s in
    let is = or_there (is_absent (kind_of a)) (is_expr (kind_of a)) h.allowed e in
    yield_value at delegate (assigned (f.expression role.Free target.Free (right spot 1 beside.NoNeighbor) (maybe sort.Expr) s (proper_right spot 1 beside.NoNeighbor refl) refl (value_kind a s is)) refl)

module _ {r : Role} {spot : Spot} {shape : Shape} (t : Target) (at : Span) where
  pub yield_formed : (delegate : Bool) (cs : List Node) → AllFormed cs → Here r spot shape at (kind.YieldExpr delegate) cs → IsExpression assignment (node_of at (kind.YieldExpr delegate) (covered_children t (kind.YieldExpr delegate) cs))
  unfolding cover_in target_in role_in is_full_by
  yield_formed delegate [] f h = absurd h.below
  yield_formed delegate (a ∷ []) f h =
      yield_by spot at delegate a (is_absent (kind_of a)) refl (sym (ap (λ b. b || not delegate) (first_there at (kind.YieldExpr delegate) a [])) ∙ full at (kind.YieldExpr delegate) (a ∷ []) h) f.0 h.below.0
  yield_formed delegate (a ∷ b ∷ cs) f h = absurd h.below.1

-- sequences

sequence_rest : (spot : Spot) (cs : List Node) → AllFormed cs → AllSound (λ i. role.Free) [] (right spot 1 beside.NoNeighbor) (replicate (length cs) (one sort.Expr)) cs → AreExpressions (each_in (λ i. target.Free) (map cover_at cs))
sequence_rest spot [] f h = no_expressions
sequence_rest spot (c ∷ cs) f h = more_expressions (assigned (child_value f.0 h.0 refl (proper_right spot 1 beside.NoNeighbor refl)) refl) (sequence_rest spot cs f.1 h.1)

module _ {r : Role} {spot : Spot} {shape : Shape} (t : Target) (at : Span) where
  pub sequence_formed : (cs : List Node) → AllFormed cs → Here r spot shape at kind.SeqExpr cs → Proper spot → IsExpression sequence (node_of at kind.SeqExpr (covered_children t kind.SeqExpr cs))
  unfolding cover_in target_in role_in is_full_by
  sequence_formed [] f h p = absurd h.below
  sequence_formed (a ∷ []) f h p = let z = sym (ap (λ y. nat_lt 1 (length y)) (children_made at kind.SeqExpr (a ∷ []))) ∙ full at kind.SeqExpr (a ∷ []) h in cc
  sequence_formed (a ∷ b ∷ cs) f h p =
      let out = low_outside kind.SeqExpr (map laid (a ∷ b ∷ cs)) spot p refl h.open_there in
      let x = child_value f.0 h.below.0 refl (proper_left spot 1 beside.NoNeighbor out refl) in
      let y = child_value f.1.0 h.below.1.0 refl (proper_right spot 1 beside.NoNeighbor refl) in
      sequence_expression at (assigned x refl) (assigned y refl) (sequence_rest spot cs f.1.1 h.below.1.1)
