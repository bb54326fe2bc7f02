-- The seats in a sequence of expressions.
use Rattle.std.proofs.Common.{◌≡◌, ℕ, zero, suc, ◌<◌, Some, length, refl, ap, ◌∙◌, slice_get, arith}
use Rattle.std.specs.Prelude.{replicate}
use Rattle.ecma_kind.specs.declared.kind.Kind.{Kind}
use Rattle.ecma_kind.specs.declared.kind.Kind.TheVariants.{SeqExpr}
use Rattle.ecma_kind.specs.declared.shapes.Shape.{Shape}
use Rattle.ecma_kind.specs.declared.shapes.Sort.TheVariants.{Expr}
use Rattle.ecma_tree.specs.Sorted.{child_shapes, one}
use Rattle.ecma_tree.specs.declared.node.Node.{Node, out-Node}
use Rattle.ecma_walks.specs.Seats.{seat_at}

replicate-item : {X : Type 0} (x : X) (n i : ℕ) → i < n → slice_get (replicate n x) i ≡ Some x
replicate-item x zero i within = absurd (omega (arith, within))
replicate-item x (suc n) zero within = refl
replicate-item x (suc n) (suc i) within = replicate-item x n i (omega (arith, within))

sequence-item : (seat : Shape) (n i : ℕ) → i < n → slice_get (child_shapes SeqExpr seat n) i ≡ Some (one Expr)
sequence-item seat zero i within = absurd (omega (arith, within))
sequence-item seat (suc n) i within = replicate-item (one Expr) (suc n) i within

-- each child of one sits there as an expression
pub seat_at-sequence : (seat : Shape) (n : Node) (i : ℕ) → (out-Node n).kind ≡ SeqExpr → i < length (out-Node n).children → seat_at seat n i ≡ Some (one Expr)
seat_at-sequence seat n i is within =
    ap (λ (k : Kind). slice_get (child_shapes k seat (length (out-Node n).children)) i) is ∙ sequence-item seat (length (out-Node n).children) i within
