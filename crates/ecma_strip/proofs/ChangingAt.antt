-- A list with the item at an index changed.
use Rattle.std.proofs.Common.{◌≡◌, ℕ, zero, suc, ◌≤◌, List, [], ◌∷◌, length, Some, refl, ap, arith, slice_get, set}
use Rattle.ecma_kind.specs.declared.kind.Kind.{Kind}
use Rattle.ecma_kind.specs.declared.span.Span.{Span}
use Rattle.ecma_tree.specs.Nodes.{node_of}
use Rattle.ecma_tree.specs.declared.node.Node.{Node}
use Rattle.ecma_strip.specs.Stripping.{changed_at, operand}

-- where there is one, it is written
pub changed_at-within : (i : ℕ) (to : Node → Node) (xs : List Node) (x y : Node) → slice_get xs i ≡ Some x → y ≡ to x → set xs i y ≡ changed_at i to xs
changed_at-within i to [] x y at is = cc
changed_at-within zero to (z ∷ zs) x y at is = let same : z ≡ x = cc in rw (same, is) refl
changed_at-within (suc i) to (z ∷ zs) x y at is = ap (λ ys. z ∷ ys) (changed_at-within i to zs x y at is)

-- else the list stays
pub changed_at-past : (i : ℕ) (to : Node → Node) (xs : List Node) → length xs ≤ i → changed_at i to xs ≡ xs
changed_at-past i to [] past = refl
changed_at-past zero to (z ∷ zs) past = absurd (omega (arith, past))
changed_at-past (suc i) to (z ∷ zs) past = ap (λ ys. z ∷ ys) (changed_at-past i to zs (omega (arith, past)))

pub ruleset at = (changed_at-within, changed_at-past)

pub operand-first : (span : Span) (k : Kind) (xs : List Node) (e : Node) → slice_get xs 0 ≡ Some e → operand span k xs ≡ e
operand-first span k [] e first = cc
operand-first span k (x ∷ xs) e first = cc

pub operand-none : (span : Span) (k : Kind) (xs : List Node) → xs ≡ [] → operand span k xs ≡ node_of span k xs
operand-none span k [] none = refl
operand-none span k (x ∷ xs) none = cc

pub ruleset operands = (operand-first, operand-none)
