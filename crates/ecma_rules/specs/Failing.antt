-- The least place in a tree, where what each node tells depends on what stands around it.
use Rattle.std.specs.Prelude.{ℕ, suc, min, Bool, cond, List, [], ◌∷◌, Option, Some, None}
use Rattle.ecma_tree.specs.declared.node.Node.{Node, out-Node}
use Rattle.ecma_tree.specs.Layers.{from_leaves}

abbrev pub least : Option ℕ → Option ℕ → Option ℕ
least None b = b
least (Some i) None = Some i
least (Some i) (Some j) = Some (min i j)

-- in children, of which the first is the one at i, with what is around each
abbrev pub least_from : (A : Type 0) → (ℕ → A) → ℕ → List (A → Option ℕ) → Option ℕ
least_from A around i [] = None
least_from A around i (child ∷ children) = least (child (around i)) (least_from A around (suc i) children)

-- the place of a node that fails
abbrev pub failing_here : Bool → Node → Option ℕ
failing_here fails node = cond fails (Some (out-Node node).span.lo) None

abbrev pub failing_step : (A : Type 0) → (A → Node → Option ℕ) → (A → Node → ℕ → A) → Node → List (A → Option ℕ) → A → Option ℕ
failing_step A place inside node children around = least (place around node) (least_from A (inside around node) 0 children)

-- the least place that a node in the tree tells; `inside` says what is around a child
abbrev pub first_failing : (A : Type 0) → (A → Node → Option ℕ) → (A → Node → ℕ → A) → Node → A → Option ℕ
first_failing A place inside = from_leaves (A → Option ℕ) (failing_step A place inside)
