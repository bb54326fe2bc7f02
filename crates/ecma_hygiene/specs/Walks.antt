-- What is gathered on the way down a tree, where what stands around a node is told to its children.
use Rattle.std.specs.Prelude.{ℕ, suc, List, [], ◌∷◌, ◌++◌}
use Rattle.ecma_tree.specs.declared.node.Node.{Node}
use Rattle.ecma_tree.specs.Layers.{from_leaves}

-- what children give, of which the first is the one at i
abbrev pub gathered_from : (S A : Type 0) → (ℕ → S) → ℕ → List (S → List A) → List A
gathered_from S A around i [] = []
gathered_from S A around i (child ∷ children) = child (around i) ++ gathered_from S A around (suc i) children

abbrev pub gather_step : (S A : Type 0) → (S → Node → List A) → (S → Node → ℕ → S) → Node → List (S → List A) → S → List A
gather_step S A here into node children around = here around node ++ gathered_from S A (into around node) 0 children

-- what `here` gives at each node, a node before its children; `into` says what stands around a child
abbrev pub gathered_down : (S A : Type 0) → (S → Node → List A) → (S → Node → ℕ → S) → Node → S → List A
gathered_down S A here into = from_leaves (S → List A) (gather_step S A here into)
