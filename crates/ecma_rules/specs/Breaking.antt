-- Nodes that break a rule, by where they stand in the tree; the least of their places is what is told.
use Rattle.std.specs.Prelude.{◌≡◌, ◌≤◌, ◌⊎◌, ℕ, List, [], ◌∷◌, Option, Some, slice_get}
use Rattle.ecma_tree.specs.declared.node.Node.{Node, out-Node}
use Rattle.ecma_rules.specs.declared.standing.Around.{Around}
use Rattle.ecma_rules.specs.Surroundings.{around_in, at_root}
use Rattle.ecma_rules.specs.Jumps.{Held, held_in, not_held, stray_here}
use Rattle.ecma_rules.specs.Rules.{first_broken, misplaced_here}

-- the indexes of children that lead from one node to another, and what is then around that
abbrev pub Leads : (A : Type 0) → (A → Node → ℕ → A) → A → Node → List ℕ → A → Node → Type 0
Leads A inside around node [] last end = (last ≡ around) × (end ≡ node)
Leads A inside around node (i ∷ path) last end = (child : Node) × (slice_get (out-Node node).children i ≡ Some child) × Leads A inside (inside around node i) child path last end

-- a node in the tree tells a place
abbrev pub Tells : (A : Type 0) → (A → Node → Option ℕ) → (A → Node → ℕ → A) → A → Node → ℕ → Type 0
Tells A place inside around node at = (path : List ℕ) × (last : A) × (end : Node) × Leads A inside around node path last end × (place last end ≡ Some at)

-- a node that begins there is not what it has to be, or belongs to nothing
abbrev pub Breaks : Node → ℕ → Type 0
Breaks tree at = Tells Around misplaced_here around_in at_root tree at ⊎ Tells Held stray_here held_in not_held tree at

-- where a place is told, a node that begins there breaks a rule, and none that begins before; where none is told, no node does
pub record IsLeast (Tells : ℕ → Type 0) (told : Option ℕ) : Type 0 where
  pub sound : (at : ℕ) → told ≡ Some at → Tells at
  pub least : (at : ℕ) → Tells at → (first : ℕ) × (told ≡ Some first) × (first ≤ at)

abbrev pub FirstBrokenIsLeast : Type 0
FirstBrokenIsLeast = (tree : Node) → IsLeast (Breaks tree) (first_broken tree)
