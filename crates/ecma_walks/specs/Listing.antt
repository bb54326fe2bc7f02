-- What a walk down a tree lists, where what is around a node changes on the way down.
use Rattle.std.specs.Prelude.{◌≡◌, ℕ, suc, Bool, true, false, List, [], ◌∷◌, ◌++◌, Option, Some, None, slice_get}
use Rattle.ecma_tree.specs.declared.node.Node.{Node}
use Rattle.ecma_tree.specs.Layers.{from_leaves}

-- what a child lists with this around it; one that is not entered lists nothing
abbrev pub listed_within : (S A : Type 0) → Option S → (S → List A) → List A
listed_within S A (Some around) child = child around
listed_within S A None child = []

-- what children list, of which the first is the one at i
abbrev pub listed_from : (S A : Type 0) → (ℕ → Option S) → ℕ → List (S → List A) → List A
listed_from S A around i [] = []
listed_from S A around i (child ∷ children) = listed_within S A (around i) child ++ listed_from S A around (suc i) children

abbrev pub listing_step : (S A : Type 0) → (S → Node → ℕ → Option S) → (S → Node → List A) → Node → List (S → List A) → S → List A
listing_step S A step here node children around = here around node ++ listed_from S A (step around node) 0 children

-- what `here` lists at each node with what is around it: a node before its children, and they from the first to the last. `step` says what is around
-- the child at an index; where it is None, the child is not entered
abbrev pub listed : (S A : Type 0) → (S → Node → ℕ → Option S) → (S → Node → List A) → Node → S → List A
listed S A step here = from_leaves (S → List A) (listing_step S A step here)

-- ---- what is said of a list

-- there is an item in it
abbrev pub some_item : (A : Type 0) → List A → Bool
some_item A [] = false
some_item A (item ∷ items) = true

-- there is none
abbrev pub NoItem : (A : Type 0) → List A → Type 0
NoItem A items = items ≡ []

-- the first, if there is one
abbrev pub first_item : (A : Type 0) → List A → Option A
first_item A items = slice_get items 0
