-- The children of a node by their names.
use Rattle.std.specs.Prelude.{◌≡◌, ℕ, Some, slice_get}
use Rattle.ecma_kind.specs.Shapes.{IsFieldAt}
use Rattle.ecma_kind.specs.declared.shapes.Field.{Field}
use Rattle.ecma_tree.specs.declared.node.Node.{Node, out-Node}

-- a node's child of this name
abbrev pub HasChild : Field → Node → Node → Type 0
HasChild field node child = (i : ℕ) × IsFieldAt field (out-Node node).kind i × (slice_get (out-Node node).children i ≡ Some child)
