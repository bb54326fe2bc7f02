-- The children of a node by their index, and what the rules ask of them.
use Rattle.std.specs.Prelude.{ℕ, Bool, false, not, List, [], Option, Some, None, slice_get, bytes_eq}
use Rattle.ecma_kind.specs.declared.kind.Kind.{Kind}
use Rattle.ecma_kind.specs.declared.kind.Kind.TheVariants as kind
use Rattle.ecma_tree.specs.declared.node.Node.{Node, out-Node}
use Rattle.ecma_tree.specs.Sorted.{is_absent}

abbrev pub kind_of : Node → Kind
kind_of node = (out-Node node).kind

-- whether the child at an index is there and has a kind of these
abbrev pub of_kind : (Kind → Bool) → Option Node → Bool
of_kind is None = false
of_kind is (Some node) = is (kind_of node)

abbrev pub child_is : (Kind → Bool) → Node → ℕ → Bool
child_is is node i = of_kind is (slice_get (out-Node node).children i)

abbrev pub is_present : Kind → Bool
is_present k = not (is_absent k)

-- whether the child at an index is there
abbrev pub has_child : Node → ℕ → Bool
has_child = child_is is_present

-- a test of the child at an index, which no child fails
abbrev pub holds_of : (Node → Bool) → Option Node → Bool
holds_of test None = false
holds_of test (Some node) = test node

abbrev pub child_holds : (Node → Bool) → Node → ℕ → Bool
child_holds test node i = holds_of test (slice_get (out-Node node).children i)

-- the items of the list that is the child at an index
abbrev pub children_of : Option Node → List Node
children_of None = []
children_of (Some node) = (out-Node node).children

abbrev pub items_at : Node → ℕ → List Node
items_at node i = children_of (slice_get (out-Node node).children i)

abbrev pub is_named : List ℕ → Kind → Bool
is_named text (kind.Ident sym ctxt optional) = bytes_eq sym text
is_named text _ = false
