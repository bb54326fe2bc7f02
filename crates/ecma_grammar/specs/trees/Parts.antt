-- The parts of nodes, and nodes with other parts.
use Rattle.std.specs.Prelude.{ℕ, Bool, true, false, not, ◌==◌, List, [], length, slice_set, Option, Some, None, if◌then◌else◌}
use Rattle.ecma_kind.specs.declared.span.Span.{Span}
use Rattle.ecma_kind.specs.declared.kind.Kind.{Kind}
use Rattle.ecma_kind.specs.declared.kind.Kind.TheVariants as kind
use Rattle.ecma_tree.specs.declared.node.Node.{Node, out-Node}
use Rattle.ecma_tree.specs.Nodes.{node_of, absent}
use Rattle.ecma_grammar.specs.declared.production.Flag.{Flag}
use Rattle.ecma_grammar.specs.declared.production.Flag.TheVariants.{Absent, Present}

abbrev pub kind_of : Node → Kind
kind_of n = (out-Node n).kind

abbrev pub span_of : Node → Span
span_of n = (out-Node n).span

abbrev pub children_of : Node → List Node
children_of n = (out-Node n).children

abbrev pub from_to : ℕ → ℕ → Span
from_to lo hi = record { lo = lo; hi = hi }

abbrev pub is_absent_kind : Kind → Bool
is_absent_kind kind.Absent = true
is_absent_kind k = false

abbrev pub is_absent : Node → Bool
is_absent n = is_absent_kind (kind_of n)

abbrev pub is_present : Node → Bool
is_present n = not (is_absent n)

-- a flag is a node of no text: a missing child, or `true`
abbrev pub flag_node : Flag → Node
flag_node Absent = absent
flag_node Present = node_of (from_to 0 0) (kind.Bool true) []

-- a node that holds what stands before it as its first child
abbrev pub in_front : Node → Node → Node
in_front x n = node_of (from_to (span_of x).lo (span_of n).hi) (kind_of n) (slice_set (children_of n) 0 x)

-- exactly so many nodes, of which something is made
abbrev pub frame : ℕ → List Node → Option (List Node)
frame n xs = if length xs == n then Some xs else None

abbrev pub by_frame : (List Node → Node) → Option (List Node) → Node
by_frame f (Some xs) = f xs
by_frame f None = absent

abbrev pub framed : ℕ → (List Node → Node) → List Node → Node
framed n f xs = by_frame f (frame n xs)
