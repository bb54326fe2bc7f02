-- Whether a node may hold an `in` outside of brackets is computed from its kind and its children.
use Rattle.std.proofs.Common.{◌≡◌, Bool, List, map}
use Rattle.ecma_kind.specs.declared.span.Span.{Span}
use Rattle.ecma_kind.specs.declared.kind.Kind.{Kind}
use Rattle.ecma_tree.specs.declared.node.Node.{Node, fold-roll-Node}
use Rattle.ecma_tree.specs.Nodes.{node_of}
use Rattle.ecma_shapes.specs.Heads.{may_hold_by, may_hold_step, may_hold_in}

pub may_hold_node : (at : Span) (k : Kind) (cs : List Node) → may_hold_in (node_of at k cs) ≡ may_hold_by k (map may_hold_in cs)
may_hold_node at k cs = fold-roll-Node Bool may_hold_step (record { span = at; kind = k; children = cs })
