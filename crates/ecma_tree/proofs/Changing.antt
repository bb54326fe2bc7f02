-- The equations of `changed`, once for every change: the node itself is changed, and then its children by index.
use Rattle.std.proofs.Common.{◌≡◌, ℕ, map, length, sym, ap, ◌∙◌, refl}
use Rattle.item_list.proofs.Walking.{front_mapped-all}
use Rattle.ecma_kind.specs.declared.span.Span.{Span}
use Rattle.ecma_kind.specs.declared.kind.Kind.{Kind}
use Rattle.ecma_tree.specs.Changing.{changed, changed_here}
use Rattle.ecma_tree.specs.Nodes.{dummy_span, node_of}
use Rattle.ecma_tree.specs.Spans.{without_spans}
use Rattle.ecma_tree.specs.declared.node.Node.{Node, fold_out-Node, out-Node}
use Rattle.ecma_tree.proofs.Fronts.{front}

module _ (span_to : Span → Span) (kind_to : Kind → Kind) where
  pub changed-parts : (n : Node) → changed span_to kind_to n ≡ node_of (span_to (out-Node n).span) (kind_to (out-Node n).kind) (map (changed span_to kind_to) (out-Node n).children)
  changed-parts = fold_out-Node Node (changed_here span_to kind_to)

  -- the node with its own span and kind changed, and its first i children
  abbrev pub front_changed : Node → ℕ → Node
  front_changed = front (changed span_to kind_to) span_to kind_to

  -- with all children changed, the node is
  pub front_changed-all : (n : Node) (i : ℕ) → length (out-Node n).children ≡ i → front_changed n i ≡ changed span_to kind_to n
  front_changed-all n i all =
      ap (node_of (span_to (out-Node n).span) (kind_to (out-Node n).kind)) (front_mapped-all (changed span_to kind_to) (out-Node n).children i all) ∙ sym (changed-parts n)

abbrev pub nowhere : Span → Span
nowhere span = dummy_span

abbrev pub same : Kind → Kind
same kind = kind

-- a tree without spans is that tree with each span changed to that of no place, and no kind changed
pub without_spans-changed : (n : Node) → without_spans n ≡ changed nowhere same n
without_spans-changed n = refl
