-- A pass that goes through the children of a node by index: the node of which the first i are done.
use Rattle.std.proofs.Common.{◌≡◌, ℕ, ◌+◌, Some, sym, ap, ◌∙◌, slice_get, set, refl}
use Rattle.item_list.proofs.Walking.{front_mapped, front_mapped-at, set-front_mapped}
use Rattle.ecma_kind.specs.declared.span.Span.{Span}
use Rattle.ecma_kind.specs.declared.kind.Kind.{Kind}
use Rattle.ecma_tree.specs.declared.node.Node.{Node, Node-F, out-Node, roll-Node}
use Rattle.ecma_tree.specs.declared.node.Node.TheViews.{out-roll-Node}

module _ (f : Node → Node) (span_to : Span → Span) (kind_to : Kind → Kind) where
  -- the node's parts, with its own span and kind changed, and f of its first i children
  abbrev pub front_parts : Node → ℕ → Node-F Node
  front_parts n i = record { span = span_to (out-Node n).span; kind = kind_to (out-Node n).kind; children = front_mapped f (out-Node n).children i }

  abbrev pub front : Node → ℕ → Node
  front n i = roll-Node (front_parts n i)

  pub front-out : (n m : Node) (i : ℕ) → m ≡ front n i → out-Node m ≡ front_parts n i
  front-out n m i is = ap out-Node is ∙ out-roll-Node (front_parts n i)

  -- once f of the child at i stands there, one child more is done
  pub set-front : (n m : Node) (i : ℕ) (x y : Node) → m ≡ front n i → slice_get (out-Node m).children i ≡ Some x → y ≡ f x
      → roll-Node (record { span = (out-Node m).span; kind = (out-Node m).kind; children = set (out-Node m).children i y }) ≡ front n (i + 1)
  set-front n m i x y is at done =
      let parts : out-Node m ≡ front_parts n i = front-out n m i is in
      let was : slice_get (out-Node n).children i ≡ Some x = front_mapped-at f (out-Node n).children i x (sym (ap (λ z. slice_get z.children i) parts) ∙ at) in
      rw (parts, done, set-front_mapped f (out-Node n).children i x was) refl
