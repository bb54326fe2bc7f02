-- What rewrites a tree by where each node stands: each item of a list becomes a list, each other node one node.
use Rattle.std.specs.Prelude.{ℕ, suc, Bool, cond, List, [], ◌∷◌, ◌++◌, map}
use Rattle.ecma_kind.specs.declared.kind.Kind.{Kind}
use Rattle.ecma_kind.specs.declared.kind.Kind.TheVariants as kind
use Rattle.ecma_kind.specs.declared.span.Span.{Span}
use Rattle.ecma_tree.specs.Nodes.{absent, node_of}
use Rattle.ecma_tree.specs.declared.node.Node.{Node, Node-F, fold-Node}

-- where nodes stand is handed down: to the children of a node by `seat`, which is given the node's kind, its children and an index;
-- to the items of a list, of which `next` gives the seat behind an item that is kept. An item that is not kept becomes `unkept`; a node
-- that is no list becomes `here`, of the node as it stood and of what its children become
pub record Rewriting (S : Type 0) : Type 0 where
  pub keeps : Node → Bool
  pub unkept : S → Node → List Node
  pub next : S → Node → S
  pub seat : S → Kind → List Node → ℕ → S
  pub here : S → Span → Kind → List Node → List (List Node) → List Node

-- a node, and what it becomes in each seat
pub record Standing (S : Type 0) : Type 0 where
  pub node : Node
  pub become : S → List Node

abbrev pub items_by : {S : Type 0} → Rewriting S → S → List (Standing S) → List Node
items_by r s [] = []
items_by r s (c ∷ cs) = cond (r.keeps c.node) (c.become s ++ items_by r (r.next s c.node) cs) (r.unkept s c.node ++ items_by r s cs)

abbrev pub children_by : {S : Type 0} → (ℕ → S) → ℕ → List (Standing S) → List (List Node)
children_by seat i [] = []
children_by seat i (c ∷ cs) = c.become (seat i) ∷ children_by seat (suc i) cs

abbrev pub become_by : {S : Type 0} → Rewriting S → S → Span → Kind → List (Standing S) → List Node
become_by r s span kind.List cs = node_of span kind.List (items_by r s cs) ∷ []
become_by r s span k cs = let nodes = map (λ c. c.node) cs in r.here s span k nodes (children_by (r.seat s k nodes) 0 cs)

abbrev pub rewriting_step : {S : Type 0} → Rewriting S → Node-F (Standing S) → Standing S
rewriting_step r parts =
    record {
      node = node_of parts.span parts.kind (map (λ c. c.node) parts.children);
      become = λ s. become_by r s parts.span parts.kind parts.children;
    }

-- what a node becomes in a seat
abbrev pub becomes : {S : Type 0} → Rewriting S → S → Node → List Node
becomes {S} r s n = (fold-Node (Standing S) (rewriting_step r) n).become s

-- the node that one is
abbrev pub only : List Node → Node
only [] = absent
only (n ∷ ns) = n

-- the node that a node becomes in a seat where it becomes one
abbrev pub become : {S : Type 0} → Rewriting S → S → Node → Node
become r s n = only (becomes r s n)

-- a node over the ones that its children become
abbrev pub over_ones : Span → Kind → List (List Node) → List Node
over_ones span k lists = node_of span k (map only lists) ∷ []
