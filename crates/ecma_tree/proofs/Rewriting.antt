-- The equations of `rewritten`, once for every rule: a pass goes through the children by index, and then rewrites the node itself.
use Rattle.std.proofs.Common.{◌≡◌, ℕ, length, sym, ap, ◌∙◌}
use Rattle.item_list.proofs.Walking.{front_mapped-all}
use Rattle.ecma_tree.specs.Rewritten.{rewritten}
use Rattle.ecma_tree.specs.declared.node.Node.{Node, Node-F, fold_out-Node, out-Node}
use Rattle.ecma_tree.proofs.Fronts.{front, front-out}

module _ (rule : Node-F Node → Node) where
  -- the node with its first i children rewritten
  abbrev pub front_rewritten : Node → ℕ → Node
  front_rewritten = front (rewritten rule) (λ span. span) (λ kind. kind)

  -- with all children rewritten, the rule of the node's parts is the node rewritten
  pub front_rewritten-all : (n m : Node) (i : ℕ) → m ≡ front_rewritten n i → length (out-Node n).children ≡ i → rule (out-Node m) ≡ rewritten rule n
  front_rewritten-all n m i is all =
      ap rule (front-out (rewritten rule) (λ span. span) (λ kind. kind) n m i is
      ∙ ap (λ z. record { span = (out-Node n).span; kind = (out-Node n).kind; children = z }) (front_mapped-all (rewritten rule) (out-Node n).children i all))
      ∙ sym (fold_out-Node Node rule n)
