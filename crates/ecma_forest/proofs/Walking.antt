-- What a walk over the children of a node by index goes by.
use Rattle.std.proofs.Common.{◌≡◌, ℕ, ◌+◌, ◌<◌, ◌≤◌, ◌++◌, ◌||◌, Bool, true, false, List, [], ◌∷◌, map, take, drop, length, Some, slice_get, refl, ap, ◌∙◌, sym, append_assoc}
use Rattle.std.proofs.lemmas.List.{take_all, take_at, drop_at}
use Rattle.ecma_kind.specs.declared.kind.Kind.{Kind}
use Rattle.ecma_tree.specs.Finding.{enters_all, finds, finds_here}
use Rattle.ecma_tree.specs.Nodes.{node_of}
use Rattle.ecma_tree.specs.declared.node.Node.{Node, out-Node, fold_out-Node}
use Rattle.ecma_tree.specs.declared.node.Node.TheViews.{roll-out-Node}
use Rattle.ecma_tree.proofs.Items.{take-item, drop-item}
use Rattle.ecma_tree.proofs.Finding.{finds_in_rest}
use Rattle.ecma_forest.proofs.Smaller.{child-smaller}

-- a node is what its parts make
pub node_of-parts : (n : Node) → node_of (out-Node n).span (out-Node n).kind (out-Node n).children ≡ n
node_of-parts n = roll-out-Node n

pub children-all : (n : Node) (i : ℕ) → length (out-Node n).children ≤ i → take i (out-Node n).children ≡ (out-Node n).children
children-all n i all = take_all i (out-Node n).children all

pub finds-parts : (is_here : Kind → Bool) (n : Node) → finds is_here enters_all n ≡ is_here (out-Node n).kind || finds_in_rest is_here enters_all n 0
finds-parts is_here n = fold_out-Node Bool (finds_here is_here enters_all) n

pub ruleset walking = (take-item, child-smaller, node_of-parts, children-all, append_assoc, take_at, drop_at)
