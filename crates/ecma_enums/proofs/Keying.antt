-- The equations of the text that a node is as the key of a member.
use Rattle.std.proofs.Common.{◌≡◌, ℕ, List, map, Option, Some, None, slice_get}
use Rattle.ecma_tree.proofs.Layers.{from_leaves_out}
use Rattle.ecma_tree.specs.declared.node.Node.{Node, out-Node}
use Rattle.ecma_enums.specs.Keys.{key_at, key_by, key_under}
use Rattle.ecma_enums.proofs.At.{get_or-none, get_or-some}

pub key-out : (n : Node) → key_under n ≡ key_by (out-Node n).kind n (map key_under (out-Node n).children)
unfolding key_under
key-out n = from_leaves_out (Option (List ℕ)) (λ n kids. key_by (out-Node n).kind n kids) n

pub key-some : (n : Node) (i : ℕ) (x : Node) → slice_get (out-Node n).children i ≡ Some x → key_at n i ≡ key_under x
key-some n = get_or-some key_under None (out-Node n).children

pub key-none : (n : Node) (i : ℕ) → slice_get (out-Node n).children i ≡ None → key_at n i ≡ None
key-none n = get_or-none key_under None (out-Node n).children

pub ruleset keying = (key-out, key-some, key-none)
