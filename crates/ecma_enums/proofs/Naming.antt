-- The equations of the name that an expression is.
use Rattle.std.proofs.Common.{◌≡◌, ℕ, map, Option, Some, None, slice_get}
use Rattle.ecma_tree.proofs.Layers.{from_leaves_out}
use Rattle.ecma_tree.specs.declared.node.Node.{Node, out-Node}
use Rattle.ecma_enums.specs.Names.{Name, name_at, name_by, name_under}
use Rattle.ecma_enums.proofs.At.{get_or-none, get_or-some}

pub name-out : (n : Node) → name_under n ≡ name_by (out-Node n).kind (map name_under (out-Node n).children)
unfolding name_under
name-out n = from_leaves_out (Option Name) (λ n kids. name_by (out-Node n).kind kids) n

pub name-some : (n : Node) (i : ℕ) (x : Node) → slice_get (out-Node n).children i ≡ Some x → name_at n i ≡ name_under x
name-some n = get_or-some name_under None (out-Node n).children

pub name-none : (n : Node) (i : ℕ) → slice_get (out-Node n).children i ≡ None → name_at n i ≡ None
name-none n = get_or-none name_under None (out-Node n).children

pub ruleset naming = (name-out, name-some, name-none)
