-- The equations of what is used, child by child.
use Rattle.std.proofs.Common.{◌≡◌, ℕ, ◌+◌, List, ◌++◌, length, Some, slice_get}
use Rattle.ecma_tree.specs.declared.node.Node.{Node, out-Node}
use Rattle.ecma_walks.proofs.Walking.{adding-all, adding-first, adding-next, rest_listed}
use Rattle.ecma_scope.specs.declared.uses.Use.{Use}
use Rattle.ecma_scope.specs.Uses.{UsedId, use_in, used_at, used_here, used_in_child, used_in_node}

module _ (stands : Use) (n : Node) where
  -- what is used in the children from the one at i on
  abbrev pub used_rest : ℕ → List UsedId
  used_rest = rest_listed Use UsedId used_in_child used_in_node stands n

  pub used-first : (old new : List UsedId) → new ≡ old ++ used_here stands (out-Node n).kind → new ++ used_rest 0 ≡ old ++ used_at n stands
  used-first = adding-first Use UsedId used_in_child used_in_node stands n

  pub used-next : (old now more : List UsedId) (i : ℕ) (x : Node) → slice_get (out-Node n).children i ≡ Some x → now ++ used_rest i ≡ old ++ used_at n stands
      → more ≡ now ++ used_at x (use_in stands n i) → more ++ used_rest (i + 1) ≡ old ++ used_at n stands
  used-next old now more i x at so_far is = adding-next Use UsedId used_in_child used_in_node stands n (old ++ used_at n stands) now more i x at is so_far

  pub used-all : (old now : List UsedId) (i : ℕ) → length (out-Node n).children ≡ i → now ++ used_rest i ≡ old ++ used_at n stands → now ≡ old ++ used_at n stands
  used-all old now = adding-all Use UsedId used_in_child used_in_node stands n (old ++ used_at n stands) now
