-- The equations of the declarations in a node and where they stand, child by child.
use Rattle.std.proofs.Common.{◌≡◌, ℕ, ◌+◌, List, ◌++◌, length, Some, slice_get}
use Rattle.ecma_tree.specs.declared.node.Node.{Node, out-Node}
use Rattle.ecma_walks.specs.Listing.{listed_within}
use Rattle.ecma_walks.proofs.Walking.{adding-all, adding-first, adding-next, rest_listed}
use Rattle.ecma_scope.specs.declared.form.Located.{Located}
use Rattle.ecma_scope.specs.declared.form.Sought.{Sought}
use Rattle.ecma_scope.specs.Declarations.{sought_in}
use Rattle.ecma_scope.specs.Located.{located, located_here}

-- the declarations in the children from the one at i on
abbrev pub found_from : Sought → Node → ℕ → List Located
found_from = rest_listed Sought Located sought_in located_here

module _ (sought : Sought) (n : Node) where
  -- with what the node itself declares, the children are left
  pub names-first : (old new : List Located) → new ≡ old ++ located_here sought n → new ++ found_from sought n 0 ≡ old ++ located n sought
  names-first = adding-first Sought Located sought_in located_here sought n

  pub names-next : (old now more : List Located) (i : ℕ) (x : Node) → slice_get (out-Node n).children i ≡ Some x
      → now ++ found_from sought n i ≡ old ++ located n sought
      → more ≡ now ++ listed_within Sought Located (sought_in sought n i) (located x) → more ++ found_from sought n (i + 1) ≡ old ++ located n sought
  names-next old now more i x at so_far is = adding-next Sought Located sought_in located_here sought n (old ++ located n sought) now more i x at is so_far

  pub names-all : (old now : List Located) (i : ℕ) → length (out-Node n).children ≡ i → now ++ found_from sought n i ≡ old ++ located n sought
      → now ≡ old ++ located n sought
  names-all old now = adding-all Sought Located sought_in located_here sought n (old ++ located n sought) now
