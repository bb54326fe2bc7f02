-- The equations of what is found in a node, child by child.
use Rattle.std.proofs.Common.{◌≡◌, ℕ, ◌+◌, Bool, List, ◌++◌, length, Some, slice_get}
use Rattle.ecma_tree.specs.declared.node.Node.{Node, out-Node}
use Rattle.ecma_walks.proofs.Walking.{adding-all, adding-first, adding-next, rest_listed}
use Rattle.ecma_merging.specs.declared.asked.Asked.{Asked}
use Rattle.ecma_merging.specs.declared.finding.Finding.{Finding}
use Rattle.ecma_merging.specs.Merging.{ambient_at, found, found_here, is_ambient_in}

-- what is found in the children from the one at i on
abbrev pub rest_found : Asked → Bool → Node → ℕ → List Finding
rest_found asked = rest_listed Bool Finding ambient_at (found_here asked)

module _ (asked : Asked) (ambient : Bool) (n : Node) where
  pub found-first : (old new : List Finding) → new ≡ old ++ found_here asked ambient n → new ++ rest_found asked ambient n 0 ≡ old ++ found asked n ambient
  found-first = adding-first Bool Finding ambient_at (found_here asked) ambient n

  pub found-below : (old now more : List Finding) (i : ℕ) (x : Node) → slice_get (out-Node n).children i ≡ Some x
      → now ++ rest_found asked ambient n i ≡ old ++ found asked n ambient
      → more ≡ now ++ found asked x (is_ambient_in ambient (out-Node n).kind) → more ++ rest_found asked ambient n (i + 1) ≡ old ++ found asked n ambient
  found-below old now more i x at so_far is = adding-next Bool Finding ambient_at (found_here asked) ambient n (old ++ found asked n ambient) now more i x at is so_far

  pub found-whole : (old now : List Finding) (i : ℕ) → length (out-Node n).children ≡ i → now ++ rest_found asked ambient n i ≡ old ++ found asked n ambient
      → now ≡ old ++ found asked n ambient
  found-whole old now = adding-all Bool Finding ambient_at (found_here asked) ambient n (old ++ found asked n ambient) now
