-- The equations of the names in a node, child by child.
use Rattle.std.proofs.Common.{◌≡◌, ℕ, ◌+◌, List, ◌++◌, length, Some, slice_get}
use Rattle.ecma_tree.specs.declared.node.Node.{Node, out-Node}
use Rattle.ecma_walks.specs.Listing.{listed_within}
use Rattle.ecma_walks.proofs.Walking.{adding-all, adding-first, adding-next, rest_listed}
use Rattle.ecma_exports.specs.declared.place.Place.{Place}
use Rattle.ecma_exports.specs.Places.{place_in, texts_here, texts_in}

-- the names in the children from the one at i on
abbrev pub rest_texts : ℕ → Place → Node → ℕ → List (List ℕ)
rest_texts free = rest_listed Place (List ℕ) place_in (texts_here free)

module _ (free : ℕ) (place : Place) (n : Node) where
  pub texts-first : (old new : List (List ℕ)) → new ≡ old ++ texts_here free place n → new ++ rest_texts free place n 0 ≡ old ++ texts_in free n place
  texts-first = adding-first Place (List ℕ) place_in (texts_here free) place n

  pub texts-next : (old now more : List (List ℕ)) (i : ℕ) (x : Node) → slice_get (out-Node n).children i ≡ Some x
      → now ++ rest_texts free place n i ≡ old ++ texts_in free n place
      → more ≡ now ++ listed_within Place (List ℕ) (place_in place n i) (texts_in free x) → more ++ rest_texts free place n (i + 1) ≡ old ++ texts_in free n place
  texts-next old now more i x at so_far is = adding-next Place (List ℕ) place_in (texts_here free) place n (old ++ texts_in free n place) now more i x at is so_far

  pub texts-all : (old now : List (List ℕ)) (i : ℕ) → length (out-Node n).children ≡ i → now ++ rest_texts free place n i ≡ old ++ texts_in free n place
      → now ≡ old ++ texts_in free n place
  texts-all old now = adding-all Place (List ℕ) place_in (texts_here free) place n (old ++ texts_in free n place) now
