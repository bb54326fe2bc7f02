-- The equations of the names of values and of types in a node, child by child.
use Rattle.std.proofs.Common.{◌≡◌, ℕ, ◌+◌, List, ◌++◌, length, Some, slice_get}
use Rattle.ecma_tree.specs.declared.node.Node.{Node, out-Node}
use Rattle.ecma_walks.specs.Listing.{listed_within}
use Rattle.ecma_walks.proofs.Walking.{adding-all, adding-first, adding-next, rest_listed}
use Rattle.ecma_scope.specs.declared.form.Sought.{Sought}
use Rattle.ecma_elide.specs.declared.typed.Typed.{Typed}
use Rattle.ecma_elide.specs.DeclaredNames.{type_here, type_in, types_in, value_here, value_in, values_in}

-- the names in the children from the one at i on
abbrev pub rest_values : Sought → Node → ℕ → List (List ℕ)
rest_values = rest_listed Sought (List ℕ) value_in value_here

abbrev pub rest_types : Typed → Node → ℕ → List (List ℕ)
rest_types = rest_listed Typed (List ℕ) type_in type_here

module _ (sought : Sought) (n : Node) where
  pub values-first : (old new : List (List ℕ)) → new ≡ old ++ value_here sought n → new ++ rest_values sought n 0 ≡ old ++ values_in n sought
  values-first = adding-first Sought (List ℕ) value_in value_here sought n

  pub values-next : (old now more : List (List ℕ)) (i : ℕ) (x : Node) → slice_get (out-Node n).children i ≡ Some x
      → now ++ rest_values sought n i ≡ old ++ values_in n sought
      → more ≡ now ++ listed_within Sought (List ℕ) (value_in sought n i) (values_in x) → more ++ rest_values sought n (i + 1) ≡ old ++ values_in n sought
  values-next old now more i x at so_far is = adding-next Sought (List ℕ) value_in value_here sought n (old ++ values_in n sought) now more i x at is so_far

  pub values-all : (old now : List (List ℕ)) (i : ℕ) → length (out-Node n).children ≡ i → now ++ rest_values sought n i ≡ old ++ values_in n sought
      → now ≡ old ++ values_in n sought
  values-all old now = adding-all Sought (List ℕ) value_in value_here sought n (old ++ values_in n sought) now

module _ (typed : Typed) (n : Node) where
  pub types-first : (old new : List (List ℕ)) → new ≡ old ++ type_here typed n → new ++ rest_types typed n 0 ≡ old ++ types_in n typed
  types-first = adding-first Typed (List ℕ) type_in type_here typed n

  pub types-next : (old now more : List (List ℕ)) (i : ℕ) (x : Node) → slice_get (out-Node n).children i ≡ Some x
      → now ++ rest_types typed n i ≡ old ++ types_in n typed
      → more ≡ now ++ listed_within Typed (List ℕ) (type_in typed n i) (types_in x) → more ++ rest_types typed n (i + 1) ≡ old ++ types_in n typed
  types-next old now more i x at so_far is = adding-next Typed (List ℕ) type_in type_here typed n (old ++ types_in n typed) now more i x at is so_far

  pub types-all : (old now : List (List ℕ)) (i : ℕ) → length (out-Node n).children ≡ i → now ++ rest_types typed n i ≡ old ++ types_in n typed
      → now ≡ old ++ types_in n typed
  types-all old now = adding-all Typed (List ℕ) type_in type_here typed n (old ++ types_in n typed) now
