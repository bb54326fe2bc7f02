-- The equations of what a finder finds.
use Rattle.std.proofs.Common.{◌≡◌, ℕ, ◌+◌, Bool, true, false, ◌||◌, List, [], if◌then◌else◌, length, Some, ap, ◌∙◌, slice_get}
use Rattle.ecma_tree.specs.declared.node.Node.{Node, out-Node}
use Rattle.ecma_walks.specs.Listing.{some_item}
use Rattle.ecma_walks.proofs.Walking.{finding-first, finding-here, finding-next, finding-none, rest_given, rest_given-all, rest_given-next, rest_listed, some_item-append}
use Rattle.ecma_find.specs.declared.finder.Place.{Place}
use Rattle.ecma_find.specs.Finders.{Rules}
use Rattle.ecma_find.specs.Found.{finds_within, is_listed, place_at, taken_here, taken_in}
use Rattle.ecma_find.specs.Names.{itself}

module _ (rules : Rules) (place : Place) (n : Node) where
  -- whether the finder lists a node in the children from the one at i on
  abbrev pub finds_in_rest : ℕ → Bool
  finds_in_rest i = some_item Node (rest_listed Place Node (place_at rules) (taken_here Node itself rules) place n i)

  here-is : (b : Bool) → is_listed rules place (out-Node n).kind ≡ b → some_item Node (taken_here Node itself rules place n) ≡ b
  here-is true is = ap (λ (z : Bool). some_item Node (if z then itself n else [])) is
  here-is false is = ap (λ (z : Bool). some_item Node (if z then itself n else [])) is

  pub finds_in-here : is_listed rules place (out-Node n).kind ≡ true → finds_within rules (Some place) n ≡ true
  finds_in-here is = finding-here Place Node (place_at rules) (taken_here Node itself rules) place n (here-is true is)

  pub finds_in-first : is_listed rules place (out-Node n).kind ≡ false → finds_within rules (Some place) n ≡ finds_in_rest 0
  finds_in-first is = finding-first Place Node (place_at rules) (taken_here Node itself rules) place n (here-is false is)

  pub finds_in-next : (b : Bool) (i : ℕ) (x : Node) → slice_get (out-Node n).children i ≡ Some x
      → finds_within rules (place_at rules place n i) x ≡ b
      → finds_in_rest i ≡ b || finds_in_rest (i + 1)
  finds_in-next = finding-next Place Node (place_at rules) (taken_here Node itself rules) place n

  pub finds_in-none : (i : ℕ) → length (out-Node n).children ≡ i → finds_in_rest i ≡ false
  finds_in-none = finding-none Place Node (place_at rules) (taken_here Node itself rules) place n

module _ (rules : Rules) (place : Place) (ns : List Node) where
  -- whether the finder lists a node in those from the one at i on
  abbrev pub finds_among_rest : ℕ → Bool
  finds_among_rest i = some_item Node (rest_given Node Node (λ node. taken_in Node itself rules node place) ns i)

  pub finds_among-next : (b : Bool) (i : ℕ) (x : Node) → slice_get ns i ≡ Some x → finds_within rules (Some place) x ≡ b
      → finds_among_rest i ≡ b || finds_among_rest (i + 1)
  finds_among-next b i x at is =
      ap (some_item Node) (rest_given-next Node Node (λ node. taken_in Node itself rules node place) ns i x at)
      ∙ some_item-append Node (taken_in Node itself rules x place)
      (rest_given Node Node (λ node. taken_in Node itself rules node place) ns (i + 1))
      ∙ ap (λ z. z || finds_among_rest (i + 1)) is

  pub finds_among-none : (i : ℕ) → length ns ≡ i → finds_among_rest i ≡ false
  finds_among-none i all = ap (some_item Node) (rest_given-all Node Node (λ node. taken_in Node itself rules node place) ns i all)
