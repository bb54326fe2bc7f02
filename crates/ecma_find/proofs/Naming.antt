-- The equations of what a finder lists, for a loop that adds to a list.
use Rattle.std.proofs.Common.{◌≡◌, ℕ, ◌+◌, Bool, true, if◌then◌else◌, List, [], ◌++◌, length, Some, sym, ap, ◌∙◌, slice_get, append_assoc}
use Rattle.std.proofs.lemmas.List.{append-nil}
use Rattle.ecma_tree.specs.declared.node.Node.{Node, out-Node}
use Rattle.ecma_walks.proofs.Walking.{adding-all, adding-first, adding-next, listed-out, rest_given, rest_given-all, rest_given-next, rest_listed, rest_listed-all, rest_listed-next}
use Rattle.ecma_find.specs.declared.finder.Place.{Place}
use Rattle.ecma_find.specs.Finders.{Rules}
use Rattle.ecma_find.specs.Found.{is_listed, place_at, taken_here, taken_in, taken_within}

module _ (A : Type 0) (taken : Node → List A) (rules : Rules) (place : Place) where
  module _ (n : Node) where
    -- what the children from the one at i on give
    abbrev pub taken_rest : ℕ → List A
    taken_rest i = rest_listed Place A (place_at rules) (taken_here A taken rules) place n i

    -- a node that is listed gives what it is taken for
    pub taken_here-listed : is_listed rules place (out-Node n).kind ≡ true → taken_here A taken rules place n ≡ taken n
    taken_here-listed is = ap (λ (b : Bool). if b then taken n else []) is

    pub taken-out : taken_in A taken rules n place ≡ taken_here A taken rules place n ++ taken_rest 0
    taken-out = listed-out Place A (place_at rules) (taken_here A taken rules) place n

    pub taken_rest-next : (i : ℕ) (x : Node) → slice_get (out-Node n).children i ≡ Some x
        → taken_rest i ≡ taken_within A taken rules (place_at rules place n i) x ++ taken_rest (i + 1)
    taken_rest-next = rest_listed-next Place A (place_at rules) (taken_here A taken rules) place n

    pub taken_rest-all : (i : ℕ) → length (out-Node n).children ≡ i → taken_rest i ≡ []
    taken_rest-all = rest_listed-all Place A (place_at rules) (taken_here A taken rules) place n

    pub taking-first : (old new : List A) → new ≡ old ++ taken_here A taken rules place n
        → new ++ taken_rest 0 ≡ old ++ taken_in A taken rules n place
    taking-first = adding-first Place A (place_at rules) (taken_here A taken rules) place n

    pub taking-next : (whole now more : List A) (i : ℕ) (x : Node) → slice_get (out-Node n).children i ≡ Some x
        → more ≡ now ++ taken_within A taken rules (place_at rules place n i) x → now ++ taken_rest i ≡ whole
        → more ++ taken_rest (i + 1) ≡ whole
    taking-next = adding-next Place A (place_at rules) (taken_here A taken rules) place n

    pub taking-all : (whole now : List A) (i : ℕ) → length (out-Node n).children ≡ i → now ++ taken_rest i ≡ whole → now ≡ whole
    taking-all = adding-all Place A (place_at rules) (taken_here A taken rules) place n

  module _ (ns : List Node) where
    -- what the nodes from the one at i on give
    abbrev pub given_rest : ℕ → List A
    given_rest i = rest_given Node A (λ node. taken_in A taken rules node place) ns i

    pub given_rest-next : (i : ℕ) (x : Node) → slice_get ns i ≡ Some x
        → given_rest i ≡ taken_within A taken rules (Some place) x ++ given_rest (i + 1)
    given_rest-next = rest_given-next Node A (λ node. taken_in A taken rules node place) ns

    pub given_rest-all : (i : ℕ) → length ns ≡ i → given_rest i ≡ []
    given_rest-all = rest_given-all Node A (λ node. taken_in A taken rules node place) ns

    pub giving-next : (whole now more : List A) (i : ℕ) (x : Node) → slice_get ns i ≡ Some x
        → more ≡ now ++ taken_within A taken rules (Some place) x → now ++ given_rest i ≡ whole → more ++ given_rest (i + 1) ≡ whole
    giving-next whole now more i x at adds so_far =
        ap (λ z. z ++ given_rest (i + 1)) adds ∙ append_assoc now (taken_in A taken rules x place) (given_rest (i + 1))
        ∙ ap (λ z. now ++ z) (sym (rest_given-next Node A (λ node. taken_in A taken rules node place) ns i x at)) ∙ so_far

    pub giving-all : (whole now : List A) (i : ℕ) → length ns ≡ i → now ++ given_rest i ≡ whole → now ≡ whole
    giving-all whole now i all so_far =
        sym (append-nil now)
        ∙ ap (λ z. now ++ z) (sym (rest_given-all Node A (λ node. taken_in A taken rules node place) ns i all)) ∙ so_far
