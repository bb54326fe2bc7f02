-- The equations of `listed`, once for every walk: a loop goes through the children by index, and what it has is put before what the others list.
use Rattle.std.proofs.Common.{◌≡◌, ℕ, zero, suc, ◌+◌, Bool, true, false, ◌||◌, List, [], ◌∷◌, ◌++◌, map, drop, length, Option, Some, refl, sym, ap, subst, ◌∙◌, slice_get, add-one, append_assoc, arith}
use Rattle.std.proofs.lemmas.List.{append-nil}
use Rattle.std.specs.List.{FoldsTo, flat_map}
use Rattle.ecma_tree.specs.declared.node.Node.{Node, out-Node}
use Rattle.ecma_tree.proofs.Items.{drop-item}
use Rattle.ecma_tree.proofs.Layers.{from_leaves_out}
use Rattle.ecma_walks.specs.Listing.{listed, listed_from, listed_within, listing_step, some_item}

drop-none : {X : Type 0} (xs : List X) (i : ℕ) → length xs ≡ i → drop i xs ≡ []
drop-none [] zero all = refl
drop-none [] (suc i) all = refl
drop-none (x ∷ xs) zero all = cc
drop-none (x ∷ xs) (suc i) all = drop-none xs i (omega (arith, all))

-- ---- whether there is an item

pub some_item-append : (A : Type 0) (xs ys : List A) → some_item A (xs ++ ys) ≡ some_item A xs || some_item A ys
some_item-append A [] ys = refl
some_item-append A (x ∷ xs) ys = refl

-- ---- steps over items

pub FoldsTo-append : {P A : Type 0} (R : P → A → P → Type 0) (xs ys : List A) (p q r : P) → FoldsTo R p xs q → FoldsTo R q ys r → FoldsTo R p (xs ++ ys) r
FoldsTo-append R [] ys p q r first second = subst (λ z. FoldsTo R z ys r) (sym first) second
FoldsTo-append R (x ∷ xs) ys p q r first second = (first.0, first.1, FoldsTo-append R xs ys first.0 q r first.2 second)

module _ (S A : Type 0) (step : S → Node → ℕ → Option S) (here : S → Node → List A) where
  module _ (around : S) (n : Node) where
    -- what the children from the one at i on list
    abbrev pub rest_listed : ℕ → List A
    rest_listed i = listed_from S A (step around n) i (map (listed S A step here) (drop i (out-Node n).children))

    -- a node lists what it lists itself, and then what its children list
    pub listed-out : listed S A step here n around ≡ here around n ++ rest_listed 0
    listed-out = ap (λ f. f around) (from_leaves_out (S → List A) (listing_step S A step here) n)

    -- what the child at i lists, and those behind it
    pub rest_listed-next : (i : ℕ) (x : Node) → slice_get (out-Node n).children i ≡ Some x
        → rest_listed i ≡ listed_within S A (step around n i) (listed S A step here x) ++ rest_listed (i + 1)
    rest_listed-next i x at = rw (add-one, drop-item (out-Node n).children i x at, add-one) refl

    -- behind the last child nothing is listed
    pub rest_listed-all : (i : ℕ) → length (out-Node n).children ≡ i → rest_listed i ≡ []
    rest_listed-all i all = ap (λ (z : List Node). listed_from S A (step around n) i (map (listed S A step here) z)) (drop-none (out-Node n).children i all)

    -- ---- a loop that adds to a list

    pub adding-first : (old new : List A) → new ≡ old ++ here around n → new ++ rest_listed 0 ≡ old ++ listed S A step here n around
    adding-first old new is = ap (λ z. z ++ rest_listed 0) is ∙ append_assoc old (here around n) (rest_listed 0) ∙ ap (λ z. old ++ z) (sym listed-out)

    pub adding-next : (whole now more : List A) (i : ℕ) (x : Node) → slice_get (out-Node n).children i ≡ Some x
        → more ≡ now ++ listed_within S A (step around n i) (listed S A step here x) → now ++ rest_listed i ≡ whole → more ++ rest_listed (i + 1) ≡ whole
    adding-next whole now more i x at adds so_far =
        ap (λ z. z ++ rest_listed (i + 1)) adds ∙ append_assoc now (listed_within S A (step around n i) (listed S A step here x)) (rest_listed (i + 1))
        ∙ ap (λ z. now ++ z) (sym (rest_listed-next i x at)) ∙ so_far

    pub adding-all : (whole now : List A) (i : ℕ) → length (out-Node n).children ≡ i → now ++ rest_listed i ≡ whole → now ≡ whole
    adding-all whole now i all so_far = sym (append-nil now) ∙ ap (λ z. now ++ z) (sym (rest_listed-all i all)) ∙ so_far

    -- ---- a loop that asks whether there is an item

    -- a node that lists something itself has one
    pub finding-here : some_item A (here around n) ≡ true → some_item A (listed S A step here n around) ≡ true
    finding-here has = ap (some_item A) listed-out ∙ some_item-append A (here around n) (rest_listed 0) ∙ ap (λ b. b || some_item A (rest_listed 0)) has

    -- for one that does not, its children decide
    pub finding-first : some_item A (here around n) ≡ false → some_item A (listed S A step here n around) ≡ some_item A (rest_listed 0)
    finding-first has = ap (some_item A) listed-out ∙ some_item-append A (here around n) (rest_listed 0) ∙ ap (λ b. b || some_item A (rest_listed 0)) has

    -- the child at i decides, or those behind it
    pub finding-next : (b : Bool) (i : ℕ) (x : Node) → slice_get (out-Node n).children i ≡ Some x
        → some_item A (listed_within S A (step around n i) (listed S A step here x)) ≡ b → some_item A (rest_listed i) ≡ b || some_item A (rest_listed (i + 1))
    finding-next b i x at has =
        ap (some_item A) (rest_listed-next i x at) ∙ some_item-append A (listed_within S A (step around n i) (listed S A step here x)) (rest_listed (i + 1))
        ∙ ap (λ z. z || some_item A (rest_listed (i + 1))) has

    pub finding-none : (i : ℕ) → length (out-Node n).children ≡ i → some_item A (rest_listed i) ≡ false
    finding-none i all = ap (some_item A) (rest_listed-all i all)

-- ---- several nodes, one behind the other

module _ (X A : Type 0) (f : X → List A) (xs : List X) where
  -- what those from the one at i on give
  abbrev pub rest_given : ℕ → List A
  rest_given i = flat_map f (drop i xs)

  pub rest_given-next : (i : ℕ) (x : X) → slice_get xs i ≡ Some x → rest_given i ≡ f x ++ rest_given (i + 1)
  rest_given-next i x at = rw (drop-item xs i x at) refl

  pub rest_given-all : (i : ℕ) → length xs ≡ i → rest_given i ≡ []
  rest_given-all i all = ap (λ z. flat_map f z) (drop-none xs i all)
