-- The places of the items that pass a test, one after the other.
use Rattle.std.proofs.Common.{◌≡◌, ◌∙◌, ◌<◌, ℕ, zero, suc, ◌+◌, ◌-◌, Bool, true, false, List, ◌∷◌, drop, length, Option, Some, None, refl, sym, ap, slice_get, arith}
use Rattle.std.proofs.lemmas.List.{at_drop_all}
use Rattle.ecma_tree.specs.declared.node.Node.{Node, out-Node}
use Rattle.ecma_tree.proofs.Items.{drop-item}
use Rattle.ecma_lower.specs.Checking.{places_of}

module _ (test : Node → Bool) where
  abbrev nth : List Node → ℕ → Option ℕ
  nth xs n = slice_get (places_of test xs) n

  skip : (x : Node) (xs : List Node) (n : ℕ) → test x ≡ false → nth (x ∷ xs) n ≡ nth xs n
  skip x xs n h = rw h refl

  first : (x : Node) (xs : List Node) → test x ≡ true → nth (x ∷ xs) 0 ≡ Some (out-Node x).span.lo
  first x xs h = rw h refl

  count : (x : Node) (xs : List Node) (n : ℕ) → test x ≡ true → nth (x ∷ xs) (suc n) ≡ nth xs n
  count x xs n h = rw h refl

  -- an item that fails it
  pub place-skip : (xs : List Node) (i n : ℕ) (x : Node) (a : Option ℕ) → slice_get xs i ≡ Some x → test x ≡ false → a ≡ nth (drop i xs) n → a ≡ nth (drop (i + 1) xs) n
  place-skip xs i n x a at h so = so ∙ ap (λ z. nth z n) (drop-item xs i x at) ∙ skip x (drop (i + 1) xs) n h

  -- the item that is sought
  pub place-first : (xs : List Node) (i : ℕ) (x : Node) (a : Option ℕ) → slice_get xs i ≡ Some x → test x ≡ true → a ≡ nth (drop i xs) 0 → a ≡ Some (out-Node x).span.lo
  place-first xs i x a at h so = so ∙ ap (λ z. nth z 0) (drop-item xs i x at) ∙ first x (drop (i + 1) xs) h

  -- an item before it
  pub place-count : (xs : List Node) (i n : ℕ) (x : Node) (a : Option ℕ) → slice_get xs i ≡ Some x → test x ≡ true → 0 < n → a ≡ nth (drop i xs) n → a ≡ nth (drop (i + 1) xs) (n - 1)
  place-count xs i zero x a at h more so = let impossible : ⊥ = omega (arith, more) in absurd impossible
  place-count xs i (suc n) x a at h more so =
      let less : suc n - 1 ≡ n = omega arith in
      so ∙ ap (λ z. nth z (suc n)) (drop-item xs i x at) ∙ count x (drop (i + 1) xs) n h ∙ ap (λ z. nth (drop (i + 1) xs) z) (sym less)

  -- none is left
  pub place-none : (xs : List Node) (i n : ℕ) (a : Option ℕ) → length xs ≡ i → a ≡ nth (drop i xs) n → a ≡ None
  place-none xs i n a all so = so ∙ at_drop_all (λ z. nth z n) xs i (omega (arith, all))

pub ruleset places = (place-skip, place-first, place-count, place-none)
