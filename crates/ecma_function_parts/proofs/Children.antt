-- Children that are taken out of a list one by one, from the first on.
use Rattle.std.proofs.Common.{◌≡◌, ◌∙◌, ◌<◌, ℕ, zero, suc, ◌+◌, List, [], ◌∷◌, ◌++◌, map, take, drop, get_or, length, Option, Some, None, refl, sym, ap, slice_get, slice_set, add-one, append_assoc, arith}
use Rattle.std.proofs.Math.ListN.{set, length-set}
use Rattle.std.proofs.lemmas.List.{at_drop_all, drop-set-lt, append-nil}
use Rattle.ecma_tree.proofs.Items.{drop-item}

module _ {X : Type 0} where
  abbrev head : List X → Option X
  head [] = None
  head (x ∷ xs) = Some x

  abbrev tail : List X → List X
  tail [] = []
  tail (x ∷ xs) = xs

  get-head : (xs : List X) (i : ℕ) → slice_get xs i ≡ head (drop i xs)
  get-head [] zero = refl
  get-head [] (suc i) = refl
  get-head (x ∷ xs) zero = refl
  get-head (x ∷ xs) (suc i) = get-head xs i

  drop-tail : (xs : List X) (i : ℕ) → drop (suc i) xs ≡ tail (drop i xs)
  drop-tail [] zero = refl
  drop-tail [] (suc i) = refl
  drop-tail (x ∷ xs) zero = refl
  drop-tail (x ∷ xs) (suc i) = drop-tail xs i

  -- a child that is still there is the one that stood there
  pub child-was : (xs ys : List X) (i : ℕ) (x : X) → drop i xs ≡ drop i ys → slice_get xs i ≡ Some x → slice_get ys i ≡ Some x
  child-was xs ys i x same at = get-head ys i ∙ ap head (sym same) ∙ sym (get-head xs i) ∙ at

  -- once it is taken out, those behind it are still there
  pub rest-same : (xs ys : List X) (i : ℕ) (y : X) → drop i xs ≡ drop i ys → drop (i + 1) (slice_set xs i y) ≡ drop (i + 1) ys
  rest-same xs ys i y same =
      let less : i < i + 1 = omega arith in
      drop-set-lt (i + 1) xs i y less ∙ rw add-one (drop-tail xs i ∙ ap tail same ∙ sym (drop-tail ys i))

  pub as-long : (xs ys : List X) (i : ℕ) (y : X) → length xs ≡ length ys → length (slice_set xs i y) ≡ length ys
  as-long xs ys i y long = length-set xs i y ∙ long

-- ---- mapped into another list

module _ {X Y : Type 0} (f : X → Y) where
  pub mapping-next : (ys : List X) (done : List Y) (i : ℕ) (x : X) → slice_get ys i ≡ Some x → done ++ map f (drop i ys) ≡ map f ys
      → (done ++ f x ∷ []) ++ map f (drop (i + 1) ys) ≡ map f ys
  mapping-next ys done i x at so =
      append_assoc done (f x ∷ []) (map f (drop (i + 1) ys)) ∙ ap (λ (zs : List X). done ++ map f zs) (sym (drop-item ys i x at)) ∙ so

  pub mapping-all : (ys : List X) (done : List Y) (i : ℕ) → length ys ≡ i → done ++ map f (drop i ys) ≡ map f ys → done ≡ map f ys
  mapping-all ys done i all so =
      sym (append-nil done) ∙ ap (λ zs. done ++ zs) (sym (at_drop_all (λ (zs : List X). map f zs) ys i (omega (arith, all)))) ∙ so

-- ---- mapped in their places

module _ {X : Type 0} (f : X → X) where
  was-there : (ys : List X) (i : ℕ) (x d : X) → i < length ys → get_or (map f (take i ys) ++ drop i ys) i d ≡ x → slice_get ys i ≡ Some x
  was-there [] i x d within at = absurd (omega (arith, within))
  was-there (y ∷ ys) zero x d within at = ap Some at
  was-there (y ∷ ys) (suc i) x d within at = was-there ys i x d (omega (arith, within)) at

  put-there : (ys : List X) (i : ℕ) (x a : X) → slice_get ys i ≡ Some x
      → set (set (map f (take i ys) ++ drop i ys) i a) i (f x) ≡ map f (take (suc i) ys) ++ drop (suc i) ys
  put-there [] i x a at = cc
  put-there (y ∷ ys) zero x a at = let same : y ≡ x = cc in ap (λ z. f z ∷ ys) (sym same)
  put-there (y ∷ ys) (suc i) x a at = ap (λ z. f y ∷ z) (put-there ys i x a at)

  -- the first i items are mapped: the one at i is as it stood
  pub replaced-was : (xs ys : List X) (i : ℕ) (x d : X) → xs ≡ map f (take i ys) ++ drop i ys → i < length ys → get_or xs i d ≡ x → slice_get ys i ≡ Some x
  replaced-was xs ys i x d so within at = was-there ys i x d within (ap (λ (z : List X). get_or z i d) (sym so) ∙ at)

  -- once it is mapped too, one item more is
  pub replaced-next : (xs ys : List X) (i : ℕ) (x a y : X) → xs ≡ map f (take i ys) ++ drop i ys → slice_get ys i ≡ Some x → y ≡ f x
      → set (set xs i a) i y ≡ map f (take (i + 1) ys) ++ drop (i + 1) ys
  replaced-next xs ys i x a y so at is =
      ap (λ (z : List X). set (set z i a) i y) so ∙ ap (λ (z : X). set (set (map f (take i ys) ++ drop i ys) i a) i z) is ∙ rw add-one (put-there ys i x a at)
