-- What a slot among others says of its tree.
use Rattle.std.proofs.Common.{◌≡◌, ◌≤◌, ◌<◌, ◌+◌, refl, sym, ap, ◌∙◌, ℕ, zero, suc, List, [], ◌∷◌, ◌++◌, take, drop, length, Some, slice_get, get_or, arith, append_assoc, length-append, subst}
use Rattle.std.proofs.lemmas.List.{append-nil, length-drop, length-take-le}
use Rattle.std.proofs.lemmas.Option.{slice_get-get_or}
use Rattle.ecma_kind.specs.declared.kind.Kind.{Kind}
use Rattle.ecma_tree.specs.declared.node.Node.{Node, Node-F, out-Node}
use Rattle.ecma_tree.specs.declared.node.Node.TheViews.{out-roll-Node}
use Rattle.ecma_forest.specs.Slots.{kind_at, tree_of, grown_from, grown, trees_over, IsGrounded, AreRooted, IsAt}
use Rattle.ecma_forest.specs.declared.forest.Slot.{Slot}
use Rattle.ecma_forest.proofs.Growing.{tree_of-more, length-grown, all_grounded-at, all_summed-at}

module _ {X : Type 0} where
  slice_get-drop : (n : ℕ) (xs : List X) (i : ℕ) → slice_get (drop n xs) i ≡ slice_get xs (n + i)
  slice_get-drop zero xs i = let e : 0 + i ≡ i = omega arith in rw e refl
  slice_get-drop (suc n) [] i = refl
  slice_get-drop (suc n) (x ∷ xs) i = let e : suc n + i ≡ suc (n + i) = omega arith in rw e (slice_get-drop n xs i)

  slice_get-take : (n : ℕ) (xs : List X) (i : ℕ) → i < n → slice_get (take n xs) i ≡ slice_get xs i
  slice_get-take zero xs i h = absurd (omega (arith, h))
  slice_get-take (suc n) [] i h = refl
  slice_get-take (suc n) (x ∷ xs) zero h = refl
  slice_get-take (suc n) (x ∷ xs) (suc i) h = slice_get-take n xs i (omega (arith, h))

  slice_get-seam : (xs ys : List X) (x : X) → slice_get (xs ++ x ∷ ys) (length xs + 0) ≡ Some x
  slice_get-seam [] ys x = refl
  slice_get-seam (z ∷ xs) ys x = let e : suc (length xs) + 0 ≡ suc (length xs + 0) = omega arith in rw e (slice_get-seam xs ys x)

-- an item within the list, whatever stands for one past its end
pub same-within : {X : Type 0} (xs : List X) (i : ℕ) (d e : X) → i < length xs → get_or xs i d ≡ get_or xs i e
same-within xs i d e h = let p = slice_get-get_or xs i d h in let q = slice_get-get_or xs i e h in cc

module _ (kinds : List Kind) where
  abbrev parts_of : List Node → Slot → Node-F Node
  parts_of trees s = record { span = s.span; kind = kind_at kinds s.kind; children = take s.count (drop s.first trees) }

  pub out-tree_of : (trees : List Node) (s : Slot) → out-Node (tree_of kinds trees s) ≡ parts_of trees s
  out-tree_of trees s = out-roll-Node (parts_of trees s)

  grown_from-extends : (trees : List Node) (ss : List Slot) → (more : List Node) × (grown_from kinds trees ss ≡ trees ++ more)
  grown_from-extends trees [] = ([], sym (append-nil trees))
  grown_from-extends trees (s ∷ ss) =
      let rest = grown_from-extends (trees ++ tree_of kinds trees s ∷ []) ss in
      (tree_of kinds trees s ∷ rest.0, rest.1 ∙ append_assoc trees (tree_of kinds trees s ∷ []) rest.0)

  module _ (n : ℕ) where
    -- the same slot, at a place that is the same number
    at_place : (place there : ℕ) (s : Slot) → place ≡ there → IsGrounded n place s → IsGrounded n there s
    at_place place there s e h = subst (λ k. IsGrounded n k s) e h

    grown_from-at : (trees : List Node) (ss : List Slot) (i : ℕ) (s : Slot) → slice_get ss i ≡ Some s → IsGrounded n (length trees + i) s
        → slice_get (grown_from kinds trees ss) (length trees + i) ≡ Some (tree_of kinds (grown_from kinds trees ss) s)
    grown_from-at trees [] i s at h = cc
    grown_from-at trees (x ∷ ss) zero s at h =
        let same : x ≡ s = cc in
        let g : IsGrounded n (length trees) s = at_place (length trees + 0) (length trees) s (omega arith) h in
        let rest = grown_from-extends trees (x ∷ ss) in
        let head = grown_from-extends (trees ++ tree_of kinds trees x ∷ []) ss in
        ap (λ ts. slice_get ts (length trees + 0)) (head.1 ∙ append_assoc trees (tree_of kinds trees x ∷ []) head.0)
        ∙ slice_get-seam trees head.0 (tree_of kinds trees x)
        ∙ ap (λ z. Some (tree_of kinds trees z)) same
        ∙ ap (λ t. Some t) (sym (ap (λ ts. tree_of kinds ts s) rest.1 ∙ tree_of-more kinds n trees rest.0 s g))
    grown_from-at trees (x ∷ ss) (suc i) s at h =
        let e : length (trees ++ tree_of kinds trees x ∷ []) + i ≡ length trees + suc i = omega (arith, length-append trees (tree_of kinds trees x ∷ [])) in
        let g : IsGrounded n (length (trees ++ tree_of kinds trees x ∷ []) + i) s = at_place (length trees + suc i) (length (trees ++ tree_of kinds trees x ∷ []) + i) s (sym e) h in
        subst (λ k. slice_get (grown_from kinds trees (x ∷ ss)) k ≡ Some (tree_of kinds (grown_from kinds trees (x ∷ ss)) s)) e (grown_from-at (trees ++ tree_of kinds trees x ∷ []) ss i s at g)

    -- the tree at a slot's place is that of the slot
    pub grown-at : (ss : List Slot) (i : ℕ) (s : Slot) → slice_get ss i ≡ Some s → IsGrounded n (0 + i) s → slice_get (grown kinds ss) i ≡ Some (tree_of kinds (grown kinds ss) s)
    unfolding grown
    grown-at ss i s at h =
        let e : 0 + i ≡ i = omega arith in
        subst (λ k. slice_get (grown_from kinds [] ss) k ≡ Some (tree_of kinds (grown_from kinds [] ss) s)) e (grown_from-at [] ss i s at h)

module _ (kinds : List Kind) (below : List Slot) (s : Slot) where
  abbrev tree : Node
  tree = tree_of kinds (grown kinds below) s

  pub kind-tree : (out-Node tree).kind ≡ kind_at kinds s.kind
  kind-tree = ap (λ parts. parts.kind) (out-tree_of kinds (grown kinds below) s)

  pub children-tree : (out-Node tree).children ≡ take s.count (drop s.first (grown kinds below))
  children-tree = ap (λ parts. parts.children) (out-tree_of kinds (grown kinds below) s)

  pub length-children : (n : ℕ) → IsGrounded n (length below) s → s.count ≡ length (out-Node tree).children
  length-children n h =
      let room : s.count ≤ length (drop s.first (grown kinds below)) = omega (arith, h.front, length-drop s.first (grown kinds below), length-grown kinds below) in
      sym (ap length children-tree ∙ length-take-le s.count (drop s.first (grown kinds below)) room)

  module _ (at : IsAt kinds below s) (i : ℕ) (within : i < length (out-Node tree).children) where
    abbrev place : ℕ
    place = s.first + i

    pub child-within : s.first + i < length below
    child-within = omega (arith, within, at.grounded.front, length-children (length kinds) at.grounded)

    pub child-is : (d : Slot) → IsAt kinds below (get_or below (s.first + i) d)
    child-is d =
        let there : slice_get below (s.first + i) ≡ Some (get_or below (s.first + i) d) = slice_get-get_or below (s.first + i) d child-within in
        let low : IsGrounded (length kinds) (0 + (s.first + i)) (get_or below (s.first + i) d) = at.inner.grounded (s.first + i) (get_or below (s.first + i) d) there in
        record {
          inner = at.inner;
          grounded = record { known = low.known; front = omega (arith, low.front, child-within) };
          summed = all_summed-at kinds (grown kinds below) below (s.first + i) (get_or below (s.first + i) d) at.inner.summed there;
        }

    pub child-at : (d : Slot) → slice_get (out-Node tree).children i ≡ Some (tree_of kinds (grown kinds below) (get_or below (s.first + i) d))
    child-at d =
        let there : slice_get below (s.first + i) ≡ Some (get_or below (s.first + i) d) = slice_get-get_or below (s.first + i) d child-within in
        let few : i < s.count = omega (arith, within, length-children (length kinds) at.grounded) in
        ap (λ ns. slice_get ns i) children-tree
        ∙ slice_get-take s.count (drop s.first (grown kinds below)) i few
        ∙ slice_get-drop s.first (grown kinds below) i
        ∙ grown-at kinds (length kinds) below (s.first + i) (get_or below (s.first + i) d) there (at.inner.grounded (s.first + i) (get_or below (s.first + i) d) there)

module _ (kinds : List Kind) where
  -- a root among the others
  pub root-is : (below roots : List Slot) (i : ℕ) (s : Slot) → AreRooted kinds below roots → slice_get roots i ≡ Some s → IsAt kinds below s
  root-is below roots i s h at = record {
    inner = h.inner;
    grounded = all_grounded-at (length kinds) (length below) roots i s h.grounded at;
    summed = all_summed-at kinds (grown kinds below) roots i s h.summed at;
  }

  pub root-at : (below roots : List Slot) (i : ℕ) (s : Slot) → slice_get roots i ≡ Some s → slice_get (trees_over kinds below roots) i ≡ Some (tree_of kinds (grown kinds below) s)
  root-at below [] i s at = cc
  root-at below (x ∷ roots) zero s at = let same : x ≡ s = cc in rw same refl
  root-at below (x ∷ roots) (suc i) s at = root-at below roots i s at
