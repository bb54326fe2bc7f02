-- The equations of `has_shape`: what each child with its shape says of the whole.
use Rattle.std.proofs.Common.{◌≡◌, ℕ, suc, ◌+◌, Bool, true, false, ◌&&◌, List, [], ◌∷◌, map, drop, length, Some, refl, sym, ap, ◌∙◌, slice_get}
use Rattle.std.proofs.lemmas.List.{length-map}
use Rattle.ecma_kind.specs.declared.shapes.Shape.{Shape}
use Rattle.ecma_tree.specs.Sorted.{all_have_shapes, allows, child_shapes, has_shape, has_shape_by}
use Rattle.ecma_tree.specs.declared.node.Node.{Node, fold_out-Node, out-Node}
use Rattle.ecma_tree.proofs.Items.{drop-item}

-- the shapes that are asked of a node's children
abbrev pub shapes_below : Node → Shape → List Shape
shapes_below n shape = child_shapes (out-Node n).kind shape (length (out-Node n).children)

pub has_shape-parts : (n : Node) (shape : Shape) → has_shape n shape ≡ (allows shape (out-Node n).kind && all_have_shapes (shapes_below n shape) (map has_shape (out-Node n).children))
has_shape-parts n shape =
    ap (λ f. f shape) (fold_out-Node (Shape → Bool) has_shape_by n)
    ∙ ap (λ k. allows shape (out-Node n).kind && all_have_shapes (child_shapes (out-Node n).kind shape k) (map has_shape (out-Node n).children)) (length-map (out-Node n).children has_shape)

-- the children from i on have their shapes
abbrev pub rest_have_shapes : Node → Shape → ℕ → Bool
rest_have_shapes n shape i = all_have_shapes (drop i (shapes_below n shape)) (map has_shape (drop i (out-Node n).children))

other_count : (shapes : List Shape) (ns : List Node) → (length shapes ≡ length ns → ⊥) → all_have_shapes shapes (map has_shape ns) ≡ false
other_count [] [] u = absurd (u refl)
other_count [] (n ∷ ns) u = refl
other_count (shape ∷ shapes) [] u = refl
other_count (shape ∷ shapes) (n ∷ ns) u = go (has_shape n shape) (other_count shapes ns (λ e. u (ap suc e)))
  where
    go : (b : Bool) → all_have_shapes shapes (map has_shape ns) ≡ false → (b && all_have_shapes shapes (map has_shape ns)) ≡ false
    go true e = e
    go false e = refl

pub false-has_shape-count : (n : Node) (shape : Shape) → (length (shapes_below n shape) ≡ length (out-Node n).children → ⊥) → false ≡ has_shape n shape
false-has_shape-count n shape u = sym (has_shape-parts n shape ∙ go (allows shape (out-Node n).kind))
  where
    go : (b : Bool) → (b && all_have_shapes (shapes_below n shape) (map has_shape (out-Node n).children)) ≡ false
    go true = other_count (shapes_below n shape) (out-Node n).children u
    go false = refl

pub has_shape-rest : (n : Node) (shape : Shape) → allows shape (out-Node n).kind ≡ true → has_shape n shape ≡ rest_have_shapes n shape 0
has_shape-rest n shape h = has_shape-parts n shape ∙ ap (λ b. b && all_have_shapes (shapes_below n shape) (map has_shape (out-Node n).children)) h

module _ (n : Node) (shape : Shape) (i : ℕ) where
  rest_have_shapes-item : (s : Shape) (x : Node) → slice_get (shapes_below n shape) i ≡ Some s → slice_get (out-Node n).children i ≡ Some x
      → rest_have_shapes n shape i ≡ (has_shape x s && rest_have_shapes n shape (i + 1))
  rest_have_shapes-item s x a b = rw (drop-item (shapes_below n shape) i s a, drop-item (out-Node n).children i x b) refl

  pub rest_have_shapes-next : (s : Shape) (x : Node) → slice_get (shapes_below n shape) i ≡ Some s → slice_get (out-Node n).children i ≡ Some x → has_shape x s ≡ true
      → rest_have_shapes n shape i ≡ rest_have_shapes n shape (i + 1)
  rest_have_shapes-next s x a b h = rest_have_shapes-item s x a b ∙ ap (λ z. z && rest_have_shapes n shape (i + 1)) h

  pub rest_have_shapes-false : (s : Shape) (x : Node) → slice_get (shapes_below n shape) i ≡ Some s → slice_get (out-Node n).children i ≡ Some x → has_shape x s ≡ false
      → rest_have_shapes n shape i ≡ false
  rest_have_shapes-false s x a b h = rest_have_shapes-item s x a b ∙ ap (λ z. z && rest_have_shapes n shape (i + 1)) h
