-- What is left of a tree of a shape has it.
use Rattle.std.proofs.Common.{◌≡◌, ◌∙◌, ℕ, suc, Bool, true, false, ◌&&◌, not, cond, List, [], ◌∷◌, map, filter, length, replicate, Some, refl, sym, ap, subst, slice_get}
use Rattle.ecma_kind.specs.declared.kind.Kind.{Kind}
use Rattle.ecma_kind.specs.declared.kind.Kind.TheVariants as kind
use Rattle.ecma_kind.specs.declared.shapes.Shape.{Shape}
use Rattle.ecma_tree.specs.Laws.{HaveShapes}
use Rattle.ecma_tree.specs.Nodes.{node_of}
use Rattle.ecma_tree.specs.Sorted.{HasShape, allows, child_shapes, is_list, item_shape}
use Rattle.ecma_tree.specs.declared.node.Node.{Node, out-Node}
use Rattle.ecma_tree.proofs.ShapeLaws.{node_has_shape}
use Rattle.ecma_rules.specs.Children.{kind_of}
use Rattle.ecma_elide_fits.specs.Dropping.{Dropping}
use Rattle.ecma_elide_fits.proofs.Dropped.{below, each, each_length, induct, loses_at, seats_at, stay, to, to_is}
use Rattle.ecma_elide_fits.proofs.Walks.{shape_parts}

second : (a b : Bool) → (a && b) ≡ true → b ≡ true
second true b h = h
second false b h = cc

pub items_asked : (k : Kind) (t : Shape) (n : ℕ) → is_list k ≡ true → child_shapes k t n ≡ replicate n (item_shape t)
items_asked kind.List t n l = refl
items_asked _ t n l = cc

module _ {S : Type 0} (d : Dropping S) where
  abbrev Kept : Node → Type 0
  Kept n = (loses : Bool) (s : S) (t : Shape) → HasShape t n → HasShape t (to d loses s n)

  abbrev AllKept : List Node → Type 0
  AllKept ns = (i : ℕ) (c : Node) → slice_get ns i ≡ Some c → Kept c

  each_kept : (ts : List Shape) (ns : List Node) → AllKept ns → (f : ℕ → Bool) (g : ℕ → S) → HaveShapes ts ns → HaveShapes ts (each d f g ns)
  each_kept [] [] kept f g h = tt
  each_kept [] (n ∷ ns) kept f g h = absurd h
  each_kept (t ∷ ts) [] kept f g h = absurd h
  each_kept (t ∷ ts) (n ∷ ns) kept f g h =
      (kept 0 n refl (f 0) (g 0) t h.0, each_kept ts ns (λ i. kept (suc i)) (λ i. f (suc i)) (λ i. g (suc i)) h.1)

  abbrev AreItems : Shape → List Node → Type 0
  AreItems u ns = HaveShapes (replicate (length ns) u) ns

  some_kept : (p : Node → Bool) (u : Shape) (ns : List Node) → AllKept ns → (f : ℕ → Bool) (g : ℕ → S) → AreItems u ns → AreItems u (each d f g (filter p ns))
  some_kept p u [] kept f g h = tt
  some_kept p u (n ∷ ns) kept f g h = by (p n) (λ f' g'. some_kept p u ns (λ i. kept (suc i)) f' g' h.1)
    where
      by : (b : Bool) → ((f' : ℕ → Bool) (g' : ℕ → S) → AreItems u (each d f' g' (filter p ns))) → AreItems u (each d f g (cond b (n ∷ filter p ns) (filter p ns)))
      by true rest = (kept 0 n refl (f 0) (g 0) u h.0, rest (λ i. f (suc i)) (λ i. g (suc i)))
      by false rest = rest f g

  node_kept : (n : Node) → AllKept (below n) → Kept n
  node_kept n kept loses s t h = subst (HasShape t) (sym (to_is d loses s n)) (by (loses && is_list (kind_of n)) refl)
    where
      parts : (allows t (kind_of n) ≡ true) × HaveShapes (child_shapes (kind_of n) t (length (below n))) (below n)
      parts = shape_parts n t h

      made : (ns : List Node) → HaveShapes (child_shapes (kind_of n) t (length ns)) ns → HasShape t (node_of (out-Node n).span (kind_of n) ns)
      made ns have = (node_has_shape (out-Node n).span (kind_of n) ns t).1 (parts.0, have)

      by : (b : Bool) → (loses && is_list (kind_of n)) ≡ b
          → HasShape t (node_of (out-Node n).span (kind_of n) (each d (loses_at d loses n) (seats_at d s n) (cond b (filter (λ c. not (d.drops s c)) (below n)) (below n))))
      by true e =
          let l = second loses (is_list (kind_of n)) e in
          let ns = each d (loses_at d loses n) (seats_at d s n) (filter (λ c. not (d.drops s c)) (below n)) in
          made ns (subst (λ ts. HaveShapes ts ns) (sym (items_asked (kind_of n) t (length ns) l))
          (some_kept (λ c. not (d.drops s c)) (item_shape t) (below n) kept (loses_at d loses n) (seats_at d s n)
          (subst (λ ts. HaveShapes ts (below n)) (items_asked (kind_of n) t (length (below n)) l) parts.1)))
      by false e =
          let ns = each d (loses_at d loses n) (seats_at d s n) (below n) in
          made ns (subst (λ m. HaveShapes (child_shapes (kind_of n) t m) ns) (sym (each_length d (loses_at d loses n) (seats_at d s n) (below n)))
          (each_kept (child_shapes (kind_of n) t (length (below n))) (below n) kept (loses_at d loses n) (seats_at d s n) parts.1))

  pub shape_kept : (n : Node) → Kept n
  shape_kept = induct Kept node_kept
