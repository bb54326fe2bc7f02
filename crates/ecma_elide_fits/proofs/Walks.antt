-- A walk that tells nothing over a tree tells nothing over what is left of it.
use Rattle.std.proofs.Common.{◌≡◌, ◌∙◌, ℕ, zero, suc, Bool, true, false, ◌&&◌, not, cond, List, [], ◌∷◌, map, filter, length, Option, Some, None, refl, sym, ap, ap₂, subst, slice_get, arith}
use Rattle.ecma_kind.specs.declared.kind.Kind.{Kind}
use Rattle.ecma_kind.specs.declared.kind.Kind.TheVariants as kind
use Rattle.ecma_kind.specs.declared.shapes.Shape.{Shape}
use Rattle.ecma_kind.specs.declared.span.Span.{Span}
use Rattle.ecma_tree.specs.Laws.{HaveShapes}
use Rattle.ecma_tree.specs.Sorted.{HasShape, allows, child_shapes, is_list}
use Rattle.ecma_tree.specs.declared.node.Node.{Node, out-Node}
use Rattle.ecma_tree.specs.declared.node.Node.TheViews.{roll-out-Node}
use Rattle.ecma_tree.proofs.Layers.{from_leaves_out}
use Rattle.ecma_tree.proofs.ShapeLaws.{node_has_shape}
use Rattle.ecma_rules.specs.Children.{kind_of}
use Rattle.ecma_rules.specs.Failing.{failing_step, first_failing, least, least_from}
use Rattle.ecma_fits.proofs.Walks.{neither_least, shifted}
use Rattle.ecma_elide_fits.specs.Dropping.{Dropping, left}
use Rattle.ecma_elide_fits.proofs.Dropped.{Whole, below, below_to, each, induct, loses_at, seats_at, stay, to}

pub shape_parts : (n : Node) (t : Shape) → HasShape t n → (allows t (kind_of n) ≡ true) × HaveShapes (child_shapes (kind_of n) t (length (below n))) (below n)
shape_parts n t h = (node_has_shape (out-Node n).span (kind_of n) (below n) t).0 (subst (HasShape t) (sym (roll-out-Node n)) h)

-- each of these has its shape
pub have_at : (ts : List Shape) (cs : List Node) → HaveShapes ts cs → (i : ℕ) (c : Node) → slice_get cs i ≡ Some c → (t : Shape) × (slice_get ts i ≡ Some t) × HasShape t c
have_at [] [] h i c at = cc
have_at [] (x ∷ xs) h i c at = absurd h
have_at (t ∷ ts) [] h i c at = absurd h
have_at (t ∷ ts) (x ∷ xs) h zero c at = let same : x ≡ c = cc in (t, refl, subst (HasShape t) same h.0)
have_at (t ∷ ts) (x ∷ xs) h (suc i) c at = have_at ts xs h.1 i c at

pred : (i n : ℕ) → suc i ≡ suc n → i ≡ n
pred i n e = omega (arith, e)

module _ {S : Type 0} (d : Dropping S) (A : Type 0) (inside : A → Node → ℕ → A) (place : A → Node → Option ℕ) (Agree : A → A → Type 0) where
  abbrev first : Node → A → Option ℕ
  first = first_failing A place inside

  -- what is around nodes before agrees with what is around them after, all the way down; and a node that tells nothing tells nothing after
  pub record Carries : Type 0 where
    pub here : (t : Shape) (loses : Bool) (s : S) (n : Node) (a b : A) → HasShape t n → Agree a b → place a n ≡ None → place b (to d loses s n) ≡ None
    pub children : (loses : Bool) (s : S) (n : Node) (a b : A) → Agree a b → Whole d loses n → (i : ℕ) → Agree (inside a n i) (inside b (to d loses s n) i)
    pub items : (loses : Bool) (s : S) (n : Node) (a b : A) → Agree a b → is_list (kind_of n) ≡ true → (i j : ℕ)
        → (suc i ≡ length (below n) → suc j ≡ length (stay d loses s n)) → Agree (inside a n i) (inside b (to d loses s n) j)

  first_out : (n : Node) (a : A) → first n a ≡ least (place a n) (least_from A (inside a n) 0 (map first (below n)))
  first_out n a = ap (λ f. f a) (from_leaves_out (A → Option ℕ) (failing_step A place inside) n)

  abbrev Ready : Node → Type 0
  Ready n = (loses : Bool) (s : S) (a b : A) → Agree a b → first n a ≡ None → first (to d loses s n) b ≡ None

  abbrev AllReady : List Node → Type 0
  AllReady ns = (i : ℕ) (c : Node) → slice_get ns i ≡ Some c → Ready c

  abbrev NoneTells : (ℕ → A) → List Node → Type 0
  NoneTells around ns = least_from A around 0 (map first ns) ≡ None

  next_tells : (around : ℕ → A) (n : Node) (ns : List Node) → NoneTells around (n ∷ ns) → (first n (around 0) ≡ None) × NoneTells (λ i. around (suc i)) ns
  next_tells around n ns h =
      let v = neither_least (first n (around 0)) (least_from A around 1 (map first ns)) h in
      (v.0, sym (shifted A around 0 (map first ns)) ∙ v.1)

  add_tells : (around : ℕ → A) (n : Node) (ns : List Node) → first n (around 0) ≡ None → NoneTells (λ i. around (suc i)) ns → NoneTells around (n ∷ ns)
  add_tells around n ns h g = ap₂ least h (shifted A around 0 (map first ns) ∙ g)

  -- where all stay
  all_tell : (ns : List Node) → AllReady ns → (around other : ℕ → A) (f : ℕ → Bool) (g : ℕ → S) → ((i : ℕ) → Agree (around i) (other i)) → NoneTells around ns → NoneTells other (each d f g ns)
  all_tell [] ready around other f g agree h = refl
  all_tell (n ∷ ns) ready around other f g agree h =
      let v = next_tells around n ns h in
      add_tells other (to d (f 0) (g 0) n) (each d (λ i. f (suc i)) (λ i. g (suc i)) ns) (ready 0 n refl (f 0) (g 0) (around 0) (other 0) (agree 0) v.0)
      (all_tell ns (λ i. ready (suc i)) (λ i. around (suc i)) (λ i. other (suc i)) (λ i. f (suc i)) (λ i. g (suc i)) (λ i. agree (suc i)) v.1)

  -- where some do, the last of which is the last of all where that stays
  none_left : (p : Node → Bool) (ns : List Node) → 0 ≡ length ns → 0 ≡ length (filter p ns)
  none_left p [] h = refl
  none_left p (n ∷ ns) h = absurd (omega (arith, h))

  abbrev AgreeAll : (ℕ → A) → (ℕ → A) → ℕ → ℕ → Type 0
  AgreeAll around other n m = (i j : ℕ) → (suc i ≡ n → suc j ≡ m) → Agree (around i) (other j)

  some_tell : (p : Node → Bool) (ns : List Node) → AllReady ns → (around other : ℕ → A) (f : ℕ → Bool) (g : ℕ → S) → AgreeAll around other (length ns) (length (filter p ns)) → NoneTells around ns
      → NoneTells other (each d f g (filter p ns))
  some_tell p [] ready around other f g agree h = refl
  some_tell p (n ∷ ns) ready around other f g agree h =
      let v = next_tells around n ns h in
      by (p n) v.0 agree
      (λ other' f' g' agree'. some_tell p ns (λ i. ready (suc i)) (λ i. around (suc i)) other' f' g' agree' v.1)
    where
      by : (b : Bool) → first n (around 0) ≡ None → AgreeAll around other (suc (length ns)) (length (cond b (n ∷ filter p ns) (filter p ns)))
          → ((other' : ℕ → A) (f' : ℕ → Bool) (g' : ℕ → S) → AgreeAll (λ i. around (suc i)) other' (length ns) (length (filter p ns)) → NoneTells other' (each d f' g' (filter p ns)))
          → NoneTells other (each d f g (cond b (n ∷ filter p ns) (filter p ns)))
      by true here agree rest =
          add_tells other (to d (f 0) (g 0) n) (each d (λ i. f (suc i)) (λ i. g (suc i)) (filter p ns))
          (ready 0 n refl (f 0) (g 0) (around 0) (other 0) (agree 0 0 (λ e. ap suc (none_left p ns (pred 0 (length ns) e)))) here)
          (rest (λ i. other (suc i)) (λ i. f (suc i)) (λ i. g (suc i)) (λ i j last. agree (suc i) (suc j) (λ e. ap suc (last (pred (suc i) (length ns) e)))))
      by false here agree rest = rest other f g (λ i j last. agree (suc i) j (λ e. last (pred (suc i) (length ns) e)))

  module _ (carries : Carries) where
    second : (a b : Bool) → (a && b) ≡ true → b ≡ true
    second true b h = h
    second false b h = cc

    node_ready : (n : Node) (t : Shape) → HasShape t n → AllReady (below n) → Ready n
    node_ready n t has ready loses s a b agree told =
        let v = neither_least (place a n) (least_from A (inside a n) 0 (map first (below n))) (sym (first_out n a) ∙ told) in
        first_out (to d loses s n) b
        ∙ ap₂ least (carries.here t loses s n a b has agree v.0)
        (ap (λ z. least_from A (inside b (to d loses s n)) 0 (map first z)) (below_to d loses s n) ∙ by (loses && is_list (kind_of n)) refl v.1)
      where
        by : (z : Bool) → (loses && is_list (kind_of n)) ≡ z → NoneTells (inside a n) (below n)
            → NoneTells (inside b (to d loses s n)) (each d (loses_at d loses n) (seats_at d s n) (cond z (filter (λ c. not (d.drops s c)) (below n)) (below n)))
        by true e h =
            some_tell (λ c. not (d.drops s c)) (below n) ready (inside a n) (inside b (to d loses s n)) (loses_at d loses n) (seats_at d s n)
            (λ i j last. carries.items loses s n a b agree (second loses (is_list (kind_of n)) e) i j
            (λ h. last h ∙ sym (ap (λ y. length (cond y (filter (λ c. not (d.drops s c)) (below n)) (below n))) e))) h
        by false e h =
            all_tell (below n) ready (inside a n) (inside b (to d loses s n)) (loses_at d loses n) (seats_at d s n) (λ i. carries.children loses s n a b agree e i) h

    abbrev Passed : Node → Type 0
    Passed n = (t : Shape) → HasShape t n → Ready n

    node_passed : (n : Node) → ((i : ℕ) (c : Node) → slice_get (below n) i ≡ Some c → Passed c) → Passed n
    node_passed n passed t has =
        node_ready n t has (λ i c at.
        (let u = have_at (child_shapes (kind_of n) t (length (below n))) (below n) (shape_parts n t has).1 i c at in
        passed i c at u.0 u.2))

    pub passed : (n : Node) → Passed n
    passed = induct Passed node_passed
