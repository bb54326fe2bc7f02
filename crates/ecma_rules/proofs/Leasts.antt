-- The least place is told, and by a node.
use Rattle.std.proofs.Common.{◌≡◌, ◌∙◌, ◌≤◌, ◌⊎◌, ℕ, zero, suc, ◌+◌, min, List, [], ◌∷◌, map, Option, Some, None, refl, sym, ap, subst, slice_get, arith}
use mathlib.Core.Logic.{inl, inr}
use Rattle.ecma_tree.specs.declared.node.Node.{Node, Node-F, ind-Node, out-Node, roll-Node}
use Rattle.ecma_tree.specs.declared.node.Node.TheViews.{out-roll-Node}
use Rattle.ecma_tree.proofs.Layers.{from_leaves-roll}
use Rattle.ecma_rules.specs.declared.standing.Around.{Around}
use Rattle.ecma_rules.specs.Failing.{failing_step, first_failing, least, least_from}
use Rattle.ecma_rules.specs.Surroundings.{around_in, at_root}
use Rattle.ecma_rules.specs.Jumps.{Held, first_stray, held_in, not_held, stray_here}
use Rattle.ecma_rules.specs.Rules.{first_misplaced, misplaced_here}
use Rattle.ecma_rules.specs.Breaking.{FirstBrokenIsLeast, IsLeast, Leads, Tells}

none-some : {i : ℕ} → None ≡ Some i → ⊥
none-some is = cc

some-same : {i j : ℕ} → Some i ≡ Some j → i ≡ j
some-same is = cc

module _ (S T : ℕ → Type 0) where
  least-sound : (f g : Option ℕ) → IsLeast S f → IsLeast T g → (at : ℕ) → least f g ≡ Some at → S at ⊎ T at
  least-sound None g a b at is = inr (b.sound at is)
  least-sound (Some i) None a b at is = inl (a.sound at is)
  least-sound (Some i) (Some j) a b at is = go (one-of i j)
    where
      one-of : (i j : ℕ) → (min i j ≡ i) ⊎ (min i j ≡ j)
      one-of zero j = inl (omega arith)
      one-of (suc i) zero = inr (omega arith)
      one-of (suc i) (suc j) = go_on (one-of i j)
        where
          go_on : (min i j ≡ i) ⊎ (min i j ≡ j) → (min (suc i) (suc j) ≡ suc i) ⊎ (min (suc i) (suc j) ≡ suc j)
          go_on (inl e) = inl (omega (arith, e))
          go_on (inr e) = inr (omega (arith, e))

      go : (min i j ≡ i) ⊎ (min i j ≡ j) → S at ⊎ T at
      go (inl e) = inl (a.sound at (ap Some (sym e) ∙ is))
      go (inr e) = inr (b.sound at (ap Some (sym e) ∙ is))

  least-least : (f g : Option ℕ) → IsLeast S f → IsLeast T g → (at : ℕ) → S at ⊎ T at → (first : ℕ) × (least f g ≡ Some first) × (first ≤ at)
  least-least None g a b at (inl s) = let t = a.least at s in absurd (none-some t.1)
  least-least None g a b at (inr t) = b.least at t
  least-least (Some i) None a b at (inl s) = a.least at s
  least-least (Some i) None a b at (inr t) = let u = b.least at t in absurd (none-some u.1)
  least-least (Some i) (Some j) a b at (inl s) = let u = a.least at s in let same = some-same u.1 in let below = u.2 in (min i j, refl, omega arith)
  least-least (Some i) (Some j) a b at (inr t) = let u = b.least at t in let same = some-same u.1 in let below = u.2 in (min i j, refl, omega arith)

  pub either-least : (f g : Option ℕ) → IsLeast S f → IsLeast T g → IsLeast (λ at. S at ⊎ T at) (least f g)
  either-least f g a b = record { sound = least-sound f g a b; least = least-least f g a b }

-- the same nodes are told of in other words
module _ (S T : ℕ → Type 0) (to : (at : ℕ) → S at → T at) (from : (at : ℕ) → T at → S at) where
  pub in-words : (f : Option ℕ) → IsLeast S f → IsLeast T f
  in-words f a = record { sound = λ at is. to at (a.sound at is); least = λ at t. a.least at (from at t) }

module _ (A : Type 0) (place : A → Node → Option ℕ) (inside : A → Node → ℕ → A) where
  abbrev TellsIn : A → Node → ℕ → Type 0
  TellsIn = Tells A place inside

  -- one of these nodes, of which the first is the one at k
  abbrev TellsFrom : (ℕ → A) → ℕ → List Node → ℕ → Type 0
  TellsFrom around k nodes at = (i : ℕ) × (j : ℕ) × (j ≡ k + i) × ((child : Node) × (slice_get nodes i ≡ Some child) × TellsIn (around j) child at)

  abbrev Told : Node → Type 0
  Told n = (a : A) → IsLeast (TellsIn a n) (first_failing A place inside n a)

  here-least : (f : Option ℕ) → IsLeast (λ at. f ≡ Some at) f
  here-least f = record { sound = λ at is. is; least = λ at is. (at, is, omega arith) }

  none-least : (around : ℕ → A) (k : ℕ) → IsLeast (TellsFrom around k []) None
  none-least around k = record { sound = λ at is. absurd (none-some is); least = λ at t. absurd (nothing t) }
    where
      nothing : {at : ℕ} → TellsFrom around k [] at → ⊥
      nothing (i, j, is, (child, there, tells)) = cc

  all-told : (around : ℕ → A) (k : ℕ) (ns : List ((n : Node) × Told n)) → IsLeast (TellsFrom around k (map (λ e. e.0) ns)) (least_from A around k (map (first_failing A place inside) (map (λ e. e.0) ns)))
  all-told around k [] = none-least around k
  all-told around k (n ∷ ns) =
      in-words (λ at. TellsIn (around k) n.0 at ⊎ TellsFrom around (suc k) (map (λ e. e.0) ns) at) (TellsFrom around k (n.0 ∷ map (λ e. e.0) ns)) to from
      _ (either-least (TellsIn (around k) n.0) (TellsFrom around (suc k) (map (λ e. e.0) ns)) _ _ (n.1 (around k)) (all-told around (suc k) ns))
    where
      to : (at : ℕ) → TellsIn (around k) n.0 at ⊎ TellsFrom around (suc k) (map (λ e. e.0) ns) at → TellsFrom around k (n.0 ∷ map (λ e. e.0) ns) at
      to at (inl t) = (0, k, omega arith, (n.0, refl, t))
      to at (inr (i, j, is, (child, there, t))) = (suc i, j, omega (arith, is), (child, there, t))

      from : (at : ℕ) → TellsFrom around k (n.0 ∷ map (λ e. e.0) ns) at → TellsIn (around k) n.0 at ⊎ TellsFrom around (suc k) (map (λ e. e.0) ns) at
      from at (zero, j, is, (child, there, t)) =
          let same : j ≡ k = omega (arith, is) in
          let it : child ≡ n.0 = cc in
          inl (subst (λ (m : Node). TellsIn (around k) m at) it (subst (λ (z : ℕ). TellsIn (around z) child at) same t))
      from at (suc i, j, is, (child, there, t)) = inr (i, j, omega (arith, is), (child, there, t))

  layer-told : (x : Node-F Node) → ((around : ℕ → A) → IsLeast (TellsFrom around 0 x.children) (least_from A around 0 (map (first_failing A place inside) x.children))) → Told (roll-Node x)
  layer-told x below a =
      subst (IsLeast (TellsIn a (roll-Node x))) (sym (ap (λ f. f a) (from_leaves-roll (A → Option ℕ) (failing_step A place inside) x)))
      (in-words (λ at. (place a (roll-Node x) ≡ Some at) ⊎ TellsFrom (inside a (roll-Node x)) 0 x.children at) (TellsIn a (roll-Node x)) to from _
      (either-least (λ at. place a (roll-Node x) ≡ Some at) (TellsFrom (inside a (roll-Node x)) 0 x.children) _ _ (here-least (place a (roll-Node x))) (below (inside a (roll-Node x)))))
    where
      children : (out-Node (roll-Node x)).children ≡ x.children
      children = ap (λ z. z.children) (out-roll-Node x)

      to : (at : ℕ) → (place a (roll-Node x) ≡ Some at) ⊎ TellsFrom (inside a (roll-Node x)) 0 x.children at → TellsIn a (roll-Node x) at
      to at (inl is) = ([], a, roll-Node x, (refl, refl), is)
      to at (inr (i, j, is, (child, there, (path, last, end, leads, told)))) =
          let same : j ≡ i = omega (arith, is) in
          (i ∷ path, last, end, (child, ap (λ (z : List Node). slice_get z i) children ∙ there, subst (λ (z : ℕ). Leads A inside (inside a (roll-Node x) z) child path last end) same leads), told)

      from : (at : ℕ) → TellsIn a (roll-Node x) at → (place a (roll-Node x) ≡ Some at) ⊎ TellsFrom (inside a (roll-Node x)) 0 x.children at
      from at ([], last, end, (same, it), told) = inl (subst (λ (m : Node). place a m ≡ Some at) it (subst (λ (z : A). place z end ≡ Some at) same told))
      from at (i ∷ path, last, end, (child, there, leads), told) =
          inr (i, i, omega arith, (child, sym (ap (λ (z : List Node). slice_get z i) children) ∙ there, (path, last, end, leads, told)))

  pub told : (n : Node) → Told n
  told = ind-Node Told (λ x y is. layer-told x (λ around. subst
      (λ (z : Node-F Node). IsLeast (TellsFrom around 0 z.children) (least_from A around 0 (map (first_failing A place inside) z.children))) is
      (all-told around 0 y.children)))

pub first-least : FirstBrokenIsLeast
first-least tree =
    either-least (Tells Around misplaced_here around_in at_root tree) (Tells Held stray_here held_in not_held tree) (first_misplaced tree at_root) (first_stray tree)
    (told Around misplaced_here around_in tree at_root) (told Held stray_here held_in tree not_held)

pub ruleset leasts = (first-least)
