-- A place is told of a tree exactly where one is told of it without spans.
use Rattle.std.proofs.Common.{◌≡◌, ◌∙◌, ℕ, suc, ◌||◌, List, [], ◌∷◌, map, Option, Some, None, refl, sym, ap, ap₂, subst}
use Rattle.std.specs.Prelude.{is_some}
use Rattle.ecma_tree.specs.declared.node.Node.{Node, Node-F, ind-Node, out-Node, roll-Node}
use Rattle.ecma_tree.specs.declared.node.Node.TheViews.{out-roll-Node}
use Rattle.ecma_tree.specs.Spans.{without_spans}
use Rattle.ecma_tree.proofs.Layers.{from_leaves_out}
use Rattle.ecma_rules.specs.Failing.{failing_step, first_failing, least, least_from}
use Rattle.ecma_rules_congruence.proofs.Bare.{bare-children}

pub least-some : (a b : Option ℕ) → is_some (least a b) ≡ (is_some a || is_some b)
least-some None b = refl
least-some (Some i) None = refl
least-some (Some i) (Some j) = refl

module _ (A : Type 0) (place : A → Node → Option ℕ) (inside : A → Node → ℕ → A)
    (place-bare : (a : A) (n : Node) → is_some (place a (without_spans n)) ≡ is_some (place a n))
    (inside-bare : (a : A) (n : Node) (i : ℕ) → inside a (without_spans n) i ≡ inside a n i) where
  abbrev first : Node → A → Option ℕ
  first = first_failing A place inside

  abbrev Told : Node → Type 0
  Told n = (a : A) → is_some (first (without_spans n) a) ≡ is_some (first n a)

  abbrev EachTold : List Node → Type 0
  EachTold ns = (f g : ℕ → A) → ((i : ℕ) → f i ≡ g i) → (i : ℕ) → is_some (least_from A f i (map first (map without_spans ns))) ≡ is_some (least_from A g i (map first ns))

  each-told : (ns : List ((n : Node) × Told n)) → EachTold (map (λ e. e.0) ns)
  each-told [] f g same i = refl
  each-told (n ∷ ns) f g same i =
      least-some (first (without_spans n.0) (f i)) (least_from A f (suc i) (map first (map without_spans (map (λ e. e.0) ns))))
      ∙ ap₂ (λ a b. a || b) (n.1 (f i) ∙ ap (λ a. is_some (first n.0 a)) (same i)) (each-told ns f g same (suc i))
      ∙ sym (least-some (first n.0 (g i)) (least_from A g (suc i) (map first (map (λ e. e.0) ns))))

  told-out : (n : Node) (a : A) → is_some (first n a) ≡ (is_some (place a n) || is_some (least_from A (inside a n) 0 (map first (out-Node n).children)))
  told-out n a =
      ap (λ f. is_some (f a)) (from_leaves_out (A → Option ℕ) (failing_step A place inside) n)
      ∙ least-some (place a n) (least_from A (inside a n) 0 (map first (out-Node n).children))

  layer-told : (n : Node) → EachTold (out-Node n).children → Told n
  layer-told n each a =
      told-out (without_spans n) a
      ∙ ap₂ (λ here below. here || below) (place-bare a n)
      (ap (λ (ns : List Node). is_some (least_from A (inside a (without_spans n)) 0 (map first ns))) (bare-children n) ∙ each (inside a (without_spans n)) (inside a n) (inside-bare a n) 0)
      ∙ sym (told-out n a)

  pub told-bare : (n : Node) → Told n
  told-bare = ind-Node Told (λ x y is. layer-told (roll-Node x) (subst (λ (z : Node-F Node). EachTold z.children) (is ∙ sym (out-roll-Node x)) (each-told y.children)))
