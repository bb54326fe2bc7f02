-- What holds of each node of a tree, where what stands around a node says what stands around its children.
use Rattle.std.proofs.Common.{sym, ap, ◌∙◌, subst, ℕ, suc, List, [], ◌∷◌, map}
use Rattle.std.specs.List.{All}
use Rattle.std.proofs.lemmas.List.Elements.{All-append, All-cons, All-head, All-nil, All-tail}
use Rattle.ecma_tree.specs.declared.node.Node.{Node, Node-F, ind-Node, out-Node, roll-Node}
use Rattle.ecma_tree.specs.declared.node.Node.TheViews.{out-roll-Node}
use Rattle.ecma_hygiene.specs.Sights.{Around, around_child}
use Rattle.ecma_hygiene.specs.Walks.{gathered_from}
use Rattle.ecma_hygiene.proofs.Walking.{gathered-out}
use Rattle.ecma_hygiene_meeting.specs.Places.{Place, place_here, places_at}

-- of nodes, of which the first is the one at i
abbrev pub Each : (ℕ → Node → Type 0) → ℕ → List Node → Type 0
Each P i [] = Unit {0}
Each P i (x ∷ xs) = P i x × Each P (suc i) xs

module _ (I : Node → Around → Type 0) (P : Place → Type 0)
    (down : (n : Node) (s : Around) → I n s → Each (λ i c. I c (around_child s n i)) 0 (out-Node n).children)
    (here : (n : Node) (s : Around) → I n s → P (record { around = s; node = n })) where
  abbrev Held : Node → Type 0
  Held n = (s : Around) → I n s → All P (places_at n s)

  abbrev HeldBelow : List Node → Type 0
  HeldBelow cs = (around : ℕ → Around) (i : ℕ) → Each (λ j c. I c (around j)) i cs → All P (gathered_from Around Place around i (map places_at cs))

  below : (ns : List ((n : Node) × Held n)) → HeldBelow (map (λ e. e.0) ns)
  below [] around i h = All-nil P
  below (x ∷ xs) around i h =
      All-append P (places_at x.0 (around i)) (gathered_from Around Place around (suc i) (map places_at (map (λ e. e.0) xs))) (x.1 (around i) h.0) (below xs around (suc i) h.1)

  layer : (n : Node) → HeldBelow (out-Node n).children → Held n
  layer n children s h =
      subst (All P) (sym (gathered-out Around Place place_here around_child n s))
      (All-cons P (record { around = s; node = n }) (gathered_from Around Place (around_child s n) 0 (map places_at (out-Node n).children)) (here n s h) (children (around_child s n) 0 (down n s h)))

  pub held : (n : Node) → Held n
  held = ind-Node Held (λ x y is.
      layer (roll-Node x) (subst HeldBelow (ap (λ (z : Node-F Node). z.children) is ∙ sym (ap (λ (z : Node-F Node). z.children) (out-roll-Node x))) (below y.children)))

-- what holds of each, by two facts of each
pub both-all : {X : Type 0} (P Q R : X → Type 0) (xs : List X) → ((x : X) → P x → Q x → R x) → All P xs → All Q xs → All R xs
both-all P Q R [] f p q = All-nil R
both-all P Q R (x ∷ xs) f p q = All-cons R x xs (f x (All-head P x xs p) (All-head Q x xs q)) (both-all P Q R xs f (All-tail P x xs p) (All-tail Q x xs q))
