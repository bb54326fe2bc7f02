-- Where nothing is done, nothing happens.
use Rattle.std.proofs.Common.{◌≡◌, ◌∙◌, ℕ, zero, suc, Bool, true, false, cond, refl, sym, ap, ap₂, subst, List, [], ◌∷◌, ◌++◌, map, Some, slice_get}
use Rattle.ecma_kind.specs.declared.kind.Kind.{Kind}
use Rattle.ecma_kind.specs.declared.kind.Kind.TheVariants as kind
use Rattle.ecma_kind.specs.declared.span.Span.{Span}
use Rattle.ecma_tree.specs.Nodes.{node_of}
use Rattle.ecma_tree.specs.Sorted.{is_list}
use Rattle.ecma_tree.specs.declared.node.Node.{Node, Node-F, ind-Node, roll-Node}
use Rattle.ecma_rewriting.specs.Laws.{Along, Leaves, TreesStay, children, items, layer}
use Rattle.ecma_rewriting.specs.Rewriting.{Rewriting, becomes}
use Rattle.ecma_rewriting.proofs.Equations.{becomes-roll, layer-other, list-kind}

module _ {S : Type 0} (r : Rewriting S) (P : S → Node → Type 0) (leaves : Leaves r P) where
  abbrev Stays : Node → Type 0
  Stays n = (s : S) → P s n → becomes r s n ≡ n ∷ []

  abbrev nodes : List ((n : Node) × Stays n) → List Node
  nodes ns = map (λ e. e.0) ns

  item : (b : Bool) (s : S) (n : Node) (ns : List Node) → r.keeps n ≡ b → Stays n → P s n → items r (cond b (r.next s n) s) ns ≡ ns
      → cond b (becomes r s n ++ items r (r.next s n) ns) (r.unkept s n ++ items r s ns) ≡ n ∷ ns
  item true s n ns k stays p rest = ap₂ (λ a b. a ++ b) (stays s p) rest
  item false s n ns k stays p rest = ap₂ (λ a b. a ++ b) (leaves.unkept s n p k) rest

  items-stay : (s : S) (ns : List ((n : Node) × Stays n)) → Along r P s (nodes ns) → items r s (nodes ns) ≡ nodes ns
  items-stay s [] h = refl
  items-stay s (n ∷ ns) h = item (r.keeps n.0) s n.0 (nodes ns) refl n.1 h.0 (items-stay (cond (r.keeps n.0) (r.next s n.0) s) ns h.1)

  children-stay : (seat : ℕ → S) (i : ℕ) (ns : List ((n : Node) × Stays n)) (at : ℕ → ℕ) → ((j : ℕ) (c : Node) → slice_get (nodes ns) j ≡ Some c → P (seat (at j)) c)
      → at 0 ≡ i → ((j : ℕ) → at (suc j) ≡ suc (at j)) → children r seat i (nodes ns) ≡ map (λ c. c ∷ []) (nodes ns)
  children-stay seat i [] at h z next = refl
  children-stay seat i (n ∷ ns) at h z next =
      ap₂ (λ a rest. a ∷ rest) (n.1 (seat i) (subst (λ j. P (seat j) n.0) z (h 0 n.0 refl)))
      (children-stay seat (suc i) ns (λ j. at (suc j)) (λ j c get. h (suc j) c get) (next 0 ∙ ap suc z) (λ j. next (suc j)))

  other : (s : S) (span : Span) (k : Kind) (ns : List ((n : Node) × Stays n)) → is_list k ≡ false → P s (node_of span k (nodes ns)) → layer r s span k (nodes ns) ≡ node_of span k (nodes ns) ∷ []
  other s span k ns l p =
      layer-other r s span k (nodes ns) l
      ∙ ap (r.here s span k (nodes ns)) (children-stay (r.seat s k (nodes ns)) 0 ns (λ j. j) (leaves.below s span k (nodes ns) l p) refl (λ j. refl))
      ∙ leaves.here s span k (nodes ns) l p

  layer-stays : (s : S) (span : Span) (k : Kind) (ns : List ((n : Node) × Stays n)) (b : Bool) → is_list k ≡ b → P s (node_of span k (nodes ns)) → layer r s span k (nodes ns) ≡ node_of span k (nodes ns) ∷ []
  layer-stays s span k ns false l p = other s span k ns l p
  layer-stays s span k ns true l p =
      subst (λ z. P s (node_of span z (nodes ns)) → layer r s span z (nodes ns) ≡ node_of span z (nodes ns) ∷ []) (sym (list-kind k l))
      (λ q. ap (λ z. node_of span kind.List z ∷ []) (items-stay s ns (leaves.listed s span (nodes ns) q))) p

  pub stays : (n : Node) → Stays n
  stays = ind-Node Stays (λ x y is.
      (let parts : Node-F Node = record { span = y.span; kind = y.kind; children = nodes y.children } in
      subst (λ (z : Node-F Node). Stays (roll-Node z)) is (λ s p. becomes-roll r s parts ∙ layer-stays s y.span y.kind y.children (is_list y.kind) refl p)))

pub trees_stay : (S : Type 0) → TreesStay S
trees_stay S r still leaves s n h = stays r (λ s n. still s n ≡ true) leaves n s h
