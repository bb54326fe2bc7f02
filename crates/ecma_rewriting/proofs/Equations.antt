-- The equation of a rewriting by seats.
use Rattle.std.proofs.Common.{◌≡◌, ◌∙◌, ℕ, suc, true, false, cond, refl, sym, ap, ap₂, List, [], ◌∷◌, ◌++◌, map}
use Rattle.ecma_kind.specs.declared.kind.Kind.{Kind}
use Rattle.ecma_kind.specs.declared.kind.Kind.TheVariants as kind
use Rattle.ecma_kind.specs.declared.span.Span.{Span}
use Rattle.ecma_tree.specs.Nodes.{node_of}
use Rattle.ecma_tree.specs.Sorted.{is_list}
use Rattle.ecma_tree.specs.declared.node.Node.{Node, Node-F, fold-Node, fold-roll-Node, ind-Node, out-Node, roll-Node}
use Rattle.ecma_tree.specs.declared.node.Node.TheViews.{roll-out-Node}
use Rattle.ecma_rewriting.specs.Laws.{NodesBecome, children, items, layer}
use Rattle.ecma_rewriting.specs.Rewriting.{Rewriting, Standing, become_by, becomes, children_by, items_by, rewriting_step}

module _ {S : Type 0} (r : Rewriting S) where
  abbrev standing : Node → Standing S
  standing = fold-Node (Standing S) (rewriting_step r)

  itself-all : (ns : List ((n : Node) × ((standing n).node ≡ n))) → map (λ b. b.node) (map standing (map (λ e. e.0) ns)) ≡ map (λ e. e.0) ns
  itself-all [] = refl
  itself-all (n ∷ ns) = ap₂ (λ a rest. a ∷ rest) n.1 (itself-all ns)

  itself : (n : Node) → (standing n).node ≡ n
  itself = ind-Node (λ n. (standing n).node ≡ n) (λ x y is.
      ap (λ b. b.node) (fold-roll-Node (Standing S) (rewriting_step r) x)
      ∙ ap (λ cs. node_of x.span x.kind cs)
      (ap (λ z. map (λ (b : Standing S). b.node) (map standing z.children)) (sym is) ∙ (itself-all y.children ∙ ap (λ z. z.children) is)))

  nodes-same : (ns : List Node) → map (λ b. b.node) (map standing ns) ≡ ns
  nodes-same [] = refl
  nodes-same (n ∷ ns) = ap₂ (λ a rest. a ∷ rest) (itself n) (nodes-same ns)

  items-same : (s : S) (ns : List Node) → items_by r s (map standing ns) ≡ items r s ns
  items-same s [] = refl
  items-same s (n ∷ ns) =
      ap (λ z. cond (r.keeps z) (becomes r s n ++ items_by r (r.next s z) (map standing ns)) (r.unkept s z ++ items_by r s (map standing ns))) (itself n)
      ∙ ap₂ (λ a b. cond (r.keeps n) (becomes r s n ++ a) (r.unkept s n ++ b)) (items-same (r.next s n) ns) (items-same s ns)

  children-same : (seat : ℕ → S) (i : ℕ) (ns : List Node) → children_by seat i (map standing ns) ≡ children r seat i ns
  children-same seat i [] = refl
  children-same seat i (n ∷ ns) = ap (λ rest. becomes r (seat i) n ∷ rest) (children-same seat (suc i) ns)

  rest-same : (s : S) (span : Span) (k : Kind) (ns : List Node)
      → r.here s span k (map (λ b. b.node) (map standing ns)) (children_by (r.seat s k (map (λ b. b.node) (map standing ns))) 0 (map standing ns))
      ≡ r.here s span k ns (children r (r.seat s k ns) 0 ns)
  rest-same s span k ns =
      ap (λ z. r.here s span k z (children_by (r.seat s k z) 0 (map standing ns))) (nodes-same ns)
      ∙ ap (r.here s span k ns) (children-same (r.seat s k ns) 0 ns)

  layer-same : (s : S) (span : Span) (k : Kind) (ns : List Node) → become_by r s span k (map standing ns) ≡ layer r s span k ns
  layer-same s span kind.List ns = ap (λ z. node_of span kind.List z ∷ []) (items-same s ns)
  layer-same s span k ns = rest-same s span k ns

  pub becomes-roll : (s : S) (x : Node-F Node) → becomes r s (roll-Node x) ≡ layer r s x.span x.kind x.children
  becomes-roll s x = ap (λ b. b.become s) (fold-roll-Node (Standing S) (rewriting_step r) x) ∙ layer-same s x.span x.kind x.children

  pub becomes-out : (s : S) (n : Node) → becomes r s n ≡ layer r s (out-Node n).span (out-Node n).kind (out-Node n).children
  becomes-out s n = ap (becomes r s) (sym (roll-out-Node n)) ∙ becomes-roll s (out-Node n)

pub nodes_become : (S : Type 0) → NodesBecome S
nodes_become S r s span k cs = becomes-roll r s (record { span = span; kind = k; children = cs })

pub layer-other : {S : Type 0} (r : Rewriting S) (s : S) (span : Span) (k : Kind) (cs : List Node) → is_list k ≡ false → layer r s span k cs ≡ r.here s span k cs (children r (r.seat s k cs) 0 cs)
layer-other r s span kind.List cs h = cc
layer-other r s span _ cs h = refl

pub list-kind : (k : Kind) → is_list k ≡ true → k ≡ kind.List
list-kind kind.List h = refl
list-kind _ h = cc
