-- What becomes of a tree of a shape has the shape that its seat gives it.
use Rattle.std.proofs.Common.{◌≡◌, ◌∙◌, ℕ, zero, suc, Bool, true, false, cond, refl, sym, ap, ap₂, subst, List, [], ◌∷◌, ◌++◌, map, length, replicate, Some, slice_get}
use Rattle.std.specs.List.{All}
use Rattle.std.proofs.lemmas.List.Elements.{All-nil, All-cons, All-head, All-tail}
use Rattle.ecma_kind.specs.declared.kind.Kind.{Kind}
use Rattle.ecma_kind.specs.declared.kind.Kind.TheVariants as kind
use Rattle.ecma_kind.specs.declared.shapes.Shape.{Shape}
use Rattle.ecma_kind.specs.declared.span.Span.{Span}
use Rattle.ecma_tree.specs.Laws.{HaveShapes}
use Rattle.ecma_tree.specs.Nodes.{node_of}
use Rattle.ecma_tree.specs.Sorted.{HasShape, allows, child_shapes, is_list, item_shape}
use Rattle.ecma_tree.specs.declared.node.Node.{Node, Node-F, ind-Node, roll-Node}
use Rattle.ecma_tree.proofs.ShapeLaws.{node_has_shape}
use Rattle.ecma_rewriting.specs.Laws.{children, items, layer}
use Rattle.ecma_rewriting.specs.Rewriting.{Rewriting, becomes, only}
use Rattle.ecma_rewriting.specs.Shapes.{AllBecame, Became, Exchanges, ExchangesKeepShapes, Fills, NodesOfOnesKeepShapes, Places, ShapesTurn, Single, Suits, Turns, ones}
use Rattle.ecma_rewriting.proofs.Equations.{becomes-roll, layer-other, list-kind}

-- lists of as many nodes, each of this shape
pub all-from-each : (t : Shape) (ns : List Node) → HaveShapes (replicate (length ns) t) ns → All (HasShape t) ns
all-from-each t [] h = All-nil (HasShape t)
all-from-each t (n ∷ ns) h = All-cons (HasShape t) n ns h.0 (all-from-each t ns h.1)

pub each-from-all : (t : Shape) (ns : List Node) → All (HasShape t) ns → HaveShapes (replicate (length ns) t) ns
each-from-all t [] h = tt
each-from-all t (n ∷ ns) h = (All-head (HasShape t) n ns h, each-from-all t ns (All-tail (HasShape t) n ns h))

all-append : (P : Node → Type 0) (ns ms : List Node) → All P ns → All P ms → All P (ns ++ ms)
all-append P [] ms h g = g
all-append P (n ∷ ns) ms h g = All-cons P n (ns ++ ms) (All-head P n ns h) (all-append P ns ms (All-tail P n ns h) g)

-- a list of nodes of a shape
list-shape : (span : Span) (t : Shape) (ns : List Node) → allows t kind.List ≡ true → All (HasShape (item_shape t)) ns → HasShape t (node_of span kind.List ns)
list-shape span t ns a h = (node_has_shape span kind.List ns t).1 (a, each-from-all (item_shape t) ns h)

pub alone : (t : Shape) (n : Node) → HasShape t n → (several : Bool) → Fills several t (n ∷ [])
alone t n h several = record { each = All-cons (HasShape t) n [] h (All-nil (HasShape t)); single = λ e. refl }

module _ {S : Type 0} (r : Rewriting S) (p : Places S) (turns : Turns r p) where
  abbrev Turned : Node → Type 0
  Turned n = (s : S) → Became p s n (becomes r s n)

  abbrev nodes : List ((n : Node) × Turned n) → List Node
  nodes ns = map (λ e. e.0) ns

  -- of an item and of those behind it
  item : (b : Bool) (s : S) (t : Shape) (n : Node) (ns : List Node) → r.keeps n ≡ b → HasShape t n → Turned n → Suits p s t
      → ((s' : S) → Suits p s' t → All (HasShape (p.to s' t)) (items r s' ns))
      → All (HasShape (p.to s t)) (cond b (becomes r s n ++ items r (r.next s n) ns) (r.unkept s n ++ items r s ns))
  item true s t n ns k h turned suit rest =
      let along = turns.along s t n suit h k in
      all-append (HasShape (p.to s t)) (becomes r s n) (items r (r.next s n) ns) (turned s t h suit).each
      (subst (λ z. All (HasShape z) (items r (r.next s n) ns)) along.1 (rest (r.next s n) along.0))
  item false s t n ns k h turned suit rest = all-append (HasShape (p.to s t)) (r.unkept s n) (items r s ns) (turns.unkept s t n suit h k) (rest s suit)

  items-turn : (t : Shape) (ns : List ((n : Node) × Turned n)) → HaveShapes (replicate (length (nodes ns)) t) (nodes ns) → (s : S) → Suits p s t → All (HasShape (p.to s t)) (items r s (nodes ns))
  items-turn t [] h s suit = All-nil (HasShape (p.to s t))
  items-turn t (n ∷ ns) h s suit = item (r.keeps n.0) s t n.0 (nodes ns) refl h.0 n.1 suit (items-turn t ns h.1)

  children-turn : (seat : ℕ → S) (i : ℕ) (ns : List ((n : Node) × Turned n)) → AllBecame p seat i (nodes ns) (children r seat i (nodes ns))
  children-turn seat i [] = tt
  children-turn seat i (n ∷ ns) = (n.1 (seat i), children-turn seat (suc i) ns)

  list-turns : (s : S) (t : Shape) (span : Span) (ns : List ((n : Node) × Turned n)) → HasShape t (node_of span kind.List (nodes ns)) → Suits p s t
      → Fills (p.several s) (p.to s t) (layer r s span kind.List (nodes ns))
  list-turns s t span ns h suit =
      let parts = (node_has_shape span kind.List (nodes ns) t).0 h in
      let listed = turns.listed s t suit parts.0 in
      let each = items-turn (item_shape t) ns parts.1 s listed.0 in
      alone (p.to s t) (node_of span kind.List (items r s (nodes ns))) (list-shape span (p.to s t) (items r s (nodes ns)) listed.1 (subst (λ z. All (HasShape z) (items r s (nodes ns))) listed.2 each)) (p.several s)

  layer-turns : (s : S) (t : Shape) (span : Span) (k : Kind) (ns : List ((n : Node) × Turned n)) (b : Bool) → is_list k ≡ b → HasShape t (node_of span k (nodes ns)) → Suits p s t
      → Fills (p.several s) (p.to s t) (layer r s span k (nodes ns))
  layer-turns s t span k ns true l h suit =
      subst (λ z. HasShape t (node_of span z (nodes ns)) → Fills (p.several s) (p.to s t) (layer r s span z (nodes ns))) (sym (list-kind k l)) (λ g. list-turns s t span ns g suit) h
  layer-turns s t span k ns false l h suit =
      subst (Fills (p.several s) (p.to s t)) (sym (layer-other r s span k (nodes ns) l))
      (turns.here s t span k (nodes ns) (children r (r.seat s k (nodes ns)) 0 (nodes ns)) l suit h (children-turn (r.seat s k (nodes ns)) 0 ns))

  pub turned : (n : Node) → Turned n
  turned = ind-Node Turned (λ x y is.
      (let parts : Node-F Node = record { span = y.span; kind = y.kind; children = nodes y.children } in
      subst (λ (z : Node-F Node). Turned (roll-Node z)) is (λ s t h suit.
      subst (Fills (p.several s) (p.to s t)) (sym (becomes-roll r s parts)) (layer-turns s t y.span y.kind y.children (is_list y.kind) refl h suit))))

pub shapes_turn : (S : Type 0) → ShapesTurn S
shapes_turn S r p turns s t n h suit = turned r p turns n s t h suit

-- ---- one for one

module _ {S : Type 0} (p : Places S) (seat : ℕ → S) where
  only-shape : (u w : Shape) (l : List Node) → w ≡ u → Fills false w l → HasShape u (only l)
  only-shape u w l e f = subst (λ z. HasShape z (only l)) e (All-head (HasShape w) (only l) [] (subst (All (HasShape w)) (f.single refl) f.each))

  ones-fill : (shapes : List Shape) (at : ℕ → ℕ) (i : ℕ) (cs : List Node) (lists : List (List Node)) → at 0 ≡ i → ((j : ℕ) → at (suc j) ≡ suc (at j))
      → ((j : ℕ) (u : Shape) → slice_get shapes j ≡ Some u → Suits p (seat (at j)) u × (p.to (seat (at j)) u ≡ u) × (p.several (seat (at j)) ≡ false))
      → HaveShapes shapes cs → AllBecame p seat i cs lists → HaveShapes shapes (map only lists)
  ones-fill [] at i [] [] z next single h b = tt
  ones-fill [] at i [] (l ∷ ls) z next single h b = absurd b
  ones-fill [] at i (c ∷ cs) lists z next single h b = absurd h
  ones-fill (u ∷ us) at i [] lists z next single h b = absurd h
  ones-fill (u ∷ us) at i (c ∷ cs) [] z next single h b = absurd b
  ones-fill (u ∷ us) at i (c ∷ cs) (l ∷ ls) z next single h b =
      let here = subst (λ j. Suits p (seat j) u × (p.to (seat j) u ≡ u) × (p.several (seat j) ≡ false)) z (single 0 u refl) in
      let fills = subst (λ e. Fills e (p.to (seat i) u) l) here.2 (b.0 u h.0 here.0) in (
        only-shape u (p.to (seat i) u) l here.1 fills,
        ones-fill us (λ j. at (suc j)) (suc i) cs ls (next 0 ∙ ap suc z) (λ j. next (suc j)) (λ j v get. single (suc j) v get) h.1 b.1,
      )

  length-became : (i : ℕ) (cs : List Node) (lists : List (List Node)) → AllBecame p seat i cs lists → length cs ≡ length (map only lists)
  length-became i [] [] b = refl
  length-became i [] (l ∷ ls) b = absurd b
  length-became i (c ∷ cs) [] b = absurd b
  length-became i (c ∷ cs) (l ∷ ls) b = ap suc (length-became (suc i) cs ls b.1)

pub nodes_of_ones_keep_shapes : (S : Type 0) → NodesOfOnesKeepShapes S
nodes_of_ones_keep_shapes S p seat t span k cs lists h single b =
    let parts = (node_has_shape span k cs t).0 h in
    let shapes = child_shapes k t (length cs) in
    let have = ones-fill p seat shapes (λ j. j) 0 cs lists refl (λ j. refl) (λ j u get. (single.suits j u get, single.same j u get, single.one j u get)) parts.1 b in
    (node_has_shape span k (map only lists) t).1 (parts.0, subst (λ n. HaveShapes (child_shapes k t n) (map only lists)) (length-became p seat 0 cs lists b) have)

module _ {S : Type 0} (r : Rewriting S) (suits : S → Shape → Bool) (exchanges : Exchanges r suits) where
  no-unkept : {X : Type 0} (c : Node) → r.keeps c ≡ false → X
  no-unkept c h = absurd (by (sym (exchanges.kept c) ∙ h))
    where
      by : true ≡ false → ⊥
      by e = cc

  pub exchange-turns : Turns r (ones suits)
  exchange-turns = record {
    along = λ s t c suit h k. (exchanges.along s t c suit, refl);
    unkept = λ s t c suit h k. no-unkept c k;
    listed = λ s t suit a. (exchanges.listed s t suit, a, refl);
    here = λ s t span k cs lists l suit h became.
        (let parts = (node_has_shape span k cs t).0 h in
        exchanges.here s t span k cs lists l suit parts.0 became
        (nodes_of_ones_keep_shapes S (ones suits) (r.seat s k cs) t span k cs lists h
        (record { suits = λ i u at. exchanges.below s t k cs l suit parts.0 i u at; same = λ i u at. refl; one = λ i u at. refl }) became));
  }

pub exchanges_keep_shapes : (S : Type 0) → ExchangesKeepShapes S
exchanges_keep_shapes S r suits exchanges s t n h suit = shapes_turn S r (ones suits) (exchange-turns r suits exchanges) s t n h suit
