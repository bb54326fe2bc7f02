-- A rewriting in seats of another type, and one that keeps all items of lists.
use Rattle.std.proofs.Common.{◌≡◌, ◌∙◌, ℕ, suc, Bool, true, false, cond, refl, sym, ap, ap₂, subst, List, [], ◌∷◌, ◌++◌, Some, slice_get}
use Rattle.ecma_kind.specs.declared.kind.Kind.{Kind}
use Rattle.ecma_kind.specs.declared.kind.Kind.TheVariants as kind
use Rattle.ecma_kind.specs.declared.span.Span.{Span}
use Rattle.ecma_tree.specs.Nodes.{node_of}
use Rattle.ecma_tree.specs.Sorted.{is_list}
use Rattle.ecma_tree.specs.declared.node.Node.{Node}
use Rattle.ecma_rewriting.specs.Laws.{children, items, layer}
use Rattle.ecma_rewriting.specs.Rewriting.{Rewriting, becomes}
use Rattle.ecma_rewriting.proofs.Equations.{layer-other, list-kind, nodes_become}
use Rattle.ecma_strip_rewriting.proofs.Commuting.{by-parts}

module _ {S B : Type 0} (r : Rewriting S) (embed : B → S) (project : S → B) where
  -- the same in seats of another type
  abbrev pub embedded : Rewriting B
  embedded = record {
    keeps = λ n. r.keeps n;
    unkept = λ s n. r.unkept (embed s) n;
    next = λ s n. project (r.next (embed s) n);
    seat = λ s k cs i. project (r.seat (embed s) k cs i);
    here = λ s span k cs lists. r.here (embed s) span k cs lists;
  }

  module _ (next-back : (s : B) (n : Node) → embed (project (r.next (embed s) n)) ≡ r.next (embed s) n) (seat-back : (s : B) (k : Kind) (cs : List Node) (i : ℕ) → embed (project (r.seat (embed s) k cs i)) ≡ r.seat (embed s) k cs i) where
    abbrev Same : Node → Type 0
    Same n = (s : B) → becomes embedded s n ≡ becomes r (embed s) n

    abbrev SameItems : List Node → Type 0
    SameItems cs = (s : B) → items embedded s cs ≡ items r (embed s) cs

    items-same : (cs : List Node) → ((i : ℕ) (c : Node) → slice_get cs i ≡ Some c → Same c) → SameItems cs
    items-same [] each s = refl
    items-same (c ∷ cs) each s =
        let rest = items-same cs (λ i d at. each (suc i) d at) in
        let first = each 0 c refl s in
        let kept = rest (project (r.next (embed s) c)) ∙ ap (λ z. items r z cs) (next-back s c) in
        let unkept = rest s in
        λ j. cond (r.keeps c) (first j ++ kept j) (r.unkept (embed s) c ++ unkept j)

    children-by : (seat : ℕ → B) (seat' : ℕ → S) → ((i : ℕ) → embed (seat i) ≡ seat' i) → (cs : List Node) (i : ℕ) → ((m : ℕ) (c : Node) → slice_get cs m ≡ Some c → Same c)
        → children embedded seat i cs ≡ children r seat' i cs
    children-by seat seat' back [] i each = refl
    children-by seat seat' back (c ∷ cs) i each =
        ap₂ (λ a rest. a ∷ rest) (each 0 c refl (seat i) ∙ ap (λ z. becomes r z c) (back i)) (children-by seat seat' back cs (suc i) (λ m d at. each (suc m) d at))

    layer-same : (b : Bool) (span : Span) (k : Kind) (cs : List Node) → is_list k ≡ b → ((i : ℕ) (c : Node) → slice_get cs i ≡ Some c → Same c) → (s : B) → layer embedded s span k cs ≡ layer r (embed s) span k cs
    layer-same true span k cs l each s =
        subst (λ z. layer embedded s span z cs ≡ layer r (embed s) span z cs) (sym (list-kind k l)) (ap (λ ns. node_of span kind.List ns ∷ []) (items-same cs each s))
    layer-same false span k cs l each s =
        layer-other embedded s span k cs l
        ∙ ap (r.here (embed s) span k cs) (children-by (λ i. project (r.seat (embed s) k cs i)) (r.seat (embed s) k cs) (seat-back s k cs) cs 0 each)
        ∙ sym (layer-other r (embed s) span k cs l)

    node-same : (span : Span) (k : Kind) (cs : List Node) → ((i : ℕ) (c : Node) → slice_get cs i ≡ Some c → Same c) → Same (node_of span k cs)
    node-same span k cs each s = nodes_become B embedded s span k cs ∙ layer-same (is_list k) span k cs refl each s ∙ sym (nodes_become S r (embed s) span k cs)

    pub same : (n : Node) → Same n
    same = by-parts Same node-same

    pub children-same : (s : B) (k : Kind) (cs : List Node) → children embedded (embedded.seat s k cs) 0 cs ≡ children r (r.seat (embed s) k cs) 0 cs
    children-same s k cs = children-by (embedded.seat s k cs) (r.seat (embed s) k cs) (seat-back s k cs) cs 0 (λ m c at. same c)

-- ---- trees of whose lists every item is kept

module _ {S : Type 0} (r : Rewriting S) (keeps : Node → Bool) (P : Node → Type 0) (below : (span : Span) (k : Kind) (cs : List Node) → P (node_of span k cs) → (i : ℕ) (c : Node) → slice_get cs i ≡ Some c → P c)
    (kept : (span : Span) (cs : List Node) → P (node_of span kind.List cs) → (i : ℕ) (c : Node) → slice_get cs i ≡ Some c → keeps c ≡ true) where
  abbrev all : Rewriting S
  all = record r { keeps = λ n. true }

  abbrev some : Rewriting S
  some = record r { keeps = keeps }

  abbrev Alike : Node → Type 0
  Alike n = P n → (s : S) → becomes all s n ≡ becomes some s n

  items-alike : (cs : List Node) → ((i : ℕ) (c : Node) → slice_get cs i ≡ Some c → (s : S) → becomes all s c ≡ becomes some s c) → ((i : ℕ) (c : Node) → slice_get cs i ≡ Some c → keeps c ≡ true) → (s : S) → items all s cs ≡ items some s cs
  items-alike [] each stay s = refl
  items-alike (c ∷ cs) each stay s =
      ap₂ (λ a rest. a ++ rest) (each 0 c refl s) (items-alike cs (λ i d at. each (suc i) d at) (λ i d at. stay (suc i) d at) (r.next s c))
      ∙ ap (λ b. cond b (becomes some s c ++ items some (r.next s c) cs) (r.unkept s c ++ items some s cs)) (sym (stay 0 c refl))

  children-alike : (seat : ℕ → S) (cs : List Node) (i : ℕ) → ((m : ℕ) (c : Node) → slice_get cs m ≡ Some c → (s : S) → becomes all s c ≡ becomes some s c) → children all seat i cs ≡ children some seat i cs
  children-alike seat [] i each = refl
  children-alike seat (c ∷ cs) i each = ap₂ (λ a rest. a ∷ rest) (each 0 c refl (seat i)) (children-alike seat cs (suc i) (λ m d at. each (suc m) d at))

  layer-alike : (b : Bool) (span : Span) (k : Kind) (cs : List Node) → is_list k ≡ b → P (node_of span k cs) → ((i : ℕ) (c : Node) → slice_get cs i ≡ Some c → Alike c) → (s : S) → layer all s span k cs ≡ layer some s span k cs
  layer-alike true span k cs l p each s =
      subst (λ z. P (node_of span z cs) → layer all s span z cs ≡ layer some s span z cs) (sym (list-kind k l))
      (λ q. ap (λ ns. node_of span kind.List ns ∷ []) (items-alike cs (λ i c at. each i c at (below span kind.List cs q i c at)) (kept span cs q) s)) p
  layer-alike false span k cs l p each s =
      layer-other all s span k cs l
      ∙ ap (r.here s span k cs) (children-alike (r.seat s k cs) cs 0 (λ i c at. each i c at (below span k cs p i c at)))
      ∙ sym (layer-other some s span k cs l)

  node-alike : (span : Span) (k : Kind) (cs : List Node) → ((i : ℕ) (c : Node) → slice_get cs i ≡ Some c → Alike c) → Alike (node_of span k cs)
  node-alike span k cs each p s = nodes_become S all s span k cs ∙ layer-alike (is_list k) span k cs refl p each s ∙ sym (nodes_become S some s span k cs)

  pub alike : (n : Node) → Alike n
  alike = by-parts Alike node-alike
