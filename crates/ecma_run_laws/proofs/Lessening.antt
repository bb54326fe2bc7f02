-- What is left of a tree: of a node, and of a list.
use Rattle.std.proofs.Common.{◌≡◌, refl, sym, ap, ap₂, ◌∙◌, List, [], ◌∷◌, map, filter, Bool, true, false, not, cond}
use Rattle.ecma_kind.specs.declared.kind.Kind.{Kind}
use Rattle.ecma_kind.specs.declared.kind.Kind.TheVariants as kind
use Rattle.ecma_kind.specs.declared.span.Span.{Span}
use Rattle.ecma_tree.specs.declared.node.Node.{Node, Node-F, fold-roll-Node, fold_out-Node, ind-Node, roll-Node, out-Node}
use Rattle.ecma_tree.specs.Nodes.{node_of}
use Rattle.ecma_runs.specs.State.{Id}
use Rattle.ecma_run_laws.specs.Lessened.{Lessened, fewer, left_of, lessened_step, lessened, without}

-- what is no list
abbrev pub IsOther : Kind → Type 0
IsOther kind.List = ⊥
IsOther k = Unit {0}

module _ (gone : Id → Bool) where
  whole_all : (ns : List ((n : Node) × ((lessened gone n).whole ≡ n))) → map (λ l. l.whole) (map (lessened gone) (map (λ e. e.0) ns)) ≡ map (λ e. e.0) ns
  whole_all [] = refl
  whole_all (n ∷ ns) = ap₂ (λ a rest. a ∷ rest) n.1 (whole_all ns)

  -- the node stands beside what is left of it
  whole_is : (n : Node) → (lessened gone n).whole ≡ n
  whole_is = ind-Node (λ n. (lessened gone n).whole ≡ n) (λ x y is.
      ap (λ l. l.whole) (fold-roll-Node Lessened (lessened_step gone) x)
      ∙ ap (λ children. node_of x.span x.kind children)
      (ap (λ z. map (λ l. l.whole) (map (lessened gone) z.children)) (sym is) ∙ (whole_all y.children ∙ ap (λ z. z.children) is)))

  pub less_all : (ns : List Node) → map (λ l. l.less) (map (lessened gone) ns) ≡ map (without gone) ns
  less_all [] = refl
  less_all (n ∷ ns) = ap (λ rest. without gone n ∷ rest) (less_all ns)

  pub image : (x : Node-F Node) → without gone (roll-Node x) ≡ node_of x.span x.kind (left_of x.kind (map (lessened gone) x.children))
  image x = ap (λ l. l.less) (fold-roll-Node Lessened (lessened_step gone) x)

  image_out : (n : Node) → without gone n ≡ node_of (out-Node n).span (out-Node n).kind (left_of (out-Node n).kind (map (lessened gone) (out-Node n).children))
  image_out n = ap (λ l. l.less) (fold_out-Node Lessened (lessened_step gone) n)

  -- the items that stay

  one : (b : Bool) (n : Node) (kept : List Lessened) (others : List Node) → map (λ l. l.less) kept ≡ map (without gone) others
      → map (λ l. l.less) (cond b (lessened gone n ∷ kept) kept) ≡ map (without gone) (cond b (n ∷ others) others)
  one true n kept others e = ap (λ rest. without gone n ∷ rest) e
  one false n kept others e = e

  pub staying : (goes : Node → Bool) (ns : List Node)
      → map (λ l. l.less) (filter (λ l. not (goes l.whole)) (map (lessened gone) ns)) ≡ map (without gone) (filter (λ n. not (goes n)) ns)
  staying goes [] = refl
  staying goes (n ∷ ns) =
      let kept : List Lessened = filter (λ l. not (goes l.whole)) (map (lessened gone) ns) in
      ap (λ w. map (λ l. l.less) (cond (not (goes w)) (lessened gone n ∷ kept) kept)) (whole_is n) ∙ one (not (goes n)) n kept (filter (λ n. not (goes n)) ns) (staying goes ns)

  -- lists of one sort
  module _ (goes : Node → Bool) (left : Lessened → Node)
      (fewer_left : (parts : Node-F Lessened) → left (lessened_step gone parts) ≡ fewer goes parts.span parts.kind parts.children (left_of parts.kind parts.children)) where
    left_out : (n : Node) → left (lessened gone n)
        ≡ fewer goes (out-Node n).span (out-Node n).kind (map (lessened gone) (out-Node n).children) (left_of (out-Node n).kind (map (lessened gone) (out-Node n).children))
    left_out n = ap left (fold_out-Node Lessened (lessened_step gone) n) ∙ fewer_left (record { span = (out-Node n).span; kind = (out-Node n).kind; children = map (lessened gone) (out-Node n).children })

    pub list_left : (n : Node) → (out-Node n).kind ≡ kind.List → left (lessened gone n) ≡ node_of (out-Node n).span kind.List (map (without gone) (filter (λ n. not (goes n)) (out-Node n).children))
    list_left n is =
        left_out n ∙ ap (λ k. fewer goes (out-Node n).span k (map (lessened gone) (out-Node n).children) (left_of (out-Node n).kind (map (lessened gone) (out-Node n).children))) is
        ∙ ap (node_of (out-Node n).span kind.List) (staying goes (out-Node n).children)

    other : (span : Span) (k : Kind) (items : List Lessened) (children : List Node) → IsOther k → fewer goes span k items children ≡ node_of span k children
    other span kind.List items children is = absurd is
    other span _ items children is = refl

    pub other_left : (n : Node) → IsOther (out-Node n).kind → left (lessened gone n) ≡ without gone n
    other_left n is = left_out n ∙ other (out-Node n).span (out-Node n).kind _ _ is ∙ sym (image_out n)
