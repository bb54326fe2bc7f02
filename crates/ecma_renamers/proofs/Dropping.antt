-- Dropping spans twice.
use Rattle.std.proofs.Common.{◌≡◌, ◌∙◌, List, [], ◌∷◌, map, refl, sym, ap, ap₂}
use Rattle.ecma_tree.specs.Nodes.{dummy_span, node_of}
use Rattle.ecma_tree.specs.Spans.{unplaced, without_spans}
use Rattle.ecma_tree.specs.declared.node.Node.{Node, Node-F, fold-roll-Node, ind-Node, roll-Node}
use Rattle.ecma_renamers.specs.Laws.{DroppingSpansTwiceIsDroppingThemOnce}

twice_all : (ns : List ((n : Node) × (without_spans (without_spans n) ≡ without_spans n))) → map without_spans (map without_spans (map (λ e. e.0) ns)) ≡ map without_spans (map (λ e. e.0) ns)
twice_all [] = refl
twice_all (n ∷ ns) = ap₂ (λ (a : Node) (rest : List Node). a ∷ rest) n.1 (twice_all ns)

without-roll : (x : Node-F Node) → without_spans (roll-Node x) ≡ node_of dummy_span x.kind (map without_spans x.children)
without-roll x = fold-roll-Node Node unplaced x

pub dropping_twice : DroppingSpansTwiceIsDroppingThemOnce
dropping_twice = ind-Node (λ n. without_spans (without_spans n) ≡ without_spans n) (λ x y is.
    let once = without-roll x in
    let again = without-roll (record { span = dummy_span; kind = x.kind; children = map without_spans x.children }) in
    let same : map without_spans (map without_spans x.children) ≡ map without_spans x.children =
    ap (λ z. map without_spans (map without_spans z.children)) (sym is) ∙ (twice_all y.children ∙ ap (λ z. map without_spans z.children) is) in
    ap without_spans once ∙ (again ∙ (ap (node_of dummy_span x.kind) same ∙ sym once)))
