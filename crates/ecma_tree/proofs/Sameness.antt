-- When two trees are equal but for spans.
use Rattle.std.proofs.Common.{◌≡◌, ℕ, zero, suc, ◌+◌, List, [], ◌∷◌, ◌++◌, Some, map, take, length, sym, ap, ◌∙◌, slice_get, true, false, arith}
use Rattle.std.proofs.lemmas.List.{length-map, map-append, take_all}
use Rattle.ecma_tree.specs.Nodes.{dummy_span, node_of}
use Rattle.ecma_tree.specs.Spans.{without_spans}
use Rattle.ecma_tree.specs.declared.node.Node.{Node, Node-F, out-Node}
use Rattle.ecma_tree.specs.declared.node.Node.TheViews.{out-roll-Node}
use Rattle.ecma_tree.proofs.Changing.{changed-parts, nowhere, same}
use Rattle.ecma_tree.proofs.Items.{take-item}

-- the parts of a tree with no spans
abbrev parts_without_spans : Node → Node-F Node
parts_without_spans n = record { span = dummy_span; kind = (out-Node n).kind; children = map without_spans (out-Node n).children }

without_spans-parts : (n : Node) → out-Node (without_spans n) ≡ parts_without_spans n
without_spans-parts n = ap out-Node (changed-parts nowhere same n) ∙ out-roll-Node (parts_without_spans n)

-- equal trees have equal children
pub children-same : (n m : Node) → without_spans n ≡ without_spans m → map without_spans (out-Node n).children ≡ map without_spans (out-Node m).children
children-same n m equal = sym (ap (λ z. z.children) (without_spans-parts n)) ∙ ap (λ z. (out-Node z).children) equal ∙ ap (λ z. z.children) (without_spans-parts m)

-- a kind and children make a tree
pub without_spans-same : (n m : Node) → (out-Node n).kind ≡ (out-Node m).kind → map without_spans (out-Node n).children ≡ map without_spans (out-Node m).children → without_spans n ≡ without_spans m
without_spans-same n m kinds children =
    changed-parts nowhere same n ∙ (λ j. node_of dummy_span (kinds j) (children j)) ∙ sym (changed-parts nowhere same m)

-- lists of equal trees are as long
pub length-same : (xs ys : List Node) → map without_spans xs ≡ map without_spans ys → length xs ≡ length ys
length-same xs ys equal = sym (length-map xs without_spans) ∙ ap length equal ∙ length-map ys without_spans

-- and have equal trees at each index
pub item-same : (xs ys : List Node) (i : ℕ) (x y : Node) → slice_get xs i ≡ Some x → slice_get ys i ≡ Some y → map without_spans xs ≡ map without_spans ys → without_spans x ≡ without_spans y
item-same [] ys i x y at other equal = cc
item-same (u ∷ us) [] i x y at other equal = cc
item-same (u ∷ us) (v ∷ vs) zero x y at other equal = cc
item-same (u ∷ us) (v ∷ vs) (suc i) x y at other equal = let rest : map without_spans us ≡ map without_spans vs = cc in item-same us vs i x y at other rest

-- one item more is equal
pub take-same : (xs ys : List Node) (i : ℕ) (x y : Node) → slice_get xs i ≡ Some x → slice_get ys i ≡ Some y → without_spans x ≡ without_spans y
    → map without_spans (take i xs) ≡ map without_spans (take i ys) → map without_spans (take (i + 1) xs) ≡ map without_spans (take (i + 1) ys)
take-same xs ys i x y at other equal before =
    rw (take-item xs i x at, take-item ys i y other) (map-append without_spans (take i xs) (x ∷ []) ∙ (λ j. before j ++ equal j ∷ []) ∙ sym (map-append without_spans (take i ys) (y ∷ [])))

-- all items are equal
pub take-same-all : (xs ys : List Node) (i : ℕ) → length xs ≡ i → length ys ≡ i → map without_spans (take i xs) ≡ map without_spans (take i ys) → map without_spans xs ≡ map without_spans ys
take-same-all xs ys i all others equal = sym (ap (map without_spans) (take_all i xs (omega (arith, all)))) ∙ equal ∙ ap (map without_spans) (take_all i ys (omega (arith, others)))

false-true : false ≡ true → ⊥
false-true equal = cc

pub from-false : {A : Type 0} → false ≡ true → A
from-false equal = absurd (false-true equal)
