-- The tree without spans, node by node: roles and scopes.
use Rattle.std.proofs.Common.{◌≡◌, ◌∙◌, ℕ, zero, suc, List, [], ◌∷◌, map, not, refl, ap, ap₂}
use Rattle.ecma_tree.specs.declared.node.Node.{Node, fold_out-Node, out-Node}
use Rattle.ecma_tree.specs.declared.node.Node.TheViews.{out-roll-Node}
use Rattle.ecma_tree.specs.Nodes.{dummy_span, node_of}
use Rattle.ecma_tree.specs.Sorted.{is_absent}
use Rattle.ecma_tree.specs.Spans.{unplaced, without_spans}
use Rattle.ecma_scope.specs.declared.role.Role.{Role}
use Rattle.ecma_scope.specs.Scopes.{is_there, opens, opens_by, role_by, role_in}

pub bare : (n : Node) → without_spans n ≡ node_of dummy_span (out-Node n).kind (map without_spans (out-Node n).children)
bare = fold_out-Node Node unplaced

pub bare-kind : (n : Node) → (out-Node (without_spans n)).kind ≡ (out-Node n).kind
bare-kind n =
    ap (λ m. (out-Node m).kind) (bare n) ∙ ap (λ p. p.kind) (out-roll-Node (record { span = dummy_span; kind = (out-Node n).kind; children = map without_spans (out-Node n).children }))

pub bare-children : (n : Node) → (out-Node (without_spans n)).children ≡ map without_spans (out-Node n).children
bare-children n =
    ap (λ m. (out-Node m).children) (bare n) ∙ ap (λ p. p.children) (out-roll-Node (record { span = dummy_span; kind = (out-Node n).kind; children = map without_spans (out-Node n).children }))

there-bare : (nodes : List Node) (i : ℕ) → is_there (map without_spans nodes) i ≡ is_there nodes i
there-bare [] i = refl
there-bare (n ∷ ns) zero = ap (λ k. not (is_absent k)) (bare-kind n)
there-bare (n ∷ ns) (suc i) = there-bare ns i

pub there : (n : Node) (i : ℕ) → is_there (out-Node (without_spans n)).children i ≡ is_there (out-Node n).children i
there n i = ap (λ nodes. is_there nodes i) (bare-children n) ∙ there-bare (out-Node n).children i

pub role-bare : (r : Role) (n : Node) (i : ℕ) → role_in r (without_spans n) i ≡ role_in r n i
role-bare r n i = ap₂ (λ k sourced. role_by r k sourced i) (bare-kind n) (there n 1)

pub opens-bare : (r : Role) (n : Node) → opens r (without_spans n) ≡ opens r n
opens-bare r n = ap₂ (λ k named. opens_by r k named) (bare-kind n) (there n 0)
