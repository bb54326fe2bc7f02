-- A tree without contexts is the same without them once more.
use Rattle.std.proofs.Common.{◌≡◌, refl, sym, ap, ap₂, ◌∙◌, subst, ℕ, List, [], ◌∷◌, map}
use Rattle.ecma_kind.specs.declared.kind.Kind.{Kind}
use Rattle.ecma_kind.specs.declared.kind.Kind.TheVariants as kind
use Rattle.ecma_tree.specs.Contexts.{kind_with_context}
use Rattle.ecma_tree.specs.Nodes.{node_of}
use Rattle.ecma_tree.specs.declared.node.Node.{Node, Node-F, ind-Node}
use Rattle.ecma_scope.specs.Laws.{without_contexts}
use Rattle.ecma_hygiene_scopes.proofs.Parts.{contexts-of}

abbrev empty : List ℕ → ℕ → ℕ
empty text ctxt = 0

kind-twice : (k : Kind) → kind_with_context empty (kind_with_context empty k) ≡ kind_with_context empty k
kind-twice (kind.Ident text ctxt optional) = refl
kind-twice _ = refl

abbrev Twice : Node → Type 0
Twice n = without_contexts (without_contexts n) ≡ without_contexts n

all-twice : (ns : List ((n : Node) × Twice n)) → map without_contexts (map without_contexts (map (λ e. e.0) ns)) ≡ map without_contexts (map (λ e. e.0) ns)
all-twice [] = refl
all-twice (n ∷ ns) = ap₂ (λ a rest. a ∷ rest) n.1 (all-twice ns)

pub bare-twice : (n : Node) → Twice n
bare-twice = ind-Node Twice (λ x y is.
    ap without_contexts (contexts-of empty x.span x.kind x.children) ∙ contexts-of empty x.span (kind_with_context empty x.kind) (map without_contexts x.children)
    ∙ ap₂ (node_of x.span) (kind-twice x.kind) (subst (λ (cs : List Node). map without_contexts (map without_contexts cs) ≡ map without_contexts cs) (ap (λ (z : Node-F Node). z.children) is) (all-twice y.children))
    ∙ sym (contexts-of empty x.span x.kind x.children))
