-- A tree with its contexts has its identifiers where they stood.
use Rattle.std.proofs.Common.{◌≡◌, ◌∙◌, ℕ, suc, ◌-◌, List, map, refl, sym, ap, subst}
use Rattle.ecma_kind.specs.declared.kind.Kind.{Kind}
use Rattle.ecma_kind.specs.declared.kind.Kind.TheVariants as kind
use Rattle.ecma_kind.specs.declared.span.Span.{Span}
use Rattle.ecma_tree.specs.declared.node.Node.{Node, Node-F, roll-Node}
use Rattle.ecma_tree.specs.declared.node.Node.TheViews.{out-roll-Node}
use Rattle.ecma_tree.specs.Nodes.{node_of}
use Rattle.ecma_scope.specs.Resolved.{Place, context_count, inside, kind_at, nowhere, placed, resolve_step, resolved_at, taken}
use Rattle.ecma_pipeline_spans.specs.Laws.{ContextsMakeNoNames}
use Rattle.ecma_pipeline_spans.proofs.Trees.{everywhere, more, none}
use Rattle.ecma_pipeline_spans.proofs.Throughout.{All, Good, IsOwn, all_own, node_good, none_made}
use Rattle.ecma_tree.proofs.Layers.{from_leaves-roll}

module _ (unresolved top : ℕ) where
  kind_own : (at : Span) (place : Place) (k : Kind) → IsOwn at k → IsOwn at (kind_at unresolved place k)
  kind_own at place (kind.Ident text ctxt optional) h = h
  kind_own at place _ h = refl

  abbrev at : Node → Place → ℕ → Node
  at = resolved_at unresolved top

  resolved_is : (x : Node-F Node) (place : Place) (left : ℕ)
      → at (roll-Node x) place left ≡ node_of x.span (kind_at unresolved place x.kind) (placed (inside top place (roll-Node x) left) 0 x.children (map at x.children) (left - taken place.role (roll-Node x)))
  resolved_is x place left =
      let n = roll-Node x in
      ap (λ f. f place left) (from_leaves-roll (Place → ℕ → Node) (resolve_step unresolved top) x)
      ∙ ap (λ (z : Node-F Node). node_of z.span (kind_at unresolved place z.kind) (placed (inside top place n left) 0 z.children (map at x.children) (left - taken place.role n))) (out-roll-Node x)

  mutual
    resolved_good : {n : Node} → Good n → (place : Place) (left : ℕ) → Good (at n place left)
    resolved_good (everywhere span k {children = cs} p h) place left =
        let n = node_of span k cs in
        subst Good (sym (resolved_is (record { span = span; kind = k; children = cs }) place left))
        (node_good span (kind_at unresolved place k) (kind_own span place k p) (placed_good h (inside top place n left) 0 (left - taken place.role n)))

    placed_good : {ns : List Node} → All ns → (place_of : ℕ → Place) (i left : ℕ) → All (placed place_of i ns (map at ns) left)
    placed_good none place_of i left = none
    placed_good (more {n = n} a h) place_of i left =
        let place = place_of i in
        more (resolved_good a place left) (placed_good h place_of (suc i) (left - context_count n place.role))

pub names_in_contexts : ContextsMakeNoNames
names_in_contexts unresolved top left tree h = none_made _ (resolved_good unresolved top (all_own tree h) nowhere left)
