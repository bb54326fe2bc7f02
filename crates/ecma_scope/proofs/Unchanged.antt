-- What resolving leaves as it was.
use Rattle.std.proofs.Common.{◌≡◌, ℕ, suc, ◌-◌, List, [], ◌∷◌, map, refl, sym, ap, ap₂, ◌∙◌, subst}
use Rattle.ecma_kind.specs.declared.kind.Kind.{Kind}
use Rattle.ecma_kind.specs.declared.kind.Kind.TheVariants as kind
use Rattle.ecma_tree.specs.declared.node.Node.{Node, Node-F, ind-Node, out-Node, roll-Node}
use Rattle.ecma_tree.specs.declared.node.Node.TheViews.{out-roll-Node}
use Rattle.ecma_tree.specs.Contexts.{kind_with_context}
use Rattle.ecma_tree.specs.Nodes.{node_of}
use Rattle.ecma_tree.specs.Sorted.{HasSort}
use Rattle.ecma_tree.proofs.Changing.{changed-parts}
use Rattle.ecma_tree.proofs.ShapeLaws.{contexts_keep_sorts}
use Rattle.ecma_scope.specs.Laws.{ResolvedChangesContexts, ResolvedKeepsSorts, without_contexts}
use Rattle.ecma_scope.specs.Resolved.{Place, context_count, inside, kind_at, nowhere, placed, resolved, resolved_at, taken}
use Rattle.ecma_scope.specs.Frames.{children_at}
use Rattle.ecma_scope.proofs.Opening.{resolved_at-out}

abbrev empty : List ℕ → ℕ → ℕ
empty text ctxt = 0

abbrev bare : Kind → Kind
bare = kind_with_context empty

bare-at : (unresolved : ℕ) (place : Place) (k : Kind) → bare (kind_at unresolved place k) ≡ bare k
bare-at unresolved place (kind.Ident text ctxt optional) = refl
bare-at unresolved place _ = refl

without-parts : (n : Node) → without_contexts n ≡ node_of (out-Node n).span (bare (out-Node n).kind) (map without_contexts (out-Node n).children)
without-parts = changed-parts (λ span. span) bare

without-roll : (x : Node-F Node) → without_contexts (roll-Node x) ≡ node_of x.span (bare x.kind) (map without_contexts x.children)
without-roll x = without-parts (roll-Node x) ∙ ap (λ (z : Node-F Node). node_of z.span (bare z.kind) (map without_contexts z.children)) (out-roll-Node x)

module _ (unresolved top : ℕ) where
  abbrev Kept : Node → Type 0
  Kept n = (place : Place) (left : ℕ) → without_contexts (resolved_at unresolved top n place left) ≡ without_contexts n

  abbrev AllKept : List Node → Type 0
  AllKept ns = (places : ℕ → Place) (i left : ℕ) → map without_contexts (placed places i ns (map (resolved_at unresolved top) ns) left) ≡ map without_contexts ns

  all_kept : (ns : List ((n : Node) × Kept n)) → AllKept (map (λ e. e.0) ns)
  all_kept [] places i left = refl
  all_kept (n ∷ ns) places i left = ap₂ (λ a rest. a ∷ rest) (n.1 (places i) left) (all_kept ns places (suc i) (left - context_count n.0 (places i).role))

  kept-layer : (n : Node) → AllKept (out-Node n).children → Kept n
  kept-layer n children place left =
      let made : Node-F Node = record { span = (out-Node n).span; kind = kind_at unresolved place (out-Node n).kind; children = children_at unresolved top (inside top place n left) n (left - taken place.role n) } in
      ap without_contexts (resolved_at-out unresolved top n place left)
      ∙ without-roll made
      ∙ (λ j. node_of (out-Node n).span (bare-at unresolved place (out-Node n).kind j) (children (inside top place n left) 0 (left - taken place.role n) j))
      ∙ sym (without-parts n)

  kept : (n : Node) → Kept n
  kept = ind-Node Kept (λ x y is.
      kept-layer (roll-Node x) (subst AllKept (ap (λ (z : Node-F Node). z.children) is ∙ sym (ap (λ (z : Node-F Node). z.children) (out-roll-Node x))) (all_kept y.children)))

pub changes-contexts : ResolvedChangesContexts
changes-contexts unresolved top left tree = kept unresolved top tree nowhere left

pub keeps-sorts : ResolvedKeepsSorts
keeps-sorts unresolved top left tree sort =
    let same = changes-contexts unresolved top left tree in
    let of_resolved = contexts_keep_sorts empty (resolved unresolved top left tree) sort in
    let of_tree = contexts_keep_sorts empty tree sort in (
      (λ h. of_tree.0 (subst (HasSort sort) same (of_resolved.1 h))),
      (λ h. of_resolved.0 (subst (HasSort sort) (sym same) (of_tree.1 h))),
    )

pub ruleset unchanged = (changes-contexts, keeps-sorts)
