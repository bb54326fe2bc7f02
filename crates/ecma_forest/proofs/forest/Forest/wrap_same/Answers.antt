use Rattle.std.proofs.Common.{◌≡◌, ◌∙◌, ◌++◌, ◌∷◌, [], sym, ap, arith, take, drop}
use Rattle.ecma_tree.specs.Nodes.{node_of}
use Rattle.ecma_tree.specs.declared.node.Node.{out-Node}
use Rattle.ecma_forest.specs.Slots.{kind_at}
use Rattle.ecma_forest.specs.Trees.{node}
use Rattle.ecma_forest.specs.Summaries.{kind_summary}
use Rattle.ecma_forest.proofs.Growing.{wrapped-below, wrapped-rooted, wrapped-trees}
use Rattle.ecma_forest.proofs.Places.{within, kind-known, kind-is, kind-at_is, span-is}
use Rattle.ecma_forest.proofs.forest.Forest.wrap_same.Goals as goal

pub index-slot-requires : goal.index-slot-requires
index-slot-requires c = omega (arith, c.self.inside.below.ok.0, within c.self.inside.kinds c.self.inside.below.items c.self.inside.roots.items c.args.self.now c.self.view_is c.self.invariant c.args.at c.requires.at)

pub at-requires : goal.at-requires
at-requires c = (kind-known c.self.inside.kinds c.self.inside.below.items c.self.inside.roots.items c.args.self.now c.self.view_is c.self.invariant c.args.at c.requires.at c.index-slot.result.now c.index-slot.ensures)

pub invariant_of-self-2 : goal.invariant_of-self-2
invariant_of-self-2 c =
    let says : c.kind_summary-own.result ≡ kind_summary (kind_at c.self.inside.kinds c.index-slot.result.now.kind) =
    c.kind_summary-own.ensures ∙ ap kind_summary (kind-is c.self.inside.kinds c.self.inside.below.items c.self.inside.roots.items
    c.args.self.now c.self.view_is c.self.invariant c.args.at c.requires.at c.index-slot.result.now c.index-slot.ensures
    c.at.result.now c.at.ensures ∙ sym (kind-at_is c.self.inside.kinds c.self.inside.below.items c.self.inside.roots.items
    c.args.self.now c.self.view_is c.self.invariant c.args.at c.requires.at c.index-slot.result.now c.index-slot.ensures)) in
    rw (c.in_ok-put_over.ensures.below, c.in_ok-put_over.ensures.roots)
    (wrapped-rooted c.self.inside.kinds c.self.inside.below.items c.self.inside.roots.items c.index-slot.result.now.span
    c.index-slot.result.now.kind c.kind_summary-own.result c.args.start c.self.invariant (kind-known c.self.inside.kinds
    c.self.inside.below.items c.self.inside.roots.items c.args.self.now c.self.view_is c.self.invariant c.args.at c.requires.at
    c.index-slot.result.now c.index-slot.ensures) says)

pub returns-clause-below : goal.returns-clause-below
returns-clause-below c =
    rw c.in_ok-put_over.ensures.below
    (wrapped-below c.self.inside.kinds c.self.inside.below.items c.self.inside.roots.items c.args.start c.self.invariant ∙ ap (λ t. t.below ++ drop c.args.start t.roots) c.self.view_is)

pub returns-clause-roots : goal.returns-clause-roots
returns-clause-roots c =
    rw (c.in_ok-put_over.ensures.below, c.in_ok-put_over.ensures.roots)
    (wrapped-trees c.self.inside.kinds c.self.inside.below.items c.self.inside.roots.items c.index-slot.result.now.span c.index-slot.result.now.kind c.kind_summary-own.result c.args.start c.self.invariant
    ∙ ap (λ t. take c.args.start t.roots ++ node_of c.index-slot.result.now.span (kind_at c.self.inside.kinds c.index-slot.result.now.kind) (drop c.args.start t.roots) ∷ []) c.self.view_is
    ∙ ap (λ s. take c.args.start c.args.self.now.roots ++ node_of s (kind_at c.self.inside.kinds c.index-slot.result.now.kind) (drop
    c.args.start c.args.self.now.roots) ∷ []) (span-is c.self.inside.kinds c.self.inside.below.items c.self.inside.roots.items
    c.args.self.now c.self.view_is c.self.invariant c.args.at c.requires.at c.index-slot.result.now c.index-slot.ensures)
    ∙ ap (λ k. take c.args.start c.args.self.now.roots ++ node_of (out-Node (node c.args.self.now c.args.at)).span k (drop c.args.start
    c.args.self.now.roots) ∷ []) (kind-at_is c.self.inside.kinds c.self.inside.below.items c.self.inside.roots.items c.args.self.now
    c.self.view_is c.self.invariant c.args.at c.requires.at c.index-slot.result.now c.index-slot.ensures))
