-- A tree with parentheses added has its identifiers where they stood.
use Rattle.std.proofs.Common.{◌∙◌, List, refl, subst}
use Rattle.ecma_kind.specs.declared.kind.Kind.{Kind}
use Rattle.ecma_kind.specs.declared.kind.Kind.TheVariants as kind
use Rattle.ecma_kind.specs.declared.shapes.Sort.TheVariants as sort
use Rattle.ecma_tree.specs.declared.node.Node.{Node, out-Node}
use Rattle.ecma_tree.specs.declared.node.Node.TheViews.{roll-out-Node}
use Rattle.ecma_tree.specs.Sorted.{one}
use Rattle.ecma_enclose.specs.Enclosing.{enclosed}
use Rattle.ecma_enclose_fits.proofs.Adding.{Adds, All as AllAdd, Below, adds, enclosed_adds, every, first, more as add, none as nothing}
use Rattle.ecma_hygiene_fits.specs.Placed.{is_made}
use Rattle.ecma_pipeline_spans.specs.Laws.{EnclosingMakesNoNames}
use Rattle.ecma_pipeline_spans.proofs.Trees.{children_good, more, none, own_good}
use Rattle.ecma_pipeline_spans.proofs.Throughout.{All, Good, IsOwn, all_own, node_good, none_made}

mutual
  added_good : {a b : Node} → Adds a b → Good a → Good b
  added_good {a} {b} (adds s k at below) h =
      subst Good (roll-out-Node b) (node_good (out-Node b).span (out-Node b).kind ((λ i. is_made (k i) (at i)) ∙ own_good IsOwn h) (below_good below (children_good IsOwn h)))

  below_good : {k : Kind} {ns ms : List Node} → Below k ns ms → All ns → All ms
  below_good (every all) h = all_good all h
  below_good (first e alone all) (more g h) = more (node_good (out-Node e).span kind.ParenExpr refl (more g none)) (all_good all h)

  all_good : {ns ms : List Node} → AllAdd ns ms → All ns → All ms
  all_good nothing h = none
  all_good (add r all) (more g h) = more (added_good r g) (all_good all h)

pub names_enclosed : EnclosingMakesNoNames
names_enclosed tree sorted h = none_made (enclosed tree) (added_good (enclosed_adds tree (one sort.Module, sorted)) (all_own tree h))
