-- What holds of the kinds of all nodes of a tree, and of parentheses, holds of them with parentheses added.
use Rattle.std.proofs.Common.{List, [], ◌∷◌, sym, subst}
use Rattle.ecma_kind.specs.declared.kind.Kind.{Kind}
use Rattle.ecma_kind.specs.declared.kind.Kind.TheVariants as kind
use Rattle.ecma_tree.specs.declared.node.Node.{Node, out-Node}
use Rattle.ecma_tree.specs.declared.node.Node.TheViews.{roll-out-Node}
use Rattle.ecma_rules.specs.Children.{kind_of}
use Rattle.ecma_text_leaves.specs.Everywhere.{Each, Everywhere, more as also, none as nothing}
use Rattle.ecma_text_leaves.proofs.Trees.{children_good, good_node, kind_good}
use Rattle.ecma_enclose_fits.proofs.Adding.{Adds, All, Below, adds, children_of, every, first, more, none}

module _ (P : Kind → Type 0) (parentheses : P kind.ParenExpr) where
  mutual
    pub everywhere_added : {a b : Node} → Adds a b → Everywhere P a → Everywhere P b
    everywhere_added {a} {b} (adds s k at below) h =
        subst (Everywhere P) (roll-out-Node b) (good_node P (out-Node b).span (kind_of b) (children_of b) (subst P (sym k) (kind_good P h)) (below_added below (children_good P h)))

    below_added : {k : Kind} {ns ms : List Node} → Below k ns ms → Each P ns → Each P ms
    below_added (every all) h = all_added all h
    below_added (first e alone all) (also g h) = also (good_node P (out-Node e).span kind.ParenExpr (e ∷ []) parentheses (also g nothing)) (all_added all h)

    all_added : {ns ms : List Node} → All ns ms → Each P ns → Each P ms
    all_added none h = nothing
    all_added (more r all) (also g h) = also (everywhere_added r g) (all_added all h)
