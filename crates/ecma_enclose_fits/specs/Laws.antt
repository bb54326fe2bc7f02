-- Laws of the tree with parentheses that keep what is written from being read as something else.
use Rattle.ecma_kind.specs.declared.shapes.Sort.TheVariants as sort
use Rattle.ecma_tree.specs.declared.node.Node.{Node}
use Rattle.ecma_tree.specs.Sorted.{HasSort}
use Rattle.ecma_fits.specs.Fitting.{Fits}
use Rattle.ecma_enclose.specs.Enclosing.{enclosed}

-- a sorted module is one with them
abbrev pub EnclosedTreesAreSorted : Type 0
EnclosedTreesAreSorted = (tree : Node) → HasSort sort.Module tree → HasSort sort.Module (enclosed tree)

-- and what fits fits with them
abbrev pub EnclosedTreesFit : Type 0
EnclosedTreesFit = (tree : Node) → Fits tree → Fits (enclosed tree)
