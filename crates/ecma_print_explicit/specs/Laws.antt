-- What fits, and explicit parentheses.
use Rattle.ecma_tree.specs.declared.node.Node.{Node}
use Rattle.ecma_print.specs.Explicit.{explicit}
use Rattle.ecma_fits.specs.Fitting.{Fits}

-- a tree that fits, fits with explicit parentheses
abbrev pub ExplicitTreesFit : Type 0
ExplicitTreesFit = (tree : Node) → Fits tree → Fits (explicit tree)
