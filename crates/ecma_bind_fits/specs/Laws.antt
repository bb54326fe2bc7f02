-- Laws of the tree with bound names.
use Rattle.std.specs.Prelude.{◌≡◌}
use Rattle.ecma_tree.specs.declared.node.Node.{Node}
use Rattle.ecma_fits.specs.Fitting.{Fits}
use Rattle.ecma_strip.specs.Stripping.{stripped}
use Rattle.ecma_strip_fits.specs.Targets.{HasPlainTargets}
use Rattle.ecma_bind.specs.Binding.{with_bound_names}

-- what fits fits with bound names
abbrev pub BoundNamesFit : Type 0
BoundNamesFit = (tree : Node) → Fits tree → Fits (with_bound_names tree)

-- and no name is bound with a type round it
abbrev pub BoundNamesArePlain : Type 0
BoundNamesArePlain = (tree : Node) → Fits tree → HasPlainTargets (with_bound_names tree)

-- so without its types it fits
abbrev pub WhatFitsFitsWithoutTypes : Type 0
WhatFitsFitsWithoutTypes = (tree : Node) → Fits tree → Fits (stripped (with_bound_names tree))

-- where no name is bound with a type round it, nothing changes
abbrev pub BoundNamesStay : Type 0
BoundNamesStay = (tree : Node) → HasPlainTargets tree → with_bound_names tree ≡ tree
