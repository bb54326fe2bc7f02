-- Tests that no node of a tree fails.
use Rattle.std.specs.Prelude.{Bool}
use Rattle.ecma_kind.specs.declared.shapes.Sort.TheVariants as sort
use Rattle.ecma_tree.specs.declared.node.Node.{Node}
use Rattle.ecma_tree.specs.Sorted.{HasSort}
use Rattle.ecma_fits.specs.Fitting.{NoneFails}
use Rattle.ecma_hygiene.specs.Renamed.{Texts, renamed}
use Rattle.ecma_rules.specs.Members.{has_second_constructor}

-- a module in which no node fails a test is one with other texts
abbrev pub FinalTextsKeep : (Node → Bool) → Type 0
FinalTextsKeep fails = (texts : Texts) (tree : Node) → HasSort sort.Module tree → NoneFails (λ w node. fails node) tree → NoneFails (λ w node. fails node) (renamed texts tree)
