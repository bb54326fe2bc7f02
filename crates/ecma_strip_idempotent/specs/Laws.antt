-- Stripping twice is stripping once.
use Rattle.std.specs.Prelude.{◌≡◌, true}
use Rattle.ecma_kind.specs.declared.shapes.Sort.{Sort}
use Rattle.ecma_tree.specs.declared.node.Node.{Node}
use Rattle.ecma_tree.specs.Sorted.{HasSort}
use Rattle.ecma_strip.specs.Laws.{HasSortUnderTypes}
use Rattle.ecma_strip.specs.Stripping.{stripped}
use Rattle.ecma_strip_idempotent.specs.Lasting.{holds_everywhere, lasts, is_full}

-- a tree without its types stays when it is stripped again, where no namespace without values is left in it, as of `namespace N { declare let a }`, and no `this` in
-- a list, as of a bound name `this` with a type round it, which no reader gives
abbrev pub StrippingTwiceIsStrippingOnce : Type 0
StrippingTwiceIsStrippingOnce = (tree : Node) (sort : Sort) → HasSortUnderTypes sort tree → holds_everywhere lasts (stripped tree) ≡ true → stripped (stripped tree) ≡ stripped tree

-- of a tree that has its sort with the types round its expressions too, no `this` is left in a list
abbrev pub SortedTreesStripOnce : Type 0
SortedTreesStripOnce = (tree : Node) (sort : Sort) → HasSort sort tree → HasSortUnderTypes sort tree → holds_everywhere is_full (stripped tree) ≡ true → stripped (stripped tree) ≡ stripped tree
