-- The parentheses of the layout keep the interface of a module.
use Rattle.std.specs.Prelude.{◌≡◌, ℕ, List}
use Rattle.ecma_kind.specs.declared.shapes.Sort.TheVariants as sort
use Rattle.ecma_tree.specs.declared.node.Node.{Node}
use Rattle.ecma_tree.specs.Sorted.{HasSort}
use Rattle.ecma_interface.specs.Names.{Id}
use Rattle.ecma_interface.specs.Reading.{interface_of}
use Rattle.ecma_print.specs.Explicit.{explicit}

-- where they are nodes a module has the interface that it has without them
abbrev pub ParenthesesKeepInterfaces : Type 0
ParenthesesKeepInterfaces = (text : Id → List ℕ) (tree : Node) → HasSort sort.Module tree → interface_of text (explicit tree) ≡ interface_of text tree
