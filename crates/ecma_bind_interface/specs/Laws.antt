-- Parentheses and bound names keep the interface of a module.
use Rattle.std.specs.Prelude.{◌≡◌, ℕ, List}
use Rattle.ecma_kind.specs.declared.shapes.Sort.TheVariants as sort
use Rattle.ecma_tree.specs.declared.node.Node.{Node}
use Rattle.ecma_tree.specs.Sorted.{HasSort}
use Rattle.ecma_bind.specs.Binding.{with_bound_names}
use Rattle.ecma_enclose.specs.Enclosing.{enclosed}
use Rattle.ecma_interface.specs.Names.{Id}
use Rattle.ecma_interface.specs.Reading.{interface_of}
use Rattle.ecma_scope.specs.Resolved.{resolved}

-- with parentheses a resolved module has the interface that it has without them
abbrev pub EnclosingKeepsInterfaces : Type 0
EnclosingKeepsInterfaces =
    (text : Id → List ℕ) (unresolved top left : ℕ) (tree : Node) → HasSort sort.Module tree
    → interface_of text (resolved unresolved top left (enclosed tree)) ≡ interface_of text (resolved unresolved top left tree)

-- and so has a module with bound names
abbrev pub BindingKeepsInterfaces : Type 0
BindingKeepsInterfaces = (text : Id → List ℕ) (tree : Node) → HasSort sort.Module tree → interface_of text (with_bound_names tree) ≡ interface_of text tree
