-- What keeps the interface of a module.
use Rattle.std.specs.Prelude.{◌≡◌, ℕ, List}
use Rattle.ecma_kind.specs.declared.shapes.Sort.TheVariants as sort
use Rattle.ecma_tree.specs.declared.node.Node.{Node}
use Rattle.ecma_tree.specs.Contexts.{with_contexts}
use Rattle.ecma_tree.specs.Sorted.{HasSort}
use Rattle.ecma_tree.specs.Spans.{without_spans}
use Rattle.ecma_interface.specs.Names.{Id}
use Rattle.ecma_interface.specs.Reading.{interface_of, own_text}

-- without spans a module has the interface that it has with them
abbrev pub SpansKeepInterfaces : Type 0
SpansKeepInterfaces = (text : Id → List ℕ) (tree : Node) → HasSort sort.Module tree → interface_of text (without_spans tree) ≡ interface_of text tree

-- and with other contexts, by the texts of its names
abbrev pub ContextsKeepInterfaces : Type 0
ContextsKeepInterfaces = (context_of : List ℕ → ℕ → ℕ) (tree : Node) → HasSort sort.Module tree → interface_of own_text (with_contexts context_of tree) ≡ interface_of own_text tree
