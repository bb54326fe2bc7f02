-- Identifiers whose texts still have room for 64 bytes more below 2^32: they stand in what is read of a text that has, and in what is made of it.
use Rattle.std.specs.Prelude.{◌≡◌, ◌<◌, ℕ, ◌+◌, List, length, Ok}
use Rattle.ecma_kind.specs.declared.shapes.Sort.TheVariants as sort
use Rattle.ecma_tree.specs.declared.node.Node.{Node}
use Rattle.ecma_tree.specs.Sorted.{HasSort}
use Rattle.ecma_grammar.specs.declared.production.Mode.{Mode}
use Rattle.ecma_modules.specs.Modules.{reads_as}
use Rattle.ecma_scope.specs.Resolved.{resolved}
use Rattle.ecma_strip.specs.Stripping.{stripped}
use Rattle.ecma_bind.specs.Binding.{with_bound_names}
use Rattle.ecma_enclose.specs.Enclosing.{enclosed}
use Rattle.ecma_hygiene_fits.specs.Spelled.{NoneLong}
use Rattle.ecma_fits.specs.Fitting.{NoneFails}

-- an identifier is a piece of the text
abbrev pub NamesThatAreReadAreShort : Type 0
NamesThatAreReadAreShort = (text : List ℕ) (mode : Mode) (bound : ℕ) (tree : Node) → length text + 64 < 4294967296 → reads_as text mode bound ≡ Ok tree → NoneLong tree

-- contexts are no texts
abbrev pub ContextsKeepNamesShort : Type 0
ContextsKeepNamesShort = (unresolved top left : ℕ) (tree : Node) → NoneLong tree → NoneLong (resolved unresolved top left tree)

-- without types no identifier has another text
abbrev pub StrippingKeepsNamesShort : Type 0
StrippingKeepsNamesShort = (tree : Node) → NoneLong tree → NoneLong (stripped tree)

-- a name that is bound has its text
abbrev pub BindingKeepsNamesShort : Type 0
BindingKeepsNamesShort = (tree : Node) → NoneLong tree → NoneLong (with_bound_names tree)

-- parentheses are no texts
abbrev pub EnclosingKeepsNamesShort : Type 0
EnclosingKeepsNamesShort = (tree : Node) → HasSort sort.Module tree → NoneLong tree → NoneLong (enclosed tree)
