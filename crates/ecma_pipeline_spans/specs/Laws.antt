-- Identifiers that stand in the source: they are in what is read, and in what is made of it.
use Rattle.std.specs.Prelude.{ℕ}
use Rattle.ecma_kind.specs.declared.shapes.Sort.TheVariants as sort
use Rattle.ecma_tree.specs.declared.node.Node.{Node}
use Rattle.ecma_tree.specs.Sorted.{HasSort}
use Rattle.ecma_scope.specs.Resolved.{resolved}
use Rattle.ecma_strip.specs.Stripping.{stripped}
use Rattle.ecma_bind.specs.Binding.{with_bound_names}
use Rattle.ecma_enclose.specs.Enclosing.{enclosed}
use Rattle.ecma_hygiene_fits.specs.Placed.{NoneMade, NoneMadeBut}

-- an identifier has its place with its context
abbrev pub ContextsMakeNoNames : Type 0
ContextsMakeNoNames = (unresolved top left : ℕ) (tree : Node) → NoneMade tree → NoneMade (resolved unresolved top left tree)

-- without types no identifier has another place: so none is made where none was, but for free names
abbrev pub StrippingMakesNoNames : Type 0
StrippingMakesNoNames = (free : ℕ) (tree : Node) → NoneMadeBut free tree → NoneMadeBut free (stripped tree)

-- a name that is bound has its place
abbrev pub BindingMakesNoNames : Type 0
BindingMakesNoNames = (tree : Node) → NoneMade tree → NoneMade (with_bound_names tree)

-- parentheses are no identifiers
abbrev pub EnclosingMakesNoNames : Type 0
EnclosingMakesNoNames = (tree : Node) → HasSort sort.Module tree → NoneMade tree → NoneMade (enclosed tree)
