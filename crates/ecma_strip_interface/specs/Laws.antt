-- Without its types a module imports and exports what it does with them.
use Rattle.std.specs.Prelude.{◌≡◌, ℕ, true, List}
use Rattle.ecma_tree.specs.declared.node.Node.{Node}
use Rattle.ecma_fits.specs.Fitting.{Fits}
use Rattle.ecma_interface.specs.Names.{Id}
use Rattle.ecma_interface.specs.Reading.{interface_of}
use Rattle.ecma_sources.specs.TypesAlone.{adds_types_alone}
use Rattle.ecma_strip.specs.Stripping.{stripped}

-- one that fits, of which nothing is left for other passes to lower
abbrev pub StrippingKeepsInterfaces : Type 0
StrippingKeepsInterfaces = (text : Id → List ℕ) (tree : Node) → Fits tree → adds_types_alone tree ≡ true → interface_of text (stripped tree) ≡ interface_of text tree
