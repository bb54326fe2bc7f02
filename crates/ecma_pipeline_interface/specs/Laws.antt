-- What a module imports and exports on its way.
use Rattle.std.specs.Prelude.{◌≡◌, ℕ, Bool, List}
use Rattle.ecma_kind.specs.declared.shapes.Sort.TheVariants as sort
use Rattle.ecma_tree.specs.declared.node.Node.{Node}
use Rattle.ecma_tree.specs.Sorted.{HasSort}
use Rattle.ecma_bind.specs.Binding.{with_bound_names}
use Rattle.ecma_enclose.specs.Enclosing.{enclosed}
use Rattle.ecma_hygiene.specs.Hygienic.{IsHygienic}
use Rattle.ecma_hygiene.specs.Renamed.{text_of}
use Rattle.ecma_hygiene.specs.Texts.{text_in}
use Rattle.ecma_hygiene_runs.specs.Exports.{KeepsExportedTexts}
use Rattle.ecma_interface.specs.Names.{Id}
use Rattle.ecma_interface.specs.Reading.{interface_of, own_text}
use Rattle.ecma_ready.specs.Ready.{IsReady}
use Rattle.ecma_round_trip_literals.specs.Sources.{with_sources}
use Rattle.ecma_scope.specs.Resolved.{resolved}
use Rattle.ecma_sources.specs.Sources.{IsReading}
use Rattle.ecma_strip.specs.Stripping.{stripped}

-- a module with its parentheses and bound names, resolved, has the interface of the resolved module
abbrev pub BoundSourcesHaveTheirInterface : Type 0
BoundSourcesHaveTheirInterface =
    (text : Id → List ℕ) (unresolved top left : ℕ) (source : Node) → HasSort sort.Module source
    → interface_of text (resolved unresolved top left (with_bound_names (enclosed source))) ≡ interface_of text (resolved unresolved top left source)

-- what is read of the text that is written for a tree that is ready, whose exported declarations keep their texts, has the interface of the tree, by the texts that its
-- variables get
abbrev pub WrittenTreesHaveTheirInterface : Type 0
WrittenTreesHaveTheirInterface =
    (assignments : Bool) (free : ℕ) (tree final written : Node) → IsReady assignments free tree → (is : IsHygienic (stripped tree) final)
    → KeepsExportedTexts (text_of (text_in is.names)) (stripped tree) → IsReading (with_sources final) written
    → interface_of own_text written ≡ interface_of (text_of (text_in is.names)) tree

-- the parts of it that stand on what is written and read

-- with the source texts of its literals a module has the interface that it has without them
abbrev pub LiteralsKeepInterfaces : Type 0
LiteralsKeepInterfaces = (text : Id → List ℕ) (tree : Node) → HasSort sort.Module tree → interface_of text (with_sources tree) ≡ interface_of text tree

-- what is read of the layout of a module has its interface, by the texts of its names
abbrev pub ReadTreesKeepInterfaces : Type 0
ReadTreesKeepInterfaces = (tree written : Node) → HasSort sort.Module tree → IsReading tree written → interface_of own_text written ≡ interface_of own_text tree
