-- What a text does not show: the contexts of identifiers, and where nodes stood.
use Rattle.std.specs.Prelude.{◌≡◌, ℕ, List}
use Rattle.ecma_tree.specs.declared.node.Node.{Node}
use Rattle.ecma_tree.specs.Contexts.{with_contexts}
use Rattle.ecma_tree.specs.Spans.{without_spans}
use Rattle.ecma_print.specs.Layout.{layout}

abbrev pub ContextsDoNotMatterToLayouts : Type 0
ContextsDoNotMatterToLayouts = (context_of : List ℕ → ℕ → ℕ) (m : Node) → layout (with_contexts context_of m) ≡ layout m

abbrev pub SpansDoNotMatterToLayouts : Type 0
SpansDoNotMatterToLayouts = (m m' : Node) → without_spans m ≡ without_spans m' → layout m ≡ layout m'
