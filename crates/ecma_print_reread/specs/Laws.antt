-- What is printed is read again.
use Rattle.std.specs.Prelude.{◌≡◌, ◌≤◌, ℕ, Bool, false, [], ◌∷◌}
use Rattle.ecma_tree.specs.declared.node.Node.{Node}
use Rattle.ecma_tree.specs.Spans.{without_spans}
use Rattle.ecma_grammar.specs.Reading.{Position, read}
use Rattle.ecma_grammar.specs.Modules.{reads_module}
use Rattle.ecma_print.specs.Layout.{layout}
use Rattle.ecma_shapes.specs.Modules.{IsModule}

-- with some number of levels, and with any larger one, the layout of a module is read in plain reading as that module, up to spans
abbrev pub ModulesAreReadAgain : Type 0
ModulesAreReadAgain = (assignments : Bool) (tree : Node) → IsModule assignments tree → (enough : ℕ) × ((bound : ℕ) → enough ≤ bound →
    (again : Node) × (s : Position) × (reads_module (layout tree) (record { typescript = false; assignments = assignments }) bound ≡ read (again ∷ []) s) × (without_spans again ≡ without_spans tree))
