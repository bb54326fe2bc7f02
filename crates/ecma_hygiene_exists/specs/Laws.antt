-- Final texts exist, and are determined.
use Rattle.std.specs.Prelude.{◌≡◌, ◌+◌, ◌^◌, ◌<◌, ◌≤◌, length}
use Rattle.ecma_tree.specs.declared.node.Node.{Node}
use Rattle.ecma_scope.specs.Needs.{needed}
use Rattle.ecma_scope.specs.Resolved.{contexts}
use Rattle.ecma_hygiene.specs.Hygienic.{IsHygienic}
use Rattle.ecma_hygiene.specs.Sights.{sights}

-- a tree with not too many identifiers has final texts: numerals have 64 digits at most
abbrev pub FinalTextsExist : Type 0
FinalTextsExist = (tree : Node) → length (sights tree) < 2 ^ 64 → (final : Node) × IsHygienic tree final

-- and no others
abbrev pub FinalTextsAreUnique : Type 0
FinalTextsAreUnique = (tree a b : Node) → IsHygienic tree a → IsHygienic tree b → a ≡ b

-- of the contexts that are needed the scopes leave 16
abbrev pub NeededLeaveSixteen : Type 0
NeededLeaveSixteen = (tree : Node) → contexts tree + 16 ≤ needed tree
