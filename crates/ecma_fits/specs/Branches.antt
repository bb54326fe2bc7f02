-- No `if` without `else` stands directly before an outer `else` (ECMAScript, 14.6): that would be its own.
use Rattle.std.specs.Prelude.{ℕ, zero, suc, Bool, true, false, ◌&&◌, ◌||◌, List, [], ◌∷◌, Option, Some, None}
use Rattle.ecma_kind.specs.declared.kind.Kind.{Kind}
use Rattle.ecma_kind.specs.declared.kind.Kind.TheVariants as kind
use Rattle.ecma_tree.specs.declared.node.Node.{Node, Node-F, fold-Node}
use Rattle.ecma_tree.specs.Sorted.{is_absent}
use Rattle.ecma_rules.specs.Children.{kind_of, has_child, child_holds}

-- which child a statement ends with, if that is a statement or an alternative
abbrev pub last_part : Kind → Option ℕ
last_part kind.IfStmt = Some 2
last_part kind.LabeledStmt = Some 1
last_part kind.WhileStmt = Some 1
last_part kind.ForStmt = Some 3
last_part kind.ForInStmt = Some 2
last_part (kind.ForOfStmt is_await) = Some 2
last_part _ = None

abbrev pub holds_at : List Bool → ℕ → Bool
holds_at [] i = false
holds_at (holds ∷ others) zero = holds
holds_at (holds ∷ others) (suc i) = holds_at others i

abbrev pub holds_at_last : List Bool → Option ℕ → Bool
holds_at_last children None = false
holds_at_last children (Some i) = holds_at children i

abbrev pub takes_else_step : Node-F Bool → Bool
takes_else_step parts = is_absent parts.kind || holds_at_last parts.children (last_part parts.kind)

-- an `else` after the node would be its own: an alternative that is missing, or what ends with one
abbrev pub takes_else : Node → Bool
takes_else = fold-Node Bool takes_else_step

abbrev pub is_choice : Kind → Bool
is_choice kind.IfStmt = true
is_choice _ = false

-- an `if` whose `else` would be taken by what stands before that
abbrev pub is_dangling : Node → Bool
is_dangling node = is_choice (kind_of node) && (has_child node 2 && child_holds takes_else node 1)
