-- The laws of explicit parentheses.
use Rattle.std.specs.Prelude.{◌≡◌, ℕ, true}
use Rattle.ecma_kind.specs.declared.shapes.Shape.{Shape}
use Rattle.ecma_kind.specs.declared.shapes.Sort.TheVariants as sort
use Rattle.ecma_tree.specs.declared.node.Node.{Node}
use Rattle.ecma_tree.specs.Sorted.{HasShape, HasSort}
use Rattle.ecma_print.specs.Layout.{layout}
use Rattle.ecma_config.specs.declared.config.Config.{Config}
use Rattle.ecma_runs.specs.declared.script.Script.{Script}
use Rattle.ecma_runs.specs.Enums.{lacks_enums}
use Rattle.ecma_runs.specs.Observation.{observe}
use Rattle.ecma_print.specs.Explicit.{explicit, without_parens}
use Rattle.ecma_print_parentheses.specs.Lacking.{lacks_none}

-- nothing but parentheses is added
abbrev pub OnlyParenthesesAreAdded : Type 0
OnlyParenthesesAreAdded = (m : Node) → without_parens (explicit m) ≡ without_parens m

-- none are lacking
abbrev pub NoneAreLacking : Type 0
NoneAreLacking = (m : Node) → lacks_none (explicit m) ≡ true

-- a tree that lacks none stays
abbrev pub TreesThatLackNoneStay : Type 0
TreesThatLackNoneStay = (m : Node) → lacks_none m ≡ true → explicit m ≡ m

-- so none are added again
abbrev pub NoneAreAddedAgain : Type 0
NoneAreAddedAgain = (m : Node) → explicit (explicit m) ≡ explicit m

-- every shape is kept, and so every sort
abbrev pub SortsAreKept : Type 0
SortsAreKept = (m : Node) (shape : Shape) → HasShape shape m → HasShape shape (explicit m)

-- the layout stays, of each tree that has a shape. Not so of every tree: where a part of a template is no list, which no shape allows, its children are laid
-- out without regard to what it is
abbrev pub LayoutStays : Type 0
LayoutStays = (m : Node) (shape : Shape) → HasShape shape m → layout (explicit m) ≡ layout m

-- a module without enums runs alike. Not so every tree: where parentheses stand round a link of an optional chain, which no shape allows, a chain before that link ends there
abbrev pub RunsAlike : Type 0
RunsAlike =
    (turns : ℕ) (options : Config) (m : Node) (script : Script) → HasSort sort.Module m → lacks_enums m ≡ true → observe turns options (explicit m) script ≡ observe turns options m script
