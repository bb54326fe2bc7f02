-- Laws of expressions behind `super(..)`.
use Rattle.std.specs.Prelude.{ℕ, ◌+◌, ◌≤◌, List, map}
use Rattle.std.specs.List.{sum}
use Rattle.ecma_tree.specs.Layers.{from_leaves}
use Rattle.ecma_tree.specs.declared.node.Node.{Node}
use Rattle.ecma_function_parts.specs.Drawing.{count}
use Rattle.ecma_function.specs.declared.place.Place.{Place}
use Rattle.ecma_function.specs.Calls.{is_super_call}
use Rattle.ecma_function.specs.Injecting.{writing}

-- how many `super(..)` a tree has
abbrev pub super_calls : Node → ℕ
super_calls = from_leaves ℕ (λ n counts. count (is_super_call n) + sum counts)

-- for each at most one context is drawn
abbrev pub AtMostOneContextACall : Type 0
AtMostOneContextACall = (exprs : List Node) (tree : Node) (place : Place) (left : ℕ) → (writing exprs tree place left).draws ≤ super_calls tree
