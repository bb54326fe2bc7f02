-- What types hold is asked for the context rules and goes: what is left is the reading where types hold nothing.
use Rattle.std.specs.Prelude.{◌≡◌, ℕ, Bool, List, None, Ok}
use Rattle.ecma_tree.specs.declared.node.Node.{Node}
use Rattle.ecma_grammar.specs.declared.production.Mode.{Mode}
use Rattle.ecma_grammar.specs.Modules.{answer_of, reads_module}
use Rattle.ecma_rules.specs.Finishing.{finished}
use Rattle.ecma_rules.specs.Rules.{first_broken}
use Rattle.ecma_modules.specs.Modules.{plain, reads_as}

-- what is read as a module is read where types hold nothing, breaks no rule there, and is finished
abbrev pub ModulesAreReadWithoutTypes : Type 0
ModulesAreReadWithoutTypes =
    (text : List ℕ) (mode : Mode) (bound : ℕ) (tree : Node) → reads_as text mode bound ≡ Ok tree
    → (raw : Node) × (answer_of (reads_module text mode bound) ≡ Ok raw) × (first_broken raw ≡ None) × (finished raw ≡ tree)

-- in plain reading there are no types
abbrev pub PlainModulesHoldNoTypes : Type 0
PlainModulesHoldNoTypes =
    (text : List ℕ) (assignments : Bool) (bound : ℕ) (raw : Node) → answer_of (reads_module text (plain assignments) bound) ≡ Ok raw → first_broken raw ≡ None
    → reads_as text (plain assignments) bound ≡ Ok (finished raw)
