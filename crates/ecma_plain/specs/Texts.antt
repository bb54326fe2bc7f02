-- Texts that are plain modules.
use Rattle.std.specs.Prelude.{◌≡◌, ◌≤◌, ℕ, Bool, List, Ok}
use Rattle.ecma_tree.specs.declared.node.Node.{Node}
use Rattle.ecma_modules.specs.Modules.{plain, reads_as}

-- a text is a plain module, of this tree: it is read without TypeScript, but for the assignments of
-- CommonJS modules where they may stand, with some number of levels and with any larger one
pub record IsPlainModule (assignments : Bool) (text : List ℕ) (tree : Node) : Type 0 where
  pub levels : ℕ
  pub read_plain : (bound : ℕ) → levels ≤ bound → reads_as text (plain assignments) bound ≡ Ok tree
