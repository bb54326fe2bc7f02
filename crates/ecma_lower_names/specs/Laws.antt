-- What a tree declares when it runs, its scopes declare: in no context of free names.
use Rattle.std.specs.Prelude.{ℕ, false}
use Rattle.ecma_tree.specs.declared.node.Node.{Node}
use Rattle.ecma_ready.specs.Ready.{IsReady}
use Rattle.ecma_lower_runs.specs.Laws.{DeclaresNone}

-- no id that a tree declares when it runs has the context of free names
--   const a = require("m");   // a is declared, in a context of the module's scope; `require` is free
abbrev pub ScopesDeclareWhatRunsDeclare : Type 0
ScopesDeclareWhatRunsDeclare = (free : ℕ) (tree : Node) → IsReady false free tree → DeclaresNone free tree
