-- What the bytes of a module are converted to.
use Rattle.std.specs.Prelude.{◌≡◌, ◌+◌, ℕ, List, Option, Some, None, Result, Ok, Err, Vec, cond, nat_lt, length}
use Rattle.std.specs.declared.alloc.Global.{Global}
use Rattle.ecma_kind.specs.Sessions.{SessionState}
use Rattle.std.specs.Str.{is_utf8}
use Rattle.ecma_tree.specs.declared.node.Node.{Node}
use Rattle.ecma_config.specs.declared.config.Config.{Config}
use Rattle.ecma_modules.specs.declared.error.ReadError.{ReadError}
use Rattle.ecma_modules.specs.Modules.{reads_as, typescript, deepest}
use Rattle.ecma_print.specs.Layout.{layout}
use Rattle.ecma_scope.specs.Resolved.{contexts}
use Rattle.ts_to_js.specs.Refusals.{refusal_of, refused}
use Rattle.ts_to_js.specs.Stages.{IsFinal}
use Rattle.ts_to_js.specs.declared.error.TsError.{TsError}
use Rattle.ts_to_js.specs.declared.error.TsError.TheVariants as error

-- how many bytes a module may have
abbrev pub byte_limit : ℕ
byte_limit = 4194304

-- what comes of a tree that is refused for this, or for nothing
abbrev pub ComesOf : Config → ℕ → Option TsError → Node → Result (List ℕ) TsError → Type 0
ComesOf config left (Some refusal) source answer = answer ≡ Err refusal
ComesOf config left None source answer = (final : Node) × IsFinal config left source final × (answer ≡ Ok (layout final))

-- what comes of what was read
abbrev pub ComesOfReading : Config → ℕ → Result Node ReadError → Result (List ℕ) TsError → Type 0
ComesOfReading config left (Ok tree) answer = ComesOf config left (refused config left tree) tree answer
ComesOfReading config left (Err reason) answer = answer ≡ Err (refusal_of reason)

-- the text of the module that these bytes are converted to, by these options and where so many contexts are left, or the first refusal that holds
abbrev pub IsConverted : Config → ℕ → List ℕ → Result (List ℕ) TsError → Type 0
IsConverted config left src answer =
    cond (nat_lt byte_limit (length src)) (answer ≡ Err error.TooLong)
    (cond (is_utf8 src) (ComesOfReading config left (reads_as src typescript deepest) answer)
    (answer ≡ Err error.NotUtf8))

-- the session with so many contexts left
abbrev pub with_left : ℕ → SessionState → SessionState
with_left left session = record session { left = left }

-- of a session two contexts were drawn, and one for each scope of a tree; nothing else of it was changed
abbrev pub HasDrawnFor : Node → SessionState → SessionState → Type 0
HasDrawnFor tree before after = (after.left + (contexts tree + 2) ≡ before.left) × (after ≡ with_left after.left before)

-- what a conversion leaves of a session: with the text, what was drawn for the tree of the source; else all of it
abbrev pub Leaves : Result (Vec ℕ Global) TsError → List ℕ → SessionState → SessionState → Type 0
Leaves (Ok text) src before after = (tree : Node) × (reads_as src typescript deepest ≡ Ok tree) × HasDrawnFor tree before after
Leaves (Err refusal) src before after = after ≡ before
