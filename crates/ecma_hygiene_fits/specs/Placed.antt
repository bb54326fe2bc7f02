-- Identifiers that stand in the source.
use Rattle.std.specs.Prelude.{ℕ, Bool, false, not, ◌&&◌, ◌==◌}
use Rattle.ecma_kind.specs.declared.kind.Kind.{Kind}
use Rattle.ecma_kind.specs.declared.kind.Kind.TheVariants as kind
use Rattle.ecma_kind.specs.declared.span.Span.{Span}
use Rattle.ecma_tree.specs.declared.node.Node.{Node, out-Node}
use Rattle.ecma_fits.specs.Fitting.{NoneFails}
use Rattle.ecma_hygiene.specs.Sights.{stands_in_source}

-- an identifier that a pass made: it has the span from 0 to 0
abbrev pub is_made : Kind → Span → Bool
is_made (kind.Ident sym ctxt optional) span = not (stands_in_source span)
is_made _ span = false

-- no identifier of a tree is made
abbrev pub NoneMade : Node → Type 0
NoneMade tree = NoneFails (λ w node. is_made (out-Node node).kind (out-Node node).span) tree

-- one that is made and has another context than free names
abbrev pub is_made_but : ℕ → Kind → Span → Bool
is_made_but free (kind.Ident sym ctxt optional) span = not (stands_in_source span) && not (ctxt == free)
is_made_but free _ span = false

-- no identifier of a tree is made, but for free names
--   const a = require("m");   // `require`, made of `import a = require("m")`
abbrev pub NoneMadeBut : ℕ → Node → Type 0
NoneMadeBut free tree = NoneFails (λ w node. is_made_but free (out-Node node).kind (out-Node node).span) tree
