-- Names of the global object: those that have the context of what is not resolved.
use Rattle.std.specs.Prelude.{ℕ, Bool, false, ◌&&◌, ◌==◌, List, bytes_eq}
use Rattle.std.specs.List.{list_any}
use Rattle.ecma_kind.specs.declared.kind.Kind.{Kind}
use Rattle.ecma_kind.specs.declared.kind.Kind.TheVariants as kind
use Rattle.ecma_judge.specs.declared.ctx.ExprCtx.{ExprCtx}

-- a text is one of these
abbrev pub is_among : List ℕ → List (List ℕ) → Bool
is_among text words = list_any (λ word. bytes_eq text word) words

-- the name of one of these texts that no scope declares
abbrev pub is_one_of_globals : ExprCtx → List (List ℕ) → Kind → Bool
is_one_of_globals ctx words (kind.Ident sym ctxt optional) = ctxt == ctx.unresolved_ctxt && is_among sym words
is_one_of_globals ctx words _ = false

-- the name of this text that no scope declares
abbrev pub is_global : ExprCtx → List ℕ → Kind → Bool
is_global ctx text (kind.Ident sym ctxt optional) = ctxt == ctx.unresolved_ctxt && bytes_eq sym text
is_global ctx text _ = false
