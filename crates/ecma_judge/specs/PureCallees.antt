-- Callees whose call has no effects of its own.
use Rattle.std.specs.Prelude.{ℕ, Bool, false, ◌&&◌, ◌||◌, ◌==◌, List, [], ◌∷◌, bytes_eq, codes}
use Rattle.std.specs.List.{list_all}
use Rattle.ecma_kind.specs.declared.kind.Kind.{Kind}
use Rattle.ecma_kind.specs.declared.kind.Kind.TheVariants as kind
use Rattle.ecma_tree.specs.declared.node.Node.{Node, out-Node}
use Rattle.ecma_judge.specs.declared.ctx.ExprCtx.{ExprCtx}
use Rattle.ecma_judge.specs.Contexts.{is_among}
use Rattle.ecma_judge.specs.Parts.{has_kind, is_declared_name, is_empty_block, is_text_literal, passes_at}

-- `Math`, of the global object or in the empty context
abbrev pub is_math : ExprCtx → Kind → Bool
is_math ctx (kind.Ident sym ctxt optional) = (ctxt == ctx.unresolved_ctxt || ctxt == 0) && bytes_eq sym (codes "Math")
is_math ctx _ = false

-- the methods of a text that only read it
abbrev pub reading_methods : List (List ℕ)
reading_methods =
    codes "charAt" ∷ codes "charCodeAt" ∷ codes "concat" ∷ codes "endsWith" ∷ codes "includes" ∷ codes "indexOf" ∷ codes "lastIndexOf"
    ∷ codes "localeCompare" ∷ codes "slice" ∷ codes "split" ∷ codes "startsWith" ∷ codes "substr" ∷ codes "substring" ∷ codes "toLocaleLowerCase"
    ∷ codes "toLocaleUpperCase" ∷ codes "toLowerCase" ∷ codes "toString" ∷ codes "toUpperCase" ∷ codes "trim" ∷ codes "trimEnd"
    ∷ codes "trimStart" ∷ []

--   Math.max
--   "a".trim
abbrev pub is_pure_member : ExprCtx → Kind → Kind → Bool
is_pure_member ctx object (kind.IdentName sym) = is_math ctx object || (is_text_literal object && is_among sym reading_methods)
is_pure_member ctx object _ = false

abbrev pub is_pure_member_of : ExprCtx → Node → Node → Bool
is_pure_member_of ctx object key = is_pure_member ctx (out-Node object).kind (out-Node key).kind

-- with the key of the member
abbrev pub has_pure_key : ExprCtx → Node → Node → Bool
has_pure_key ctx member object = passes_at (is_pure_member_of ctx object) 1 member

-- a parameter that is a name, with no default
abbrev pub is_plain_param : Node → Bool
is_plain_param = passes_at (has_kind is_declared_name) 0

abbrev pub are_plain_params : Node → Bool
are_plain_params params = list_all is_plain_param (out-Node params).children

--   function (a, b) { }
abbrev pub is_idle : Node → Bool
is_idle function = passes_at are_plain_params 0 function && passes_at is_empty_block 1 function

unfoldable pub pure_callee_by : ExprCtx → Kind → Node → Bool
pure_callee_by ctx (kind.Ident sym ctxt optional) n = ctxt == ctx.unresolved_ctxt && bytes_eq sym (codes "Date")
pure_callee_by ctx kind.MemberExpr n = passes_at (has_pure_key ctx n) 0 n
pure_callee_by ctx kind.FnExpr n = passes_at is_idle 1 n
pure_callee_by ctx _ n = false

-- `Date`, a member of `Math` by its name, a method of a text literal that only reads it, a function expression that does nothing
abbrev pub is_pure_callee : ExprCtx → Node → Bool
is_pure_callee ctx n = pure_callee_by ctx (out-Node n).kind n
