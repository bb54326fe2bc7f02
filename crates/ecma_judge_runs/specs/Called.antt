-- A call of what an expression refers to, and the scopes in which it is looked at.
use Rattle.std.specs.Prelude.{◌≡◌, ◌⊎◌, ℕ, Bool, true, false, not, ◌||◌, ◌==◌, List, IsTrue}
use Rattle.std.specs.List.{list_all}
use Rattle.ecma_kind.specs.declared.kind.Kind.{Kind}
use Rattle.ecma_kind.specs.declared.kind.Kind.TheVariants as kind
use Rattle.ecma_tree.specs.declared.node.Node.{Node, out-Node}
use Rattle.ecma_judge.specs.declared.ctx.ExprCtx.{ExprCtx}
use Rattle.ecma_judge.specs.Parts.{passes_at}
use Rattle.ecma_judge_runs.specs.Idle.{is_harmless}
use Rattle.ecma_runs.specs.Values.{Value}
use Rattle.ecma_runs.specs.State.{Id, Entered, State}
use Rattle.ecma_runs.specs.Run.{Ended, TurnsSpent, Run, ◌>>=◌}
use Rattle.ecma_runs.specs.Meaning.{Invocation, Known, ExecutionContext, Evaluation, Meaning}
use Rattle.ecma_runs.specs.Functions.{callee_by, call}
use Rattle.ecma_runs.specs.Evaluation.{apply, calls, invoke}
use Rattle.ecma_run_enums.specs.Asking.{asks_no_enums}

abbrev pub is_function_expression : Kind → Bool
is_function_expression kind.FnExpr = true
is_function_expression k = false

-- the context of what is not resolved, or the empty one
abbrev pub is_loose : ExprCtx → ℕ → Bool
is_loose ctx ctxt = ctxt == ctx.unresolved_ctxt || ctxt == 0

-- none of these names has such a context
abbrev pub are_apart : ExprCtx → List Id → Bool
are_apart ctx ids = list_all (λ (id : Id). not (is_loose ctx id.ctxt)) ids

-- no scope around declares a name with such a context
abbrev pub declares_no_loose : ExprCtx → List Entered → Bool
declares_no_loose ctx scope = list_all (λ (e : Entered). are_apart ctx e.ids) scope

-- it is called on these values (ECMAScript, 13.3.6.1), which are there already
abbrev pub called : Meaning → List Value → Evaluation Value
called callee arguments x = callee.reference x >>= λ r. callee_by x r >>= λ c. call x c arguments

-- ---- what may be known of a context

-- a node asks nothing of what is known of enums: at no depth has it the name of a member or of an enum of which a member is not written, a read of a known member, or an enum
abbrev pub AsksNoEnums : ExecutionContext → Node → Type 0
AsksNoEnums x n = IsTrue (asks_no_enums x.known.enums n)

-- how calls come out: no turn is left, or one is spent, and the function does what it does, whatever calls do in it, and whatever is known of the module there
abbrev pub AppliesFunctions : ExecutionContext → Type 0
AppliesFunctions x =
    (function : ℕ) (how : Invocation) (arguments : List Value) (s : State) →
    (x.functions.invoke function how arguments s ≡ Ended TurnsSpent s)
    ⊎ ((inner : ℕ → Invocation → List Value → Run Value) × (known : Known) × (x.functions.invoke function how arguments s ≡ apply inner x.provided known function how arguments s))

-- it is one in which the code of a module runs, or that of the functions that it calls, however deep
abbrev pub RunsInModule : ExecutionContext → Type 0
RunsInModule x = (depth : ℕ) × ((x.functions.invoke ≡ invoke x.provided x.known) ⊎ (x.functions.invoke ≡ calls x.provided x.known depth))

-- whether names with the context of what is not resolved, or the empty one, are known to be global, and calls to be those of the program
pub record Assumed : Type 0 where
  pub globals : Bool
  pub calls : Bool

pub record IsSo (sure : Assumed) (ctx : ExprCtx) (x : ExecutionContext) : Type 0 where
  pub globals : sure.globals ≡ true → declares_no_loose ctx x.scope ≡ true
  pub calls : sure.calls ≡ true → AppliesFunctions x

-- a function expression, if it is one, has the parts of one, and calls are those of the program
abbrev pub MayBeCalled : Node → ExecutionContext → Type 0
MayBeCalled e x = is_function_expression (out-Node e).kind ≡ true → IsTrue (passes_at is_harmless 1 e) × AppliesFunctions x
