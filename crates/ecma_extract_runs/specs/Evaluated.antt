-- Expressions evaluated in order, and scopes that declare no global name.
use Rattle.std.specs.Prelude.{Bool, not, ◌==◌, List, [], ◌∷◌}
use Rattle.std.specs.List.{list_all}
use Rattle.ecma_tree.specs.declared.node.Node.{Node}
use Rattle.ecma_judge.specs.declared.ctx.ExprCtx.{ExprCtx}
use Rattle.ecma_runs.specs.State.{Id, Entered}
use Rattle.ecma_runs.specs.Run.{◌>>=◌, give}
use Rattle.ecma_runs.specs.Meaning.{Evaluation}
use Rattle.ecma_runs.specs.Evaluation.{meaning}

-- each in order, and what they give is dropped
abbrev pub evaluated : List Node → Evaluation (Unit {0})
evaluated [] x = give tt
evaluated (n ∷ ns) x = (meaning n).value x >>= λ _. evaluated ns x

-- no scope around declares a name with the context of what is not resolved
abbrev pub declares_no_global : ExprCtx → List Entered → Bool
declares_no_global ctx scope = list_all (λ (e : Entered). list_all (λ (id : Id). not (id.ctxt == ctx.unresolved_ctxt)) e.ids) scope
