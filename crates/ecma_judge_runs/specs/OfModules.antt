-- What is judged of the expressions of modules is so when they run: nothing is asked of them but the sort of an expression, that their names are told, and that they ask nothing of what is known of enums.
use Rattle.std.specs.Prelude.{◌≡◌, ℕ, List, true, false, IsTrue}
use Rattle.ecma_number.specs.declared.js_number.JsNumber.{JsNumber}
use Rattle.ecma_number.specs.declared.types.Purity.TheVariants.{Pure}
use Rattle.ecma_number.specs.declared.value.Value.TheVariants.{Known}
use Rattle.ecma_kind.specs.declared.shapes.Sort.{Sort}
use Rattle.ecma_kind.specs.declared.shapes.Sort.TheVariants as sort
use Rattle.ecma_tree.specs.Sorted.{HasSort}
use Rattle.ecma_tree.specs.declared.node.Node.{Node}
use Rattle.ecma_judge.specs.declared.ctx.ExprCtx.{ExprCtx}
use Rattle.ecma_judge.specs.Judged.{judged}
use Rattle.ecma_runs.specs.Values.{Value}
use Rattle.ecma_runs.specs.State.{Id, State}
use Rattle.ecma_runs.specs.Run.{Done}
use Rattle.ecma_runs.specs.Meaning.{ExecutionContext}
use Rattle.ecma_runs.specs.Evaluation.{meaning}
use Rattle.ecma_runs.specs.Laws.{state_behind}
use Rattle.ecma_judge_runs.specs.Still.{Still}
use Rattle.ecma_judge_runs.specs.Called.{AsksNoEnums, are_apart, declares_no_loose, called, Assumed, RunsInModule}
use Rattle.ecma_judge_runs.specs.Known.{IsAsJudged, is_valued, declares_no_global}
use Rattle.ecma_judge_runs.specs.Taken.{is_taken}
use Rattle.ecma_judge_runs.specs.InState.{HasTextIn, HasNumberIn}
use Rattle.ecma_judge_runs.specs.Told.{are_told}

-- a tree of this sort whose names are told; an expression of a module that is read has its sort
pub record HasNames (ctx : ExprCtx) (declared : List Id) (s : Sort) (n : Node) : Type 0 where
  pub sorted : HasSort s n
  pub told : IsTrue (are_told ctx declared n)

-- an execution context in which the code of a module runs, or that of the functions that it calls, however deep: calls are those of the program, and no scope around declares a name
-- with the context of what is not resolved or the empty one. And a name that no scope declares may not be read wherever it stands
pub record IsInModule (ctx : ExprCtx) (x : ExecutionContext) : Type 0 where
  pub off : ctx.is_unresolved_ref_safe ≡ false
  pub names : IsTrue (declares_no_loose ctx x.scope)
  pub calls : RunsInModule x

-- ---- what the other laws ask

abbrev all : Assumed
all = record { globals = true; calls = true }

-- where names with the context of what is not resolved, or the empty one, are global, and calls those of the program, nothing else is asked of an expression that is said to have no effects
abbrev pub SortedExpressionsAreTaken : Type 0
SortedExpressionsAreTaken =
    (ctx : ExprCtx) (e : Node) (x : ExecutionContext) → HasNames ctx x.known.declared sort.Expr e → (judged ctx e).effects ≡ false → IsTrue (is_taken ctx x.known.declared all e)

-- and where constructions give objects, nothing of its value
abbrev pub SortedExpressionsAreValued : Type 0
SortedExpressionsAreValued = (e : Node) → HasSort sort.Expr e → IsTrue (is_valued true e)

-- ---- the laws

abbrev pub WhatHasNoEffectsInModulesIsStill : Type 0
WhatHasNoEffectsInModulesIsStill =
    (ctx : ExprCtx) (e : Node) (x : ExecutionContext) (s : State) → IsInModule ctx x → AsksNoEnums x e → HasNames ctx x.known.declared sort.Expr e → (judged ctx e).effects ≡ false →
    Still s (state_behind ((meaning e).value x s))

abbrev pub ClassesWithoutEffectsInModulesAreStill : Type 0
ClassesWithoutEffectsInModulesAreStill =
    (ctx : ExprCtx) (class : Node) (names : List Id) (x : ExecutionContext) (s : State) → IsInModule ctx x → AsksNoEnums x class → IsTrue (are_apart ctx names) → HasNames ctx x.known.declared sort.Class class →
    (judged ctx class).effects ≡ false → Still s (state_behind ((meaning class).class_made names x s))

abbrev pub CallsOfPureCalleesInModulesAreStill : Type 0
CallsOfPureCalleesInModulesAreStill =
    (ctx : ExprCtx) (e : Node) (x : ExecutionContext) (arguments : List Value) (s : State) → IsInModule ctx x → AsksNoEnums x e → HasSort sort.Expr e → (judged ctx e).pure_callee ≡ true →
    Still s (state_behind (called (meaning e) arguments x s))

abbrev pub WhatIsKnownInModulesIsSo : Type 0
WhatIsKnownInModulesIsSo =
    (ctx : ExprCtx) (e : Node) (x : ExecutionContext) (s t : State) (v : Value) → AsksNoEnums x e → RunsInModule x → IsTrue (declares_no_global ctx x.scope) → HasSort sort.Expr e →
    (meaning e).value x s ≡ Done v t → IsAsJudged (judged ctx e) v

abbrev pub WhatIsPureInModulesIsStill : Type 0
WhatIsPureInModulesIsStill =
    (ctx : ExprCtx) (e : Node) (x : ExecutionContext) (s : State) → IsInModule ctx x → AsksNoEnums x e → HasNames ctx x.known.declared sort.Expr e → (judged ctx e).truth.0 ≡ Pure →
    Still s (state_behind ((meaning e).value x s))

abbrev pub WhatIsAPureNumberInModulesIsStill : Type 0
WhatIsAPureNumberInModulesIsStill =
    (ctx : ExprCtx) (e : Node) (x : ExecutionContext) (s : State) → IsInModule ctx x → AsksNoEnums x e → HasNames ctx x.known.declared sort.Expr e → (judged ctx e).number.0 ≡ Pure →
    Still s (state_behind ((meaning e).value x s))

abbrev pub WhatHasAKnownTextInModulesIsStill : Type 0
WhatHasAKnownTextInModulesIsStill =
    (ctx : ExprCtx) (e : Node) (x : ExecutionContext) (text : List ℕ) (s : State) → IsInModule ctx x → AsksNoEnums x e → HasNames ctx x.known.declared sort.Expr e → (judged ctx e).text ≡ Known text →
    Still s (state_behind ((meaning e).value x s))

-- where its text is known, that is the text of its value in the state behind it, also of an array
abbrev pub KnownTextsInModulesAreSo : Type 0
KnownTextsInModulesAreSo =
    (ctx : ExprCtx) (e : Node) (x : ExecutionContext) (text : List ℕ) (s t : State) (v : Value) → IsInModule ctx x → AsksNoEnums x e → HasNames ctx x.known.declared sort.Expr e → (judged ctx e).text ≡ Known text →
    (meaning e).value x s ≡ Done v t → HasTextIn t v text

-- and where its Number is known, that is the Number of its value there
abbrev pub KnownNumbersInModulesAreSo : Type 0
KnownNumbersInModulesAreSo =
    (ctx : ExprCtx) (e : Node) (x : ExecutionContext) (number : JsNumber) (s t : State) (v : Value) → IsInModule ctx x → AsksNoEnums x e → HasNames ctx x.known.declared sort.Expr e →
    (judged ctx e).number.1 ≡ Known number → (meaning e).value x s ≡ Done v t → HasNumberIn t v number
