-- What is judged of expressions is so when they run, of those that ask nothing of what is known of enums.
use Rattle.std.specs.Prelude.{◌≡◌, ◌⊎◌, ℕ, Bool, List, [], ◌∷◌, true, false, IsTrue}
use Rattle.ecma_number.specs.declared.types.Purity.TheVariants.{Pure}
use Rattle.ecma_number.specs.declared.value.Value.TheVariants.{Known}
use Rattle.ecma_kind.specs.declared.kind.Kind.TheVariants as kind
use Rattle.ecma_tree.specs.declared.node.Node.{Node, out-Node}
use Rattle.ecma_judge.specs.declared.ctx.ExprCtx.{ExprCtx}
use Rattle.ecma_judge.specs.Judged.{judged}
use Rattle.ecma_runs.specs.Values.{Value}
use Rattle.ecma_runs.specs.State.{Id, State}
use Rattle.ecma_runs.specs.Run.{Done}
use Rattle.ecma_runs.specs.Meaning.{Known as Facts, ExecutionContext}
use Rattle.ecma_runs.specs.Evaluation.{meaning, calls, invoke}
use Rattle.ecma_runs.specs.Laws.{state_behind}
use Rattle.ecma_judge_runs.specs.Still.{Still}
use Rattle.ecma_judge_runs.specs.Taken.{is_taken}
use Rattle.ecma_judge_runs.specs.Called.{AsksNoEnums, are_apart, declares_no_loose, called, AppliesFunctions, Assumed, IsSo, MayBeCalled}
use Rattle.ecma_judge_runs.specs.Known.{IsAsJudged, ConstructsObjects, is_valued, declares_no_global}

-- where a name that no scope declares may not be read wherever it stands, an expression that is said to have no effects leaves all as it was, however it comes out: with a value, with what is thrown, or with what is open.
-- Of `Math.max` and `Date()` it is said where these names are known to be global, and of `function () {}()` where calls are known to be those of the program.
abbrev pub WhatHasNoEffectsIsStill : Type 0
WhatHasNoEffectsIsStill =
    (ctx : ExprCtx) (sure : Assumed) (e : Node) (x : ExecutionContext) (s : State) → AsksNoEnums x e → ctx.is_unresolved_ref_safe ≡ false → IsSo sure ctx x →
    IsTrue (is_taken ctx x.known.declared sure e) → (judged ctx e).effects ≡ false → Still s (state_behind ((meaning e).value x s))

-- and so does the definition of a class that is said to have none, with whatever inner name
abbrev pub ClassesWithoutEffectsAreStill : Type 0
ClassesWithoutEffectsAreStill =
    (ctx : ExprCtx) (sure : Assumed) (class : Node) (names : List Id) (x : ExecutionContext) (s : State) → AsksNoEnums x class → ctx.is_unresolved_ref_safe ≡ false →
    IsSo sure ctx x → (sure.globals ≡ true → IsTrue (are_apart ctx names)) → IsTrue (is_taken ctx x.known.declared sure class) →
    (judged ctx class).effects ≡ false → Still s (state_behind ((meaning class).class_made names x s))

-- and so does a call, on any values, of an expression that is said to be a pure callee
abbrev pub CallsOfPureCalleesAreStill : Type 0
CallsOfPureCalleesAreStill =
    (ctx : ExprCtx) (e : Node) (x : ExecutionContext) (arguments : List Value) (s : State) → AsksNoEnums x e → IsTrue (declares_no_loose ctx x.scope) → MayBeCalled e x → (judged ctx e).pure_callee ≡ true →
    Still s (state_behind (called (meaning e) arguments x s))

-- and so does such an expression itself, as a member that is read
abbrev pub PureCalleesAreStill : Type 0
PureCalleesAreStill =
    (ctx : ExprCtx) (e : Node) (x : ExecutionContext) (s : State) → AsksNoEnums x e → IsTrue (declares_no_loose ctx x.scope) → (judged ctx e).pure_callee ≡ true → Still s (state_behind ((meaning e).value x s))

-- and so does a call of such an expression where it stands, on arguments, where the call is said to have no effects
abbrev pub PureCallsAreStill : Type 0
PureCallsAreStill =
    (ctx : ExprCtx) (sure : Assumed) (e callee arguments types : Node) (x : ExecutionContext) (s : State) → AsksNoEnums x e → ctx.is_unresolved_ref_safe ≡ false → IsTrue (declares_no_loose ctx x.scope) →
    (sure.calls ≡ true → AppliesFunctions x) → (out-Node e).kind ≡ kind.CallExpr → (out-Node e).children ≡ callee ∷ arguments ∷ types ∷ [] → MayBeCalled callee x →
    IsTrue (is_taken ctx x.known.declared sure arguments) → (judged ctx e).effects ≡ false → Still s (state_behind ((meaning e).value x s))

-- a value that an expression gives is as the expression is judged: the truth, the Number, the text and the type that are known are its own
abbrev pub WhatIsKnownIsSo : Type 0
WhatIsKnownIsSo =
    (ctx : ExprCtx) (objects : Bool) (e : Node) (x : ExecutionContext) (s t : State) (v : Value) → AsksNoEnums x e → (objects ≡ true → ConstructsObjects x) → IsTrue (declares_no_global ctx x.scope) →
    IsTrue (is_valued objects e) → (meaning e).value x s ≡ Done v t →
    IsAsJudged (judged ctx e) v

-- what tells whether an expression counts as true leaves all as it was, where it is said to be pure, known or not, and however it comes out
abbrev pub WhatIsPureIsStill : Type 0
WhatIsPureIsStill =
    (ctx : ExprCtx) (sure : Assumed) (e : Node) (x : ExecutionContext) (s : State) → AsksNoEnums x e → ctx.is_unresolved_ref_safe ≡ false → IsTrue (declares_no_global ctx x.scope) →
    IsSo sure ctx x → IsTrue (is_taken ctx x.known.declared sure e) → (judged ctx e).truth.0 ≡ Pure → Still s (state_behind ((meaning e).value x s))

-- and so does what tells its Number
abbrev pub WhatIsAPureNumberIsStill : Type 0
WhatIsAPureNumberIsStill =
    (ctx : ExprCtx) (sure : Assumed) (e : Node) (x : ExecutionContext) (s : State) → AsksNoEnums x e → ctx.is_unresolved_ref_safe ≡ false → IsTrue (declares_no_global ctx x.scope) →
    IsSo sure ctx x → IsTrue (is_taken ctx x.known.declared sure e) → (judged ctx e).number.0 ≡ Pure → Still s (state_behind ((meaning e).value x s))

-- and an expression whose text is known
abbrev pub WhatHasAKnownTextIsStill : Type 0
WhatHasAKnownTextIsStill =
    (ctx : ExprCtx) (sure : Assumed) (e : Node) (x : ExecutionContext) (text : List ℕ) (s : State) → AsksNoEnums x e → ctx.is_unresolved_ref_safe ≡ false → IsTrue (declares_no_global ctx x.scope) →
    IsSo sure ctx x → IsTrue (is_taken ctx x.known.declared sure e) → (judged ctx e).text ≡ Known text → Still s (state_behind ((meaning e).value x s))

-- calls come out as is asked in the contexts in which the code of a module runs, and that of the functions that it calls, however deep
abbrev pub ContextsApplyFunctions : Type 0
ContextsApplyFunctions =
    (x : ExecutionContext) (known : Facts) (depth : ℕ) → (x.functions.invoke ≡ invoke x.provided known) ⊎ (x.functions.invoke ≡ calls x.provided known depth) → AppliesFunctions x

-- and what they construct are objects
abbrev pub ContextsConstructObjects : Type 0
ContextsConstructObjects =
    (x : ExecutionContext) (known : Facts) (depth : ℕ) → (x.functions.invoke ≡ invoke x.provided known) ⊎ (x.functions.invoke ≡ calls x.provided known depth) → ConstructsObjects x
