-- The laws.
use Rattle.std.proofs.Common.{◌≡◌, refl, sym, ap, ◌∙◌, subst, ◌⊎◌, inl, inr, ℕ, zero, suc, List, map, Bool, true, false, not, ◌&&◌}
use Rattle.std.proofs.lemmas.Bool.{false≢true}
use Rattle.ecma_number.specs.declared.types.JsType.TheVariants as js_type
use Rattle.ecma_kind.specs.declared.kind.Kind.{Kind}
use Rattle.ecma_kind.specs.declared.kind.Kind.TheVariants as kind
use Rattle.ecma_tree.specs.declared.node.Node.{Node, out-Node}
use Rattle.ecma_judge.specs.declared.ctx.ExprCtx.{ExprCtx}
use Rattle.ecma_judge.specs.Effects.{effects_by}
use Rattle.ecma_judge.specs.Judged.{judged, kids_of}
use Rattle.ecma_judge.specs.Judgement.{Judged}
use Rattle.ecma_judge.specs.PureCallees.{pure_callee_by}
use Rattle.ecma_judge.proofs.Judging.{effects-out, callee-out}
use Rattle.ecma_runs.specs.Values.{Value, Own, Host}
use Rattle.ecma_runs.specs.State.{State}
use Rattle.ecma_runs.specs.Run.{Done, Ended, TurnsSpent, Run, ◌>>=◌}
use Rattle.ecma_runs.specs.Meaning.{Invocation, AsConstruct, Known, ExecutionContext, Meaning}
use Rattle.ecma_runs.specs.Expressions.{call_by}
use Rattle.ecma_runs.specs.Evaluation.{meaning_by, meaning, apply, calls}
use Rattle.ecma_runs.specs.Laws.{state_behind}
use Rattle.ecma_runs.proofs.Layer.{meaning_out}
use Rattle.ecma_run_constructions.specs.Laws.{is_object}
use Rattle.ecma_run_constructions.proofs.Laws.{constructions_give_objects}
use Rattle.ecma_run_enums.proofs.Two.{Two}
use Rattle.ecma_run_enums.proofs.Functions.{callee_by_same, call_same}
use Rattle.ecma_judge_runs.specs.Still.{Still}
use Rattle.ecma_judge_runs.proofs.Lone.{lone, same_alone, to_lone, from_lone}
use Rattle.ecma_judge_runs.specs.Called.{AsksNoEnums, is_function_expression, declares_no_loose, called, Assumed, MayBeCalled}
use Rattle.ecma_judge_runs.specs.Taken.{Taken, is_taken_by, taken}
use Rattle.ecma_judge_runs.specs.Known.{IsAsJudged, is_of_type}
use Rattle.ecma_judge_runs.specs.Laws.{WhatHasNoEffectsIsStill, ClassesWithoutEffectsAreStill, CallsOfPureCalleesAreStill, WhatIsKnownIsSo, WhatIsPureIsStill, WhatIsAPureNumberIsStill, WhatHasAKnownTextIsStill, PureCallsAreStill, PureCalleesAreStill, ContextsApplyFunctions, ContextsConstructObjects}
use Rattle.ecma_judge_runs.proofs.Fronts.{still_itself}
use Rattle.ecma_judge_runs.proofs.Leaving.{Leaves, behind}
use Rattle.ecma_judge_runs.proofs.Giving.{gave_done}
use Rattle.ecma_judge_runs.proofs.Meanings.{taken-out}
use Rattle.ecma_judge_runs.proofs.Callees.{read_callee, call_on, call_leaves, call_parts}
use Rattle.ecma_judge_runs.proofs.IdleCalls.{function_called_on, call_function_leaves}
use Rattle.ecma_judge_runs.proofs.Nodes.{claim}
use Rattle.ecma_judge_runs.proofs.ValuedNodes.{valued}
use Rattle.ecma_judge_runs.proofs.Steady.{steady}
use Rattle.ecma_judge_runs.proofs.Asking.{IsTaken, taken_asks}

-- what leaves all as it was from a state leaves that state as it was
pub still_behind : {A : Type 0} (m : Run A) (s : State) → Leaves s m → Still s (state_behind (m s))
still_behind m s h = behind s (λ a. Unit {0}) (m s) (h.at s (still_itself s))

pub what_has_no_effects_is_still : WhatHasNoEffectsIsStill
what_has_no_effects_is_still ctx sure e x s bare off so whole none =
    from_lone x e bare (λ m. Still s (state_behind (m s))) (still_behind ((meaning e).value (lone x)) s (((claim ctx sure off x so.calls e).quiet none whole).value s x.scope so.globals))

pub classes_without_effects_are_still : ClassesWithoutEffectsAreStill
classes_without_effects_are_still ctx sure class names x s bare off so named whole none =
    subst (λ m. Still s (state_behind (m s))) (sym ((same_alone x class bare).class_made names x))
    (still_behind ((meaning class).class_made names (lone x)) s (((claim ctx sure off x so.calls class).quiet none whole).class_made names named s x.scope so.globals))

pub what_is_known_is_so : WhatIsKnownIsSo
what_is_known_is_so ctx objects e x s t v bare known apart told done =
    gave_done (IsAsJudged (judged ctx e)) ((meaning e).value (lone x) s) v t (to_lone x e bare (λ m. m s ≡ Done v t) done) (((valued ctx objects x known apart e).value told).at s)

pub what_is_pure_is_still : WhatIsPureIsStill
what_is_pure_is_still ctx sure e x s bare off apart so whole pure =
    from_lone x e bare (λ m. Still s (state_behind (m s))) (still_behind ((meaning e).value (lone x)) s
    (((steady ctx (IsTaken ctx sure (lone x)) x (taken_asks ctx sure off x apart so.globals so.calls) e).truth whole pure).leaves s))

pub what_is_a_pure_number_is_still : WhatIsAPureNumberIsStill
what_is_a_pure_number_is_still ctx sure e x s bare off apart so whole pure =
    from_lone x e bare (λ m. Still s (state_behind (m s))) (still_behind ((meaning e).value (lone x)) s
    (((steady ctx (IsTaken ctx sure (lone x)) x (taken_asks ctx sure off x apart so.globals so.calls) e).number whole pure).leaves s))

pub what_has_a_known_text_is_still : WhatHasAKnownTextIsStill
what_has_a_known_text_is_still ctx sure e x text s bare off apart so whole known =
    from_lone x e bare (λ m. Still s (state_behind (m s))) (still_behind ((meaning e).value (lone x)) s
    ((steady ctx (IsTaken ctx sure (lone x)) x (taken_asks ctx sure off x apart so.globals so.calls) e).text whole text known s).0)

-- ---- pure callees

called_leaves : (ctx : ExprCtx) (e : Node) (x : ExecutionContext) (arguments : List Value) (s : State) → declares_no_loose ctx x.scope ≡ true → MayBeCalled e (lone x) → (judged ctx e).pure_callee ≡ true
    → (b : Bool) → is_function_expression (out-Node e).kind ≡ b → Leaves s (called (meaning e) arguments (lone x))
called_leaves ctx e x arguments s apart idle pure true is = let t = idle is in function_called_on s x t.1 arguments e is t.0
called_leaves ctx e x arguments s apart idle pure false is =
    subst (λ m. Leaves s (called m arguments (lone x))) (sym (meaning_out e)) (call_on ctx s x arguments e (out-Node e).kind (out-Node e).children refl is (λ is'. apart) (sym (callee-out ctx e) ∙ pure))

-- so does a call of it
called_alone : (x : ExecutionContext) (e : Node) → AsksNoEnums x e → (arguments : List Value) → called (meaning e) arguments x ≡ called (meaning e) arguments (lone x)
called_alone x e bare arguments =
    let two : Two = record { one = x.known.enums; other = (lone x).known.enums } in
    λ i. (same_alone x e bare).reference x i >>= λ r. callee_by_same two x r i >>= λ c. call_same two x c arguments i

pub calls_of_pure_callees_are_still : CallsOfPureCalleesAreStill
calls_of_pure_callees_are_still ctx e x arguments s bare apart idle pure =
    subst (λ m. Still s (state_behind (m s))) (sym (called_alone x e bare arguments))
    (still_behind (called (meaning e) arguments (lone x)) s (called_leaves ctx e x arguments s apart idle pure (is_function_expression (out-Node e).kind) refl))

-- a function expression has no effects, whatever is safe

and_false : (b : Bool) → (b && false) ≡ false
and_false true = refl
and_false false = refl

function_none : (ctx : ExprCtx) (n : Node) (k : Kind) (kids : List Judged) → is_function_expression k ≡ true → (not (pure_callee_by ctx k n) && effects_by ctx k n kids) ≡ false
unfolding effects_by
function_none ctx n kind.FnExpr kids is = and_false (not (pure_callee_by ctx kind.FnExpr n))
function_none ctx n k kids is = absurd (cc)

function_taken : (ctx : ExprCtx) (sure : Assumed) (x : ExecutionContext) (k : Kind) (ts : List Taken) → is_function_expression k ≡ true → is_taken_by ctx x.known.declared sure k ts ≡ true
function_taken ctx sure x kind.FnExpr ts is = refl
function_taken ctx sure x k ts is = absurd (cc)

-- a context that takes no name for safe, and of which nothing is known

abbrev wary : ExprCtx → ExprCtx
wary ctx = record ctx { is_unresolved_ref_safe = false }

abbrev unsure : Assumed
unsure = record { globals = false; calls = false }

callee_leaves : (ctx : ExprCtx) (e : Node) (x : ExecutionContext) (s : State) → declares_no_loose ctx x.scope ≡ true → (judged ctx e).pure_callee ≡ true → (b : Bool) → is_function_expression (out-Node e).kind ≡ b
    → Leaves s ((meaning e).value (lone x))
callee_leaves ctx e x s apart pure true is =
    ((claim (wary ctx) unsure refl x (λ h. absurd (cc)) e).quiet
    (effects-out (wary ctx) e ∙ function_none (wary ctx) e (out-Node e).kind (kids_of (wary ctx) e) is)
    (ap (λ (t : Taken). t.whole) (taken-out (wary ctx) unsure x e) ∙ function_taken (wary ctx) unsure x (out-Node e).kind (map (taken (wary ctx) x.known.declared unsure) (out-Node e).children) is)).value s x.scope (λ h. absurd (cc))
callee_leaves ctx e x s apart pure false is = read_callee ctx s x e is (λ is'. apart) (sym (callee-out ctx e) ∙ pure)

pub pure_callees_are_still : PureCalleesAreStill
pure_callees_are_still ctx e x s bare apart pure =
    from_lone x e bare (λ m. Still s (state_behind (m s))) (still_behind ((meaning e).value (lone x)) s (callee_leaves ctx e x s apart pure (is_function_expression (out-Node e).kind) refl))

call_by_leaves : (ctx : ExprCtx) (callee : Node) (arguments : Meaning) (x : ExecutionContext) (s : State) → declares_no_loose ctx x.scope ≡ true → MayBeCalled callee (lone x) → (judged ctx callee).pure_callee ≡ true
    → ((t : State) → Leaves t (arguments.arguments (lone x))) → (b : Bool) → is_function_expression (out-Node callee).kind ≡ b → Leaves s (call_by (meaning callee).is_super (meaning callee) arguments (lone x))
call_by_leaves ctx callee arguments x s apart idle pure h true is = let t = idle is in call_function_leaves s x t.1 arguments h callee is t.0
call_by_leaves ctx callee arguments x s apart idle pure h false is = call_leaves ctx s x arguments (h s) callee is (λ is'. apart) (sym (callee-out ctx callee) ∙ pure)

pub pure_calls_are_still : PureCallsAreStill
pure_calls_are_still ctx sure e callee arguments types x s bare off apart applies is shape idle whole none =
    let t = call_parts ctx e callee arguments types is shape none in
    from_lone x e bare (λ m. Still s (state_behind (m s)))
    (still_behind ((meaning e).value (lone x)) s
    (subst (λ m. Leaves s (m.value (lone x))) (sym (meaning_out e))
    (subst (λ k. Leaves s ((meaning_by e k (map meaning (out-Node e).children)).value (lone x))) (sym is)
    (subst (λ cs. Leaves s ((meaning_by e kind.CallExpr (map meaning cs)).value (lone x))) (sym shape)
    (call_by_leaves ctx callee (meaning arguments) x s apart idle t.0
    (λ u. ((claim ctx sure off x applies arguments).quiet t.1 whole).arguments u x.scope (λ g. apart)) (is_function_expression (out-Node callee).kind) refl)))))

-- ---- contexts

-- what calls do, by a function in the place of the context's
abbrev Applied : ExecutionContext → (ℕ → Invocation → List Value → Run Value) → Type 0
Applied x run =
    (function : ℕ) (how : Invocation) (arguments : List Value) (s : State)
    → (run function how arguments s ≡ Ended TurnsSpent s)
    ⊎ ((inner : ℕ → Invocation → List Value → Run Value) × (known : Known) × (run function how arguments s ≡ apply inner x.provided known function how arguments s))

calls_applied : (x : ExecutionContext) (known : Known) (depth : ℕ) → Applied x (calls x.provided known depth)
calls_applied x known zero function how arguments s = inl refl
calls_applied x known (suc depth) function how arguments s = inr (calls x.provided known depth, known, refl)

object_type : (v : Value) → is_object v ≡ true → is_of_type js_type.Obj v ≡ true
object_type (Own place) is = refl
object_type (Host number) is = refl
object_type _ is = absurd (false≢true is)

-- calls whose constructions give objects
abbrev Constructs : (ℕ → Invocation → List Value → Run Value) → Type 0
Constructs run = (place new_target : ℕ) (arguments : List Value) (s t : State) (v : Value) → run place (AsConstruct new_target) arguments s ≡ Done v t → is_of_type js_type.Obj v ≡ true

pub contexts_construct_objects : ContextsConstructObjects
contexts_construct_objects x known depth (inl is) =
    subst Constructs (sym is) (λ place new_target arguments s t v done. object_type v (constructions_give_objects.in_module x.provided known place new_target arguments s t v done))
contexts_construct_objects x known depth (inr is) =
    subst Constructs (sym is) (λ place new_target arguments s t v done. object_type v (constructions_give_objects.deeper x.provided known depth place new_target arguments s t v done))

pub contexts_apply_functions : ContextsApplyFunctions
contexts_apply_functions x known depth (inl is) = subst (Applied x) (sym is) (λ function how arguments s. calls_applied x known s.turns function how arguments s)
contexts_apply_functions x known depth (inr is) = subst (Applied x) (sym is) (calls_applied x known depth)
