-- The laws of the expressions of modules.
use Rattle.std.proofs.Common.{◌≡◌, refl, sym, ◌∙◌, subst, inl, inr, ℕ, List, [], ◌∷◌, Bool, true, false, not, ◌||◌, ◌==◌}
use Rattle.std.specs.List.{list_all}
use Rattle.ecma_kind.specs.declared.kind.Kind.{Kind}
use Rattle.ecma_kind.specs.declared.kind.Kind.TheVariants as kind
use Rattle.ecma_kind.specs.declared.shapes.Count.TheVariants.{One}
use Rattle.ecma_kind.specs.declared.shapes.Sort.TheVariants as sort
use Rattle.ecma_tree.specs.Sorted.{HasSort, one}
use Rattle.ecma_tree.specs.declared.node.Node.{Node, out-Node}
use Rattle.ecma_judge.specs.declared.ctx.ExprCtx.{ExprCtx}
use Rattle.ecma_judge.specs.Judged.{judged}
use Rattle.ecma_judge.specs.Parts.{passes_at}
use Rattle.ecma_judge.specs.PureCallees.{pure_callee_by}
use Rattle.ecma_judge.proofs.Judging.{callee-out}
use Rattle.ecma_runs.specs.Values.{Value}
use Rattle.ecma_runs.specs.State.{Id, Entered, State}
use Rattle.ecma_runs.specs.Run.{Done, Run}
use Rattle.ecma_runs.specs.Meaning.{ExecutionContext}
use Rattle.ecma_runs.specs.Evaluation.{meaning}
use Rattle.ecma_runs.specs.Laws.{state_behind}
use Rattle.ecma_judge_runs.specs.Still.{Still}
use Rattle.ecma_judge_runs.specs.Called.{is_function_expression, is_loose, are_apart, declares_no_loose, AppliesFunctions, IsSo, MayBeCalled}
use Rattle.ecma_judge_runs.specs.Idle.{is_harmless}
use Rattle.ecma_judge_runs.specs.Known.{HasNumber, declares_no_global}
use Rattle.ecma_judge_runs.specs.InState.{HasTextIn}
use Rattle.ecma_judge_runs.specs.OfModules.{HasNames, IsInModule, SortedExpressionsAreTaken, SortedExpressionsAreValued, WhatHasNoEffectsInModulesIsStill, ClassesWithoutEffectsInModulesAreStill, CallsOfPureCalleesInModulesAreStill, WhatIsKnownInModulesIsSo, WhatIsPureInModulesIsStill, WhatIsAPureNumberInModulesIsStill, WhatHasAKnownTextInModulesIsStill, KnownTextsInModulesAreSo, KnownNumbersInModulesAreSo}
use Rattle.ecma_judge_runs.proofs.Lone.{lone, to_lone, from_lone}
use Rattle.ecma_judge_runs.proofs.Both.{both_true, two_true}
use Rattle.ecma_judge_runs.proofs.Shapes.{Below, shaped, untrue, function_by_kind}
use Rattle.ecma_judge_runs.proofs.Sorted.{all, sortable}
use Rattle.ecma_judge_runs.proofs.ValuedShapes.{shape_valued}
use Rattle.ecma_judge_runs.proofs.Steady.{Steady, steady}
use Rattle.ecma_judge_runs.proofs.Asking.{IsSorted, sorted_asks}
use Rattle.ecma_judge_runs.proofs.Keeping.{FollowsIn}
use Rattle.ecma_judge_runs.proofs.Settling.{Settles}
use Rattle.ecma_judge_runs.proofs.Joined.{IsText, item_no_list, known_text}
use Rattle.ecma_judge_runs.proofs.Numbered.{given_there, IsArrayNumber, known_number}
use Rattle.ecma_judge_runs.proofs.Laws.{still_behind, what_has_no_effects_is_still, classes_without_effects_are_still, calls_of_pure_callees_are_still, what_is_known_is_so, contexts_apply_functions, contexts_construct_objects}

-- ---- names that are global

not_either : (a b : Bool) → not (a || b) ≡ true → not a ≡ true
not_either true b h = absurd (untrue h)
not_either false b h = refl

ids_not_global : (ctx : ExprCtx) (ids : List Id) → are_apart ctx ids ≡ true → list_all (λ (id : Id). not (id.ctxt == ctx.unresolved_ctxt)) ids ≡ true
ids_not_global ctx [] h = refl
ids_not_global ctx (id ∷ ids) h =
    let t = both_true (not (is_loose ctx id.ctxt)) (are_apart ctx ids) h in
    two_true (not (id.ctxt == ctx.unresolved_ctxt)) (list_all (λ (id : Id). not (id.ctxt == ctx.unresolved_ctxt)) ids) (not_either (id.ctxt == ctx.unresolved_ctxt) (id.ctxt == 0) t.0) (ids_not_global ctx ids t.1)

no_global : (ctx : ExprCtx) (scope : List Entered) → declares_no_loose ctx scope ≡ true → declares_no_global ctx scope ≡ true
no_global ctx [] h = refl
no_global ctx (e ∷ scope) h =
    let t = both_true (are_apart ctx e.ids) (declares_no_loose ctx scope) h in
    two_true (list_all (λ (id : Id). not (id.ctxt == ctx.unresolved_ctxt)) e.ids) (declares_no_global ctx scope) (ids_not_global ctx e.ids t.0) (no_global ctx scope t.1)

-- ---- what the other laws ask

applies_in : (ctx : ExprCtx) (x : ExecutionContext) → IsInModule ctx x → AppliesFunctions x
applies_in ctx x inside = contexts_apply_functions x x.known inside.calls.0 inside.calls.1

so_in : (ctx : ExprCtx) (x : ExecutionContext) → IsInModule ctx x → IsSo all ctx x
so_in ctx x inside = record { globals = λ h. inside.names; calls = λ h. applies_in ctx x inside }

pub sorted_expressions_are_taken : SortedExpressionsAreTaken
sorted_expressions_are_taken ctx e x h none = (sortable ctx x e).whole (one sort.Expr) h.sorted none h.told

pub sorted_expressions_are_valued : SortedExpressionsAreValued
sorted_expressions_are_valued e sorted = shape_valued e (one sort.Expr) sorted

pub what_has_no_effects_in_modules_is_still : WhatHasNoEffectsInModulesIsStill
what_has_no_effects_in_modules_is_still ctx e x s inside bare h none =
    what_has_no_effects_is_still ctx all e x s bare inside.off (so_in ctx x inside) ((sortable ctx x e).whole (one sort.Expr) h.sorted none h.told) none

pub classes_without_effects_in_modules_are_still : ClassesWithoutEffectsInModulesAreStill
classes_without_effects_in_modules_are_still ctx class names x s inside bare apart h none =
    classes_without_effects_are_still ctx all class names x s bare inside.off (so_in ctx x inside) (λ is. apart) ((sortable ctx x class).whole (one sort.Class) h.sorted none h.told) none

-- a function expression that is said to do nothing has the parts of one
idle_function : (ctx : ExprCtx) (n : Node) (k : Kind) (cs : List Node) → (out-Node n).children ≡ cs → Below k (one sort.Expr) cs → pure_callee_by ctx k n ≡ true → is_function_expression k ≡ true → passes_at is_harmless 1 n ≡ true
unfolding pure_callee_by
idle_function ctx n kind.FnExpr cs shape below pure is = function_by_kind n cs shape (one sort.Expr) below pure
idle_function ctx n k cs shape below pure is = absurd (untrue is)

may_be_called : (ctx : ExprCtx) (e : Node) (x : ExecutionContext) → IsInModule ctx x → HasSort sort.Expr e → (judged ctx e).pure_callee ≡ true → MayBeCalled e x
may_be_called ctx e x inside sorted pure is =
    (idle_function ctx e (out-Node e).kind (out-Node e).children refl (shaped e (one sort.Expr) sorted).1 (sym (callee-out ctx e) ∙ pure) is, applies_in ctx x inside)

pub calls_of_pure_callees_in_modules_are_still : CallsOfPureCalleesInModulesAreStill
calls_of_pure_callees_in_modules_are_still ctx e x arguments s inside bare sorted pure = calls_of_pure_callees_are_still ctx e x arguments s bare inside.names (may_be_called ctx e x inside sorted pure) pure

pub what_is_known_in_modules_is_so : WhatIsKnownInModulesIsSo
what_is_known_in_modules_is_so ctx e x s t v bare runs apart sorted done = what_is_known_is_so ctx true e x s t v bare (λ is. contexts_construct_objects x x.known runs.0 runs.1) apart (shape_valued e (one sort.Expr) sorted) done

-- ---- what is pure

-- where nothing is known of enums
module _ (ctx : ExprCtx) (x : ExecutionContext) (inside : IsInModule ctx x) where
  steady_in : (n : Node) → Steady ctx (IsSorted ctx (lone x)) (lone x) n
  steady_in n = steady ctx (IsSorted ctx (lone x)) (lone x) (sorted_asks ctx inside.off (lone x) (no_global ctx x.scope inside.names) (λ is. inside.names) (λ is. applies_in ctx x inside)) n

  sorted_in : (e : Node) → HasNames ctx x.known.declared sort.Expr e → IsSorted ctx (lone x) e
  sorted_in e h = record { shape = one sort.Expr; has = h.sorted; told = h.told }

pub what_is_pure_in_modules_is_still : WhatIsPureInModulesIsStill
what_is_pure_in_modules_is_still ctx e x s inside bare h pure =
    from_lone x e bare (λ m. Still s (state_behind (m s)))
    (still_behind ((meaning e).value (lone x)) s (((steady_in ctx x inside e).truth (sorted_in ctx x inside e h) pure).leaves s))

pub what_is_a_pure_number_in_modules_is_still : WhatIsAPureNumberInModulesIsStill
what_is_a_pure_number_in_modules_is_still ctx e x s inside bare h pure =
    from_lone x e bare (λ m. Still s (state_behind (m s)))
    (still_behind ((meaning e).value (lone x)) s (((steady_in ctx x inside e).number (sorted_in ctx x inside e h) pure).leaves s))

pub what_has_a_known_text_in_modules_is_still : WhatHasAKnownTextInModulesIsStill
what_has_a_known_text_in_modules_is_still ctx e x text s inside bare h known =
    from_lone x e bare (λ m. Still s (state_behind (m s)))
    (still_behind ((meaning e).value (lone x)) s ((steady_in ctx x inside e).text (sorted_in ctx x inside e h) text known s).0)

-- ---- texts and Numbers in the state behind

given_in : {A : Type 0} (s t : State) (P : A → State → Type 0) (m : Run A) (a : A) → Settles P m → m s ≡ Done a t → P a t
given_in s t P m a h done = (subst (λ r. FollowsIn s P r) done (h.at s tt)).1

text_in : (ctx : ExprCtx) (e : Node) (text : List ℕ) (v : Value) (t : State) → IsText ctx e text v t → HasTextIn t v text
text_in ctx e text v t (inl p) = inl p.0
text_in ctx e text v t (inr a) = inr a.0

pub known_texts_in_modules_are_so : KnownTextsInModulesAreSo
known_texts_in_modules_are_so ctx e x text s t v inside bare h known done =
    text_in ctx e text v t
    (given_in s t (IsText ctx e text) ((meaning e).value (lone x)) v
    (known_text ctx x (no_global ctx x.scope inside.names) (steady_in ctx x inside) e (sorted_in ctx x inside e h)
    (item_no_list One sort.Expr (out-Node e).kind (shaped e (one sort.Expr) h.sorted).0) text known) (to_lone x e bare (λ m. m s ≡ Done v t) done))

pub known_numbers_in_modules_are_so : KnownNumbersInModulesAreSo
known_numbers_in_modules_are_so ctx e x number s t v inside bare h known done = record {
  itself = λ n is. subst (λ k. HasNumber k v) known (what_is_known_in_modules_is_so ctx e x s t v bare inside.calls (no_global ctx x.scope inside.names) h.sorted done).number n is;
  as_array = given_there (IsArrayNumber number) ((meaning e).value (lone x)) s t v
      (known_number ctx x (no_global ctx x.scope inside.names) (steady_in ctx x inside) (contexts_construct_objects x x.known inside.calls.0 inside.calls.1) e (sorted_in ctx x inside e h) number known)
      (to_lone x e bare (λ m. m s ≡ Done v t) done);
}
