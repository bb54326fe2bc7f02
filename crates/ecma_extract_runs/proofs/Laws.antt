-- The laws.
use Rattle.std.proofs.Common.{◌≡◌, refl, sym, ap, ◌∙◌, subst, List, [], ◌∷◌, ◌++◌, map, true}
use Rattle.std.specs.List.{list_all}
use Rattle.ecma_kind.specs.declared.kind.Kind.TheVariants as kind
use Rattle.ecma_kind.specs.declared.span.Span.{Span}
use Rattle.ecma_kind.specs.declared.shapes.Sort.TheVariants as sort
use Rattle.ecma_tree.specs.Sorted.{has_shape, one}
use Rattle.ecma_tree.specs.declared.node.Node.{Node}
use Rattle.ecma_judge.specs.declared.ctx.ExprCtx.{ExprCtx}
use Rattle.ecma_judge.specs.Extraction.{extracted, extracted_all, in_front, preserved}
use Rattle.ecma_runs.specs.Values.{Value}
use Rattle.ecma_runs.specs.State.{State}
use Rattle.ecma_runs.specs.Run.{Outcome, Done, then_outcome, give}
use Rattle.ecma_runs.specs.Meaning.{Meaning, ExecutionContext}
use Rattle.ecma_runs.specs.Expressions.{sequence}
use Rattle.ecma_runs.specs.Evaluation.{meaning}
use Rattle.ecma_runs.proofs.Layer.{meaning-roll}
use Rattle.ecma_run_places.specs.Worlds.{World, Above, Like, States}
use Rattle.ecma_run_places.specs.Alike.{Outcomes, both_done, both_thrown, both_returned, both_broken, both_continued, both_ended, Contexts, first, second}
use Rattle.ecma_run_places.proofs.Growing.{above, later}
use Rattle.ecma_run_places.proofs.Nodes.{means_alike}
use Rattle.ecma_run_enums.specs.Asking.{names_no_members}
use Rattle.ecma_extract_runs.specs.Evaluated.{evaluated, declares_no_global}
use Rattle.ecma_extract_runs.specs.Fits.{fits}
use Rattle.ecma_extract_runs.specs.Laws.{ComesTo, ExtractionKeepsEffects, PreservationKeepsEffects, SortedExpressionsFit, ExtractionOfExpressionsKeepsEffects, are_expressions, PreservationOfExpressionsKeepsEffects}
use Rattle.ecma_extract_runs.proofs.Leading.{Led, led, Leads, assoc, drops_lead, lead_bind, lead_append}
use Rattle.ecma_extract_runs.proofs.Dates.{both_true}
use Rattle.ecma_extract_runs.proofs.ByKind.{IsLone}
use Rattle.ecma_extract_runs.proofs.Nodes.{claim}
use Rattle.ecma_extract_runs.proofs.Sorted.{shape_fits}
use Rattle.ecma_extract_runs.proofs.Unasked.{EachSame, evaluated_same, each_append, itself_same, extracted_same}
use Rattle.ecma_run_places.proofs.Idle.{give_drops}

comes : {w : World} {A : Type 0} {a : A} {t : State} {r : Outcome (Unit {0})} → Led w (Done a t) r → ComesTo w t r
comes (led {v = v} {t' = t'} p st) = record { world = v; state = t'; is = refl; above = p; states = st }

-- ---- where no name is that of a member of an enum

-- the contexts, as they are there
abbrev alone : {w : World} → Contexts w → Contexts w
alone c = record c { known = record c.known { enums = record c.known.enums { names = [] } } }

comes_alone : {w : World} {t : State} (c : Contexts w) (es : List Node) → EachSame c.known.enums es → (s' : State) → ComesTo w t (evaluated es (second (alone c)) s') → ComesTo w t (evaluated es (second c) s')
comes_alone {w} {t} c es h s' p = subst (λ m. ComesTo w t (m s')) (sym (evaluated_same c.known.enums es h (second c))) p

pub extraction_keeps_effects : ExtractionKeepsEffects
extraction_keeps_effects ctx e w c s s' t v f d none st done =
    let done' : (meaning e).value (first (alone c)) s ≡ Done v t = ap (λ m. m s) (sym (itself_same c.known.enums e none (first c))) ∙ done in
    comes_alone c (extracted ctx e) (extracted_same c.known.enums ctx e f none) s'
    (comes (subst (λ r. Led w r (evaluated (extracted ctx e) (second (alone c)) s')) done' (((claim ctx e).value (alone c) f (d, refl)).at st)))

-- ---- effects in front of a value

all_lead : {w : World} (ctx : ExprCtx) (exprs : List Node) (c : Contexts w) → list_all fits exprs ≡ true → IsLone ctx (first c) → Leads w (evaluated exprs (first c)) (evaluated (extracted_all ctx exprs) (second c))
all_lead ctx [] c f d = drops_lead (give_drops tt)
all_lead ctx (e ∷ exprs) c f d =
    let g = both_true (fits e) (list_all fits exprs) f in
    lead_append (extracted ctx e) (extracted_all ctx exprs) (second c) (lead_bind ((claim ctx e).value c g.0 d) (λ v u _. all_lead ctx exprs (later u c) g.1 d))

sequence-front : (e : Node) (es : List Node) (val : Node) (x : ExecutionContext) (s : State) → sequence (map meaning ((e ∷ es) ++ val ∷ [])) x s ≡ then_outcome (evaluated (e ∷ es) x s) (λ _. (meaning val).value x)
sequence-front e [] val x s = assoc ((meaning e).value x s) (λ _. give tt) (λ _. (meaning val).value x)
sequence-front e (f ∷ es) val x s =
    ap (λ k. then_outcome ((meaning e).value x s) k) (λ i v t. sequence-front f es val x t i) ∙ assoc ((meaning e).value x s) (λ _. evaluated (f ∷ es) x) (λ _. (meaning val).value x)

in_front_value : (span : Span) (es : List Node) (val : Node) (x : ExecutionContext) (s : State) → (meaning (in_front span es val)).value x s ≡ then_outcome (evaluated es x s) (λ _. (meaning val).value x)
in_front_value span [] val x s = refl
in_front_value span (e ∷ es) val x s =
    ap (λ (m : Meaning). m.value x s) (meaning-roll (record { span = span; kind = kind.SeqExpr; children = (e ∷ es) ++ val ∷ [] })) ∙ sequence-front e es val x s

outcomes_raised : {w v : World} {r r' : Outcome Value} → Above w v → Outcomes v Like r r' → Outcomes w Like r r'
outcomes_raised u (both_done p st q) = both_done (above u p) st q
outcomes_raised u (both_thrown p st q) = both_thrown (above u p) st q
outcomes_raised u (both_returned p st q) = both_returned (above u p) st q
outcomes_raised u (both_broken p st) = both_broken (above u p) st
outcomes_raised u (both_continued p st) = both_continued (above u p) st
outcomes_raised u (both_ended p st) = both_ended (above u p) st

then_value : {w : World} (c : Contexts w) (val : Node) {t : State} {r : Outcome (Unit {0})} → ComesTo w t r → Outcomes w Like ((meaning val).value (first c) t) (then_outcome r (λ _. (meaning val).value (second c)))
then_value {w} c val {t} h =
    subst (λ o. Outcomes w Like ((meaning val).value (first c) t) (then_outcome o (λ _. (meaning val).value (second c)))) (sym h.is)
    (outcomes_raised h.above (((means_alike val).value (later h.above c)).at h.states))

each_alone : {w : World} (c : Contexts w) (exprs : List Node) → list_all (names_no_members c.known.enums) exprs ≡ true → EachSame c.known.enums exprs
each_alone c [] h = tt
each_alone c (e ∷ exprs) h = let g = both_true (names_no_members c.known.enums e) (list_all (names_no_members c.known.enums) exprs) h in (itself_same c.known.enums e g.0, each_alone c exprs g.1)

all_alone : {w : World} (ctx : ExprCtx) (c : Contexts w) (exprs : List Node) → list_all fits exprs ≡ true → list_all (names_no_members c.known.enums) exprs ≡ true → EachSame c.known.enums (extracted_all ctx exprs)
all_alone ctx c [] f h = tt
all_alone ctx c (e ∷ exprs) f h =
    let a = both_true (fits e) (list_all fits exprs) f in
    let b = both_true (names_no_members c.known.enums e) (list_all (names_no_members c.known.enums) exprs) h in
    each_append c.known.enums (extracted ctx e) (extracted_all ctx exprs) (extracted_same c.known.enums ctx e a.0 b.0) (all_alone ctx c exprs a.1 b.1)

preserved_alike : (ctx : ExprCtx) (span : Span) (val : Node) (exprs : List Node) (w : World) (c : Contexts w) (s s' t : State) → list_all fits exprs ≡ true → declares_no_global ctx c.scope ≡ true
    → list_all (names_no_members c.known.enums) exprs ≡ true → States w s s' → evaluated exprs (first c) s ≡ Done tt t
    → Outcomes w Like ((meaning val).value (first c) t) ((meaning (preserved ctx span val exprs)).value (second c) s')
preserved_alike ctx span val exprs w c s s' t f d none st done =
    let done' : evaluated exprs (first (alone c)) s ≡ Done tt t = ap (λ m. m s) (sym (evaluated_same c.known.enums exprs (each_alone c exprs none) (first c))) ∙ done in
    subst (λ o. Outcomes w Like ((meaning val).value (first c) t) o) (sym (in_front_value span (extracted_all ctx exprs) val (second c) s'))
    (then_value c val (comes_alone c (extracted_all ctx exprs) (all_alone ctx c exprs f none) s'
    (comes (subst (λ r. Led w r (evaluated (extracted_all ctx exprs) (second (alone c)) s')) done' ((all_lead ctx exprs (alone c) f (d, refl)).at st)))))

pub preservation_keeps_effects : PreservationKeepsEffects
preservation_keeps_effects = record { is = λ ctx span val exprs w c s s' t f d none st done. preserved_alike ctx span val exprs w c s s' t f d none st done }

-- ---- of expressions

pub sorted_expressions_fit : SortedExpressionsFit
sorted_expressions_fit e sorted = shape_fits e (one sort.Expr) refl sorted

pub extraction_of_expressions_keeps_effects : ExtractionOfExpressionsKeepsEffects
extraction_of_expressions_keeps_effects ctx e w c s s' t v sorted = extraction_keeps_effects ctx e w c s s' t v (sorted_expressions_fit e sorted)

expressions_fit : (es : List Node) → are_expressions es ≡ true → list_all fits es ≡ true
expressions_fit [] h = refl
expressions_fit (e ∷ es) h = let t = both_true (has_shape e (one sort.Expr)) (are_expressions es) h in rw (sorted_expressions_fit e t.0, expressions_fit es t.1) refl

pub preservation_of_expressions_keeps_effects : PreservationOfExpressionsKeepsEffects
preservation_of_expressions_keeps_effects = record { is = λ ctx span val exprs w c s s' t sorted d none st done. preserved_alike ctx span val exprs w c s s' t (expressions_fit exprs sorted) d none st done }
