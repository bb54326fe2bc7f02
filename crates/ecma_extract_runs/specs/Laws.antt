-- What is extracted of an expression has its effects.
use Rattle.std.specs.Prelude.{◌≡◌, Bool, List, IsTrue}
use Rattle.std.specs.List.{list_all}
use Rattle.ecma_kind.specs.declared.span.Span.{Span}
use Rattle.ecma_kind.specs.declared.shapes.Sort.TheVariants as sort
use Rattle.ecma_tree.specs.Sorted.{has_shape, one, HasSort}
use Rattle.ecma_tree.specs.declared.node.Node.{Node}
use Rattle.ecma_judge.specs.declared.ctx.ExprCtx.{ExprCtx}
use Rattle.ecma_judge.specs.Extraction.{extracted, preserved}
use Rattle.ecma_runs.specs.Values.{Value}
use Rattle.ecma_runs.specs.State.{State}
use Rattle.ecma_runs.specs.Run.{Outcome, Done}
use Rattle.ecma_runs.specs.Evaluation.{meaning}
use Rattle.ecma_run_enums.specs.Asking.{names_no_members}
use Rattle.ecma_run_places.specs.Worlds.{World, Above, Like, States}
use Rattle.ecma_run_places.specs.Alike.{Outcomes, Contexts, first, second}
use Rattle.ecma_extract_runs.specs.Evaluated.{evaluated, declares_no_global}
use Rattle.ecma_extract_runs.specs.Fits.{fits}

-- at no depth of a node, or of any of some, is a name that of a member of an enum: so it is of what asks nothing of enums
abbrev pub NamesNoMembers : {w : World} → Contexts w → Node → Type 0
NamesNoMembers c n = IsTrue (names_no_members c.known.enums n)

abbrev pub NameNoMembers : {w : World} → Contexts w → List Node → Type 0
NameNoMembers c ns = IsTrue (list_all (names_no_members c.known.enums) ns)

-- a run comes out in a state that is the same but for places as this one, in a world above
pub record ComesTo (w : World) (t : State) (r : Outcome (Unit {0})) : Type 0 where
  pub world : World
  pub state : State
  pub is : r ≡ Done tt state
  pub above : Above w world
  pub states : States world t state

-- where no name of an expression is that of a member of an enum, and it gives a value, what is extracted of it, evaluated in order, has the same turns, events and answers, and the same changes but for places: of what is made besides, nothing is left
abbrev pub ExtractionKeepsEffects : Type 0
ExtractionKeepsEffects =
    (ctx : ExprCtx) (e : Node) (w : World) (c : Contexts w) (s s' t : State) (v : Value) → IsTrue (fits e) → IsTrue (declares_no_global ctx c.scope) → NamesNoMembers c e → States w s s' →
    (meaning e).value (first c) s ≡ Done v t → ComesTo w t (evaluated (extracted ctx e) (second c) s')

-- where such expressions evaluated in order come to their end, the effects that are preserved of them in front of a value come to the same but for places, and then comes the value, or what its evaluation throws. The value may name members
pub record PreservationKeepsEffects : Type 0 where
  pub is : (ctx : ExprCtx) (span : Span) (val : Node) (exprs : List Node) (w : World) (c : Contexts w) (s s' t : State) → IsTrue (list_all fits exprs) → IsTrue (declares_no_global ctx c.scope) → NameNoMembers c exprs → States w s s' →
      evaluated exprs (first c) s ≡ Done tt t → Outcomes w Like ((meaning val).value (first c) t) ((meaning (preserved ctx span val exprs)).value (second c) s')

-- ---- of expressions

-- what has the sort of an expression fits
abbrev pub SortedExpressionsFit : Type 0
SortedExpressionsFit = (e : Node) → HasSort sort.Expr e → IsTrue (fits e)

abbrev pub ExtractionOfExpressionsKeepsEffects : Type 0
ExtractionOfExpressionsKeepsEffects =
    (ctx : ExprCtx) (e : Node) (w : World) (c : Contexts w) (s s' t : State) (v : Value) → HasSort sort.Expr e → IsTrue (declares_no_global ctx c.scope) → NamesNoMembers c e → States w s s' →
    (meaning e).value (first c) s ≡ Done v t → ComesTo w t (evaluated (extracted ctx e) (second c) s')

abbrev pub are_expressions : List Node → Bool
are_expressions es = list_all (λ (e : Node). has_shape e (one sort.Expr)) es

pub record PreservationOfExpressionsKeepsEffects : Type 0 where
  pub is : (ctx : ExprCtx) (span : Span) (val : Node) (exprs : List Node) (w : World) (c : Contexts w) (s s' t : State) → IsTrue (are_expressions exprs) → IsTrue (declares_no_global ctx c.scope) → NameNoMembers c exprs → States w s s' →
      evaluated exprs (first c) s ≡ Done tt t → Outcomes w Like ((meaning val).value (first c) t) ((meaning (preserved ctx span val exprs)).value (second c) s')
