-- What is known of an expression, as it is so of its value; and the expressions of which it is said.
use Rattle.std.specs.Prelude.{◌≡◌, ℕ, Bool, true, false, not, ◌&&◌, ◌==◌, List, [], ◌∷◌, Some}
use Rattle.std.specs.List.{list_all}
use Rattle.ecma_number.specs.declared.js_number.JsNumber.{JsNumber}
use Rattle.ecma_number.specs.declared.types.JsType.{JsType}
use Rattle.ecma_number.specs.declared.types.JsType.TheVariants as js_type
use Rattle.ecma_number.specs.declared.value.Value.{Value as KnownOr}
use Rattle.ecma_number.specs.declared.value.Value.TheVariants.{Known, Unknown}
use Rattle.ecma_kind.specs.declared.kind.Kind.{Kind}
use Rattle.ecma_kind.specs.declared.kind.Kind.TheVariants as kind
use Rattle.ecma_kind.specs.declared.operators.UnaryOp.{UnaryOp}
use Rattle.ecma_kind.specs.declared.operators.UnaryOp.TheVariants as operator
use Rattle.ecma_tree.specs.declared.node.Node.{Node, Node-F, fold-Node}
use Rattle.ecma_judge.specs.declared.ctx.ExprCtx.{ExprCtx}
use Rattle.ecma_judge.specs.Judgement.{Judged}
use Rattle.ecma_runs.specs.Values.{Value, Undefined, Null, Truth, Number, Text, Own, Host, Error, truth_of}
use Rattle.ecma_runs.specs.State.{Id, Entered, State}
use Rattle.ecma_runs.specs.Run.{Done}
use Rattle.ecma_runs.specs.Meaning.{AsConstruct, ExecutionContext}
use Rattle.ecma_runs.specs.Operators.{number_from, text_from}

-- ---- of a value

-- whether it counts as true (ECMAScript, 7.1.2 ToBoolean)
abbrev pub HasTruth : KnownOr Bool → Value → Type 0
HasTruth (Known truth) v = truth_of v ≡ truth
HasTruth Unknown v = Unit {0}

-- its Number (7.1.4 ToNumber), unless that is open, as it is of objects
abbrev pub HasNumber : KnownOr JsNumber → Value → Type 0
HasNumber (Known number) v = (n : JsNumber) → number_from v ≡ Some n → n ≡ number
HasNumber Unknown v = Unit {0}

-- its text (7.1.17 ToString), unless that is open, as it is of objects
abbrev pub HasText : KnownOr (List ℕ) → Value → Type 0
HasText (Known text) v = (t : List ℕ) → text_from v ≡ Some t → t ≡ text
HasText Unknown v = Unit {0}

-- 6.1 ECMAScript Language Types; an object of the program, a host value and an error are objects
abbrev pub is_of_type : JsType → Value → Bool
is_of_type js_type.Undefined Undefined = true
is_of_type js_type.Null Null = true
is_of_type js_type.Bool (Truth truth) = true
is_of_type js_type.Str (Text text) = true
is_of_type js_type.Num (Number number) = true
is_of_type js_type.Obj (Own place) = true
is_of_type js_type.Obj (Host number) = true
is_of_type js_type.Obj (Error error_kind) = true
is_of_type _ _ = false

abbrev pub HasType : KnownOr JsType → Value → Type 0
HasType (Known type) v = is_of_type type v ≡ true
HasType Unknown v = Unit {0}

-- a value is what is known of it
pub record IsAsJudged (j : Judged) (v : Value) : Type 0 where
  pub truth : HasTruth j.truth.1 v
  pub number : HasNumber j.number.1 v
  pub text : HasText j.text v
  pub type : HasType j.type v

-- ---- of expressions

-- but for `-` and `!` the same is told whatever the operand is
abbrev pub is_told_of : UnaryOp → Bool → Bool
is_told_of operator.Minus operand = operand
is_told_of operator.Bang operand = operand
is_told_of op operand = true

-- what is known of a node
pub record Marks : Type 0 where
  -- what is judged of it is told from what these laws speak of
  pub valued : Bool
  -- as a target it has no default
  pub assignable : Bool

-- the last of several, if there is one
abbrev pub last_or : Bool → List Marks → Bool
last_or b [] = b
last_or b (m ∷ ms) = last_or m.valued ms

-- by what its children are, of those from which something is told; `objects` says whether constructions are known to give objects
abbrev pub is_valued_by : Bool → Kind → List Marks → Bool
is_valued_by objects kind.NewExpr children = objects
is_valued_by objects (kind.AssignExpr op) (target ∷ right ∷ rest) = target.assignable && right.valued
is_valued_by objects kind.ParenExpr (e ∷ rest) = e.valued
is_valued_by objects (kind.UnaryExpr op) (operand ∷ rest) = is_told_of op operand.valued
is_valued_by objects (kind.BinExpr op) (left ∷ right ∷ rest) = left.valued && right.valued
is_valued_by objects kind.CondExpr (test ∷ yes' ∷ no' ∷ rest) = yes'.valued && no'.valued
is_valued_by objects kind.SeqExpr children = last_or true children
is_valued_by objects k children = true

abbrev pub is_assignable_by : Kind → List Marks → Bool
is_assignable_by kind.AssignPat children = false
is_assignable_by kind.ParenExpr (e ∷ rest) = e.assignable
is_assignable_by kind.TsTypeAssertion (e ∷ rest) = e.assignable
is_assignable_by kind.TsConstAssertion (e ∷ rest) = e.assignable
is_assignable_by kind.TsNonNullExpr (e ∷ rest) = e.assignable
is_assignable_by kind.TsAsExpr (e ∷ rest) = e.assignable
is_assignable_by kind.TsInstantiation (e ∷ rest) = e.assignable
is_assignable_by kind.TsSatisfiesExpr (e ∷ rest) = e.assignable
is_assignable_by k children = true

abbrev pub marks_by : Bool → Kind → List Marks → Marks
marks_by objects k children = record { valued = is_valued_by objects k children; assignable = is_assignable_by k children }

abbrev pub marks_step : Bool → Node-F Marks → Marks
marks_step objects parts = marks_by objects parts.kind parts.children

abbrev pub marks : Bool → Node → Marks
marks objects = fold-Node Marks (marks_step objects)

-- what is known of it is told from no construction, unless these are known to give objects, and no target of an assignment has a default
abbrev pub is_valued : Bool → Node → Bool
is_valued objects n = (marks objects n).valued

-- what constructions give in a context are objects
abbrev pub ConstructsObjects : ExecutionContext → Type 0
ConstructsObjects x =
    (place new_target : ℕ) (arguments : List Value) (s t : State) (v : Value) → x.functions.invoke place (AsConstruct new_target) arguments s ≡ Done v t → is_of_type js_type.Obj v ≡ true

-- no scope around declares a name with the context of what is not resolved
abbrev pub declares_no_global : ExprCtx → List Entered → Bool
declares_no_global ctx scope = list_all (λ (e : Entered). list_all (λ (id : Id). not (id.ctxt == ctx.unresolved_ctxt)) e.ids) scope
