-- A node means what it means with expressions exchanged that are referred to: a line for each kind with such a child.
use Rattle.std.proofs.Common.{◌≡◌, ◌++◌, refl, ap, ◌∙◌, List, [], ◌∷◌, map, Bool, true, false}
use Rattle.ecma_kind.specs.declared.kind.Kind.{Kind}
use Rattle.ecma_kind.specs.declared.kind.Kind.TheVariants as kind
use Rattle.ecma_kind.specs.declared.operators.AssignOp.{AssignOp}
use Rattle.ecma_kind.specs.declared.operators.AssignOp.TheVariants as operation
use Rattle.ecma_kind.specs.declared.operators.UnaryOp.TheVariants as operator
use Rattle.ecma_tree.specs.declared.node.Node.{Node}
use Rattle.ecma_runs.specs.Run.{◌>>=◌}
use Rattle.ecma_runs.specs.Meaning.{Meaning}
use Rattle.ecma_runs.specs.Operators.{operator_of, logical_operator_of}
use Rattle.ecma_runs.specs.Functions.{read, callee_by, call}
use Rattle.ecma_runs.specs.Expressions.{compound_rest, assign, call_by}
use Rattle.ecma_runs.specs.Evaluation.{meaning_by, meaning}
use Rattle.ecma_run_laws.specs.Exchanged.{RefersAlike, in_references}
use Rattle.ecma_run_laws.proofs.Seats.{valued}

-- the first meaning, but where an expression is referred to the second
abbrev refer_as : Meaning → Meaning → Meaning
refer_as m m' = record m { reference = m'.reference; written = m'.written; assigned = m'.assigned; chain = m'.chain; is_super = m'.is_super; declared = m'.declared }

refers : (m m' : Meaning) → RefersAlike m m' → refer_as m m' ≡ m
refers m m' r = λ i. record m { reference = r.reference i; written = r.written i; assigned = r.assigned i; chain = r.chain i; is_super = r.is_super i; declared = r.declared i }

module _ (swap : Node → Node) (same : (n : Node) → RefersAlike (meaning n) (meaning (swap n))) where
  refer_is : (n : Node) → refer_as (meaning n) (meaning (swap n)) ≡ meaning n
  refer_is n = refers (meaning n) (meaning (swap n)) (same n)

  module _ (n : Node) where
    assign_same : (op : AssignOp) (target : Node) (right : Meaning) → assign op (meaning (swap target)) right ≡ assign op (meaning target) right
    assign_same operation.Assign target right = λ i x. (same target).assigned i (right.value x) x
    assign_same op target right = λ i x. (same target).written i x >>= λ r. read x r >>= λ v. compound_rest (logical_operator_of op) (operator_of op) r v right x

    assign_seat : (op : AssignOp) (target right : Node) → meaning_by n (kind.AssignExpr op) (meaning (swap target) ∷ meaning right ∷ []) ≡ meaning_by n (kind.AssignExpr op) (meaning target ∷ meaning right ∷ [])
    assign_seat op target right = λ i. valued n (assign_same op target (meaning right) i) ((same target).declared i ++ ((meaning right).declared ++ []))

    callee_same : (is_super : Bool) (callee : Node) (arguments : Meaning) → call_by is_super (meaning (swap callee)) arguments ≡ call_by is_super (meaning callee) arguments
    callee_same true callee arguments = refl
    callee_same false callee arguments = λ i x. (same callee).reference i x >>= λ r. callee_by x r >>= λ c. arguments.arguments x >>= λ vs. call x c vs

    call_same : (callee : Node) (arguments : Meaning) → call_by (meaning (swap callee)).is_super (meaning (swap callee)) arguments ≡ call_by (meaning callee).is_super (meaning callee) arguments
    call_same callee arguments = ap (λ b. call_by b (meaning (swap callee)) arguments) (same callee).is_super ∙ callee_same (meaning callee).is_super callee arguments

    call_seat : (callee arguments types : Node)
        → meaning_by n kind.CallExpr (meaning (swap callee) ∷ meaning arguments ∷ meaning types ∷ []) ≡ meaning_by n kind.CallExpr (meaning callee ∷ meaning arguments ∷ meaning types ∷ [])
    call_seat callee arguments types = λ i. valued n (call_same callee (meaning arguments) i) ((same callee).declared i ++ ((meaning arguments).declared ++ ((meaning types).declared ++ [])))

    pub references : (k : Kind) (cs : List Node) → meaning_by n k (map meaning (in_references swap k cs)) ≡ meaning_by n k (map meaning cs)
    references (kind.UnaryExpr operator.TypeOf) (operand ∷ []) = ap (λ m. meaning_by n (kind.UnaryExpr operator.TypeOf) (m ∷ [])) (refer_is operand)
    references (kind.UnaryExpr operator.Delete) (operand ∷ []) = ap (λ m. meaning_by n (kind.UnaryExpr operator.Delete) (m ∷ [])) (refer_is operand)
    references (kind.UpdateExpr op prefix) (operand ∷ []) = ap (λ m. meaning_by n (kind.UpdateExpr op prefix) (m ∷ [])) (refer_is operand)
    references (kind.AssignExpr op) (target ∷ right ∷ []) = assign_seat op target right
    references kind.MemberExpr (object ∷ key ∷ []) = ap (λ m. meaning_by n kind.MemberExpr (m ∷ meaning key ∷ [])) (refer_is object)
    references kind.CallExpr (callee ∷ arguments ∷ types ∷ []) = call_seat callee arguments types
    references kind.OptCall (callee ∷ arguments ∷ types ∷ []) = ap (λ m. meaning_by n kind.OptCall (m ∷ meaning arguments ∷ meaning types ∷ [])) (refer_is callee)
    references kind.NewExpr (callee ∷ arguments ∷ types ∷ []) = ap (λ m. meaning_by n kind.NewExpr (m ∷ meaning arguments ∷ meaning types ∷ [])) (refer_is callee)
    references k cs = refl
