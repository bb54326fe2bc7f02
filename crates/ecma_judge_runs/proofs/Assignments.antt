-- What is told of assignments is so of what they give.
use Rattle.std.proofs.Common.{◌≡◌, refl, List, [], ◌∷◌, Option, true}
use Rattle.std.specs.Option.{option_map}
use Rattle.std.specs.Prelude.{bit_and, bit_or, bit_xor}
use Rattle.ecma_number.specs.Arithmetic.{difference_of, product_of, quotient_of, remainder_of, power_of}
use Rattle.ecma_number.specs.Bits.{left_shift_of, right_shift_of, unsigned_right_shift_of, bitwise}
use Rattle.ecma_number.specs.declared.js_number.JsNumber.{JsNumber}
use Rattle.ecma_number.specs.declared.types.Purity.{Purity}
use Rattle.ecma_number.specs.declared.value.Value.TheVariants.{Unknown}
use Rattle.ecma_kind.specs.declared.kind.Kind.{Kind}
use Rattle.ecma_kind.specs.declared.kind.Kind.TheVariants as kind
use Rattle.ecma_kind.specs.declared.operators.AssignOp.{AssignOp}
use Rattle.ecma_kind.specs.declared.operators.AssignOp.TheVariants as operation
use Rattle.ecma_tree.specs.declared.node.Node.{Node}
use Rattle.ecma_judge.specs.declared.ctx.ExprCtx.{ExprCtx}
use Rattle.ecma_judge.specs.Judgement.{Judged}
use Rattle.ecma_judge.specs.Numbers.{number_by}
use Rattle.ecma_judge.specs.Texts.{text_by}
use Rattle.ecma_judge.specs.Truths.{truth_by}
use Rattle.ecma_judge.specs.Types.{type_by}
use Rattle.ecma_runs.specs.Values.{Value, Number, is_nullish}
use Rattle.ecma_runs.specs.Run.{Run, ◌>>=◌, give, type_error, when, given}
use Rattle.ecma_runs.specs.Meaning.{ExecutionContext, Meaning}
use Rattle.ecma_runs.specs.Operators.{both, total, number_from}
use Rattle.ecma_runs.specs.Functions.{read, write}
use Rattle.ecma_runs.specs.Patterns.{assigned_of}
use Rattle.ecma_runs.specs.Expressions.{written_of, assign}
use Rattle.ecma_judge_runs.proofs.Lone.{lone}
use Rattle.ecma_judge_runs.specs.Known.{IsAsJudged, Marks, is_assignable_by}
use Rattle.ecma_judge_runs.proofs.Giving.{GivesBy, CameFrom, of_came, bind_gives, then_gives, any_gives, weaker_gives, give_gives, mapped_gives}
use Rattle.ecma_judge_runs.proofs.Literals.{Fits}
use Rattle.ecma_judge_runs.proofs.Sums.{typed_sum}

-- a target without a default gives what it gets
pub assigned_passes : (x : ExecutionContext) (n : Node) (k : Kind) (ms : List Meaning) (cs : List Marks) → is_assignable_by k cs ≡ true → (P : Value → Type 0) (get : Run Value) → GivesBy P get → GivesBy P (assigned_of n k ms get x)
assigned_passes x n (kind.ObjectPat optional) (properties ∷ type ∷ []) cs is P get h = bind_gives h (λ v p. then_gives (when (is_nullish v) type_error (properties.targets v x)) (λ _. give_gives v p))
assigned_passes x n kind.AssignPat ms cs is P get h = absurd (cc)
assigned_passes x n k ms cs is P get h = then_gives (written_of n k ms x) (λ r. bind_gives h (λ v p. then_gives (write x r v) (λ _. give_gives v p)))

module _ (ctx : ExprCtx) (own : Purity) (n : Node) (x : ExecutionContext) (j l : Judged) (target right : Meaning) (hr : GivesBy (IsAsJudged l) (right.value (lone x)))
    (ht : (get : Run Value) → GivesBy (CameFrom get) (target.assigned get (lone x))) where
  abbrev pub FitsAssigned : AssignOp → Value → Type 0
  FitsAssigned op v = Fits ctx own n (kind.AssignExpr op) (j ∷ l ∷ []) v

  -- by an operator on Numbers
  by_numbers : (op : AssignOp) (f : JsNumber → JsNumber → Option JsNumber) → ((m : JsNumber) → FitsAssigned op (Number m))
      → GivesBy (FitsAssigned op) (target.written (lone x) >>= λ r. read (lone x) r >>= λ v. right.value (lone x) >>= λ w. given (option_map Number (both f (number_from v) (number_from w))) >>= λ u. write (lone x) r u >>= λ _. give u)
  by_numbers op f h = then_gives (target.written (lone x)) (λ r. then_gives (read (lone x) r)
      (λ v. then_gives (right.value (lone x)) (λ w. bind_gives (mapped_gives Number (both f (number_from v) (number_from w)) h) (λ u p. then_gives (write (lone x) r u) (λ _. give_gives u p)))))

  pub assign_gives : (op : AssignOp) → GivesBy (FitsAssigned op) (assign op target right (lone x))
  unfolding truth_by number_by text_by type_by
  assign_gives operation.Assign =
      weaker_gives (λ v c. let h : IsAsJudged l v = of_came (IsAsJudged l) (right.value (lone x)) hr v c in record { truth = h.truth; number = tt; text = tt; type = h.type }) (ht (right.value (lone x)))
  assign_gives operation.AddAssign =
      then_gives (target.written (lone x)) (λ r. then_gives (read (lone x) r) (λ v. bind_gives hr (λ w q.
      bind_gives (weaker_gives {Q = FitsAssigned operation.AddAssign} (λ u t. record { truth = tt; number = tt; text = tt; type = t }) (typed_sum v w Unknown l.type tt q.type))
      (λ u p. then_gives (write (lone x) r u) (λ _. give_gives u p)))))
  assign_gives operation.SubAssign = by_numbers operation.SubAssign difference_of (λ m. record { truth = tt; number = tt; text = tt; type = refl })
  assign_gives operation.MulAssign = by_numbers operation.MulAssign product_of (λ m. record { truth = tt; number = tt; text = tt; type = refl })
  assign_gives operation.DivAssign = by_numbers operation.DivAssign quotient_of (λ m. record { truth = tt; number = tt; text = tt; type = refl })
  assign_gives operation.ModAssign = by_numbers operation.ModAssign remainder_of (λ m. record { truth = tt; number = tt; text = tt; type = refl })
  assign_gives operation.LShiftAssign = by_numbers operation.LShiftAssign (total left_shift_of) (λ m. record { truth = tt; number = tt; text = tt; type = refl })
  assign_gives operation.RShiftAssign = by_numbers operation.RShiftAssign (total right_shift_of) (λ m. record { truth = tt; number = tt; text = tt; type = refl })
  assign_gives operation.ZeroFillRShiftAssign = by_numbers operation.ZeroFillRShiftAssign (total unsigned_right_shift_of) (λ m. record { truth = tt; number = tt; text = tt; type = refl })
  assign_gives operation.BitOrAssign = by_numbers operation.BitOrAssign (total (bitwise bit_or)) (λ m. record { truth = tt; number = tt; text = tt; type = refl })
  assign_gives operation.BitXorAssign = by_numbers operation.BitXorAssign (total (bitwise bit_xor)) (λ m. record { truth = tt; number = tt; text = tt; type = refl })
  assign_gives operation.BitAndAssign = by_numbers operation.BitAndAssign (total (bitwise bit_and)) (λ m. record { truth = tt; number = tt; text = tt; type = refl })
  assign_gives operation.ExpAssign = by_numbers operation.ExpAssign power_of (λ m. record { truth = tt; number = tt; text = tt; type = refl })
  assign_gives operation.AndAssign = any_gives (λ v. record { truth = tt; number = tt; text = tt; type = tt })
  assign_gives operation.OrAssign = any_gives (λ v. record { truth = tt; number = tt; text = tt; type = tt })
  assign_gives operation.NullishAssign = any_gives (λ v. record { truth = tt; number = tt; text = tt; type = tt })
