-- The values that expressions give are as they are judged: a line for each kind.
use Rattle.std.proofs.Common.{◌≡◌, refl, sym, ap, subst, ℕ, suc, arith, ◌-◌, length, List, [], ◌∷◌, map, None, Bool, true, false, cond, ◌&&◌, ◌==◌, bytes_eq, codes, if◌then◌else◌}
use Rattle.ecma_number.specs.declared.types.JsType.TheVariants as js_type
use Rattle.ecma_number.specs.declared.types.Purity.{Purity}
use Rattle.ecma_number.specs.declared.value.Value.TheVariants.{Known, Unknown}
use Rattle.ecma_kind.specs.declared.kind.Kind.{Kind}
use Rattle.ecma_kind.specs.declared.kind.Kind.TheVariants as kind
use Rattle.ecma_tree.specs.declared.node.Node.{Node, out-Node}
use Rattle.ecma_judge.specs.declared.ctx.ExprCtx.{ExprCtx}
use Rattle.ecma_judge.specs.Judged.{judged}
use Rattle.ecma_judge.specs.Judgement.{Judged, kid}
use Rattle.ecma_judge.specs.Numbers.{number_by, is_infinity}
use Rattle.ecma_judge.specs.Parts.{has_kind, passes_at}
use Rattle.ecma_judge.specs.Texts.{text_by}
use Rattle.ecma_judge.specs.Truths.{truth_by, is_filled}
use Rattle.ecma_judge.specs.Types.{is_length, has_length, type_by}
use Rattle.ecma_judge.specs.Values.{last_index}
use Rattle.ecma_runs.specs.Values.{Value, Null, Truth, Number, Text, Own, truth_of}
use Rattle.ecma_runs.specs.State.{Id, Plain, Ordinary}
use Rattle.ecma_runs.specs.Run.{Run, ◌>>=◌, given}
use Rattle.ecma_runs.specs.Environment.{empty, new_environment, set_all}
use Rattle.ecma_runs.specs.Objects.{new_object, new_array}
use Rattle.ecma_runs.specs.Functions.{read, read_object, write, new_regular_expression}
use Rattle.ecma_runs.specs.Operators.{number_from, updated}
use Rattle.ecma_runs.specs.Meaning.{ExecutionContext, inside, Meaning}
use Rattle.ecma_runs.specs.Evaluation.{meaning}
use Rattle.ecma_runs.specs.Expressions.{sequence, interleaved, member_reference, value_of}
use Rattle.ecma_judge_runs.proofs.Lone.{lone}
use Rattle.ecma_judge_runs.specs.Known.{HasTruth, HasNumber, HasType, IsAsJudged, ConstructsObjects, Marks, marks, is_valued, is_valued_by, last_or, declares_no_global}
use Rattle.ecma_judge_runs.proofs.Giving.{GivesBy, CameFrom, then_gives, any_gives, weaker_gives, give_gives, outside_gives, when_gives}
use Rattle.ecma_judge_runs.proofs.Passing.{passes_first, passes_second}
use Rattle.ecma_judge_runs.proofs.Both.{both_true}
use Rattle.ecma_judge_runs.proofs.Values.{bool_has_number, array_has_number, own_has_text, bool_has_text, common_left, common_right, some_same}
use Rattle.ecma_judge_runs.proofs.Literals.{Fits, text_fits, number_fits, name_by}
use Rattle.ecma_judge_runs.proofs.Operators.{filled_text, infinity_number, unary_gives, binary_gives}
use Rattle.ecma_judge_runs.proofs.Assignments.{assign_gives}
use Rattle.ecma_judge_runs.proofs.Lengths.{length_gives}
use Rattle.ecma_judge_runs.proofs.Constructions.{object_is_true, construct_gives}

module _ (ctx : ExprCtx) (objects : Bool) (x : ExecutionContext) where
  pub record Valued (n : Node) : Type 0 where
    pub value : is_valued objects n ≡ true → GivesBy (IsAsJudged (judged ctx n)) ((meaning n).value (lone x))
    -- as a target without a default it gives what it gets
    pub assigned : (marks objects n).assignable ≡ true → (get : Run Value) → GivesBy (CameFrom get) ((meaning n).assigned get (lone x))
    pub class : (names : List Id) → GivesBy (λ v. truth_of v ≡ true) ((meaning n).class_made names (lone x))

  abbrev pub ValuedNode : Type 0
  ValuedNode = (n : Node) × Valued n

  abbrev pub nodes : List ValuedNode → List Node
  nodes ns = map (λ e. e.0) ns

  abbrev pub meanings : List ValuedNode → List Meaning
  meanings ns = map meaning (nodes ns)

  abbrev pub judgements : List ValuedNode → List Judged
  judgements ns = map (judged ctx) (nodes ns)

  abbrev pub all_marks : List ValuedNode → List Marks
  all_marks ns = map (marks objects) (nodes ns)

  last_step : (a : ℕ) → suc (suc a) - 1 ≡ suc (suc a - 1)
  last_step a = omega arith

  sequence_gives : (ns : List ValuedNode) → last_or true (all_marks ns) ≡ true → GivesBy (IsAsJudged (kid (judgements ns) (last_index (length (nodes ns))))) (sequence (meanings ns) (lone x))
  sequence_gives [] is = outside_gives
  sequence_gives (m ∷ []) is = m.1.value is
  sequence_gives (m ∷ p ∷ ns) is =
      then_gives ((meaning m.0).value (lone x)) (λ _. subst (λ i. GivesBy (IsAsJudged (kid (judgements (m ∷ p ∷ ns)) i)) (sequence (meanings (p ∷ ns)) (lone x))) (sym (last_step (length (nodes ns)))) (sequence_gives (p ∷ ns) is))

module _ (ctx : ExprCtx) (objects : Bool) (x : ExecutionContext) (known : objects ≡ true → ConstructsObjects (lone x)) (apart : declares_no_global ctx x.scope ≡ true) (own : Purity) where
  -- a member that is told to be a length is a Number
  length_by : (n object key : Node) → (out-Node n).children ≡ object ∷ key ∷ [] → (b : Bool) → (passes_at (has_kind has_length) 0 n && passes_at (has_kind is_length) 1 n) ≡ b
      → GivesBy (HasType (if b then Known js_type.Num else Unknown)) (member_reference (meaning object) (meaning key) (lone x) >>= λ r. read (lone x) r)
  length_by n object key shape true e =
      let t = both_true (passes_at (has_kind has_length) 0 n) (passes_at (has_kind is_length) 1 n) e in
      length_gives (lone x) object key (passes_first (has_kind has_length) n object (key ∷ []) shape t.0) (passes_second (has_kind is_length) n object key [] shape t.1)
  length_by n object key shape false e = any_gives (λ v. tt)

  pub value_gives : (n : Node) (k : Kind) (ns : List (ValuedNode ctx objects (lone x))) → (out-Node n).children ≡ nodes ctx objects (lone x) ns → is_valued_by objects k (all_marks ctx objects (lone x) ns) ≡ true
      → GivesBy (Fits ctx own n k (judgements ctx objects (lone x) ns)) (value_of n k (meanings ctx objects (lone x) ns) (lone x))
  unfolding truth_by number_by text_by type_by
  value_gives n (kind.Ident sym ctxt optional) [] shape is =
      weaker_gives (λ v h. record { truth = h.0; number = h.1; text = h.2; type = h.3 })
      (name_by ctx (lone x) apart own sym ctxt (ctxt == ctx.unresolved_ctxt) (bytes_eq sym (codes "undefined")) (bytes_eq sym (codes "NaN")) (bytes_eq sym (codes "Infinity")) refl refl refl refl)
  value_gives n (kind.Str text raw) [] shape is = give_gives (Text text) (text_fits ctx own n text raw [])
  value_gives n (kind.Number number raw) [] shape is = number_fits ctx own n number raw []
  value_gives n (kind.Bool truth) [] shape is = give_gives (Truth truth) (record { truth = refl; number = bool_has_number truth; text = bool_has_text truth; type = refl })
  value_gives n kind.Null [] shape is = give_gives Null (record { truth = refl; number = λ m e. sym (some_same _ m e); text = λ t e. sym (some_same _ t e); type = refl })
  value_gives n (kind.Regex exp flags) [] shape is = then_gives new_regular_expression (λ o. give_gives (Own o) (record { truth = refl; number = tt; text = tt; type = refl }))
  value_gives n kind.Tpl (expressions ∷ parts ∷ []) shape is =
      then_gives (given (meaning parts.0).cooked) (λ ps. then_gives ((meaning expressions.0).texts (lone x)) (λ ts. give_gives (Text (interleaved ps ts)) (record { truth = tt; number = tt; text = tt; type = refl })))
  value_gives n kind.ArrayLit (elements ∷ []) shape is =
      then_gives ((meaning elements.0).elements (lone x)) (λ es. then_gives (new_array es) (λ o. give_gives (Own o) (record {
        truth = refl;
        number = array_has_number own (judged ctx elements.0).text o;
        text = own_has_text (judged ctx elements.0).text o;
        type = refl;
      })))
  value_gives n kind.ObjectLit (properties ∷ []) shape is =
      then_gives (new_object (record { entries = []; prototype = None; callable = None; extent = Ordinary }))
      (λ o. then_gives ((meaning properties.0).defined o o (lone x)) (λ _. give_gives (Own o) (record { truth = refl; number = tt; text = tt; type = refl })))
  value_gives n kind.FnExpr (name ∷ function ∷ []) shape is =
      then_gives (new_environment (map (empty true) (meaning name.0).names) None) (λ place. then_gives ((meaning function.0).made Plain None (inside (lone x) place)) (λ f.
      then_gives (set_all (meaning name.0).names place.place (Own f)) (λ _. give_gives (Own f) (record { truth = refl; number = tt; text = tt; type = refl }))))
  value_gives n kind.ClassExpr (name ∷ class ∷ []) shape is = weaker_gives (λ v h. record { truth = h; number = tt; text = tt; type = tt }) (class.1.class (meaning name.0).names)
  value_gives n (kind.UnaryExpr op) (operand ∷ []) shape is =
      unary_gives ctx own n (lone x) op (is_valued objects operand.0) (judged ctx operand.0 ∷ []) (meaning operand.0) is operand.1.value
      (λ p v h. infinity_number ctx operand.0 (passes_first (is_infinity ctx) n operand.0 [] shape p) v h)
  value_gives n (kind.UpdateExpr op prefix) (operand ∷ []) shape is =
      then_gives ((meaning operand.0).written (lone x)) (λ r. then_gives (read (lone x) r) (λ v. then_gives (given (number_from v)) (λ old. then_gives (given (updated op old)) (λ new.
      then_gives (write (lone x) r (Number new)) (λ _. give_gives (Number (cond prefix new old)) (record { truth = tt; number = tt; text = tt; type = refl }))))))
  value_gives n (kind.BinExpr op) (left ∷ right ∷ []) shape is =
      let u = both_true (is_valued objects left.0) (is_valued objects right.0) is in
      binary_gives ctx own n (lone x) (judged ctx left.0) (judged ctx right.0) (meaning left.0) (meaning right.0) (left.1.value u.0) (right.1.value u.1) op
      (λ p v h. filled_text ctx left.0 (passes_first is_filled n left.0 (right.0 ∷ []) shape p) v h) (λ p v h. filled_text ctx right.0 (passes_second is_filled n left.0 right.0 [] shape p) v h)
  value_gives n (kind.AssignExpr op) (target ∷ right ∷ []) shape is =
      let t = both_true (marks objects target.0).assignable (is_valued objects right.0) is in
      assign_gives ctx own n (lone x) (judged ctx target.0) (judged ctx right.0) (meaning target.0) (meaning right.0) (right.1.value t.1) (target.1.assigned t.0) op
  value_gives n kind.CondExpr (test ∷ yes' ∷ no' ∷ []) shape is =
      let t = both_true (is_valued objects yes'.0) (is_valued objects no'.0) is in
      then_gives ((meaning test.0).value (lone x)) (λ v. when_gives (truth_of v)
      (weaker_gives (λ w h. record { truth = tt; number = tt; text = tt; type = common_left (judged ctx yes'.0).type (judged ctx no'.0).type w h.type }) (yes'.1.value t.0))
      (weaker_gives (λ w h. record { truth = tt; number = tt; text = tt; type = common_right (judged ctx yes'.0).type (judged ctx no'.0).type w h.type }) (no'.1.value t.1)))
  value_gives n kind.SeqExpr ns shape is =
      let count = sym (ap length shape) in
      weaker_gives (λ v h. record {
        truth = subst (λ i. HasTruth (kid (judgements ctx objects (lone x) ns) (last_index i)).truth.1 v) count h.truth;
        number = subst (λ i. HasNumber (kid (judgements ctx objects (lone x) ns) (last_index i)).number.1 v) count h.number;
        text = tt;
        type = subst (λ i. HasType (kid (judgements ctx objects (lone x) ns) (last_index i)).type v) count h.type;
      })
      (sequence_gives ctx objects (lone x) ns is)
  value_gives n kind.NewExpr (callee ∷ arguments ∷ types ∷ []) shape is =
      then_gives ((meaning callee.0).reference (lone x)) (λ r. then_gives (read_object (lone x) r) (λ f. then_gives ((meaning arguments.0).arguments (lone x)) (λ vs.
      weaker_gives (λ v h. record { truth = object_is_true v h; number = tt; text = tt; type = h }) (construct_gives (lone x) (known is) f vs))))
  value_gives n kind.MemberExpr (object ∷ key ∷ []) shape is =
      weaker_gives (λ v h. record { truth = tt; number = tt; text = tt; type = h })
      (length_by n object.0 key.0 shape (passes_at (has_kind has_length) 0 n && passes_at (has_kind is_length) 1 n) refl)
  value_gives n kind.ThisExpr ns shape is = any_gives (λ v. record { truth = tt; number = tt; text = tt; type = tt })
  value_gives n (kind.ArrowExpr is_async is_generator) ns shape is = any_gives (λ v. record { truth = tt; number = tt; text = tt; type = tt })
  value_gives n kind.SuperPropExpr ns shape is = any_gives (λ v. record { truth = tt; number = tt; text = tt; type = tt })
  value_gives n kind.CallExpr ns shape is = any_gives (λ v. record { truth = tt; number = tt; text = tt; type = tt })
  value_gives n kind.TsExternalModuleRef ns shape is = any_gives (λ v. record { truth = tt; number = tt; text = tt; type = tt })
  value_gives n (kind.MetaPropExpr meta) ns shape is = any_gives (λ v. record { truth = tt; number = tt; text = tt; type = tt })
  value_gives n (kind.OptChainExpr optional) ns shape is = any_gives (λ v. record { truth = tt; number = tt; text = tt; type = tt })
  value_gives n _ ns shape is = outside_gives
