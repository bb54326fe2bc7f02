-- What is told of operators is so of what they give.
use Rattle.std.proofs.Common.{◌≡◌, refl, ap, ◌∙◌, subst, sym, ℕ, List, [], ◌∷◌, Option, Some, None, Bool, true, false, not, ◌&&◌, if◌then◌else◌, ◌==◌, bytes_eq, codes, bit_xor}
use Rattle.std.specs.Prelude.{bit_and, bit_or}
use Rattle.std.proofs.lemmas.Slice.Eq.{bytes_eq-Decides}
use Rattle.std.specs.Option.{option_map}
use Rattle.ecma_number.specs.Arithmetic.{unary_minus_of, difference_of, product_of, quotient_of, remainder_of, power_of}
use Rattle.ecma_number.specs.Bits.{complement_of, left_shift_of, right_shift_of, unsigned_right_shift_of, bitwise}
use Rattle.ecma_number.specs.Types.{is_pure}
use Rattle.ecma_number.specs.declared.js_number.JsNumber.{JsNumber}
use Rattle.ecma_number.specs.declared.js_number.JsNumber.TheVariants as js_number
use Rattle.ecma_number.specs.declared.types.JsType.TheVariants as js_type
use Rattle.ecma_number.specs.declared.types.Purity.{Purity}
use Rattle.ecma_number.specs.declared.value.Value.{Value as KnownOr}
use Rattle.ecma_number.specs.declared.value.Value.TheVariants.{Known, Unknown}
use Rattle.ecma_kind.specs.declared.kind.Kind.{Kind}
use Rattle.ecma_kind.specs.declared.kind.Kind.TheVariants as kind
use Rattle.ecma_kind.specs.declared.operators.BinaryOp.{BinaryOp}
use Rattle.ecma_kind.specs.declared.operators.BinaryOp.TheVariants as binary
use Rattle.ecma_kind.specs.declared.operators.UnaryOp.{UnaryOp}
use Rattle.ecma_kind.specs.declared.operators.UnaryOp.TheVariants as operator
use Rattle.ecma_tree.specs.declared.node.Node.{Node, out-Node}
use Rattle.ecma_judge.specs.declared.ctx.ExprCtx.{ExprCtx}
use Rattle.ecma_judge.specs.Judged.{judged, kids_of}
use Rattle.ecma_judge.specs.Judgement.{Judged, kid, purity_of}
use Rattle.ecma_judge.specs.Contexts.{is_global}
use Rattle.ecma_judge.specs.Numbers.{number_by, name_number, is_infinity, minus_number}
use Rattle.ecma_judge.specs.Parts.{passes_at}
use Rattle.ecma_judge.specs.Texts.{text_by}
use Rattle.ecma_judge.specs.Truths.{truth_by, is_filled, is_filled_by}
use Rattle.ecma_judge.specs.Types.{type_by}
use Rattle.ecma_judge.proofs.Judging.{truth-out, number-out, type-out}
use Rattle.ecma_runs.specs.Values.{Value, Undefined, Truth, Number, Text, Own, Host, Error, truth_of}
use Rattle.ecma_runs.specs.State.{Property, Data, Fixed, Accessor, Open, Extent, Ordinary, Array, ArgumentList}
use Rattle.ecma_runs.specs.Run.{◌>>=◌, given}
use Rattle.ecma_runs.specs.Environment.{Reference, ToMember, ToValue}
use Rattle.ecma_runs.specs.Meaning.{ExecutionContext, Meaning}
use Rattle.ecma_runs.specs.Members.{delete_own, delete_member, is_there, instance_by, instance_of_function, instance_of_calling, instance_of, inherits, prototype_property, type_by as type_text, type_of}
use Rattle.ecma_runs.specs.Objects.{Calling, Function, BoundFunction, calling_at, extent_at, has_elements, is_open_element, own_property_at, found_from, change_entries, without_entry}
use Rattle.ecma_runs.specs.Operators.{both, total, key_from, number_from, loosely_equal, strictly_equal, compared, added, short_circuit, unary_value}
use Rattle.ecma_runs.specs.Functions.{read_typed, delete}
use Rattle.ecma_runs.specs.Expressions.{is_in, binary_rest, unary}
use Rattle.ecma_judge_runs.proofs.Lone.{lone}
use Rattle.ecma_judge_runs.specs.Known.{HasTruth, HasNumber, HasType, IsAsJudged, is_told_of}
use Rattle.ecma_judge_runs.proofs.Giving.{GivesBy, bind_gives, then_gives, any_gives, weaker_gives, give_gives, throw_gives, outside_gives, when_gives, mapped_gives, mapped_by, both_give}
use Rattle.ecma_judge_runs.proofs.Both.{both_true}
use Rattle.ecma_judge_runs.proofs.Differences.{pure_number, minus_truth, difference_fits, quotient_fits, numbers_by, and_fits_bits, or_fits_bits}
use Rattle.ecma_judge_runs.proofs.Literals.{Fits}
use Rattle.ecma_judge_runs.proofs.Values.{not_truth, pure_truth, or_left, or_right, and_left, and_right, not_has_number, not_has_text, void_has_text, common_left, common_right, some_same}
use Rattle.ecma_judge_runs.proofs.Sums.{Filled, filled_value, filled_sum, typed_sum}

module _ (ctx : ExprCtx) where
  -- a text literal with something in it is known to be one

  filled_kind : (own : Purity) (k : Kind) (m : Node) (kids : List Judged) → is_filled_by k ≡ true → ((truth_by ctx own k m kids).1 ≡ Known true) × (type_by ctx k m kids ≡ Known js_type.Str)
  unfolding truth_by type_by
  filled_kind own (kind.Str (c ∷ cs) raw) m kids e = (refl, refl)
  filled_kind own (kind.Str [] raw) m kids e = absurd (cc)
  filled_kind own k m kids e = absurd (cc)

  pub filled_text : (m : Node) → is_filled m ≡ true → (v : Value) → IsAsJudged (judged ctx m) v → Filled v
  filled_text m e v h =
      let k = filled_kind (purity_of (judged ctx m).effects) (out-Node m).kind m (kids_of ctx m) e in
      filled_value v (subst (λ t. HasType t v) (type-out ctx m ∙ k.1) h.type) (subst (λ t. HasTruth t v) (ap (λ (t : Purity × KnownOr Bool). t.1) (truth-out ctx m) ∙ k.0) h.truth)

  -- the global name `Infinity` is known to be that Number

  infinity_name : (own : Purity) (g : Bool) (name : List ℕ) → g ≡ true → name ≡ codes "Infinity" → (ctxt : ℕ) → (ctxt == ctx.unresolved_ctxt) ≡ g → (name_number ctx own name ctxt).1 ≡ Known js_number.Infinity
  infinity_name own g name isg same ctxt e = rw (e, isg, same) refl

  infinity_kind : (own : Purity) (k : Kind) (m : Node) (kids : List Judged) → is_global ctx (codes "Infinity") k ≡ true → (number_by ctx own k m kids).1 ≡ Known js_number.Infinity
  unfolding number_by
  infinity_kind own (kind.Ident name ctxt optional) m kids e =
      let t = both_true (ctxt == ctx.unresolved_ctxt) (bytes_eq name (codes "Infinity")) e in
      infinity_name own true name refl ((bytes_eq-Decides name (codes "Infinity")).0 t.1) ctxt t.0
  infinity_kind own k m kids e = absurd (cc)

  pub infinity_number : (m : Node) → is_infinity ctx m ≡ true → (v : Value) → IsAsJudged (judged ctx m) v → HasNumber (Known js_number.Infinity) v
  infinity_number m e v h =
      subst (λ t. HasNumber t v) (ap (λ (t : Purity × KnownOr JsNumber). t.1) (number-out ctx m) ∙ infinity_kind (purity_of (judged ctx m).effects) (out-Node m).kind m (kids_of ctx m) e) h.number

  -- ---- what is told of operators

  module _ (own : Purity) (n : Node) (x : ExecutionContext) where
    bang_gives : (kids : List Judged) (v : Value) → HasTruth (kid kids 0).truth.1 v → GivesBy (Fits ctx own n (kind.UnaryExpr operator.Bang) kids) (given (unary_value operator.Bang v))
    unfolding truth_by number_by text_by type_by
    bang_gives kids v h =
        let held = pure_truth (kid kids 0).truth.0 (kid kids 0).truth.1 v h in
        give_gives (Truth (not (truth_of v))) (record {
          truth = not_truth (kid kids 0).truth.1 v h;
          number = not_has_number (if is_pure (kid kids 0).truth.0 then (kid kids 0).truth.1 else Unknown) v held;
          text = not_has_text (if is_pure (kid kids 0).truth.0 then (kid kids 0).truth.1 else Unknown) v held;
          type = refl;
        })

    void_gives : (kids : List Judged) (v : Value) → GivesBy (Fits ctx own n (kind.UnaryExpr operator.Void) kids) (given (unary_value operator.Void v))
    unfolding truth_by number_by text_by type_by
    void_gives kids v = give_gives Undefined (record { truth = refl; number = λ m e. sym (some_same js_number.NaN m e); text = void_has_text own; type = refl })

    type_gives : (kids : List Judged) (v : Value) → GivesBy (Fits ctx own n (kind.UnaryExpr operator.TypeOf) kids) (type_of v)
    unfolding truth_by number_by text_by type_by
    type_gives kids (Own place) = then_gives (calling_at place) (λ o. give_gives (Text (type_text o)) (record { truth = tt; number = tt; text = tt; type = refl }))
    type_gives kids (Host number) = outside_gives
    type_gives kids (Error error_kind) = outside_gives
    type_gives kids v = give_gives _ (record { truth = tt; number = tt; text = tt; type = refl })

    deleted_gives : (kids : List Judged) (place : ℕ) (key : List ℕ) (p : Option Property) (extent : Extent) → GivesBy (Fits ctx own n (kind.UnaryExpr operator.Delete) kids) (delete_own place key p extent)
    unfolding truth_by number_by text_by type_by
    deleted_gives kids place key None extent = when_gives (has_elements extent && is_open_element key) outside_gives (give_gives (Truth true) (record { truth = tt; number = tt; text = tt; type = refl }))
    deleted_gives kids place key (Some (Fixed writable v)) Ordinary = throw_gives _
    deleted_gives kids place key (Some (Fixed writable v)) (Array m) = throw_gives _
    deleted_gives kids place key (Some (Fixed writable v)) (ArgumentList m) = outside_gives
    deleted_gives kids place key (Some Open) extent = outside_gives
    deleted_gives kids place key (Some (Data v)) extent = then_gives (change_entries place (without_entry key)) (λ _. give_gives (Truth true) (record { truth = tt; number = tt; text = tt; type = refl }))
    deleted_gives kids place key (Some (Accessor getter setter)) extent = then_gives (change_entries place (without_entry key)) (λ _. give_gives (Truth true) (record { truth = tt; number = tt; text = tt; type = refl }))

    delete_member_gives : (kids : List Judged) (o : Value) (key : List ℕ) → GivesBy (Fits ctx own n (kind.UnaryExpr operator.Delete) kids) (delete_member o key)
    delete_member_gives kids (Own place) key = then_gives (own_property_at place key) (λ p. then_gives (extent_at place) (λ extent. deleted_gives kids place key p extent))
    delete_member_gives kids o key = outside_gives

    delete_gives : (kids : List Judged) (r : Reference) → GivesBy (Fits ctx own n (kind.UnaryExpr operator.Delete) kids) (delete r)
    unfolding truth_by number_by text_by type_by
    delete_gives kids (ToMember o key) = delete_member_gives kids o key
    delete_gives kids (ToValue v) = give_gives _ (record { truth = tt; number = tt; text = tt; type = refl })
    delete_gives kids r = outside_gives

    -- a Number with a minus; of the infinity it is the other one
    minus_number_fits : (b : Bool) (v : Value) → (b ≡ true → HasNumber (Known js_number.Infinity) v) → (a : JsNumber) → number_from v ≡ Some a → HasNumber (minus_number b).1 (Number (unary_minus_of a))
    minus_number_fits true v h a is = λ m e. sym (some_same (unary_minus_of a) m e) ∙ ap unary_minus_of (h refl a is)
    minus_number_fits false v h a is = tt

    minus_gives : (kids : List Judged) (v : Value) → IsAsJudged (kid kids 0) v → (passes_at (is_infinity ctx) 0 n ≡ true → HasNumber (Known js_number.Infinity) v)
        → GivesBy (Fits ctx own n (kind.UnaryExpr operator.Minus) kids) (given (unary_value operator.Minus v))
    unfolding truth_by number_by text_by type_by
    minus_gives kids v h infinity =
        let j = kid kids 0 in
        mapped_by (λ a. Number (unary_minus_of a)) (number_from v) (λ a is. record {
          truth = minus_truth (if is_pure j.number.0 then j.number.1 else Unknown) v (pure_number j.number.0 j.number.1 v h.number) a is;
          number = minus_number_fits (passes_at (is_infinity ctx) 0 n) v infinity a is;
          text = tt;
          type = refl;
        })

    -- an operator on the operand's value, or on what it refers to
    pub unary_gives : (op : UnaryOp) (b : Bool) (kids : List Judged) (operand : Meaning) → is_told_of op b ≡ true → (b ≡ true → GivesBy (IsAsJudged (kid kids 0)) (operand.value (lone x)))
        → (passes_at (is_infinity ctx) 0 n ≡ true → (v : Value) → IsAsJudged (kid kids 0) v → HasNumber (Known js_number.Infinity) v)
        → GivesBy (Fits ctx own n (kind.UnaryExpr op) kids) (unary op operand (lone x))
    unfolding truth_by number_by text_by type_by
    unary_gives operator.Minus b kids operand is h f = bind_gives (h is) (λ v p. minus_gives kids v p (λ i. f i v p))
    unary_gives operator.Plus b kids operand is h f = then_gives (operand.value (lone x)) (λ v. mapped_gives Number (number_from v) (λ m. record { truth = tt; number = tt; text = tt; type = refl }))
    unary_gives operator.Bang b kids operand is h f = bind_gives (h is) (λ v p. bang_gives kids v p.truth)
    unary_gives operator.Tilde b kids operand is h f = then_gives (operand.value (lone x)) (λ v. mapped_gives (λ m. Number (complement_of m)) (number_from v) (λ m. record { truth = tt; number = tt; text = tt; type = refl }))
    unary_gives operator.TypeOf b kids operand is h f = then_gives (operand.reference (lone x)) (λ r. then_gives (read_typed (lone x) r) (λ v. type_gives kids v))
    unary_gives operator.Void b kids operand is h f = then_gives (operand.value (lone x)) (λ v. void_gives kids v)
    unary_gives operator.Delete b kids operand is h f = then_gives (operand.written (lone x)) (λ r. delete_gives kids r)

  -- ---- `in` and `instanceof`

  abbrev pub IsTruth : Value → Type 0
  IsTruth v = HasType (Known js_type.Bool) v

  is_there_gives : (p : Option Property) → GivesBy IsTruth (is_there p)
  is_there_gives None = give_gives _ refl
  is_there_gives (Some Open) = outside_gives
  is_there_gives (Some (Data v)) = give_gives _ refl
  is_there_gives (Some (Fixed writable v)) = give_gives _ refl
  is_there_gives (Some (Accessor getter setter)) = give_gives _ refl

  is_in_gives : (v w : Value) → GivesBy IsTruth (is_in v w)
  is_in_gives v (Own place) = then_gives (given (key_from v)) (λ k. then_gives (found_from place k) (λ p. is_there_gives p))
  is_in_gives v (Host number) = outside_gives
  is_in_gives v (Error error_kind) = outside_gives
  is_in_gives v w = throw_gives _

  instance_by_gives : (place : ℕ) (v : Value) → GivesBy IsTruth (instance_by place v)
  instance_by_gives place (Own prototype) = then_gives (inherits place prototype) (λ b. give_gives (Truth b) refl)
  instance_by_gives place (Host number) = outside_gives
  instance_by_gives place (Error error_kind) = outside_gives
  instance_by_gives place v = throw_gives _

  instance_of_function_gives : (v : Value) (function : ℕ) → GivesBy IsTruth (instance_of_function v function)
  instance_of_function_gives (Own place) function = then_gives (prototype_property function) (λ v. instance_by_gives place v)
  instance_of_function_gives (Host number) function = outside_gives
  instance_of_function_gives (Error error_kind) function = outside_gives
  instance_of_function_gives v function = give_gives _ refl

  instance_of_calling_gives : (v : Value) (place : ℕ) (o : Option Calling) → GivesBy IsTruth (instance_of_calling v place o)
  instance_of_calling_gives v place None = throw_gives _
  instance_of_calling_gives v place (Some (Function sort)) = instance_of_function_gives v place
  instance_of_calling_gives v place (Some (BoundFunction target this given)) = instance_of_function_gives v target

  instance_of_gives : (v w : Value) → GivesBy IsTruth (instance_of v w)
  instance_of_gives v (Own place) = then_gives (calling_at place) (λ o. instance_of_calling_gives v place o)
  instance_of_gives v (Host number) = outside_gives
  instance_of_gives v (Error error_kind) = outside_gives
  instance_of_gives v w = throw_gives _

  -- ---- operators of two sides

  module _ (own : Purity) (n : Node) (x : ExecutionContext) (j l : Judged) (left right : Meaning) (hl : GivesBy (IsAsJudged j) (left.value (lone x))) (hr : GivesBy (IsAsJudged l) (right.value (lone x))) where
    abbrev pub FitsBetween : BinaryOp → Value → Type 0
    FitsBetween op v = Fits ctx own n (kind.BinExpr op) (j ∷ l ∷ []) v

    -- an operator that gives a Number, or a truth, of which no more is told
    as_number : (op : BinaryOp) (o : Value → Value → Option JsNumber) → ((m : JsNumber) → FitsBetween op (Number m)) → GivesBy (FitsBetween op) (left.value (lone x) >>= λ v. right.value (lone x) >>= λ w. given (option_map Number (o v w)))
    as_number op o h = then_gives (left.value (lone x)) (λ v. then_gives (right.value (lone x)) (λ w. mapped_gives Number (o v w) h))

    as_truth : (op : BinaryOp) (f : Bool → Bool) (o : Value → Value → Option Bool) → ((b : Bool) → FitsBetween op (Truth b))
        → GivesBy (FitsBetween op) (left.value (lone x) >>= λ v. right.value (lone x) >>= λ w. given (option_map (λ b. Truth (f b)) (o v w)))
    as_truth op f o h = then_gives (left.value (lone x)) (λ v. then_gives (right.value (lone x)) (λ w. mapped_gives (λ b. Truth (f b)) (o v w) (λ b. h (f b))))

    or_fits : (v : Value) → IsAsJudged j v → (b : Bool) → truth_of v ≡ b → GivesBy (FitsBetween binary.LogicalOr) (binary_rest binary.LogicalOr (Some b) v right (lone x))
    unfolding truth_by number_by text_by type_by
    or_fits v h true is = give_gives v (record { truth = or_left j.truth.0 l.truth.0 j.truth.1 l.truth.1 v h.truth is; number = tt; text = tt; type = common_left j.type l.type v h.type })
    or_fits v h false is =
        weaker_gives (λ w k. record { truth = or_right j.truth.0 l.truth.0 j.truth.1 l.truth.1 v w h.truth is k.truth; number = tt; text = tt; type = common_right j.type l.type w k.type }) hr

    and_fits : (v : Value) → IsAsJudged j v → (b : Bool) → truth_of v ≡ b → GivesBy (FitsBetween binary.LogicalAnd) (binary_rest binary.LogicalAnd (Some (not b)) v right (lone x))
    unfolding truth_by number_by text_by type_by
    and_fits v h false is = give_gives v (record { truth = and_left j.truth.0 l.truth.0 j.truth.1 l.truth.1 v h.truth is; number = tt; text = tt; type = common_left j.type l.type v h.type })
    and_fits v h true is =
        weaker_gives (λ w k. record { truth = and_right j.truth.0 l.truth.0 j.truth.1 l.truth.1 v w h.truth is k.truth; number = tt; text = tt; type = common_right j.type l.type w k.type }) hr

    add_fits : (passes_at is_filled 0 n ≡ true → (v : Value) → IsAsJudged j v → Filled v) → (passes_at is_filled 1 n ≡ true → (v : Value) → IsAsJudged l v → Filled v)
        → GivesBy (FitsBetween binary.Add) (left.value (lone x) >>= λ v. right.value (lone x) >>= λ w. given (added v w))
    unfolding truth_by number_by text_by type_by
    add_fits f g =
        bind_gives hl (λ v p. bind_gives hr (λ w q.
        weaker_gives (λ u r. record { truth = r.0; number = tt; text = tt; type = r.1 })
        (both_give (filled_sum v w (passes_at is_filled 0 n) (passes_at is_filled 1 n) (λ is. f is v p) (λ is. g is w q)) (typed_sum v w j.type l.type p.type q.type))))

    pub binary_gives : (op : BinaryOp) → (passes_at is_filled 0 n ≡ true → (v : Value) → IsAsJudged j v → Filled v) → (passes_at is_filled 1 n ≡ true → (v : Value) → IsAsJudged l v → Filled v)
        → GivesBy (FitsBetween op) (left.value (lone x) >>= λ v. binary_rest op (short_circuit op v) v right (lone x))
    unfolding truth_by number_by text_by type_by
    binary_gives binary.EqEq f g = then_gives (left.value (lone x)) (λ v. then_gives (right.value (lone x)) (λ w. mapped_gives Truth (loosely_equal v w) (λ b. record { truth = tt; number = tt; text = tt; type = refl })))
    binary_gives binary.NotEq f g = as_truth binary.NotEq not loosely_equal (λ b. record { truth = tt; number = tt; text = tt; type = refl })
    binary_gives binary.EqEqEq f g = then_gives (left.value (lone x)) (λ v. then_gives (right.value (lone x)) (λ w. mapped_gives Truth (strictly_equal v w) (λ b. record { truth = tt; number = tt; text = tt; type = refl })))
    binary_gives binary.NotEqEq f g = as_truth binary.NotEqEq not strictly_equal (λ b. record { truth = tt; number = tt; text = tt; type = refl })
    binary_gives binary.Lt f g = then_gives (left.value (lone x)) (λ v. then_gives (right.value (lone x)) (λ w. mapped_gives Truth (compared (λ b. b) v w) (λ b. record { truth = tt; number = tt; text = tt; type = refl })))
    binary_gives binary.LtEq f g = then_gives (left.value (lone x)) (λ v. then_gives (right.value (lone x)) (λ w. mapped_gives Truth (compared not w v) (λ b. record { truth = tt; number = tt; text = tt; type = refl })))
    binary_gives binary.Gt f g = then_gives (left.value (lone x)) (λ v. then_gives (right.value (lone x)) (λ w. mapped_gives Truth (compared (λ b. b) w v) (λ b. record { truth = tt; number = tt; text = tt; type = refl })))
    binary_gives binary.GtEq f g = then_gives (left.value (lone x)) (λ v. then_gives (right.value (lone x)) (λ w. mapped_gives Truth (compared not v w) (λ b. record { truth = tt; number = tt; text = tt; type = refl })))
    binary_gives binary.LShift f g = as_number binary.LShift (λ v w. both (total left_shift_of) (number_from v) (number_from w)) (λ m. record { truth = tt; number = tt; text = tt; type = refl })
    binary_gives binary.RShift f g = as_number binary.RShift (λ v w. both (total right_shift_of) (number_from v) (number_from w)) (λ m. record { truth = tt; number = tt; text = tt; type = refl })
    binary_gives binary.ZeroFillRShift f g = as_number binary.ZeroFillRShift (λ v w. both (total unsigned_right_shift_of) (number_from v) (number_from w)) (λ m. record { truth = tt; number = tt; text = tt; type = refl })
    binary_gives binary.Add f g = add_fits f g
    binary_gives binary.Sub f g =
        bind_gives hl (λ v p. bind_gives hr (λ w q. numbers_by (FitsBetween binary.Sub) difference_of (number_from v) (number_from w)
        (λ a b r pa qb is. record { truth = difference_fits j.number.1 l.number.1 v w p.number q.number a b r pa qb is; number = tt; text = tt; type = refl })))
    binary_gives binary.Mul f g = as_number binary.Mul (λ v w. both product_of (number_from v) (number_from w)) (λ m. record { truth = tt; number = tt; text = tt; type = refl })
    binary_gives binary.Div f g =
        let k = if is_pure j.number.0 then j.number.1 else Unknown in
        let m = if is_pure l.number.0 then l.number.1 else Unknown in
        bind_gives hl (λ v p. bind_gives hr (λ w q. numbers_by (FitsBetween binary.Div) quotient_of (number_from v) (number_from w)
        (λ a b r pa qb is. record { truth = quotient_fits k m v w (pure_number j.number.0 j.number.1 v p.number) (pure_number l.number.0 l.number.1 w q.number) a b r pa qb is; number = tt; text = tt; type = refl })))
    binary_gives binary.Mod f g = as_number binary.Mod (λ v w. both remainder_of (number_from v) (number_from w)) (λ m. record { truth = tt; number = tt; text = tt; type = refl })
    binary_gives binary.BitOr f g =
        bind_gives hl (λ v p. bind_gives hr (λ w q. numbers_by (FitsBetween binary.BitOr) (total (bitwise bit_or)) (number_from v) (number_from w)
        (λ a b r pa qb is. record { truth = or_fits_bits j.type l.type j.truth.1 l.truth.1 v w p.type q.type p.truth q.truth a b r pa qb is; number = tt; text = tt; type = refl })))
    binary_gives binary.BitXor f g = as_number binary.BitXor (λ v w. both (total (bitwise bit_xor)) (number_from v) (number_from w)) (λ m. record { truth = tt; number = tt; text = tt; type = refl })
    binary_gives binary.BitAnd f g =
        bind_gives hl (λ v p. bind_gives hr (λ w q. numbers_by (FitsBetween binary.BitAnd) (total (bitwise bit_and)) (number_from v) (number_from w)
        (λ a b r pa qb is. record { truth = and_fits_bits j.type l.type j.truth.1 l.truth.1 v w p.type q.type p.truth q.truth a b r pa qb is; number = tt; text = tt; type = refl })))
    binary_gives binary.LogicalOr f g = bind_gives hl (λ v h. or_fits v h (truth_of v) refl)
    binary_gives binary.LogicalAnd f g = bind_gives hl (λ v h. and_fits v h (truth_of v) refl)
    binary_gives binary.In f g = then_gives (left.value (lone x)) (λ v. then_gives (right.value (lone x)) (λ w. weaker_gives (λ u h. record { truth = tt; number = tt; text = tt; type = h }) (is_in_gives v w)))
    binary_gives binary.InstanceOf f g = then_gives (left.value (lone x)) (λ v. then_gives (right.value (lone x)) (λ w. weaker_gives (λ u h. record { truth = tt; number = tt; text = tt; type = h }) (instance_of_gives v w)))
    binary_gives binary.Exp f g = as_number binary.Exp (λ v w. both power_of (number_from v) (number_from w)) (λ m. record { truth = tt; number = tt; text = tt; type = refl })
    binary_gives binary.NullishCoalescing f g = any_gives (λ v. record { truth = tt; number = tt; text = tt; type = tt })
