-- What tells a truth or a Number with the purity of what is pure, or knows a text, leaves all as it was.
use Rattle.std.proofs.Common.{◌≡◌, refl, sym, ap, ◌∙◌, subst, ◌⊎◌, inl, inr, ◌++◌, ℕ, List, [], ◌∷◌, map, Some, Bool, true, false, not, ◌&&◌, ◌==◌, bytes_eq, codes, if◌then◌else◌, slice_get}
use Rattle.std.specs.Option.{option_map_or}
use Rattle.ecma_number.specs.Arithmetic.{difference_of, quotient_of}
use Rattle.ecma_number.specs.Bits.{bitwise}
use Rattle.ecma_number.specs.Types.{is_pure}
use Rattle.ecma_number.specs.declared.js_number.JsNumber.{JsNumber}
use Rattle.ecma_number.specs.declared.types.Purity.{Purity}
use Rattle.ecma_number.specs.declared.types.Purity.TheVariants.{Pure}
use Rattle.ecma_number.specs.declared.value.Value.{Value as KnownOr}
use Rattle.ecma_number.specs.declared.value.Value.TheVariants.{Known, Unknown}
use Rattle.ecma_kind.specs.declared.kind.Kind.{Kind}
use Rattle.ecma_kind.specs.declared.kind.Kind.TheVariants as kind
use Rattle.ecma_kind.specs.declared.operators.AssignOp.TheVariants as operation
use Rattle.ecma_kind.specs.declared.operators.BinaryOp.{BinaryOp}
use Rattle.ecma_kind.specs.declared.operators.BinaryOp.TheVariants as binary
use Rattle.ecma_kind.specs.declared.operators.UnaryOp.{UnaryOp}
use Rattle.ecma_kind.specs.declared.operators.UnaryOp.TheVariants as operator
use Rattle.ecma_tree.specs.declared.node.Node.{Node, Node-F, roll-Node, out-Node, ind-Node}
use Rattle.ecma_tree.specs.declared.node.Node.TheViews.{out-roll-Node}
use Rattle.ecma_judge.specs.declared.ctx.ExprCtx.{ExprCtx}
use Rattle.ecma_judge.specs.Effects.{is_safe_name, effects_by, access_effects_by, part_effects_by}
use Rattle.ecma_judge.specs.Judged.{judged, kids_of}
use Rattle.ecma_judge.specs.Judgement.{Judged, purity_of}
use Rattle.ecma_judge.specs.Numbers.{number_by, array_number, is_infinity}
use Rattle.ecma_judge.specs.Parts.{passes_at}
use Rattle.ecma_judge.specs.PureCallees.{pure_callee_by}
use Rattle.ecma_judge.specs.Texts.{text_by, element_by, is_nothing_by, joined_behind, followed_by, is_text_name}
use Rattle.ecma_judge.specs.Truths.{truth_by, is_false_name, or_truth, and_truth}
use Rattle.ecma_judge.specs.Types.{type_by, common_type}
use Rattle.ecma_judge.proofs.Judging.{truth-out, number-out, text-out, type-out, element-out}
use Rattle.ecma_runs.specs.Values.{Value, Truth, Own, truth_of}
use Rattle.ecma_runs.specs.State.{State}
use Rattle.ecma_runs.specs.Run.{Outcome, Done, Thrown, Returned, Broken, Continued, Ended, Run, ◌>>=◌, give, outside}
use Rattle.ecma_runs.specs.Objects.{new_array}
use Rattle.ecma_runs.specs.Meaning.{ExecutionContext, Meaning}
use Rattle.ecma_runs.specs.Evaluation.{meaning_by, meaning}
use Rattle.ecma_runs.specs.Operators.{total, number_from, unary_value}
use Rattle.ecma_runs.specs.Expressions.{binary_rest, all_elements}
use Rattle.ecma_runs.proofs.Layer.{meaning-roll}
use Rattle.std.specs.Prelude.{bit_and, bit_or}
use Rattle.ecma_judge_runs.proofs.Lone.{lone}
use Rattle.ecma_judge_runs.specs.Known.{HasTruth, HasNumber, HasText, HasType, IsAsJudged}
use Rattle.ecma_judge_runs.proofs.Leaving.{Follows, LeavesBy, Leaves, bind_by, bind_leaves, give_leaves, outside_leaves, given_leaves}
use Rattle.ecma_judge_runs.proofs.Giving.{Gave, GivesBy, bind_gives, then_gives, any_gives, weaker_gives, give_gives, outside_gives}
use Rattle.ecma_judge_runs.proofs.Literals.{Fits, apart_from}
use Rattle.ecma_judge_runs.proofs.Objects.{new_array_leaves}
use Rattle.ecma_judge_runs.proofs.Reading.{applied_leaves}
use Rattle.ecma_judge_runs.proofs.Differences.{pure_number, difference_fits, quotient_fits, numbers_by, and_fits_bits, or_fits_bits}
use Rattle.ecma_judge_runs.proofs.Values.{not_truth, pure_truth, not_has_number, array_has_number, or_left, or_right, and_left, and_right, common_left, common_right}
use Rattle.ecma_judge_runs.proofs.Purities.{none_of, is_pure_of, both_pure, or_pure, and_pure, unsafe_none, Readable, truth_readable, number_readable, text_readable, undefined_readable, bang_pure, bang_text_pure, void_pure, minus_pure, infinity_none, followed_known}
use Rattle.ecma_judge_runs.proofs.Nodes.{effects-roll}

-- ---- what is left as it was, with what is given

follows_gave : {A : Type 0} (old : State) (Q : A → Type 0) (r : Outcome A) → Follows old (λ a. Unit {0}) r → Gave Q r → Follows old Q r
follows_gave old Q (Done a s) f g = (f.0, g)
follows_gave old Q (Thrown v s) f g = f
follows_gave old Q (Returned v s) f g = f
follows_gave old Q (Broken s) f g = f
follows_gave old Q (Continued s) f g = f
follows_gave old Q (Ended why s) f g = f

leaves_giving : {A : Type 0} (old : State) {Q : A → Type 0} {m : Run A} → Leaves old m → GivesBy Q m → LeavesBy old Q m
leaves_giving old {Q = Q} {m = m} h g = record { at = λ s still. follows_gave old Q (m s) (h.at s still) (g.at s) }

-- ---- what is asked

-- kinds of which a truth, a Number or a text may be told from the children
abbrev pub is_parted : Kind → Bool
is_parted kind.ParenExpr = true
is_parted (kind.UnaryExpr op) = true
is_parted (kind.BinExpr op) = true
is_parted kind.SeqExpr = true
is_parted kind.ArrayLit = true
is_parted kind.List = true
is_parted k = false

abbrev pub EachOf : (Node → Type 0) → List Node → Type 0
EachOf Asked [] = Unit {0}
EachOf Asked (n ∷ ns) = Asked n × EachOf Asked ns

-- what is asked of a node is so of its children where these tell something, and a node without effects of which it is so leaves all as it was, and gives what is judged of it
pub record Asks (ctx : ExprCtx) (x : ExecutionContext) (Asked : Node → Type 0) : Type 0 where
  pub below : (n : Node) → Asked n → is_parted (out-Node n).kind ≡ true → EachOf Asked (out-Node n).children
  pub leaves : (n : Node) → Asked n → (judged ctx n).effects ≡ false → (old : State) → Leaves old ((meaning n).value x)
  pub elements : (n : Node) → Asked n → (judged ctx n).effects ≡ false → (old : State) → Leaves old ((meaning n).elements x)
  pub gives : (n : Node) → Asked n → (judged ctx n).effects ≡ false → GivesBy (IsAsJudged (judged ctx n)) ((meaning n).value x)

-- ---- each node

module _ (ctx : ExprCtx) (Asked : Node → Type 0) (x : ExecutionContext) where
  -- it leaves all as it was, and gives such a value
  pub record Told (P : Value → Type 0) (m : Run Value) : Type 0 where
    pub leaves : (old : State) → Leaves old m
    pub gives : GivesBy P m

  abbrev AsTruth : Judged → Value → Type 0
  AsTruth j v = HasTruth j.truth.1 v × HasType j.type v

  pub record Steady (n : Node) : Type 0 where
    pub truth : Asked n → (judged ctx n).truth.0 ≡ Pure → Told (AsTruth (judged ctx n)) ((meaning n).value (lone x))
    pub number : Asked n → (judged ctx n).number.0 ≡ Pure → Told (HasNumber (judged ctx n).number.1) ((meaning n).value (lone x))
    pub text : Asked n → (t : List ℕ) → (judged ctx n).text ≡ Known t → (old : State) → Leaves old ((meaning n).value (lone x)) × Leaves old ((meaning n).elements (lone x))
    pub element : Asked n → (t : List ℕ) → (judged ctx n).element ≡ Known t → (old : State) → Leaves old ((meaning n).elements (lone x))

  abbrev SteadyNode : Type 0
  SteadyNode = (n : Node) × Steady n

  abbrev nodes : List SteadyNode → List Node
  nodes ns = map (λ e. e.0) ns

  abbrev meanings : List SteadyNode → List Meaning
  meanings ns = map meaning (nodes ns)

  abbrev judgements : List SteadyNode → List Judged
  judgements ns = map (judged ctx) (nodes ns)

  -- what is asked of the children of a node of this kind
  abbrev AskedBelow : Kind → List SteadyNode → Type 0
  AskedBelow k ns = is_parted k ≡ true → EachOf Asked (nodes ns)

  abbrev effects_here : Node → Kind → List SteadyNode → Bool
  effects_here n k ns = not (pure_callee_by ctx k n) && effects_by ctx k n (judgements ns)

  abbrev own_here : Node → Kind → List SteadyNode → Purity
  own_here n k ns = purity_of (effects_here n k ns)

  abbrev meant : Node → Kind → List SteadyNode → Meaning
  meant n k ns = meaning_by n k (meanings ns)

  -- what is said of a node without effects
  record Calm (n : Node) (k : Kind) (ns : List SteadyNode) : Type 0 where
    pub leaves : (old : State) → Leaves old ((meant n k ns).value (lone x))
    pub elements : (old : State) → Leaves old ((meant n k ns).elements (lone x))
    pub gives : GivesBy (Fits ctx (own_here n k ns) n k (judgements ns)) ((meant n k ns).value (lone x))

  abbrev IfCalm : Node → Kind → List SteadyNode → Type 0
  IfCalm n k ns = effects_here n k ns ≡ false → Calm n k ns

  abbrev TruthHere : Node → Kind → List SteadyNode → Value → Type 0
  TruthHere n k ns v = HasTruth (truth_by ctx (own_here n k ns) k n (judgements ns)).1 v × HasType (type_by ctx k n (judgements ns)) v

  abbrev NumberHere : Node → Kind → List SteadyNode → Value → Type 0
  NumberHere n k ns v = HasNumber (number_by ctx (own_here n k ns) k n (judgements ns)).1 v

  calm_truth : (n : Node) (k : Kind) (ns : List SteadyNode) → Calm n k ns → Told (TruthHere n k ns) ((meant n k ns).value (lone x))
  calm_truth n k ns c = record { leaves = c.leaves; gives = weaker_gives (λ v f. (f.truth, f.type)) c.gives }

  calm_number : (n : Node) (k : Kind) (ns : List SteadyNode) → Calm n k ns → Told (NumberHere n k ns) ((meant n k ns).value (lone x))
  calm_number n k ns c = record { leaves = c.leaves; gives = weaker_gives (λ v f. f.number) c.gives }

  outside_told : (P : Value → Type 0) → Told P outside
  outside_told P = record { leaves = λ old. outside_leaves old; gives = outside_gives }

  -- a name of which something is known
  name_effects : (n : Node) (name : List ℕ) (ctxt : ℕ) (optional : Bool) (ns : List SteadyNode)
      → Readable name (own_here n (kind.Ident name ctxt optional) ns) → effects_here n (kind.Ident name ctxt optional) ns ≡ false
  unfolding effects_by pure_callee_by
  name_effects n name ctxt optional ns (inl safe) = unsafe_none (ctxt == ctx.unresolved_ctxt) (bytes_eq name (codes "Date")) ctx.is_unresolved_ref_safe (is_safe_name name) safe
  name_effects n name ctxt optional ns (inr pure) = none_of (effects_here n (kind.Ident name ctxt optional) ns) pure

  -- ---- truths

  -- behind a left side whose truth is known, or before a right side that is pure
  module _ (j l : Judged) (right : Meaning) where
    or_rest : (v : Value) (b : Bool) → truth_of v ≡ b → AsTruth j v → (j.truth.1 ≡ Known true) ⊎ (l.truth.0 ≡ Pure) → (l.truth.0 ≡ Pure → Told (AsTruth l) (right.value (lone x)))
        → Told (λ w. HasTruth (or_truth j.truth l.truth).1 w × HasType (common_type j.type l.type) w) (binary_rest binary.LogicalOr (Some b) v right (lone x))
    or_rest v true is h either hr =
        record { leaves = λ old. give_leaves old v; gives = give_gives v (or_left j.truth.0 l.truth.0 j.truth.1 l.truth.1 v h.0 is, common_left j.type l.type v h.1) }
    or_rest v false is h (inr pure) hr =
        let r = hr pure in record {
          leaves = r.leaves;
          gives = weaker_gives (λ w g. (or_right j.truth.0 l.truth.0 j.truth.1 l.truth.1 v w h.0 is g.0, common_right j.type l.type w g.1)) r.gives;
        }
    or_rest v false is h (inl known) hr = absurd (apart_from (truth_of v) (subst (λ z. HasTruth z v) known h.0) is)

    and_rest : (v : Value) (b : Bool) → truth_of v ≡ b → AsTruth j v → (j.truth.1 ≡ Known false) ⊎ (l.truth.0 ≡ Pure) → (l.truth.0 ≡ Pure → Told (AsTruth l) (right.value (lone x)))
        → Told (λ w. HasTruth (and_truth j.truth l.truth).1 w × HasType (common_type j.type l.type) w) (binary_rest binary.LogicalAnd (Some (not b)) v right (lone x))
    and_rest v false is h either hr =
        record { leaves = λ old. give_leaves old v; gives = give_gives v (and_left j.truth.0 l.truth.0 j.truth.1 l.truth.1 v h.0 is, common_left j.type l.type v h.1) }
    and_rest v true is h (inr pure) hr =
        let r = hr pure in record {
          leaves = r.leaves;
          gives = weaker_gives (λ w g. (and_right j.truth.0 l.truth.0 j.truth.1 l.truth.1 v w h.0 is g.0, common_right j.type l.type w g.1)) r.gives;
        }
    and_rest v true is h (inl known) hr = absurd (apart_from (truth_of v) is (subst (λ z. HasTruth z v) known h.0))

  binary_truth : (op : BinaryOp) (n : Node) (l r : SteadyNode) → Asked l.0 × Asked r.0
      → IfCalm n (kind.BinExpr op) (l ∷ r ∷ []) → (truth_by ctx (own_here n (kind.BinExpr op) (l ∷ r ∷ [])) (kind.BinExpr op) n (judged ctx l.0 ∷ judged ctx r.0 ∷ [])).0 ≡ Pure
      → Told (TruthHere n (kind.BinExpr op) (l ∷ r ∷ [])) ((meant n (kind.BinExpr op) (l ∷ r ∷ [])).value (lone x))
  unfolding truth_by type_by
  binary_truth binary.LogicalOr n l r t calm is =
      let p = or_pure (judged ctx l.0).truth.0 (judged ctx r.0).truth.0 (judged ctx l.0).truth.1 (judged ctx r.0).truth.1 is in
      let h = l.1.truth t.0 p.0 in
      let rest = λ (u : Value) (g : AsTruth (judged ctx l.0) u). or_rest (judged ctx l.0) (judged ctx r.0) (meaning r.0) u (truth_of u) refl g p.1 (λ pure. r.1.truth t.1 pure) in
      record { leaves = λ old. bind_by old (leaves_giving old (h.leaves old) h.gives) (λ u g. (rest u g).leaves old); gives = bind_gives h.gives (λ u g. (rest u g).gives) }
  binary_truth binary.LogicalAnd n l r t calm is =
      let p = and_pure (judged ctx l.0).truth.0 (judged ctx r.0).truth.0 (judged ctx l.0).truth.1 (judged ctx r.0).truth.1 is in
      let h = l.1.truth t.0 p.0 in
      let rest = λ (u : Value) (g : AsTruth (judged ctx l.0) u). and_rest (judged ctx l.0) (judged ctx r.0) (meaning r.0) u (truth_of u) refl g p.1 (λ pure. r.1.truth t.1 pure) in
      record { leaves = λ old. bind_by old (leaves_giving old (h.leaves old) h.gives) (λ u g. (rest u g).leaves old); gives = bind_gives h.gives (λ u g. (rest u g).gives) }
  binary_truth binary.Sub n l r t calm is =
      let p = both_pure (judged ctx l.0).number.0 (judged ctx r.0).number.0 is in
      let h = l.1.number t.0 p.0 in
      let g = r.1.number t.1 p.1 in
      record {
        leaves = λ old. bind_leaves old (h.leaves old) (λ u. bind_leaves old (g.leaves old) (λ w. applied_leaves old binary.Sub u w));
        gives = bind_gives h.gives (λ v hv. bind_gives g.gives (λ w hw. numbers_by (TruthHere n (kind.BinExpr binary.Sub) (l ∷ r ∷ [])) difference_of (number_from v) (number_from w)
            (λ a b c pa qb e. (difference_fits (judged ctx l.0).number.1 (judged ctx r.0).number.1 v w hv hw a b c pa qb e, refl))));
      }
  binary_truth binary.Div n l r t calm is =
      let p = both_pure (judged ctx l.0).number.0 (judged ctx r.0).number.0 is in
      let h = l.1.number t.0 p.0 in
      let g = r.1.number t.1 p.1 in
      let k = if is_pure (judged ctx l.0).number.0 then (judged ctx l.0).number.1 else Unknown in
      let m = if is_pure (judged ctx r.0).number.0 then (judged ctx r.0).number.1 else Unknown in
      record {
        leaves = λ old. bind_leaves old (h.leaves old) (λ u. bind_leaves old (g.leaves old) (λ w. applied_leaves old binary.Div u w));
        gives = bind_gives h.gives (λ v hv. bind_gives g.gives (λ w hw. numbers_by (TruthHere n (kind.BinExpr binary.Div) (l ∷ r ∷ [])) quotient_of (number_from v) (number_from w)
            (λ a b c pa qb e. (quotient_fits k m v w (pure_number (judged ctx l.0).number.0 (judged ctx l.0).number.1 v hv) (pure_number (judged ctx r.0).number.0 (judged ctx r.0).number.1 w hw) a b c pa qb e, refl))));
      }
  binary_truth binary.BitAnd n l r t calm is =
      let j = judged ctx l.0 in
      let m = judged ctx r.0 in
      let p = both_pure j.truth.0 m.truth.0 is in
      let h = l.1.truth t.0 p.0 in
      let g = r.1.truth t.1 p.1 in
      record {
        leaves = λ old. bind_leaves old (h.leaves old) (λ u. bind_leaves old (g.leaves old) (λ w. applied_leaves old binary.BitAnd u w));
        gives = bind_gives h.gives (λ v hv. bind_gives g.gives (λ w hw. numbers_by (TruthHere n (kind.BinExpr binary.BitAnd) (l ∷ r ∷ [])) (total (bitwise bit_and)) (number_from v) (number_from w)
            (λ a b c pa qb e. (and_fits_bits j.type m.type j.truth.1 m.truth.1 v w hv.1 hw.1 hv.0 hw.0 a b c pa qb e, refl))));
      }
  binary_truth binary.BitOr n l r t calm is =
      let j = judged ctx l.0 in
      let m = judged ctx r.0 in
      let p = both_pure j.truth.0 m.truth.0 is in
      let h = l.1.truth t.0 p.0 in
      let g = r.1.truth t.1 p.1 in
      record {
        leaves = λ old. bind_leaves old (h.leaves old) (λ u. bind_leaves old (g.leaves old) (λ w. applied_leaves old binary.BitOr u w));
        gives = bind_gives h.gives (λ v hv. bind_gives g.gives (λ w hw. numbers_by (TruthHere n (kind.BinExpr binary.BitOr) (l ∷ r ∷ [])) (total (bitwise bit_or)) (number_from v) (number_from w)
            (λ a b c pa qb e. (or_fits_bits j.type m.type j.truth.1 m.truth.1 v w hv.1 hw.1 hv.0 hw.0 a b c pa qb e, refl))));
      }
  binary_truth op n l r t calm is = calm_truth n (kind.BinExpr op) (l ∷ r ∷ []) (calm (none_of (effects_here n (kind.BinExpr op) (l ∷ r ∷ [])) is))

  unary_truth : (op : UnaryOp) (n : Node) (e : SteadyNode) → Asked e.0
      → IfCalm n (kind.UnaryExpr op) (e ∷ []) → (truth_by ctx (own_here n (kind.UnaryExpr op) (e ∷ [])) (kind.UnaryExpr op) n (judged ctx e.0 ∷ [])).0 ≡ Pure
      → Told (TruthHere n (kind.UnaryExpr op) (e ∷ [])) ((meant n (kind.UnaryExpr op) (e ∷ [])).value (lone x))
  unfolding truth_by type_by
  unary_truth operator.Bang n e t calm is =
      let h = e.1.truth t is in record {
        leaves = λ old. bind_leaves old (h.leaves old) (λ u. given_leaves old (unary_value operator.Bang u));
        gives = bind_gives h.gives (λ v hv. give_gives (Truth (not (truth_of v))) (not_truth (judged ctx e.0).truth.1 v hv.0, refl));
      }
  unary_truth op n e t calm is = calm_truth n (kind.UnaryExpr op) (e ∷ []) (calm (none_of (effects_here n (kind.UnaryExpr op) (e ∷ [])) is))

  layer_truth : (n : Node) (k : Kind) (ns : List SteadyNode) → AskedBelow k ns → IfCalm n k ns
      → (truth_by ctx (own_here n k ns) k n (judgements ns)).0 ≡ Pure → Told (TruthHere n k ns) ((meant n k ns).value (lone x))
  unfolding truth_by type_by effects_by access_effects_by part_effects_by pure_callee_by
  layer_truth n (kind.Ident name ctxt optional) ns t calm is =
      calm_truth n (kind.Ident name ctxt optional) ns (calm (name_effects n name ctxt optional ns
      (truth_readable (ctxt == ctx.unresolved_ctxt) name (own_here n (kind.Ident name ctxt optional) ns) (ctxt == ctx.unresolved_ctxt && is_false_name name) refl is)))
  layer_truth n kind.ParenExpr (e ∷ []) t calm is =
      let h = e.1.truth (t refl).0 is in record { leaves = h.leaves; gives = weaker_gives (λ v g. (g.0, tt)) h.gives }
  layer_truth n (kind.UnaryExpr op) (e ∷ []) t calm is = unary_truth op n e (t refl).0 calm is
  layer_truth n (kind.BinExpr op) (l ∷ r ∷ []) t calm is =
      let a = t refl in
      binary_truth op n l r (a.0, a.1.0) calm is
  layer_truth n kind.ParenExpr ns t calm is = outside_told _
  layer_truth n (kind.UnaryExpr op) ns t calm is = outside_told _
  layer_truth n (kind.BinExpr op) ns t calm is = outside_told _
  layer_truth n (kind.AssignExpr operation.Assign) ns t calm is = absurd (cc)
  layer_truth n (kind.Str value raw) ns t calm is = calm_truth n (kind.Str value raw) ns (calm refl)
  layer_truth n (kind.Bool value) ns t calm is = calm_truth n (kind.Bool value) ns (calm refl)
  layer_truth n kind.Null ns t calm is = calm_truth n kind.Null ns (calm refl)
  layer_truth n (kind.Number value raw) ns t calm is = calm_truth n (kind.Number value raw) ns (calm refl)
  layer_truth n (kind.BigInt value raw) ns t calm is = calm_truth n (kind.BigInt value raw) ns (calm refl)
  layer_truth n (kind.Regex exp flags) ns t calm is = calm_truth n (kind.Regex exp flags) ns (calm refl)
  layer_truth n k ns t calm is = calm_truth n k ns (calm (none_of (effects_here n k ns) is))

  -- ---- Numbers

  -- an array whose elements leave all as they were
  array_leaves : (old : State) (elements : Meaning) → Leaves old (elements.elements (lone x)) → Leaves old (elements.elements (lone x) >>= λ es. new_array es >>= λ o. give (Own o))
  array_leaves old elements h = bind_leaves old h (λ es. bind_leaves old (new_array_leaves old es) (λ o. give_leaves old (Own o)))

  array_told : (n : Node) (e : SteadyNode) → Asked e.0 → IfCalm n kind.ArrayLit (e ∷ []) → (text : KnownOr (List ℕ)) → (judged ctx e.0).text ≡ text
      → (array_number (own_here n kind.ArrayLit (e ∷ [])) text).0 ≡ Pure
      → Told (λ v. HasNumber (array_number (own_here n kind.ArrayLit (e ∷ [])) text).1 v) ((meant n kind.ArrayLit (e ∷ [])).value (lone x))
  array_told n e t calm (Known text) known is = record {
    leaves = λ old. array_leaves old (meaning e.0) (e.1.text t text known old).1;
    gives = then_gives ((meaning e.0).elements (lone x)) (λ es. then_gives (new_array es) (λ o. give_gives (Own o) (array_has_number (own_here n kind.ArrayLit (e ∷ [])) (Known text) o)));
  }
  array_told n e t calm Unknown known is = record { leaves = (calm (none_of (effects_here n kind.ArrayLit (e ∷ [])) is)).leaves; gives = any_gives (λ v. tt) }

  unary_number : (op : UnaryOp) (n : Node) (e : SteadyNode) → (out-Node n).children ≡ e.0 ∷ [] → Asked e.0
      → IfCalm n (kind.UnaryExpr op) (e ∷ []) → (number_by ctx (own_here n (kind.UnaryExpr op) (e ∷ [])) (kind.UnaryExpr op) n (judged ctx e.0 ∷ [])).0 ≡ Pure
      → Told (NumberHere n (kind.UnaryExpr op) (e ∷ [])) ((meant n (kind.UnaryExpr op) (e ∷ [])).value (lone x))
  unfolding number_by effects_by pure_callee_by
  unary_number operator.Minus n e shape t calm is =
      let passes = minus_pure (passes_at (is_infinity ctx) 0 n) is in
      calm_number n (kind.UnaryExpr operator.Minus) (e ∷ []) (calm (infinity_none ctx e.0 (subst (λ (z : List Node). option_map_or (is_infinity ctx) (slice_get z 0) false ≡ true) shape passes)))
  unary_number operator.Bang n e shape t calm is =
      let j = judged ctx e.0 in
      let h = e.1.truth t (bang_pure j.truth.0 j.truth.1 is) in record {
        leaves = λ old. bind_leaves old (h.leaves old) (λ u. given_leaves old (unary_value operator.Bang u));
        gives = bind_gives h.gives (λ v hv. give_gives (Truth (not (truth_of v))) (not_has_number (if is_pure j.truth.0 then j.truth.1 else Unknown) v (pure_truth j.truth.0 j.truth.1 v hv.0)));
      }
  unary_number operator.Void n e shape t calm is = calm_number n (kind.UnaryExpr operator.Void) (e ∷ []) (calm (none_of (effects_here n (kind.UnaryExpr operator.Void) (e ∷ [])) is))
  unary_number op n e shape t calm is = absurd (cc)

  layer_number : (n : Node) (k : Kind) (ns : List SteadyNode) → (out-Node n).children ≡ nodes ns → AskedBelow k ns → IfCalm n k ns
      → (number_by ctx (own_here n k ns) k n (judgements ns)).0 ≡ Pure → Told (NumberHere n k ns) ((meant n k ns).value (lone x))
  unfolding number_by effects_by pure_callee_by
  layer_number n (kind.Ident name ctxt optional) ns shape t calm is =
      calm_number n (kind.Ident name ctxt optional) ns (calm (name_effects n name ctxt optional ns
      (number_readable (ctxt == ctx.unresolved_ctxt) name (own_here n (kind.Ident name ctxt optional) ns) (ctxt == ctx.unresolved_ctxt && is_false_name name) (ctxt == ctx.unresolved_ctxt && bytes_eq name (codes "Infinity")) refl refl is)))
  layer_number n (kind.Bool value) ns shape t calm is = calm_number n (kind.Bool value) ns (calm refl)
  layer_number n kind.Null ns shape t calm is = calm_number n kind.Null ns (calm refl)
  layer_number n (kind.Number value raw) ns shape t calm is = calm_number n (kind.Number value raw) ns (calm refl)
  layer_number n (kind.Str value raw) ns shape t calm is = calm_number n (kind.Str value raw) ns (calm refl)
  layer_number n (kind.BigInt value raw) ns shape t calm is = calm_number n (kind.BigInt value raw) ns (calm refl)
  layer_number n (kind.Regex exp flags) ns shape t calm is = calm_number n (kind.Regex exp flags) ns (calm refl)
  layer_number n kind.ArrayLit (e ∷ []) shape t calm is = array_told n e (t refl).0 calm (judged ctx e.0).text refl is
  layer_number n kind.ArrayLit ns shape t calm is = outside_told _
  layer_number n (kind.UnaryExpr op) (e ∷ []) shape t calm is = unary_number op n e shape (t refl).0 calm is
  layer_number n (kind.UnaryExpr op) ns shape t calm is = outside_told _
  layer_number n k ns shape t calm is = absurd (cc)

  -- ---- texts

  abbrev TextHere : Node → Kind → List SteadyNode → Type 0
  TextHere n k ns = (old : State) → Leaves old ((meant n k ns).value (lone x)) × Leaves old ((meant n k ns).elements (lone x))

  calm_text : (n : Node) (k : Kind) (ns : List SteadyNode) → Calm n k ns → TextHere n k ns
  calm_text n k ns c old = (c.leaves old, c.elements old)

  as_element : (old : State) (m : Run Value) → Leaves old m → Leaves old (m >>= λ v. give (Some v ∷ []))
  as_element old m h = bind_leaves old h (λ v. give_leaves old (Some v ∷ []))

  unary_text : (op : UnaryOp) (n : Node) (e : SteadyNode) → Asked e.0 → IfCalm n (kind.UnaryExpr op) (e ∷ []) → (t : List ℕ)
      → text_by ctx (own_here n (kind.UnaryExpr op) (e ∷ [])) (kind.UnaryExpr op) (judged ctx e.0 ∷ []) ≡ Known t → TextHere n (kind.UnaryExpr op) (e ∷ [])
  unfolding text_by
  unary_text operator.Bang n e whole calm t is old =
      let h = (e.1.truth whole (bang_text_pure (judged ctx e.0).truth.0 (judged ctx e.0).truth.1 t is)).leaves old in
      let value = bind_leaves old h (λ u. given_leaves old (unary_value operator.Bang u)) in
      (value, as_element old _ value)
  unary_text operator.Void n e whole calm t is old =
      let own = own_here n (kind.UnaryExpr operator.Void) (e ∷ []) in
      calm_text n (kind.UnaryExpr operator.Void) (e ∷ []) (calm (none_of (effects_here n (kind.UnaryExpr operator.Void) (e ∷ [])) (void_pure own t is))) old
  unary_text op n e whole calm t is old = absurd (cc)

  list_leaves : (old : State) (front : List ℕ) (ns : List SteadyNode) → EachOf Asked (nodes ns) → (t : List ℕ) → joined_behind front (judgements ns) ≡ Known t → Leaves old (all_elements (meanings ns) (lone x))
  list_leaves old front [] whole t is = give_leaves old []
  list_leaves old front (n ∷ ns) whole t is =
      let f = followed_known (followed_by (Known front) (judged ctx n.0).element) (joined_behind (44 ∷ []) (judgements ns)) t is in
      let g = followed_known (Known front) (judged ctx n.0).element f.0.0 f.0.1 in
      bind_leaves old (n.1.element whole.0 g.1.0 g.1.1 old) (λ vs. bind_leaves old (list_leaves old (44 ∷ []) ns whole.1 f.1.0 f.1.1) (λ ws. give_leaves old (vs ++ ws)))

  layer_text : (n : Node) (k : Kind) (ns : List SteadyNode) → AskedBelow k ns → IfCalm n k ns → (t : List ℕ)
      → text_by ctx (own_here n k ns) k (judgements ns) ≡ Known t → TextHere n k ns
  unfolding text_by effects_by pure_callee_by
  layer_text n (kind.Str value raw) ns whole calm t is old = calm_text n (kind.Str value raw) ns (calm refl) old
  layer_text n (kind.Number value raw) ns whole calm t is old = calm_text n (kind.Number value raw) ns (calm refl) old
  layer_text n (kind.Bool value) ns whole calm t is old = calm_text n (kind.Bool value) ns (calm refl) old
  layer_text n kind.Null ns whole calm t is old = calm_text n kind.Null ns (calm refl) old
  layer_text n (kind.Ident name ctxt optional) ns whole calm t is old =
      calm_text n (kind.Ident name ctxt optional) ns (calm (name_effects n name ctxt optional ns
      (text_readable (ctxt == ctx.unresolved_ctxt) name t (own_here n (kind.Ident name ctxt optional) ns) (ctxt == ctx.unresolved_ctxt && is_text_name name) refl is))) old
  layer_text n (kind.UnaryExpr op) (e ∷ []) whole calm t is old = unary_text op n e (whole refl).0 calm t is old
  layer_text n (kind.UnaryExpr op) ns whole calm t is old = (outside_leaves old, as_element old outside (outside_leaves old))
  layer_text n kind.ArrayLit (e ∷ []) whole calm t is old =
      let value = array_leaves old (meaning e.0) (e.1.text (whole refl).0 t is old).1 in (value, as_element old _ value)
  layer_text n kind.ArrayLit ns whole calm t is old = (outside_leaves old, as_element old outside (outside_leaves old))
  layer_text n kind.List ns whole calm t is old = (outside_leaves old, list_leaves old [] ns (whole refl) t is)
  layer_text n k ns whole calm t is old = absurd (cc)

  -- ---- elements of arrays

  nothing_unary : (op : UnaryOp) (n : Node) (ns : List SteadyNode) → IfCalm n (kind.UnaryExpr op) ns → is_nothing_by ctx (own_here n (kind.UnaryExpr op) ns) (kind.UnaryExpr op) ≡ true
      → (old : State) → Leaves old ((meant n (kind.UnaryExpr op) ns).elements (lone x))
  unfolding is_nothing_by
  nothing_unary operator.Void n ns calm is old =
      (calm (none_of (effects_here n (kind.UnaryExpr operator.Void) ns) (is_pure_of (own_here n (kind.UnaryExpr operator.Void) ns) is))).elements old
  nothing_unary op n ns calm is old = absurd (cc)

  nothing_leaves : (n : Node) (k : Kind) (ns : List SteadyNode) → IfCalm n k ns → is_nothing_by ctx (own_here n k ns) k ≡ true → (old : State) → Leaves old ((meant n k ns).elements (lone x))
  unfolding is_nothing_by effects_by access_effects_by part_effects_by pure_callee_by
  nothing_leaves n kind.Absent ns calm is old = (calm refl).elements old
  nothing_leaves n kind.Null ns calm is old = (calm refl).elements old
  nothing_leaves n (kind.Ident name ctxt optional) ns calm is old =
      (calm (name_effects n name ctxt optional ns (undefined_readable (ctxt == ctx.unresolved_ctxt) name (own_here n (kind.Ident name ctxt optional) ns) is))).elements old
  nothing_leaves n (kind.UnaryExpr op) ns calm is old = nothing_unary op n ns calm is old
  nothing_leaves n k ns calm is old = absurd (cc)

  layer_element : (n : Node) (k : Kind) (ns : List SteadyNode) → AskedBelow k ns → IfCalm n k ns → (text : KnownOr (List ℕ)) → text ≡ text_by ctx (own_here n k ns) k (judgements ns) → (t : List ℕ)
      → (b : Bool) → is_nothing_by ctx (own_here n k ns) k ≡ b → (if b then Known [] else text) ≡ Known t → (old : State) → Leaves old ((meant n k ns).elements (lone x))
  layer_element n k ns whole calm text same t true e is old = nothing_leaves n k ns calm e old
  layer_element n k ns whole calm text same t false e is old = (layer_text n k ns whole calm t (sym same ∙ is) old).1

module _ (ctx : ExprCtx) (Asked : Node → Type 0) (x : ExecutionContext) (asks : Asks ctx (lone x) Asked) where
  module _ (parts : Node-F Node) (ns : List (SteadyNode ctx Asked (lone x))) (is : nodes ctx Asked (lone x) ns ≡ parts.children) where
    abbrev here : Node
    here = roll-Node parts

    abbrev own : Purity
    own = own_here ctx Asked (lone x) here parts.kind ns

    same_meaning : meaning here ≡ meant ctx Asked (lone x) here parts.kind ns
    same_meaning = meaning-roll parts ∙ ap (λ l. meaning_by here parts.kind (map meaning l)) (sym is)

    same_effects : (judged ctx here).effects ≡ effects_here ctx Asked (lone x) here parts.kind ns
    same_effects = effects-roll ctx parts ∙ ap (λ l. not (pure_callee_by ctx parts.kind here) && effects_by ctx parts.kind here (map (judged ctx) l)) (sym is)

    -- what the tables say, by the kind and the children
    by_parts : {A : Type 0} (f : Purity → Kind → List Judged → A) → f (purity_of (judged ctx here).effects) (out-Node here).kind (kids_of ctx here) ≡ f own parts.kind (judgements ctx Asked (lone x) ns)
    by_parts f =
        ap (λ (z : Node-F Node). f (purity_of (judged ctx here).effects) z.kind (map (judged ctx) z.children)) (out-roll-Node parts)
        ∙ ap (λ l. f (purity_of (judged ctx here).effects) parts.kind (map (judged ctx) l)) (sym is) ∙ ap (λ b. f (purity_of b) parts.kind (judgements ctx Asked (lone x) ns)) same_effects

    same_truth : (judged ctx here).truth ≡ truth_by ctx own parts.kind here (judgements ctx Asked (lone x) ns)
    same_truth = truth-out ctx here ∙ by_parts (λ p k kids. truth_by ctx p k here kids)

    same_number : (judged ctx here).number ≡ number_by ctx own parts.kind here (judgements ctx Asked (lone x) ns)
    same_number = number-out ctx here ∙ by_parts (λ p k kids. number_by ctx p k here kids)

    same_text : (judged ctx here).text ≡ text_by ctx own parts.kind (judgements ctx Asked (lone x) ns)
    same_text = text-out ctx here ∙ by_parts (λ p k kids. text_by ctx p k kids)

    same_type : (judged ctx here).type ≡ type_by ctx parts.kind here (judgements ctx Asked (lone x) ns)
    same_type = type-out ctx here ∙ by_parts (λ p k kids. type_by ctx k here kids)

    same_element : (judged ctx here).element ≡ element_by ctx own parts.kind (judged ctx here).text
    same_element = element-out ctx here ∙ by_parts (λ p k kids. element_by ctx p k (judged ctx here).text)

    asked_below : Asked here → AskedBelow ctx Asked (lone x) parts.kind ns
    asked_below whole h =
        subst (EachOf Asked) (sym is)
        (subst (λ (z : Node-F Node). EachOf Asked z.children) (out-roll-Node parts) (asks.below here whole (subst (λ (z : Node-F Node). is_parted z.kind ≡ true) (sym (out-roll-Node parts)) h)))

    fits_here : (v : Value) → IsAsJudged (judged ctx here) v → Fits ctx own here parts.kind (judgements ctx Asked (lone x) ns) v
    fits_here v h = record {
      truth = subst (λ (t : Purity × KnownOr Bool). HasTruth t.1 v) same_truth h.truth;
      number = subst (λ (t : Purity × KnownOr JsNumber). HasNumber t.1 v) same_number h.number;
      text = subst (λ t. HasText t v) same_text h.text;
      type = subst (λ t. HasType t v) same_type h.type;
    }

    calm_here : Asked here → IfCalm ctx Asked (lone x) here parts.kind ns
    calm_here whole none =
        let e = same_effects ∙ none in
        record {
          leaves = λ old. subst (λ m. Leaves old (m.value (lone x))) same_meaning (asks.leaves here whole e old);
          elements = λ old. subst (λ m. Leaves old (m.elements (lone x))) same_meaning (asks.elements here whole e old);
          gives = subst (λ m. GivesBy (Fits ctx own here parts.kind (judgements ctx Asked (lone x) ns)) (m.value (lone x))) same_meaning (weaker_gives fits_here (asks.gives here whole e));
        }

    told_here : (P Q : Value → Type 0) → ((v : Value) → P v → Q v) → Told ctx Asked (lone x) P ((meant ctx Asked (lone x) here parts.kind ns).value (lone x)) → Told ctx Asked (lone x) Q ((meaning here).value (lone x))
    told_here P Q f h = record {
      leaves = λ old. subst (λ m. Leaves old (m.value (lone x))) (sym same_meaning) (h.leaves old);
      gives = weaker_gives f (subst (λ m. GivesBy P (m.value (lone x))) (sym same_meaning) h.gives);
    }

    steady_roll : Steady ctx Asked (lone x) here
    steady_roll = record {
      truth = λ whole pure. told_here (TruthHere ctx Asked (lone x) here parts.kind ns) (AsTruth ctx Asked (lone x) (judged ctx here))
          (λ v h. (subst (λ (t : Purity × KnownOr Bool). HasTruth t.1 v) (sym same_truth) h.0, subst (λ t. HasType t v) (sym same_type) h.1))
          (layer_truth ctx Asked (lone x) here parts.kind ns (asked_below whole) (calm_here whole) (sym (ap (λ (t : Purity × KnownOr Bool). t.0) same_truth) ∙ pure));
      number = λ whole pure. told_here (NumberHere ctx Asked (lone x) here parts.kind ns) (HasNumber (judged ctx here).number.1)
          (λ v h. subst (λ (t : Purity × KnownOr JsNumber). HasNumber t.1 v) (sym same_number) h)
          (layer_number ctx Asked (lone x) here parts.kind ns (ap (λ (z : Node-F Node). z.children) (out-roll-Node parts) ∙ sym is) (asked_below whole) (calm_here whole)
          (sym (ap (λ (t : Purity × KnownOr JsNumber). t.0) same_number) ∙ pure));
      text = λ whole t known old.
          let h = layer_text ctx Asked (lone x) here parts.kind ns (asked_below whole) (calm_here whole) t (sym same_text ∙ known) old in
          (subst (λ m. Leaves old (m.value (lone x))) (sym same_meaning) h.0, subst (λ m. Leaves old (m.elements (lone x))) (sym same_meaning) h.1);
      element = λ whole t known old. subst (λ m. Leaves old (m.elements (lone x))) (sym same_meaning)
          (layer_element ctx Asked (lone x) here parts.kind ns (asked_below whole) (calm_here whole) (judged ctx here).text same_text t (is_nothing_by ctx own parts.kind) refl (sym same_element ∙ known) old);
    }

  pub steady : (n : Node) → Steady ctx Asked (lone x) n
  steady = ind-Node (Steady ctx Asked (lone x)) (λ parts y is. steady_roll parts y.children (ap (λ z. z.children) is))
