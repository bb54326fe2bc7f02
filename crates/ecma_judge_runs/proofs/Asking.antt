-- What is asked of expressions: what the laws speak of, or a sort, and names that are told.
use Rattle.std.proofs.Common.{◌≡◌, sym, ap, ◌∙◌, length, List, [], ◌∷◌, map, Bool, true, false}
use Rattle.std.specs.List.{list_all}
use Rattle.ecma_kind.specs.declared.kind.Kind.{Kind}
use Rattle.ecma_kind.specs.declared.kind.Kind.TheVariants as kind
use Rattle.ecma_kind.specs.declared.shapes.Shape.{Shape}
use Rattle.ecma_tree.specs.Sorted.{child_shapes, all_have_shapes, has_shape}
use Rattle.ecma_tree.specs.declared.node.Node.{Node, out-Node}
use Rattle.ecma_judge.specs.declared.ctx.ExprCtx.{ExprCtx}
use Rattle.ecma_judge.specs.Judged.{judged}
use Rattle.ecma_runs.specs.State.{State}
use Rattle.ecma_runs.specs.Meaning.{ExecutionContext}
use Rattle.ecma_runs.specs.Evaluation.{meaning}
use Rattle.ecma_judge_runs.proofs.Lone.{lone}
use Rattle.ecma_judge_runs.specs.Called.{Assumed, AppliesFunctions}
use Rattle.ecma_judge_runs.specs.Taken.{Taken, all_whole, is_taken_by, taken, is_taken}
use Rattle.ecma_judge_runs.specs.Told.{Names, told_by, names, are_told}
use Rattle.ecma_judge_runs.specs.Known.{IsAsJudged, declares_no_global}
use Rattle.ecma_judge_runs.proofs.Both.{both_true}
use Rattle.ecma_judge_runs.proofs.Leaving.{Leaves}
use Rattle.ecma_judge_runs.proofs.Giving.{GivesBy}
use Rattle.ecma_judge_runs.proofs.Meanings.{Apart, taken-out}
use Rattle.ecma_judge_runs.proofs.Nodes.{claim}
use Rattle.ecma_judge_runs.proofs.ValuedNodes.{valued}
use Rattle.ecma_judge_runs.proofs.Idle.{idle_valued}
use Rattle.ecma_judge_runs.proofs.Steady.{is_parted, EachOf, Asks}
use Rattle.ecma_judge_runs.proofs.Shapes.{shaped, untrue}
use Rattle.ecma_judge_runs.proofs.Sorted.{all, names-out, sortable}

-- what the laws speak of
abbrev pub IsTaken : ExprCtx → Assumed → ExecutionContext → Node → Type 0
IsTaken ctx sure x n = is_taken ctx x.known.declared sure n ≡ true

-- what has a shape, and names that are told
pub record IsSorted (ctx : ExprCtx) (x : ExecutionContext) (n : Node) : Type 0 where
  pub shape : Shape
  pub has : has_shape n shape ≡ true
  pub told : are_told ctx x.known.declared n ≡ true

module _ (ctx : ExprCtx) (sure : Assumed) (off : ctx.is_unresolved_ref_safe ≡ false) (x : ExecutionContext) (apart : declares_no_global ctx x.scope ≡ true) (clear : Apart ctx sure x.scope)
    (applies : sure.calls ≡ true → AppliesFunctions (lone x)) where
  each_taken : (cs : List Node) → all_whole (map (taken ctx x.known.declared sure) cs) ≡ true → EachOf (IsTaken ctx sure (lone x)) cs
  each_taken [] h = tt
  each_taken (c ∷ cs) h = let t = both_true (is_taken ctx x.known.declared sure c) (all_whole (map (taken ctx x.known.declared sure) cs)) h in (t.0, each_taken cs t.1)

  taken_below : (k : Kind) (cs : List Node) → is_taken_by ctx x.known.declared sure k (map (taken ctx x.known.declared sure) cs) ≡ true → is_parted k ≡ true → EachOf (IsTaken ctx sure (lone x)) cs
  taken_below kind.ParenExpr cs h is = each_taken cs h
  taken_below (kind.UnaryExpr op) cs h is = each_taken cs h
  taken_below (kind.BinExpr op) cs h is = each_taken cs h
  taken_below kind.SeqExpr cs h is = each_taken cs h
  taken_below kind.ArrayLit cs h is = each_taken cs h
  taken_below kind.List cs h is = each_taken cs h
  taken_below k cs h is = absurd (untrue is)

  taken_leaves : (n : Node) → IsTaken ctx sure (lone x) n → (judged ctx n).effects ≡ false → (old : State) → Leaves old ((meaning n).value (lone x))
  taken_leaves n h none old = ((claim ctx sure off (lone x) applies n).quiet none h).value old x.scope clear

  taken_elements : (n : Node) → IsTaken ctx sure (lone x) n → (judged ctx n).effects ≡ false → (old : State) → Leaves old ((meaning n).elements (lone x))
  taken_elements n h none old = ((claim ctx sure off (lone x) applies n).quiet none h).elements old x.scope clear

  taken_gives : (n : Node) → IsTaken ctx sure (lone x) n → (judged ctx n).effects ≡ false → GivesBy (IsAsJudged (judged ctx n)) ((meaning n).value (lone x))
  taken_gives n h none = (valued ctx false (lone x) (λ is. absurd (untrue is)) apart n).value (idle_valued ctx sure false (lone x) n h none)

  pub taken_asks : Asks ctx (lone x) (IsTaken ctx sure (lone x))
  taken_asks = record {
    below = λ n h is. taken_below (out-Node n).kind (out-Node n).children (sym (ap (λ (t : Taken). t.whole) (taken-out ctx sure (lone x) n)) ∙ h) is;
    leaves = taken_leaves;
    elements = taken_elements;
    gives = taken_gives;
  }

module _ (ctx : ExprCtx) (x : ExecutionContext) where
  abbrev pub all_told : List Node → Bool
  all_told cs = list_all (λ (n : Names). n.told) (map (names ctx x.known.declared) cs)

  each_sorted : (shapes : List Shape) (cs : List Node) → all_have_shapes shapes (map has_shape cs) ≡ true → all_told cs ≡ true → EachOf (IsSorted ctx (lone x)) cs
  each_sorted shapes [] h t = tt
  each_sorted [] (c ∷ cs) h t = absurd (untrue h)
  each_sorted (s ∷ shapes) (c ∷ cs) h t =
      let a = both_true (has_shape c s) (all_have_shapes shapes (map has_shape cs)) h in
      let b = both_true (are_told ctx x.known.declared c) (all_told cs) t in
      (record { shape = s; has = a.0; told = b.0 }, each_sorted shapes cs a.1 b.1)

  told_below : (k : Kind) (cs : List Node) → told_by ctx x.known.declared k (map (names ctx x.known.declared) cs) ≡ true → is_parted k ≡ true → all_told cs ≡ true
  told_below kind.ParenExpr cs h is = h
  told_below (kind.UnaryExpr op) cs h is = h
  told_below (kind.BinExpr op) cs h is = h
  told_below kind.SeqExpr cs h is = h
  told_below kind.ArrayLit cs h is = h
  told_below kind.List cs h is = h
  told_below k cs h is = absurd (untrue is)

  -- the children of what has a shape have theirs, and their names are told
  pub sorted_below : (n : Node) (h : IsSorted ctx (lone x) n) → is_parted (out-Node n).kind ≡ true
      → (all_have_shapes (child_shapes (out-Node n).kind h.shape (length (out-Node n).children)) (map has_shape (out-Node n).children) ≡ true) × (all_told (out-Node n).children ≡ true)
  sorted_below n h is = ((shaped n h.shape h.has).1, told_below (out-Node n).kind (out-Node n).children (sym (ap (λ (m : Names). m.told) (names-out ctx (lone x) n)) ∙ h.told) is)

  pub sorted_each : (n : Node) → IsSorted ctx (lone x) n → is_parted (out-Node n).kind ≡ true → EachOf (IsSorted ctx (lone x)) (out-Node n).children
  sorted_each n h is = let b = sorted_below n h is in each_sorted (child_shapes (out-Node n).kind h.shape (length (out-Node n).children)) (out-Node n).children b.0 b.1

module _ (ctx : ExprCtx) (off : ctx.is_unresolved_ref_safe ≡ false) (x : ExecutionContext) (apart : declares_no_global ctx x.scope ≡ true) (clear : Apart ctx all x.scope) (applies : all.calls ≡ true → AppliesFunctions (lone x)) where
  pub sorted_taken : (n : Node) → IsSorted ctx (lone x) n → (judged ctx n).effects ≡ false → is_taken ctx x.known.declared all n ≡ true
  sorted_taken n h none = (sortable ctx (lone x) n).whole h.shape h.has none h.told

  pub sorted_asks : Asks ctx (lone x) (IsSorted ctx (lone x))
  sorted_asks = record {
    below = sorted_each ctx (lone x);
    leaves = λ n h none. taken_leaves ctx all off (lone x) apart clear applies n (sorted_taken n h none) none;
    elements = λ n h none. taken_elements ctx all off (lone x) apart clear applies n (sorted_taken n h none) none;
    gives = λ n h none. taken_gives ctx all off (lone x) apart clear applies n (sorted_taken n h none) none;
  }
