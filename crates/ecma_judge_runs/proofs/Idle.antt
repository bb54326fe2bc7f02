-- An expression without effects is among those whose value the law on values speaks of.
use Rattle.std.proofs.Common.{◌≡◌, refl, sym, ap, ◌∙◌, subst, List, [], ◌∷◌, map, Bool, true, false, not, ◌&&◌}
use Rattle.ecma_kind.specs.declared.kind.Kind.{Kind}
use Rattle.ecma_kind.specs.declared.kind.Kind.TheVariants as kind
use Rattle.ecma_kind.specs.declared.operators.UnaryOp.{UnaryOp}
use Rattle.ecma_kind.specs.declared.operators.UnaryOp.TheVariants as operator
use Rattle.ecma_tree.specs.declared.node.Node.{Node, Node-F, roll-Node, ind-Node}
use Rattle.ecma_judge.specs.declared.ctx.ExprCtx.{ExprCtx}
use Rattle.ecma_judge.specs.Effects.{is_delete, effects_by, access_effects_by, part_effects_by}
use Rattle.ecma_judge.specs.Judged.{judged}
use Rattle.ecma_judge.specs.Judgement.{Judged, any_has_effects}
use Rattle.ecma_judge.specs.PureCallees.{pure_callee_by}
use Rattle.ecma_runs.specs.Meaning.{ExecutionContext}
use Rattle.ecma_judge_runs.proofs.Lone.{lone}
use Rattle.ecma_judge_runs.specs.Called.{Assumed}
use Rattle.ecma_judge_runs.specs.Taken.{Taken, all_whole, is_taken_by, taken, is_taken}
use Rattle.ecma_judge_runs.specs.Known.{Marks, marks, is_told_of, is_valued, is_valued_by, last_or}
use Rattle.ecma_judge_runs.proofs.Both.{both_true, neither_true, two_true}
use Rattle.ecma_judge_runs.proofs.Meanings.{taken-roll}
use Rattle.ecma_judge_runs.proofs.Nodes.{effects-roll}
use Rattle.ecma_judge_runs.proofs.ValuedNodes.{marks-roll}

told_true : (op : UnaryOp) (b : Bool) → b ≡ true → is_told_of op b ≡ true
told_true operator.Minus b is = is
told_true operator.Bang b is = is
told_true op b is = refl

module _ (ctx : ExprCtx) (sure : Assumed) (objects : Bool) (x : ExecutionContext) where
  record Idle (n : Node) : Type 0 where
    pub valued : is_taken ctx x.known.declared sure n ≡ true → (judged ctx n).effects ≡ false → is_valued objects n ≡ true

  abbrev IdleNode : Type 0
  IdleNode = (n : Node) × Idle n

  abbrev nodes : List IdleNode → List Node
  nodes ns = map (λ e. e.0) ns

  abbrev judgements : List IdleNode → List Judged
  judgements ns = map (judged ctx) (nodes ns)

  abbrev takens : List IdleNode → List Taken
  takens ns = map (taken ctx x.known.declared sure) (nodes ns)

  abbrev all_marks : List IdleNode → List Marks
  all_marks ns = map (marks objects) (nodes ns)

  last_valued : (ns : List IdleNode) → any_has_effects (judgements ns) ≡ false → all_whole (takens ns) ≡ true → (b : Bool) → b ≡ true → last_or b (all_marks ns) ≡ true
  last_valued [] none whole b is = is
  last_valued (n ∷ ns) none whole b is =
      let e = neither_true (judged ctx n.0).effects (any_has_effects (judgements ns)) none in
      let t = both_true (is_taken ctx x.known.declared sure n.0) (all_whole (takens ns)) whole in
      last_valued ns e.1 t.1 (is_valued objects n.0) (n.1.valued t.0 e.0)

  first_valued : (n : IdleNode) (ns : List IdleNode) → (judged ctx n.0).effects ≡ false → all_whole (takens (n ∷ ns)) ≡ true → is_valued objects n.0 ≡ true
  first_valued n ns none whole = n.1.valued (both_true (is_taken ctx x.known.declared sure n.0) (all_whole (takens ns)) whole).0 none

  two_valued : (l r : IdleNode) (ns : List IdleNode) → any_has_effects (judgements (l ∷ r ∷ ns)) ≡ false → all_whole (takens (l ∷ r ∷ ns)) ≡ true → (is_valued objects l.0 && is_valued objects r.0) ≡ true
  two_valued l r ns none whole =
      let e = neither_true (judged ctx l.0).effects (any_has_effects (judgements (r ∷ ns))) none in
      let f = neither_true (judged ctx r.0).effects (any_has_effects (judgements ns)) e.1 in
      let t = both_true (is_taken ctx x.known.declared sure l.0) (all_whole (takens (r ∷ ns))) whole in
      two_true (is_valued objects l.0) (is_valued objects r.0) (first_valued l (r ∷ ns) e.0 whole) (first_valued r ns f.0 t.1)

  layer_valued : (n : Node) (k : Kind) (ns : List IdleNode) → (not (pure_callee_by ctx k n) && effects_by ctx k n (judgements ns)) ≡ false
      → is_taken_by ctx x.known.declared sure k (takens ns) ≡ true → is_valued_by objects k (all_marks ns) ≡ true
  unfolding effects_by access_effects_by part_effects_by pure_callee_by
  layer_valued n kind.NewExpr ns none whole = absurd (cc)
  layer_valued n (kind.AssignExpr op) ns none whole = absurd (cc)
  layer_valued n kind.ParenExpr (e ∷ ns) none whole = first_valued e ns none whole
  layer_valued n (kind.UnaryExpr op) (e ∷ ns) none whole = told_true op (is_valued objects e.0) (first_valued e ns (neither_true (is_delete op) (judged ctx e.0).effects none).1 whole)
  layer_valued n (kind.BinExpr op) (l ∷ r ∷ ns) none whole = two_valued l r ns none whole
  layer_valued n kind.CondExpr (test ∷ l ∷ r ∷ ns) none whole =
      two_valued l r ns (neither_true (judged ctx test.0).effects (any_has_effects (judgements (l ∷ r ∷ ns))) none).1 (both_true (is_taken ctx x.known.declared sure test.0) (all_whole (takens (l ∷ r ∷ ns))) whole).1
  layer_valued n kind.SeqExpr ns none whole = last_valued ns none whole true refl
  layer_valued n k ns none whole = refl

  idle_roll : (parts : Node-F Node) (ns : List IdleNode) → nodes ns ≡ parts.children → Idle (roll-Node parts)
  idle_roll parts ns is = record {
    valued = λ whole none. ap (λ (m : Marks). m.valued) (marks-roll objects parts)
        ∙ subst (λ l. is_valued_by objects parts.kind (map (marks objects) l) ≡ true) is
        (layer_valued (roll-Node parts) parts.kind ns
        (subst (λ l. (not (pure_callee_by ctx parts.kind (roll-Node parts)) && effects_by ctx parts.kind (roll-Node parts) (map (judged ctx) l)) ≡ false) (sym is) (sym (effects-roll ctx parts) ∙ none))
        (subst (λ l. is_taken_by ctx x.known.declared sure parts.kind (map (taken ctx x.known.declared sure) l) ≡ true) (sym is) (sym (ap (λ (t : Taken). t.whole) (taken-roll ctx sure (lone x) parts)) ∙ whole)));
  }

  idle : (n : Node) → Idle n
  idle = ind-Node Idle (λ parts y is. idle_roll parts y.children (ap (λ z. z.children) is))

  pub idle_valued : (n : Node) → is_taken ctx x.known.declared sure n ≡ true → (judged ctx n).effects ≡ false → is_valued objects n ≡ true
  idle_valued n whole none = (idle n).valued whole none
