use Rattle.std.proofs.Common.{◌≡◌, ◌<◌, ◌≤◌, ◌∙◌, ◌++◌, sym, ap, subst, arith, length, take, drop, false, slice_get, Some}
use Rattle.ecma_tree.specs.declared.node.Node.{out-Node, size-Node}
use Rattle.ecma_forest.specs.Trees.{node}
use Rattle.ecma_forest.specs.Summaries.{tree_summary}
use Rattle.ecma_forest.proofs.Keeping.{kept}
use Rattle.ecma_forest.proofs.Places.{extends-on, node-extends}
use Rattle.ecma_forest.proofs.Smaller.{child-smaller}
use Rattle.ecma_forest.proofs.Rest.{front-item, rewritten-all}
use Rattle.ecma_forest.proofs.rewriting.+rewrite.Goals as goal

pub returns-then-not-works_at-clause-ok : goal.returns-then-not-works_at-clause-ok
returns-then-not-works_at-clause-ok g t c =
    let asks = g.R.Rule.works_at c.args.rule.now in
    let none : asks (tree_summary (node c.args.forest.now c.args.at)) ≡ false = ap asks (sym c.summary.ensures) ∙ sym c.works_at.ensures ∙ c.if-not-works_at.true in
    rw (kept asks (g.met.R.Rule.joins c.args.rule.now) (g.R.Rule.rule c.args.rule.now) (g.met.R.Rule.others_stay c.args.rule.now) (node c.args.forest.now c.args.at) none) c.in_ok-keep.ensures.ok

pub rewrite-requires : goal.rewrite-requires
rewrite-requires g t c κs within =
    let stays : node c.loop-i.forest c.args.at ≡ node c.args.forest.now c.args.at = node-extends c.args.forest.now c.loop-i.forest c.args.at c.loop-i.invariant.0 c.requires in
    let smaller : size-Node (node c.loop-i.forest c.child-child.result) < size-Node (node c.args.forest.now c.args.at) =
    subst (λ n. size-Node (node c.loop-i.forest c.child-child.result) < size-Node n) stays
    (child-smaller (node c.loop-i.forest c.args.at) (node c.loop-i.forest c.child-child.result) c.loop-i.i c.child-child.ensures.node) in
    (omega arith, (within, c.child-child.ensures.within))

pub loop-i-preserved : goal.loop-i-preserved
loop-i-preserved g t c =
    let rule = g.R.Rule.rule c.args.rule.now in
    let stays : node c.loop-i.forest c.args.at ≡ node c.args.forest.now c.args.at = node-extends c.args.forest.now c.loop-i.forest c.args.at c.loop-i.invariant.0 c.requires in
    let item : slice_get (out-Node (node c.args.forest.now c.args.at)).children c.loop-i.i ≡ Some (node c.loop-i.forest c.child-child.result) =
    subst (λ n. slice_get (out-Node n).children c.loop-i.i ≡ Some (node c.loop-i.forest c.child-child.result)) stays c.child-child.ensures.node in (
      extends-on c.args.forest.now.below c.loop-i.forest.below c.rewrite.new.forest.below c.loop-i.invariant.0 c.rewrite.ensures.more,
      c.in_default.ensures.ok
          ∙ front-item rule (node c.args.forest.now c.args.at) (node c.loop-i.forest c.child-child.result) c.args.forest.now.roots c.loop-i.forest.roots c.loop-i.i item c.loop-i.invariant.1,
    )

pub returns-clause-ok : goal.returns-clause-ok
returns-clause-ok g t c =
    let rule = g.R.Rule.rule c.args.rule.now in
    let stays : node c.loop-i.forest c.args.at ≡ node c.args.forest.now c.args.at = node-extends c.args.forest.now c.loop-i.forest c.args.at c.loop-i.invariant.0 c.requires in
    let all : length (out-Node (node c.args.forest.now c.args.at)).children ≤ c.loop-i.i = omega arith in
    c.in_default-apply.ensures.ok
    ∙ ap (λ n. take c.len-start.result c.loop-i.forest.roots ++ rule (out-Node n).span (out-Node n).kind (drop c.len-start.result c.loop-i.forest.roots)) stays
    ∙ ap (λ k. take k c.loop-i.forest.roots ++ rule (out-Node (node c.args.forest.now c.args.at)).span (out-Node (node c.args.forest.now c.args.at)).kind (drop k c.loop-i.forest.roots)) c.len-start.ensures
    ∙ rewritten-all rule (node c.args.forest.now c.args.at) c.args.forest.now.roots c.loop-i.forest.roots c.loop-i.i c.loop-i.invariant.1 all
