use Rattle.std.proofs.Common.{◌≡◌, ◌∙◌, ◌++◌, ℕ, List, ap, length, Option, arith}
use Rattle.ecma_tree.specs.declared.node.Node.{out-Node}
use Rattle.ecma_walks.specs.Listing.{listed_within}
use Rattle.ecma_scope.specs.declared.form.Sought.{Sought}
use Rattle.ecma_elide.specs.DeclaredNames.{values_in}
use Rattle.ecma_elide.proofs.Naming.{values-all, values-first, values-next}
use Rattle.ecma_elide.proofs.declared.+values.Goals as goal

pub push_values-loop-i-init : goal.push_values-loop-i-init
push_values-loop-i-init t c = values-first c.args.sought c.args.node.now c.args.texts.now c.push_value_here.new.texts (c.in_ok-push_value_here.ensures {u = tt})

pub push_values-loop-i-preserved : goal.push_values-loop-i-preserved
push_values-loop-i-preserved t c =
    values-next c.args.sought c.args.node.now c.args.texts.now c.loop-i.texts c.push_values_within.new.texts c.loop-i.i c.at.result.now c.at.ensures c.loop-i.invariant
    (c.in_ok-push_values_within.ensures {u = tt} ∙ ap (λ (s : Option Sought). c.loop-i.texts ++ listed_within Sought (List ℕ) s (values_in c.at.result.now)) c.value_in.ensures)

pub push_values-returns : goal.push_values-returns
push_values-returns t c =
    let all : length (out-Node c.args.node.now).children ≡ c.loop-i.i = omega arith in
    values-all c.args.sought c.args.node.now c.args.texts.now c.loop-i.texts c.loop-i.i all c.loop-i.invariant
