use Rattle.std.proofs.Common.{◌≡◌, ◌∙◌, OnOk, length, ap, subst, sym, arith}
use Rattle.ecma_tree.specs.declared.node.Node.{Node, out-Node}
use Rattle.ecma_tree.specs.declared.node.Node.TheViews.{roll-out-Node}
use Rattle.ecma_tree.proofs.Weights.{weight-child}
use Rattle.ecma_rules.specs.declared.target.Target.TheVariants as target
use Rattle.ecma_rules.specs.Finishing.{finished_at}
use Rattle.ecma_rules.specs.Walks.{asks_targets}
use Rattle.ecma_rules.proofs.Fronted.{finished-all, finished-at, finished-count, finished-kind, set-finished}
use Rattle.ecma_rules.proofs.Unasked.{stays-free}
use Rattle.ecma_rules.proofs.patterns.+finishing.Goals as goal

pub finish_at-get_mut-requires : goal.finish_at-get_mut-requires
finish_at-get_mut-requires t c =
    let as_many = finished-count c.args.target c.args.node.now c.loop-i.node c.loop-i.i c.loop-i.invariant in
    omega arith

pub finish_at-finish_as-requires : goal.finish_at-finish_as-requires
finish_at-finish_as-requires t c =
    let was = finished-at c.args.target c.args.node.now c.loop-i.node c.loop-i.i c.get_mut.result.now c.loop-i.invariant c.get_mut.ensures.value in
    let smaller = weight-child c.args.node.now c.get_mut.result.now c.loop-i.i was in
    (omega arith, tt)

pub finish_at-loop-i-preserved : goal.finish_at-loop-i-preserved
finish_at-loop-i-preserved t c =
    set-finished c.args.target c.args.node.now c.loop-i.node c.loop-i.i c.get_mut.result.now c.finish_as.new.node c.loop-i.invariant c.get_mut.ensures.value
    (c.in_ok-finish_as.ensures {u = tt} ∙ ap (finished_at c.get_mut.result.now) c.target_in-inside.ensures)

pub finish_at-returns : goal.finish_at-returns
finish_at-returns t c =
    let all : length (out-Node c.args.node.now).children ≡ c.loop-i.i = omega arith in
    subst (λ (n : Node). OnOk c.finish_here.result (c.finish_here.new.node ≡ n))
    (finished-all c.args.target c.args.node.now c.loop-i.node c.loop-i.i c.loop-i.invariant all) c.finish_here.ensures

pub finish_freely-get_mut-requires : goal.finish_freely-get_mut-requires
finish_freely-get_mut-requires t c =
    let as_many = finished-count target.Free c.args.node.now c.loop-i.node c.loop-i.i c.loop-i.invariant in
    omega arith

pub finish_freely-finish_freely-requires : goal.finish_freely-finish_freely-requires
finish_freely-finish_freely-requires t c =
    let was = finished-at target.Free c.args.node.now c.loop-i.node c.loop-i.i c.get_mut.result.now c.loop-i.invariant c.get_mut.ensures.value in
    let smaller = weight-child c.args.node.now c.get_mut.result.now c.loop-i.i was in
    (omega arith, tt)

pub finish_freely-loop-i-preserved : goal.finish_freely-loop-i-preserved
finish_freely-loop-i-preserved t c =
    let free = ap asks_targets (finished-kind target.Free c.args.node.now c.loop-i.node c.loop-i.i c.loop-i.invariant) ∙ sym c.asks_targets.ensures ∙ c.if-asks_targets.false in
    set-finished target.Free c.args.node.now c.loop-i.node c.loop-i.i c.get_mut.result.now c.finish_freely.new.node c.loop-i.invariant c.get_mut.ensures.value
    (c.in_ok-finish_freely.ensures {u = tt} ∙ ap (finished_at c.get_mut.result.now) (sym (stays-free (out-Node c.loop-i.node).kind c.loop-i.i free)))

pub finish_freely-returns : goal.finish_freely-returns
finish_freely-returns t c =
    let all : length (out-Node c.args.node.now).children ≡ c.loop-i.i = omega arith in
    sym (roll-out-Node c.loop-i.node) ∙ finished-all target.Free c.args.node.now c.loop-i.node c.loop-i.i c.loop-i.invariant all
