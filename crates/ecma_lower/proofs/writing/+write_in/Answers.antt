use Rattle.std.proofs.Common.{◌≡◌, ◌∙◌, OnOk, length, sym, ap, subst, arith}
use Rattle.ecma_tree.specs.declared.node.Node.{Node, out-Node}
use Rattle.ecma_tree.proofs.Weights.{weight-child}
use Rattle.ecma_lower.proofs.Fronted.{set-written, write-all, written-at, written-count}
use Rattle.ecma_lower.proofs.Raw.{raw-stays}
use Rattle.ecma_lower.proofs.Singles.{write}
use Rattle.ecma_lower.proofs.writing.+write_in.Goals as goal

pub returns-then-is_raw : goal.returns-then-is_raw
returns-then-is_raw t c = raw-stays c.args.names.now c.args.seat c.args.node.now (sym c.if-is_raw.ensures)

pub get_mut-requires : goal.get_mut-requires
get_mut-requires t c =
    let as_many = written-count c.args.names.now c.args.seat c.args.node.now c.loop-i.node c.loop-i.i c.loop-i.invariant in
    omega arith

pub write_in-requires : goal.write_in-requires
write_in-requires t c =
    let was = written-at c.args.names.now c.args.seat c.args.node.now c.loop-i.node c.loop-i.i c.get_mut.result.now c.loop-i.invariant c.get_mut.ensures.value in
    let smaller = weight-child c.args.node.now c.get_mut.result.now c.loop-i.i was in
    (omega arith, tt)

pub loop-i-preserved : goal.loop-i-preserved
loop-i-preserved t c =
    set-written c.args.names.now c.args.seat c.args.node.now c.loop-i.node c.loop-i.i c.get_mut.result.now c.write_in.new.node c.loop-i.invariant c.get_mut.ensures.value
    (c.in_ok-write_in.ensures {u = tt} ∙ ap (λ s. write c.args.names.now s c.get_mut.result.now) c.seat_in-inside.ensures)

pub returns : goal.returns
returns t c =
    let all : length (out-Node c.args.node.now).children ≡ c.loop-i.i = omega arith in
    subst (λ (n : Node). OnOk c.write_here.result (c.write_here.new.node ≡ n))
    (write-all c.args.names.now c.args.seat c.args.node.now c.loop-i.node c.loop-i.i c.requires_module-required.result (sym c.if-is_raw.ensures) c.loop-i.invariant all c.requires_module-required.ensures)
    c.write_here.ensures
