use Rattle.std.proofs.Common.{◌≡◌, ◌∙◌, OnOk, length, sym, ap, subst, arith}
use Rattle.ecma_tree.specs.declared.node.Node.{Node, out-Node}
use Rattle.ecma_tree.proofs.Weights.{weight-child}
use Rattle.ecma_bind.specs.Binding.{bound_at}
use Rattle.ecma_bind.proofs.Fronted.{bound-all, bound-at, bound-count, bound-typed, set-bound}
use Rattle.ecma_bind.proofs.binding.+bind_at.Goals as goal

pub returns-then-is_typed_name : goal.returns-then-is_typed_name
returns-then-is_typed_name t c =
    subst (λ (n : Node). OnOk c.bind.result (c.bind.new.node ≡ n)) (bound-typed c.args.node.now c.args.role (sym c.if-is_typed_name.ensures)) c.bind.ensures

pub get_mut-requires : goal.get_mut-requires
get_mut-requires t c =
    let as_many = bound-count c.args.role c.args.node.now c.loop-i.node c.loop-i.i c.loop-i.invariant in
    omega arith

pub bind_at-requires : goal.bind_at-requires
bind_at-requires t c =
    let was = bound-at c.args.role c.args.node.now c.loop-i.node c.loop-i.i c.get_mut.result.now c.loop-i.invariant c.get_mut.ensures.value in
    let smaller = weight-child c.args.node.now c.get_mut.result.now c.loop-i.i was in
    (omega arith, tt)

pub loop-i-preserved : goal.loop-i-preserved
loop-i-preserved t c =
    set-bound c.args.role c.args.node.now c.loop-i.node c.loop-i.i c.get_mut.result.now c.bind_at.new.node c.loop-i.invariant c.get_mut.ensures.value
    (c.in_ok-bind_at.ensures {u = tt} ∙ ap (bound_at c.get_mut.result.now) c.role_in-inside.ensures)

pub returns : goal.returns
returns t c =
    let all : length (out-Node c.args.node.now).children ≡ c.loop-i.i = omega arith in
    bound-all c.args.role c.args.node.now c.loop-i.node c.loop-i.i (sym c.if-is_typed_name.ensures) c.loop-i.invariant all
