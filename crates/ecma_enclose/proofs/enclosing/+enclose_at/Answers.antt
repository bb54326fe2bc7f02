use Rattle.std.proofs.Common.{◌≡◌, ◌∙◌, OnOk, length, sym, ap, subst, arith}
use Rattle.ecma_tree.specs.declared.node.Node.{Node, out-Node}
use Rattle.ecma_tree.proofs.Weights.{weight-child}
use Rattle.ecma_enclose.specs.Enclosing.{enclosed_at, place_in}
use Rattle.ecma_enclose.proofs.Fronted.{enclosed-all, enclosed-alone, enclosed-child, enclosed-count, set-enclosed}
use Rattle.ecma_enclose.proofs.enclosing.+enclose_at.Goals as goal

pub returns-then-is_enclosed : goal.returns-then-is_enclosed
returns-then-is_enclosed t c =
    subst (λ (n : Node). OnOk c.parenthesize.result (c.parenthesize.new.node ≡ n)) (enclosed-alone c.args.node.now c.args.place (sym c.if-is_enclosed.ensures)) c.parenthesize.ensures

pub get_mut-requires : goal.get_mut-requires
get_mut-requires t c =
    let as_many = enclosed-count c.args.place c.args.node.now c.loop-i.node c.loop-i.i c.loop-i.invariant in
    omega arith

pub enclose_at-requires : goal.enclose_at-requires
enclose_at-requires t c =
    let was = enclosed-child c.args.place c.args.node.now c.loop-i.node c.loop-i.i c.get_mut.result.now c.loop-i.invariant c.get_mut.ensures.value in
    let smaller = weight-child c.args.node.now c.get_mut.result.now c.loop-i.i was in
    (omega arith, tt)

pub loop-i-preserved : goal.loop-i-preserved
loop-i-preserved t c =
    set-enclosed c.args.place c.args.node.now c.loop-i.node c.loop-i.i c.get_mut.result.now c.enclose_at.new.node c.loop-i.invariant c.get_mut.ensures.value
    (c.in_ok-enclose_at.ensures {u = tt} ∙ ap (enclosed_at c.get_mut.result.now) (c.place_in-inside.ensures ∙ ap (λ f. place_in c.args.place (out-Node c.loop-i.node).kind f c.loop-i.i) c.first_in-first.ensures))

pub returns : goal.returns
returns t c =
    let all : length (out-Node c.args.node.now).children ≡ c.loop-i.i = omega arith in
    enclosed-all c.args.place c.args.node.now c.loop-i.node c.loop-i.i (sym c.if-is_enclosed.ensures) c.loop-i.invariant all
