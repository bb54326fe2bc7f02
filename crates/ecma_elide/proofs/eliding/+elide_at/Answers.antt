use Rattle.std.proofs.Common.{◌≡◌, ◌∙◌, length, sym, ap, arith}
use Rattle.ecma_tree.specs.declared.node.Node.{out-Node}
use Rattle.ecma_elide.specs.Elision.{seat_in}
use Rattle.ecma_elide.specs.Sets.{known_by}
use Rattle.ecma_elide.proofs.Equations.{gone-result, result}
use Rattle.ecma_elide.proofs.Fronted.{front-all, front-child, front-count, left, set-front}
use Rattle.ecma_elide.proofs.Smaller.{remaining-smaller}
use Rattle.ecma_elide.proofs.eliding.+elide_at.Goals as goal

pub returns-then-goes : goal.returns-then-goes
returns-then-goes t c = c.absent.ensures ∙ gone-result (known_by c.args.names.now) c.args.seat c.args.node.now (sym c.if-goes.ensures)

pub get_mut-requires : goal.get_mut-requires
get_mut-requires t c =
    let as_many = front-count (known_by c.args.names.now) c.args.seat c.args.node.now c.loop-i.node c.loop-i.i c.loop-i.invariant in
    let start = front-count (known_by c.args.names.now) c.args.seat c.args.node.now c.drop_from_list.new.node 0 c.drop_from_list.ensures in
    omega arith

pub elide_at-requires : goal.elide_at-requires
elide_at-requires t c =
    let was = front-child (known_by c.args.names.now) c.args.seat c.args.node.now c.loop-i.node c.loop-i.i c.get_mut.result.now c.loop-i.invariant c.get_mut.ensures.value in
    let smaller = remaining-smaller (known_by c.args.names.now) c.args.seat c.args.node.now c.get_mut.result.now c.loop-i.i was in
    (omega arith, tt)

pub loop-i-preserved : goal.loop-i-preserved
loop-i-preserved t c =
    set-front (known_by c.args.names.now) c.args.seat c.args.node.now c.loop-i.node c.loop-i.i c.get_mut.result.now c.elide_at.new.node c.loop-i.invariant c.get_mut.ensures.value
    (c.elide_at.ensures
    ∙ ap (λ s. result (known_by c.args.names.now) s c.get_mut.result.now)
    (c.seat_in-inside.ensures ∙ ap (λ b. seat_in c.args.seat (out-Node c.loop-i.node).kind b c.loop-i.i) c.is_there-sourced.ensures))

pub returns : goal.returns
returns t c =
    let start = front-count (known_by c.args.names.now) c.args.seat c.args.node.now c.drop_from_list.new.node 0 c.drop_from_list.ensures in
    let all : length (left (known_by c.args.names.now) c.args.seat c.args.node.now) ≡ c.loop-i.i = omega arith in
    front-all (known_by c.args.names.now) c.args.seat c.args.node.now c.loop-i.node c.loop-i.i (sym c.if-goes.ensures) c.loop-i.invariant all
