use Rattle.std.proofs.Common.{◌≡◌, ◌∙◌, ◌+◌, Bool, Option, ℕ, length, ap, arith}
use Rattle.ecma_tree.specs.declared.node.Node.{out-Node}
use Rattle.ecma_tree.proofs.Weights.{weight-child}
use Rattle.ecma_rules.specs.Failing.{failing_here, least}
use Rattle.ecma_rules.specs.Frames.{held_of, labels_of}
use Rattle.ecma_rules.specs.Jumps.{Held, first_held_stray, held_behind, held_in, stray_here}
use Rattle.ecma_rules.proofs.Failures.{failing-all, failing-first, failing-next, rest_failing}
use Rattle.ecma_rules.proofs.jumps.+straying.Goals as goal

pub first_held_stray-loop-i-init : goal.first_held_stray-loop-i-init
first_held_stray-loop-i-init t c =
    failing-first Held stray_here held_in (held_of c.args.strays c.args.labels.now) c.args.node.now c.failing_here-found.result
    (c.failing_here-found.ensures ∙ ap (λ (b : Bool). failing_here b c.args.node.now) c.is_held_stray.ensures)

pub first_held_stray-first_stray_behind-below-requires :
    goal.first_held_stray-first_stray_behind-below-requires
first_held_stray-first_stray_behind-below-requires t c =
    let smaller = weight-child c.args.node.now c.at.result.now c.loop-i.i c.at.ensures in
    (omega arith, tt)

pub first_held_stray-loop-i-preserved : goal.first_held_stray-loop-i-preserved
first_held_stray-loop-i-preserved t c =
    let around : Held = held_of c.args.strays c.args.labels.now in
    let inside : held_behind c.strays_in-inside.result c.ends_jumps-ends.result _ (labels_of c.args.labels.now) ≡ held_in around c.args.node.now c.loop-i.i =
    (λ j. held_behind (c.strays_in-inside.ensures j) (c.ends_jumps-ends.ensures j) (c.own_label-label.ensures j) (labels_of c.args.labels.now)) in
    ap (λ (z : Option ℕ). least z (rest_failing Held stray_here held_in around c.args.node.now (c.loop-i.i + 1))) c.least-found.ensures
    ∙ failing-next Held stray_here held_in around c.args.node.now c.loop-i.found c.first_stray_behind-below.result c.loop-i.i c.at.result.now c.at.ensures
    (c.first_stray_behind-below.ensures ∙ ap (first_held_stray c.at.result.now) inside) c.loop-i.invariant

pub first_held_stray-returns : goal.first_held_stray-returns
first_held_stray-returns t c =
    let all : length (out-Node c.args.node.now).children ≡ c.loop-i.i = omega arith in
    failing-all Held stray_here held_in (held_of c.args.strays c.args.labels.now) c.args.node.now c.loop-i.found c.loop-i.i all c.loop-i.invariant
