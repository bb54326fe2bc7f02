use Rattle.std.proofs.Common.{◌≡◌, ◌∙◌, ◌+◌, Option, None, ℕ, length, ap, sym, arith}
use Rattle.ecma_tree.specs.declared.node.Node.{out-Node}
use Rattle.ecma_tree.proofs.Weights.{weight-child}
use Rattle.ecma_rules.specs.Failing.{least}
use Rattle.ecma_rules.specs.Jumps.{Held, held_in, not_held, stray_here}
use Rattle.ecma_rules.proofs.Failures.{failing-all, failing-first, failing-next, rest_failing}
use Rattle.ecma_rules.proofs.Unheld.{child-stray-first, not-held-tells-none}
use Rattle.ecma_rules.proofs.jumps.+first_stray.Goals as goal

pub loop-i-init : goal.loop-i-init
loop-i-init t c = failing-first Held stray_here held_in not_held c.args.tree.now None (not-held-tells-none c.args.tree.now)

pub first_stray-requires : goal.first_stray-requires
first_stray-requires t c =
    let smaller = weight-child c.args.tree.now c.at.result.now c.loop-i.i c.at.ensures in
    (omega arith, tt)

pub loop-i-preserved : goal.loop-i-preserved
loop-i-preserved t c =
    ap (λ (z : Option ℕ). least z (rest_failing Held stray_here held_in not_held c.args.tree.now (c.loop-i.i + 1))) c.least-found.ensures
    ∙ failing-next Held stray_here held_in not_held c.args.tree.now c.loop-i.found c.first_stray.result c.loop-i.i c.at.result.now c.at.ensures
    (c.first_stray.ensures ∙ child-stray-first c.args.tree.now c.at.result.now c.loop-i.i (sym c.holds_strays.ensures ∙ c.if-holds_strays.false)) c.loop-i.invariant

pub returns : goal.returns
returns t c =
    let all : length (out-Node c.args.tree.now).children ≡ c.loop-i.i = omega arith in
    failing-all Held stray_here held_in not_held c.args.tree.now c.loop-i.found c.loop-i.i all c.loop-i.invariant
