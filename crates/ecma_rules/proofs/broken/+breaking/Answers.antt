use Rattle.std.proofs.Common.{◌≡◌, ◌∙◌, ◌+◌, Option, ℕ, length, ap, sym, arith}
use Rattle.ecma_tree.specs.declared.node.Node.{out-Node}
use Rattle.ecma_tree.proofs.Weights.{weight-child}
use Rattle.ecma_rules.specs.Children.{kind_of}
use Rattle.ecma_rules.specs.Failing.{least}
use Rattle.ecma_rules.specs.Walks.{first_broken_in, holds_strays, unasked}
use Rattle.ecma_rules.proofs.Together.{broken-all, broken-first, broken-next, rest_broken, seeks-below-unheld, unwatched-broken-first}
use Rattle.ecma_rules.proofs.Unasked.{stays-unasked, unwatched-holds-none}
use Rattle.ecma_rules.proofs.broken.+breaking.Goals as goal

pub first_broken_in-loop-i-init : goal.first_broken_in-loop-i-init
first_broken_in-loop-i-init t c =
    ap (λ (z : Option ℕ). least z (rest_broken c.seeks_strays_below-strays_below.result c.args.around c.args.node.now 0)) c.least-found.ensures
    ∙ broken-first c.args.with_strays c.seeks_strays_below-strays_below.result c.args.around c.args.node.now c.misplaced_here-misplaced.result c.stray_in_holder-stray.result
    c.misplaced_here-misplaced.ensures c.stray_in_holder-stray.ensures c.seeks_strays_below-strays_below.ensures

pub first_broken_in-first_broken_around-below-requires :
    goal.first_broken_in-first_broken_around-below-requires
first_broken_in-first_broken_around-below-requires t c =
    let smaller = weight-child c.args.node.now c.at.result.now c.loop-i.i c.at.ensures in
    (omega arith, tt)

pub first_broken_in-loop-i-preserved : goal.first_broken_in-loop-i-preserved
first_broken_in-loop-i-preserved t c =
    ap (λ (z : Option ℕ). least z (rest_broken c.seeks_strays_below-strays_below.result c.args.around c.args.node.now (c.loop-i.i + 1))) c.least-found-in-loop-i.ensures
    ∙ broken-next c.seeks_strays_below-strays_below.result c.args.around c.args.node.now c.loop-i.found c.first_broken_around-below.result
    (first_broken_in c.args.with_strays c.args.node.now c.args.around) c.loop-i.i c.at.result.now
    (seeks-below-unheld c.args.with_strays (holds_strays (kind_of c.args.node.now)) c.seeks_strays_below-strays_below.result c.seeks_strays_below-strays_below.ensures) c.at.ensures
    (c.first_broken_around-below.ensures ∙ ap (first_broken_in c.seeks_strays_below-strays_below.result c.at.result.now) c.around_in-inside.ensures) c.loop-i.invariant

pub first_broken_in-returns : goal.first_broken_in-returns
first_broken_in-returns t c =
    let all : length (out-Node c.args.node.now).children ≡ c.loop-i.i = omega arith in
    broken-all c.seeks_strays_below-strays_below.result c.args.around c.args.node.now c.loop-i.found (first_broken_in c.args.with_strays c.args.node.now c.args.around) c.loop-i.i all c.loop-i.invariant

pub first_broken_freely-loop-i-init : goal.first_broken_freely-loop-i-init
first_broken_freely-loop-i-init t c =
    unwatched-broken-first c.args.with_strays c.args.is_last c.args.node.now (sym c.is_watched.ensures ∙ c.if-is_watched.false)

pub first_broken_freely-first_broken_freely-below-requires :
    goal.first_broken_freely-first_broken_freely-below-requires
first_broken_freely-first_broken_freely-below-requires t c =
    let smaller = weight-child c.args.node.now c.at.result.now c.loop-i.i c.at.ensures in
    (omega arith, tt)

pub first_broken_freely-loop-i-preserved :
    goal.first_broken_freely-loop-i-preserved
first_broken_freely-loop-i-preserved t c =
    let unwatched = sym c.is_watched.ensures ∙ c.if-is_watched.false in
    ap (λ (z : Option ℕ). least z (rest_broken c.args.with_strays (unasked c.args.is_last) c.args.node.now (c.loop-i.i + 1))) c.least-found.ensures
    ∙ broken-next c.args.with_strays (unasked c.args.is_last) c.args.node.now c.loop-i.found c.first_broken_freely-below.result
    (first_broken_in c.args.with_strays c.args.node.now (unasked c.args.is_last)) c.loop-i.i c.at.result.now
    (λ seeks. unwatched-holds-none (kind_of c.args.node.now) unwatched) c.at.ensures
    (c.first_broken_freely-below.ensures ∙ ap (λ b. first_broken_in c.args.with_strays c.at.result.now (unasked b)) c.last_in-last.ensures
    ∙ ap (first_broken_in c.args.with_strays c.at.result.now) (sym (stays-unasked c.args.is_last c.args.node.now c.loop-i.i unwatched))) c.loop-i.invariant

pub first_broken_freely-returns : goal.first_broken_freely-returns
first_broken_freely-returns t c =
    let all : length (out-Node c.args.node.now).children ≡ c.loop-i.i = omega arith in
    broken-all c.args.with_strays (unasked c.args.is_last) c.args.node.now c.loop-i.found (first_broken_in c.args.with_strays c.args.node.now (unasked c.args.is_last)) c.loop-i.i all c.loop-i.invariant
