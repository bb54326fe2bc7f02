use Rattle.std.proofs.Common.{◌≡◌, ◌∙◌, ◌+◌, Bool, List, [], ℕ, Option, map, length, ap, ap₂, sym, arith}
use Rattle.ecma_tree.specs.declared.node.Node.{out-Node}
use Rattle.ecma_tree.proofs.Weights.{weight-child}
use Rattle.ecma_scope.specs.declared.clash.Clash.{Clash}
use Rattle.ecma_scope.specs.declared.form.Declaration.{Declaration}
use Rattle.ecma_scope.specs.declared.form.Located.{Located}
use Rattle.ecma_scope.specs.declared.role.Role.{Role}
use Rattle.ecma_scope.specs.Declarations.{stated}
use Rattle.ecma_scope.specs.Indexed.{states_of}
use Rattle.ecma_scope.specs.Conflicts.{Surrounding, child_surrounding, chosen, surrounding}
use Rattle.ecma_scope.specs.Located.{declarations_of, located_meeting}
use Rattle.ecma_scope.specs.Clashes.{clashes_among, clashes_at, clashes_below, first_clash, sooner}
use Rattle.ecma_scope.proofs.Clashing.{clashes_at-plain, clashes_from, clashes_from-all, first_from-next, plain_surrounding}
use Rattle.ecma_scope.proofs.Around.{clashes_at-opens-bodies}
use Rattle.ecma_scope.proofs.Locating.{names-alike}
use Rattle.ecma_scope.proofs.Offsets.{first-append, sooner-none, sooner_assoc}
use Rattle.ecma_scope.proofs.conflicts.+checking.Goals as goal

pub first_below-first_in-requires : goal.first_below-first_in-requires
first_below-first_in-requires t c =
    let smaller = weight-child c.args.node.now c.at.result.now c.loop-i.i c.at.ensures in
    (omega arith, tt)

pub first_below-loop-i-preserved : goal.first_below-loop-i-preserved
first_below-loop-i-preserved t c =
    let inner : c.chosen-inner.result.now ≡ chosen _ c.args.own.now c.args.around.now = c.chosen-inner.ensures ∙ ap (λ (b : Bool). chosen b c.args.own.now c.args.around.now) c.covers.ensures in
    let place : surrounding c.role_in.result c.chosen-inner.result.now ≡ child_surrounding c.args.role c.args.own.now c.args.around.now c.args.node.now c.loop-i.i =
    (λ j. surrounding (c.role_in.ensures j) (inner j)) in
    let places : ℕ → Surrounding = child_surrounding c.args.role c.args.own.now c.args.around.now c.args.node.now in
    let found : c.in_ok-clash.clash ≡ first_clash (clashes_at c.at.result.now (places c.loop-i.i)) =
    c.in_ok-clash.ensures {u = tt} ∙ ap (λ (s : Surrounding). first_clash (clashes_at c.at.result.now s)) place in
    let rest : Option Clash = first_clash (clashes_from places (out-Node c.args.node.now).children (c.loop-i.i + 1)) in
    c.loop-i.invariant
    ∙ ap (sooner c.loop-i.first) (first_from-next places (out-Node c.args.node.now).children c.loop-i.i c.at.result.now c.in_ok-clash.clash c.at.ensures found)
    ∙ sym (sooner_assoc c.loop-i.first c.in_ok-clash.clash rest)
    ∙ ap (λ (f : Option Clash). sooner f rest) (sym c.sooner-first.ensures)

pub first_below-returns : goal.first_below-returns
first_below-returns t c =
    let all : length (out-Node c.args.node.now).children ≡ c.loop-i.i = omega arith in
    let places : ℕ → Surrounding = child_surrounding c.args.role c.args.own.now c.args.around.now c.args.node.now in
    sym (c.loop-i.invariant ∙ ap (λ cs. sooner c.loop-i.first (first_clash cs)) (clashes_from-all places (out-Node c.args.node.now).children c.loop-i.i all) ∙ sooner-none c.loop-i.first)

pub first_in_plain-first_in-requires : goal.first_in_plain-first_in-requires
first_in_plain-first_in-requires t c =
    let smaller = weight-child c.args.node.now c.at.result.now c.loop-i.i c.at.ensures in
    (omega arith, tt)

pub first_in_plain-loop-i-init : goal.first_in_plain-loop-i-init
first_in_plain-loop-i-init t c = ap first_clash (clashes_at-plain c.args.node.now c.args.role c.args.around.now c.requires)

pub first_in_plain-loop-i-preserved : goal.first_in_plain-loop-i-preserved
first_in_plain-loop-i-preserved t c =
    let places : ℕ → Surrounding = plain_surrounding c.args.role c.args.around.now c.args.node.now in
    let found : c.in_ok-clash.clash ≡ first_clash (clashes_at c.at.result.now (places c.loop-i.i)) =
    c.in_ok-clash.ensures {u = tt} ∙ ap (λ (r : Role). first_clash (clashes_at c.at.result.now (surrounding r c.args.around.now))) c.role_in.ensures in
    let rest : Option Clash = first_clash (clashes_from places (out-Node c.args.node.now).children (c.loop-i.i + 1)) in
    c.loop-i.invariant
    ∙ ap (sooner c.loop-i.first) (first_from-next places (out-Node c.args.node.now).children c.loop-i.i c.at.result.now c.in_ok-clash.clash c.at.ensures found)
    ∙ sym (sooner_assoc c.loop-i.first c.in_ok-clash.clash rest)
    ∙ ap (λ (f : Option Clash). sooner f rest) (sym c.sooner-first.ensures)

pub first_in_plain-returns : goal.first_in_plain-returns
first_in_plain-returns t c =
    let all : length (out-Node c.args.node.now).children ≡ c.loop-i.i = omega arith in
    let places : ℕ → Surrounding = plain_surrounding c.args.role c.args.around.now c.args.node.now in
    sym (c.loop-i.invariant ∙ ap (λ cs. sooner c.loop-i.first (first_clash cs)) (clashes_from-all places (out-Node c.args.node.now).children c.loop-i.i all) ∙ sooner-none c.loop-i.first)

pub first_in_scope-returns : goal.first_in_scope-returns
first_in_scope-returns t c =
    let around : List ℕ → _ = states_of c.args.around.now in
    let places : ℕ → Surrounding = child_surrounding c.args.role c.in_ok-index.index c.args.around.now c.args.node.now in
    let below : List Clash = clashes_below places 0 (map clashes_at (out-Node c.args.node.now).children) in
    let meet : c.in_ok-names.names ≡ located_meeting c.args.role around c.args.node.now = c.in_ok-names.ensures {u = tt} in
    let own : declarations_of c.in_ok-own.own ≡ _ = ap declarations_of (c.in_ok-own.ensures {u = tt}) ∙ names-alike c.args.role around c.args.node.now in
    c.sooner.ensures
    ∙ ap₂ sooner (c.in_ok-here.ensures {u = tt} ∙ ap (λ (ls : List Located). first_clash (clashes_among c.args.role around [] ls)) meet) (c.in_ok-below.ensures {u = tt})
    ∙ sym (first-append (clashes_among c.args.role around [] (located_meeting c.args.role around c.args.node.now)) below)
    ∙ ap first_clash (sym (clashes_at-opens-bodies c.args.node.now c.args.role c.in_ok-index.index c.args.around.now c.requires
    (λ may text. c.in_ok-index.ensures {u = tt} may text ∙ ap (λ (ds : List Declaration). stated ds text) own)))
