use Rattle.std.proofs.Common.{◌≡◌, ◌∙◌, Option, true, false, length, sym, ap, arith}
use Rattle.ecma_tree.specs.declared.node.Node.{out-Node}
use Rattle.ecma_find.specs.declared.finder.Place.{Place}
use Rattle.ecma_find.specs.Finders.{rules_of}
use Rattle.ecma_find.specs.Found.{finds_within}
use Rattle.ecma_find.proofs.Finding.{finds_in-first, finds_in-here, finds_in-next, finds_in-none}
use Rattle.ecma_find.proofs.search.+finds_in.Goals as goal

pub returns-then-is_listed : goal.returns-then-is_listed
returns-then-is_listed t c =
    sym (ap (λ (o : Option Place). finds_within (rules_of c.args.finder) o c.args.node.now) c.in-Some.is
    ∙ finds_in-here (rules_of c.args.finder) c.in-Some.place c.args.node.now (sym c.is_listed.ensures ∙ c.if-is_listed.true))

pub loop-i-init : goal.loop-i-init
loop-i-init t c = finds_in-first (rules_of c.args.finder) c.in-Some.place c.args.node.now (sym c.is_listed.ensures ∙ c.if-is_listed.false)

pub returns-then-finds_in : goal.returns-then-finds_in
returns-then-finds_in t c =
    sym (ap (λ (o : Option Place). finds_within (rules_of c.args.finder) o c.args.node.now) c.in-Some.is ∙ c.loop-i.invariant
    ∙ finds_in-next (rules_of c.args.finder) c.in-Some.place c.args.node.now true c.loop-i.i c.at.result.now c.at.ensures
    (ap (λ (o : Option Place). finds_within (rules_of c.args.finder) o c.at.result.now) (sym c.place_at.ensures)
    ∙ sym c.finds_in.ensures ∙ c.if-finds_in.true))

pub loop-i-preserved : goal.loop-i-preserved
loop-i-preserved t c =
    c.loop-i.invariant
    ∙ finds_in-next (rules_of c.args.finder) c.in-Some.place c.args.node.now false c.loop-i.i c.at.result.now c.at.ensures
    (ap (λ (o : Option Place). finds_within (rules_of c.args.finder) o c.at.result.now) (sym c.place_at.ensures)
    ∙ sym c.finds_in.ensures ∙ c.if-finds_in.false)

pub returns : goal.returns
returns t c =
    let all : length (out-Node c.args.node.now).children ≡ c.loop-i.i = omega arith in
    sym (ap (λ (o : Option Place). finds_within (rules_of c.args.finder) o c.args.node.now) c.in-Some.is ∙ c.loop-i.invariant
    ∙ finds_in-none (rules_of c.args.finder) c.in-Some.place c.args.node.now c.loop-i.i all)
