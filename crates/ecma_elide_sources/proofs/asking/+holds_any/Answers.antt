use Rattle.std.proofs.Common.{◌∙◌, sym, refl}
use Rattle.ecma_tree.specs.Finding.{enters_all}
use Rattle.ecma_tree.proofs.Finding.{finds_in_rest-found, finds_in_rest-missed}
use Rattle.ecma_elide.specs.Laws.{may_go}
use Rattle.ecma_elide_sources.proofs.asking.+holds_any.Goals as goal

pub returns-then-holds_any : goal.returns-then-holds_any
returns-then-holds_any t c =
    sym (c.loop-i.invariant ∙ finds_in_rest-found may_go enters_all c.args.node.now c.loop-i.i c.at.result.now c.at.ensures refl (sym c.holds_any.ensures ∙ c.if-holds_any.true))

pub loop-i-preserved : goal.loop-i-preserved
loop-i-preserved t c =
    c.loop-i.invariant ∙ finds_in_rest-missed may_go enters_all c.args.node.now c.loop-i.i c.at.result.now c.at.ensures (sym c.holds_any.ensures ∙ c.if-holds_any.false)
