use Rattle.std.proofs.Common.{◌∙◌, sym, refl}
use Rattle.ecma_tree.specs.Finding.{is_ident, enters_all}
use Rattle.ecma_tree.proofs.Finding.{finds_in_rest-found, finds_in_rest-missed}
use Rattle.ecma_tree.proofs.find.+mentions.Goals as goal

pub returns-then-mentions : goal.returns-then-mentions
returns-then-mentions t c =
    sym (c.loop-i.invariant ∙ finds_in_rest-found (is_ident c.args.sym.now) enters_all c.args.node.now c.loop-i.i c.at.result.now c.at.ensures refl (sym c.mentions.ensures ∙ c.if-mentions.true))

pub loop-i-preserved : goal.loop-i-preserved
loop-i-preserved t c =
    c.loop-i.invariant ∙ finds_in_rest-missed (is_ident c.args.sym.now) enters_all c.args.node.now c.loop-i.i c.at.result.now c.at.ensures (sym c.mentions.ensures ∙ c.if-mentions.false)
