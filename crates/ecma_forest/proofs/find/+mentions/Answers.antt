use Rattle.std.proofs.Common.{◌∙◌, ◌||◌, sym, refl, ap}
use Rattle.ecma_tree.specs.Finding.{is_ident, enters_all}
use Rattle.ecma_tree.proofs.Finding.{finds_in_rest, finds_in_rest-found, finds_in_rest-missed}
use Rattle.ecma_forest.proofs.Walking.{finds-parts}
use Rattle.ecma_forest.proofs.find.+mentions.Goals as goal

pub returns-then-is_ident_of : goal.returns-then-is_ident_of
returns-then-is_ident_of t c =
    sym (finds-parts (is_ident c.args.sym.now) c.args.tree.now
    ∙ ap (λ b. b || finds_in_rest (is_ident c.args.sym.now) enters_all c.args.tree.now 0) (sym (ap (is_ident c.args.sym.now) c.kind.ensures) ∙ sym c.is_ident_of.ensures ∙ c.if-is_ident_of.true))

pub loop-i-init : goal.loop-i-init
loop-i-init t c =
    finds-parts (is_ident c.args.sym.now) c.args.tree.now
    ∙ ap (λ b. b || finds_in_rest (is_ident c.args.sym.now) enters_all c.args.tree.now 0) (sym (ap (is_ident c.args.sym.now) c.kind.ensures) ∙ sym c.is_ident_of.ensures ∙ c.if-is_ident_of.false)

pub returns-then-mentions : goal.returns-then-mentions
returns-then-mentions t c =
    sym (c.loop-i.invariant ∙ finds_in_rest-found (is_ident c.args.sym.now) enters_all c.args.tree.now c.loop-i.i c.child.result c.child.ensures refl (sym c.mentions.ensures ∙ c.if-mentions.true))

pub loop-i-preserved : goal.loop-i-preserved
loop-i-preserved t c =
    c.loop-i.invariant ∙ finds_in_rest-missed (is_ident c.args.sym.now) enters_all c.args.tree.now c.loop-i.i c.child.result c.child.ensures (sym c.mentions.ensures ∙ c.if-mentions.false)
