use Rattle.std.proofs.Common.{◌∙◌, sym}
use Rattle.ecma_kind.proofs.Fields.{field-read, found, other, lacks-more}
use Rattle.ecma_kind.proofs.shapes.field_index.Goals as goal

pub returns-then-eq-clause-some : goal.returns-then-eq-clause-some
returns-then-eq-clause-some c = (
  field-read c.args.kind.now c.field_shapes-children.result.now c.loop-i.i _ c.field_shapes-children.ensures c.loop-i-test.true ∙ found _ c.args.field (sym c.eq.ensures ∙ c.if-eq.true),
  c.loop-i.invariant,
)

pub loop-i-preserved : goal.loop-i-preserved
loop-i-preserved c =
    lacks-more c.loop-i.i c.args.field c.args.kind.now c.loop-i.invariant (λ has.
    other _ c.args.field (sym c.eq.ensures ∙ c.if-eq.false) (sym (field-read c.args.kind.now c.field_shapes-children.result.now c.loop-i.i _ c.field_shapes-children.ensures c.loop-i-test.true) ∙ has))
