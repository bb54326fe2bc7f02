use Rattle.std.proofs.Common.{◌∙◌, Some, sym, ap}
use Rattle.ecma_kind.specs.declared.shapes.Shape.{Shape}
use Rattle.ecma_walks.proofs.Sequences.{seat_at-sequence}
use Rattle.ecma_walks.proofs.seats.seat_at.Goals as goal

pub returns-in-SeqExpr : goal.returns-in-SeqExpr
returns-in-SeqExpr c =
    ap (λ (s : Shape). Some s) c.one.ensures ∙ sym (seat_at-sequence c.args.seat c.args.node.now c.args.index c.in-SeqExpr.is c.requires)
