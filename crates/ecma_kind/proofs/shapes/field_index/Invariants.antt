use Rattle.ecma_kind.specs.Shapes.{LacksBefore}
use Rattle.ecma_kind.proofs.shapes.field_index.Given as goal

-- no child before i has this name
abbrev pub invariant-loop-i : goal.invariant-loop-i
invariant-loop-i l = LacksBefore l.i l.field l.kind
