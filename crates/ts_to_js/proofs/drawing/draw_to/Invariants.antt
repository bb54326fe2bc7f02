use Rattle.std.proofs.Common.{◌≡◌, ◌-◌}
use Rattle.ts_to_js.specs.Conversion.{with_left}
use Rattle.ts_to_js.proofs.drawing.draw_to.Given as goal

abbrev pub invariant-loop-i : goal.invariant-loop-i
invariant-loop-i l = l.session ≡ with_left (l.initial.session.left - l._i) l.initial.session
