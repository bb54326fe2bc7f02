use Rattle.std.proofs.Common.{refl}
use Rattle.ecma_number.proofs.DigitRuns.{Moves, size_none, size_down, size_up}
use Rattle.ecma_number.proofs.numerals.whole_size.Goals as goal
use Rattle.ecma_number.proofs.numerals.whole_size.Goals.{then-exponent, else-exponent}

pub returns-then-run-eq0 : goal.returns-then-run-eq0
returns-then-run-eq0 c = λ value power m e. size_none c.args.run c.args.exponent value power (m, e) c.if-run-eq0.true

pub returns-then-up-down : goal.returns-then-up-down
returns-then-up-down c =
    let moves : Moves c.args.run c.args.exponent c.if-exponent.up = elim c.if-exponent.branch [
      | then-exponent w ↦ (let is = w.up-is in let negative = w.if-exponent.true in rw (is, negative) (refl, w.saturating_add.ensures))
      | else-exponent w ↦ (let is = w.up-is in let negative = w.if-exponent.false in rw (is, negative) (w.saturating_add-else-exponent.ensures, refl))
    ] in
    λ value power m e. size_down c.args.run c.args.exponent value power c.if-exponent.up (m, e) c.if-run-eq0.false c.requires.zeros c.requires.count moves c.if-up-down.true

pub returns : goal.returns
returns c =
    let moves : Moves c.args.run c.args.exponent c.if-exponent.up = elim c.if-exponent.branch [
      | then-exponent w ↦ (let is = w.up-is in let negative = w.if-exponent.true in rw (is, negative) (refl, w.saturating_add.ensures))
      | else-exponent w ↦ (let is = w.up-is in let negative = w.if-exponent.false in rw (is, negative) (w.saturating_add-else-exponent.ensures, refl))
    ] in
    let size = c.with_zeros.ensures in
    λ value power m e. rw size (size_up c.args.run c.args.exponent value power c.if-exponent.up (m, e) c.requires.zeros c.requires.count moves c.if-up-down.false)
