use Rattle.std.proofs.Common.{◌∙◌, sym, refl, arith, ◌≤◌}
use Rattle.std.specs.Char.{digit_value}
use Rattle.ecma_number.proofs.Readings.{more-digit, more-separator, more-stops, more-end}
use Rattle.ecma_number.proofs.numerals.more_digits.Goals as goal
use Rattle.ecma_number.proofs.numerals.more_digits.Goals.{in-Some, in-None+else-not-is_separator}

pub returns-then-not-is_separator-clause-read : goal.returns-then-not-is_separator-clause-read
returns-then-not-is_separator-clause-read c = λ exact holds.
    let h = c.loop-end.invariant.read exact holds in
    let above : c.args.radix ≤ digit_value c.from.result = omega (arith, c.in-None.ensures.value) in
    let e = h.2 ∙ more-stops c.args.form c.args.radix h.0 c.args.text.now c.loop-end.end c.from.result c.loop-end-test.true c.from.ensures above (sym c.if-not-is_separator.ensures) in
    rw e (h.1, refl, c.loop-end.invariant.within)

pub returns-clause-read : goal.returns-clause-read
returns-clause-read c = λ exact holds.
    let h = c.loop-end.invariant.read exact holds in
    let e = h.2 ∙ more-end c.args.form c.args.radix h.0 c.args.text.now c.loop-end.end c.loop-end-test.false in
    rw e (h.1, refl, c.loop-end.invariant.within)

pub loop-end-preserved : goal.loop-end-preserved
loop-end-preserved c = elim c.match-to_digit.branch [
  | in-Some w ↦
      let read = w.in-Some.ensures.value in
      rw w.run-is
      (record {
        within = omega arith;
        short = omega arith;
        read = λ exact holds.
            (let h = c.loop-end.invariant.read exact holds in
            (_, w.with-run.ensures.value h.0 h.1, h.2 ∙ more-digit c.args.form c.args.radix h.0 c.args.text.now c.loop-end.end c.from.result _ c.loop-end-test.true c.from.ensures read.0 read.1));
      })
  | in-None+else-not-is_separator w ↦
      let above : c.args.radix ≤ digit_value c.from.result = omega (arith, w.in-None.ensures.value) in
      rw w.run-is
      (record {
        within = omega arith;
        short = omega arith;
        read = λ exact holds.
            (let h = c.loop-end.invariant.read exact holds in
            (h.0, h.1, h.2 ∙ more-separator c.args.form c.args.radix h.0 c.args.text.now c.loop-end.end c.from.result c.loop-end-test.true c.from.ensures above (sym w.if-not-is_separator.ensures)));
      })
]
