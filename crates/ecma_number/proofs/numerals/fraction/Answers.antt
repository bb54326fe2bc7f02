use Rattle.std.proofs.Common.{◌≡◌, sym, refl, ℕ, ◌+◌, ◌*◌, ◌^◌, drop, arith}
use Rattle.ecma_number.specs.Numeral.{code_point, digits, maybe, more_digits, no_digits, point_and_digits}
use Rattle.ecma_number.proofs.DigitRuns.{holds_mantissa, holds_whole}
use Rattle.ecma_number.proofs.Readings.{begins_within, behind_none, behind_read, more-from}
use Rattle.ecma_number.proofs.numerals.fraction.Goals as goal

whole_alone : (mv : ℕ) → mv * 10 ^ 0 + 0 ≡ mv
whole_alone mv = omega arith

pub returns-then-not-stands-clause-read : goal.returns-then-not-stands-clause-read
unfolding point_and_digits
returns-then-not-stands-clause-read c = λ exact holds.
    let none = behind_none (code_point 46) (maybe no_digits (digits c.args.form 10)) (drop c.args.at c.args.text.now) (sym c.if-not-stands.ensures) in
    let alone = whole_alone exact.mv in
    rw none ((let h = holds_whole c.args.whole exact holds in holds_mantissa (record { size = c.args.whole.size; zeros = c.args.whole.zeros; count = 0 }) exact no_digits (rw alone h)), refl, c.requires.within)

pub returns-then-not-digit_stands-clause-read : goal.returns-then-not-digit_stands-clause-read
unfolding point_and_digits digits
returns-then-not-digit_stands-clause-read c = λ exact holds.
    let point = behind_read (code_point 46) (maybe no_digits (digits c.args.form 10)) c.args.text.now c.args.at (sym c.if-not-stands.ensures) in
    let none = sym c.if-not-digit_stands.ensures in
    let alone = whole_alone exact.mv in
    rw (point, none) ((let h = holds_whole c.args.whole exact holds in holds_mantissa (record { size = c.args.whole.size; zeros = c.args.whole.zeros; count = 0 }) exact no_digits (rw alone h)), refl, begins_within (code_point 46) c.args.text.now c.args.at (sym c.if-not-stands.ensures))

pub returns-clause-read : goal.returns-clause-read
unfolding point_and_digits digits
returns-clause-read c = λ exact holds.
    let point = behind_read (code_point 46) (maybe no_digits (digits c.args.form 10)) c.args.text.now c.args.at (sym c.if-not-stands.ensures) in
    let some = sym c.if-not-digit_stands.ensures in
    let from = more-from c.args.form 10 exact.mv (drop (c.args.at + 1) c.args.text.now) in
    let read = rw from at (c.more_digits.ensures.read (record { mv = exact.mv; count = 0 }) (holds_whole c.args.whole exact holds)) in
    rw (point, some) (holds_mantissa c.more_digits.result.0 exact (more_digits c.args.form 10 no_digits (drop (c.args.at + 1) c.args.text.now)).0 read.0, read.1, read.2)
