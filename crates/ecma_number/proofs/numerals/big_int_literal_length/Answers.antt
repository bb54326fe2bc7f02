use Rattle.std.proofs.Common.{sym, ap, refl, ◌≡◌, ◌+◌, ◌≤◌, length, drop, length-drop, Some, None, arith, rules}
use Rattle.ecma_number.specs.Numeral.{big_int_literal, code_point, pure}
use Rattle.ecma_number.proofs.Readings.{begins_within, behind_none, behind_read, reads_none_to, reads_some_to}
use Rattle.ecma_number.proofs.numerals.big_int_literal_length.Goals as goal

pub returns-in_err-end : goal.returns-in_err-end
unfolding big_int_literal
returns-in_err-end c =
    let none : c.from_residual.result ≡ None = search rules in
    let read = reads_none_to c.args.text.now _ c.in_err-end.ensures in
    rw (none, read) refl

pub returns-then-stands : goal.returns-then-stands
unfolding big_int_literal
returns-then-stands c =
    let read = reads_some_to c.args.text.now _ _ c.in_ok-end.ensures in
    let is = read.1 in
    let suffix = behind_read (code_point 110) (pure read.0) c.args.text.now c.in_ok-end.end (sym c.if-stands.ensures) in
    let within : c.in_ok-end.end + 1 ≤ length c.args.text.now = begins_within (code_point 110) c.args.text.now c.in_ok-end.end (sym c.if-stands.ensures) in
    rw (is, suffix) (ap Some (omega (arith, length-drop (c.in_ok-end.end + 1) c.args.text.now)))

pub returns-else-stands : goal.returns-else-stands
unfolding big_int_literal
returns-else-stands c =
    let read = reads_some_to c.args.text.now _ _ c.in_ok-end.ensures in
    let is = read.1 in
    let suffix = behind_none (code_point 110) (pure read.0) (drop c.in_ok-end.end c.args.text.now) (sym c.if-stands.ensures) in
    rw (is, suffix) refl
