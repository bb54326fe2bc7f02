use Rattle.std.proofs.Common.{◌≡◌, sym, length, eqb, false, None}
use Rattle.std.proofs.lemmas.List.{take_rest}
use Rattle.ecma_number.specs.DigitRun.{HoldsInteger}
use Rattle.ecma_number.specs.Numeral.{non_decimal_integer_literal, whole_text}
use Rattle.ecma_number.specs.StringToNumber.{trimmed_text_number_of}
use Rattle.ecma_number.specs.declared.numerals.NumeralForm.TheVariants.{Text}
use Rattle.ecma_number.proofs.Readings.{no_text, part_of_text, reads_none, reads_some}
use Rattle.ecma_number.proofs.string_to_number.trimmed_text_number.Goals as goal
use Rattle.ecma_number.proofs.string_to_number.trimmed_text_number.Goals.{in-Some+else-end-text, in_default}

pub returns : goal.returns
unfolding trimmed_text_number_of
returns c =
    let text = c.args.text.now in
    let integer = non_decimal_integer_literal Text in
    let some : eqb (length text) 0 ≡ false = sym c.if-is_empty.ensures in
    let none : whole_text integer text ≡ None = elim c.match-non_decimal_integer.branch [
      | in-Some+else-end-text w ↦ (let read = reads_some HoldsInteger text _ _ w.in-Some.ensures in part_of_text integer text read.0 _ read.1 read.3 w.if-end-text.false)
      | in_default w ↦ no_text integer text (reads_none HoldsInteger text _ w.in_default.ensures)
    ] in
    let sign = c.sign-is_negative.ensures.read in
    let unsigned = rw (take_rest text c.sign-is_negative.result.1) at c.unsigned_text_number.ensures in
    rw (some, none, sign) unsigned
