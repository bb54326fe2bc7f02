use Rattle.std.proofs.Common.{◌+◌, ap, sym, ◌∙◌, option_map}
use Rattle.ecma_number.specs.Numeral.{big_int_literal, taken}
use Rattle.ecma_lex.proofs.NumeralTokens.{literal_is_piece, big_literal}
use Rattle.ecma_lex.proofs.numerals.big_end.Goals as goal

pub returns-clause-piece : goal.returns-clause-piece
returns-clause-piece c =
    let next = c.args.from + c.in_ok-count.count in
    let read = ap (option_map (λ count. c.args.from + count)) (ap (taken big_int_literal) (sym c.bytes_behind.ensures) ∙ sym c.in_ok-count.ensures) in
    literal_is_piece c.args.text.now c.utf8.text c.args.from next (big_literal c.args.text.now c.args.from next read)
