use Rattle.std.proofs.Common.{◌≡◌, ◌∙◌, refl, Some}
use Rattle.ecma_lex.specs.Blanks.{skipped}
use Rattle.ecma_lex.proofs.NumeralTokens.{found_big, big_longest}
use Rattle.ecma_lex.proofs.numerals.big.Goals as goal

pub returns-clause-literal : goal.returns-clause-literal
returns-clause-literal c = let is = c.found.ensures in rw is (found_big c.args.text.now c.utf8.text c.in_ok-before.before _ c.big_end.ensures.value)

pub returns-clause-longest : goal.returns-clause-longest
returns-clause-longest c = λ next closed alone.
    let same = c.in_ok-before.ensures.value.0 in
    let end : c.big_end.result ≡ Some next = c.big_end.ensures.value ∙ rw same (big_longest c.args.text.now (skipped c.args.text.now c.args.at).to next alone) in
    c.found.ensures ∙ rw (end, same) refl
