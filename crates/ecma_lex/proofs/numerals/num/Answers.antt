use Rattle.std.proofs.Common.{◌≡◌, ◌∙◌, refl, Some}
use Rattle.ecma_lex.specs.Blanks.{skipped}
use Rattle.ecma_lex.proofs.NumeralTokens.{found_num, num_longest}
use Rattle.ecma_lex.proofs.numerals.num.Goals as goal

pub returns-clause-literal : goal.returns-clause-literal
returns-clause-literal c = let is = c.found.ensures in rw is (found_num c.args.text.now c.utf8.text c.in_ok-before.before _ c.num_end.ensures.value)

pub returns-clause-longest : goal.returns-clause-longest
returns-clause-longest c = λ next closed alone.
    let same = c.in_ok-before.ensures.value.0 in
    let end : c.num_end.result ≡ Some next = c.num_end.ensures.value ∙ rw same (num_longest c.args.text.now c.utf8.text (skipped c.args.text.now c.args.at).to next alone) in
    c.found.ensures ∙ rw (end, same) refl
