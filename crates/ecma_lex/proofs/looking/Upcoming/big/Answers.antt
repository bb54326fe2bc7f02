use Rattle.ecma_lex.proofs.NumeralTokens.{found_big}
use Rattle.ecma_lex.proofs.looking.Upcoming.big.Goals as goal

pub returns-clause-literal : goal.returns-clause-literal
returns-clause-literal c = let is = c.found.ensures in rw is (found_big c.args.text.now c.utf8.text c.in_ok-before.before _ c.big_end.ensures.value)
