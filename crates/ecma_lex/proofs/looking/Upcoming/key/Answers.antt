use Rattle.ecma_lex.proofs.Lookahead.{key_stands}
use Rattle.ecma_lex.proofs.looking.Upcoming.key.Goals as goal

pub returns-clause-stands : goal.returns-clause-stands
returns-clause-stands c = λ text u h. key_stands text c.args.self c.found.result u h c.found.ensures
