use Rattle.ecma_lex.proofs.Lookahead.{key_ahead}
use Rattle.ecma_lex.proofs.looking.Upcoming.key_next.Goals as goal

pub returns-in-Some-clause-piece : goal.returns-in-Some-clause-piece
returns-in-Some-clause-piece c = key_ahead c.args.text.now c.args.self c.in-Some.next c.utf8.text c.requires.known c.in-Some.is
