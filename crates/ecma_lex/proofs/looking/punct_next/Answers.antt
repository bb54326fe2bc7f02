use Rattle.ecma_lex.proofs.Longest.{punct_piece}
use Rattle.ecma_lex.proofs.looking.punct_next.Goals as goal

pub returns-clause-piece : goal.returns-clause-piece
returns-clause-piece c = punct_piece c.args.text.now c.args.punctuator.now c.args.from c.this_end.result c.utf8.text c.this_end.ensures
