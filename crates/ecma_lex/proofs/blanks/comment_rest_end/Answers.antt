use Rattle.std.proofs.Common.{sym, ◌∙◌}
use Rattle.ecma_lex.proofs.Comments.{rest_stops}
use Rattle.ecma_lex.proofs.blanks.comment_rest_end.Goals as goal

pub returns-in-Some-comment_close_end-clause-value : goal.returns-in-Some-comment_close_end-clause-value
returns-in-Some-comment_close_end-clause-value c = sym (rest_stops c.args.text.now c.loop-c.i c.in-Some-comment_close_end.next (sym c.in-Some-comment_close_end.ensures.value)) ∙ c.loop-c.invariant.0
