use Rattle.std.proofs.Common.{sym, ap, ◌∙◌, ◌+◌, Some}
use Rattle.ecma_lex.proofs.Comments.{blank_slash, blank_char, other_char}
use Rattle.ecma_lex.proofs.blanks.blank_end.Goals as goal

pub returns-then-c-eq47-clause-value : goal.returns-then-c-eq47-clause-value
returns-then-c-eq47-clause-value c = c.comment_end.ensures.value ∙ sym (blank_slash c.args.text.now c.args.from c.in_ok-c.c _ c.in_ok-c.ensures.0 c.if-c-eq47.true)

pub returns-then-may_be_skipped-clause-value : goal.returns-then-may_be_skipped-clause-value
returns-then-may_be_skipped-clause-value c = ap (λ n. Some (c.args.from + n)) c.len_utf8.ensures.value ∙ sym (blank_char c.args.text.now c.args.from c.in_ok-c.c _ c.in_ok-c.ensures.0 c.if-c-eq47.false (sym c.if-may_be_skipped.ensures))

pub returns-clause-value : goal.returns-clause-value
returns-clause-value c = sym (other_char c.args.text.now c.args.from c.in_ok-c.c _ c.in_ok-c.ensures.0 c.if-c-eq47.false (sym c.if-may_be_skipped.ensures))
