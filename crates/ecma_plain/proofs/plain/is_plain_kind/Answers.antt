use Rattle.ecma_plain.proofs.Whole.{formless_is_not_plain, plain_when_writable, questioned_is_not_plain}
use Rattle.ecma_plain.proofs.plain.is_plain_kind.Goals as goal

pub returns-then-is_questioned : goal.returns-then-is_questioned
returns-then-is_questioned c = questioned_is_not_plain c.args.kind.now c.if-is_questioned.ensures

pub returns-then-is_of_forms : goal.returns-then-is_of_forms
returns-then-is_of_forms c =
    plain_when_writable c.args.kind.now c.is_writable.result c.texts_are_utf8.ensures c.if-is_questioned.ensures c.if-is_of_forms.ensures c.is_writable.ensures

pub returns : goal.returns
returns c = formless_is_not_plain c.args.kind.now c.if-is_of_forms.ensures
