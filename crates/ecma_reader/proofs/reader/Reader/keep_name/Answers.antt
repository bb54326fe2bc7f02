use Rattle.std.proofs.Common.{refl}
use Rattle.ecma_reader.proofs.Operands.{name-operand}
use Rattle.ecma_reader.proofs.reader.Reader.keep_name.Goals as goal

pub returns-clause-operand : goal.returns-clause-operand
returns-clause-operand c =
    name-operand c.args.self.now c.keep_leaf_ahead.new.self c.pass_arrow.new.self c.args.operand c.in_ok-keep_leaf_ahead.field-0 c.max-self.result c.requires.begins c.requires.leads c.in_ok-keep_leaf_ahead.ensures.kept c.if-not-branch.false
    c.keep_leaf_ahead.ensures.text.0 c.max-self.ensures (c.if-not-pass_arrow.ensures.passes refl).0 c.if-not-pass_arrow.ensures.kept (c.if-not-pass_arrow.ensures.passes refl).1
