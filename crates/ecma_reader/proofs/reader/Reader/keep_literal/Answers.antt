use Rattle.std.proofs.Common.{refl}
use Rattle.ecma_reader.proofs.Operands.{literal-operand}
use Rattle.ecma_reader.proofs.reader.Reader.keep_literal.Goals as goal

pub returns-clause-operand : goal.returns-clause-operand
returns-clause-operand c =
    literal-operand c.args.self.now c.keep_leaf_ahead.new.self _ c.args.operand c.args.leaf c.in_ok-keep_leaf_ahead.field-0 c.requires.begins c.requires.leads c.requires.name c.in_ok-keep_leaf_ahead.ensures.kept c.if-not-branch.false refl refl c.max-self.ensures
