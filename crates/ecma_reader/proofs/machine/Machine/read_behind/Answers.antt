use Rattle.ecma_grammar.specs.Written.{written_tail}
use Rattle.ecma_reader.proofs.Tails.{is-not, quiet-stands, others-stand}
use Rattle.ecma_reader.proofs.machine.Machine.read_behind.Goals as goal

pub returns-then-is_quiet : goal.returns-then-is_quiet
returns-then-is_quiet g c =
    quiet-stands c.args.reader.now c.read_tail.new.reader c.args.operand c.args.no_in c.args.middle c.args.self.now.left (written_tail c.links_tail.result.now) c.links_tail.ensures c.in_ok-read_tail.ensures c.is_quiet.new.self c.is_quiet.ensures.text c.is_quiet.ensures.kept (c.is_quiet.ensures.quiet c.if-is_quiet.true)

pub returns : goal.returns
returns g c =
    others-stand c.args.reader.now c.read_tail.new.reader c.args.operand c.args.no_in c.args.middle c.args.self.now.left (written_tail c.links_tail.result.now) c.links_tail.ensures c.in_ok-read_tail.ensures c.is_quiet.new.self c.read_tails.new.reader c.read_tails.result _ c.operator_tails.ensures c.is_quiet.ensures.text c.is_quiet.ensures.kept (c.is_quiet.ensures.other (is-not c.is_quiet.result c.if-is_quiet.false)) c.read_tails.ensures
