use Rattle.std.proofs.Common.{ap, sym, subst, map, drop}
use Rattle.std.proofs.Math.Seq.{drop-cons}
use Rattle.ecma_reader.specs.Agreement.{parts_in, kept, position}
use Rattle.ecma_reader.specs.Operands.{StandsAs, tails_on}
use Rattle.ecma_grammar.specs.Reading.{read}
use Rattle.ecma_grammar.specs.Written.{written_tail}
use Rattle.ecma_reader.proofs.Tails.{err-is, tails-broken}
use Rattle.ecma_reader.proofs.machine.Machine.read_tails.Goals as goal

pub returns-in_err-read_tail : goal.returns-in_err-read_tail
returns-in_err-read_tail g c =
    subst (λ result. StandsAs c.args.operand c.args.reader.now c.read_tail.new.reader result (tails_on c.args.reader.now.text.now c.args.reader.now.mode (parts_in c.args.reader.now c.args.self.now.left) c.args.operand (map written_tail c.args.tails.now) (read (kept c.args.reader.now) (position c.args.reader.now)))) (sym (err-is c.from_residual.result c.in_err-read_tail.field-0.0 c.from_residual.ensures.0 c.from_residual.ensures.1))
    (tails-broken c.args.reader.now c.loop-i.reader c.read_tail.new.reader c.args.operand c.args.self.now.left (map written_tail c.args.tails.now) (map written_tail (drop c.loop-i.i c.args.tails.now)) _ _ c.in_err-read_tail.field-0.0 c.loop-i.invariant
    (ap (λ ts. map written_tail ts) (drop-cons c.args.tails.now c.loop-i.i _ c.loop-i-test.true)) c.in_err-read_tail.ensures)
