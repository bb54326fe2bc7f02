use Rattle.std.proofs.Common.{ap}
use Rattle.ecma_grammar.specs.Written.{written}
use Rattle.ecma_reader.specs.Agreement.{position}
use Rattle.ecma_reader.proofs.Outlooks.{fails-known}
use Rattle.ecma_reader.proofs.reader.Reader.fails_ahead.Goals as goal

pub returns-in-Some-clause-fails : goal.returns-in-Some-clause-fails
returns-in-Some-clause-fails c = λ _ parts.
    fails-known c.args.self.now.text.now c.look.new.self.text.now c.args.self.now.mode c.look.new.self.mode c.look.new.self.place (written c.args.production.now) (position c.args.self.now) c.in-Some.at c.look.new.self.failed c.max-self.result parts
    c.in-Some.ensures c.look.ensures.text.0 c.look.ensures.text.1 (ap (λ s. s.place) c.look.ensures.position) (ap (λ s. s.failed) c.look.ensures.position) c.max-self.ensures
