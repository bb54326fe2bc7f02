use Rattle.ecma_grammar.specs.Written.{written}
use Rattle.ecma_reader.proofs.Memories.{remembers-more}
use Rattle.ecma_reader.proofs.reader.Reader.remember.Goals as goal

pub invariant_of-self-clause-remembers : goal.invariant_of-self-clause-remembers
invariant_of-self-clause-remembers c =
    remembers-more c.args.self.now.text.now c.args.self.now.mode c.args.self.now.memo c.remember.new.self (record { attempt = c.in-Some.attempt; place = c.args.place }) (written c.args.production.now)
    (record { left = c.args.left; at = c.args.self.now.failed }) c.args.before c.args.self.now.remembers c.in-Some.ensures c.requires c.remember.ensures
