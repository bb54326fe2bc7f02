use Rattle.std.proofs.Common.{◌≤◌, sym, arith}
use Rattle.ecma_grammar.specs.Written.{written}
use Rattle.ecma_reader.proofs.Memories.{remembered-fails}
use Rattle.ecma_reader.proofs.reader.Reader.has_failed.Goals as goal

pub returns-clause-failed : goal.returns-clause-failed
returns-clause-failed c = λ yes.
    let deep : c.in-Some-refusal.refusal.left ≤ c.args.left = omega (arith, c.if-left-refusal.false) in
    let reached : c.in-Some-refusal.refusal.at ≤ c.args.self.now.failed = omega (arith, c.if-self-refusal.false) in
    remembered-fails c.args.self.now.text.now c.args.self.now.mode c.args.self.now.memo (record { attempt = c.in-Some.attempt; place = c.args.self.now.place }) (written c.args.production.now)
    c.in-Some-refusal.refusal c.args.left c.args.self.now.failed c.args.self.now.remembers (sym c.in-Some-refusal.ensures) c.in-Some.ensures deep reached
