use Rattle.std.proofs.Common.{ap, refl, max}
use Rattle.ecma_grammar.specs.Rules.{rule_grammar}
use Rattle.ecma_reader.specs.Agreement.{position}
use Rattle.ecma_reader.proofs.Outlooks.{fails-known, passes-known}
use Rattle.ecma_reader.proofs.Remainders.{remains-known}
use Rattle.ecma_reader.proofs.reader.Reader.known.Goals as goal

pub returns-in-Fails-clause-known : goal.returns-in-Fails-clause-known
returns-in-Fails-clause-known c = λ parts.
    fails-known c.args.self.now.text.now c.look.new.self.text.now c.args.self.now.mode c.look.new.self.mode c.look.new.self.place (rule_grammar c.args.rule) (position c.args.self.now) _ c.look.new.self.failed c.max-self.result parts
    c.in-Fails.ensures c.look.ensures.text.0 c.look.ensures.text.1 (ap (λ s. s.place) c.look.ensures.position) (ap (λ s. s.failed) c.look.ensures.position) (rw c.max-self.ensures (ap (λ to. max c.look.new.self.failed to) c.token_start.ensures))

pub returns-in-Passes-clause-known : goal.returns-in-Passes-clause-known
returns-in-Passes-clause-known c = λ parts.
    passes-known c.args.self.now.text.now c.look.new.self.text.now c.args.self.now.mode c.look.new.self.mode c.look.new.self.place (rule_grammar c.args.rule) (position c.args.self.now) _ _ c.look.new.self.failed parts
    c.in-Passes.ensures c.look.ensures.text.0 c.look.ensures.text.1 (ap (λ s. s.place) c.look.ensures.position) (ap (λ s. s.failed) c.look.ensures.position) refl (rw c.max-self.ensures (ap (λ to. max c.look.new.self.failed to) c.token_start.ensures))

pub returns-in-Remains-clause-known : goal.returns-in-Remains-clause-known
returns-in-Remains-clause-known c =
    remains-known c.args.self.now.text.now c.look.new.self.text.now c.args.self.now.mode c.look.new.self.mode c.look.new.self.place (rule_grammar c.args.rule) _ (position c.args.self.now) _ c.look.new.self.failed
    c.in-Remains.ensures c.look.ensures.text.0 c.look.ensures.text.1 (ap (λ s. s.place) c.look.ensures.position) (ap (λ s. s.failed) c.look.ensures.position) refl (rw c.max-self.ensures (ap (λ to. max c.look.new.self.failed to) c.token_start.ensures))
