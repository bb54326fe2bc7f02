use Rattle.std.proofs.Common.{◌≡◌, ◌<◌, ap, ◌∙◌, subst}
use Rattle.ecma_reader.specs.FirstByte.{first_byte}
use Rattle.ecma_grammar.specs.Rules.{rule_grammar}
use Rattle.ecma_grammar.specs.Glance.{Says}
use Rattle.ecma_reader.proofs.Remainders.{saying-tells}
use Rattle.ecma_reader.proofs.reader.Reader.glance.Goals as goal

pub returns-then-first-lt128 : goal.returns-then-first-lt128
returns-then-first-lt128 c =
    let byte : c.args.self.now.first ≡ first_byte c.args.self.now.text.now c.args.self.now.place = c.args.self.now.begins ∙ ap (λ place. first_byte c.args.self.now.text.now place) c.requires in
    saying-tells c.args.self.now.text.now c.args.self.now.place c.args.self.now.mode (rule_grammar c.args.rule) c.rule_glance.result
    (record { typescript = c.if-self.true; assignments = c.if-self-2.true; some = subst (λ x. 0 < x) byte c.if-first-gt0.true; small = subst (λ x. x < 128) byte c.if-first-lt128.true })
    (subst (λ x. Says c.rule_glance.result x (rule_grammar c.args.rule)) byte c.rule_glance.ensures)
