use Rattle.std.proofs.Common.{◌≡◌, ◌∙◌, List, length, sym, ap, arith}
use Rattle.ecma_hygiene.specs.declared.naming.Named.{Named}
use Rattle.ecma_hygiene.specs.Sets.{has_text}
use Rattle.ecma_hygiene.specs.Texts.{Had, had_with, with_text}
use Rattle.ecma_hygiene.proofs.Getting.{get-all, get-next, had-next}
use Rattle.ecma_hygiene.proofs.texts.get_texts.Goals as goal

pub loop-i-preserved : goal.loop-i-preserved
loop-i-preserved c =
    let named : Named = record { id = c.in_ok-id.id; text = c.in_ok-text.text } in
    record {
      names = get-next c.args.may_keep (has_text c.args.had.now) (has_text c.loop-i.had) (has_text c.add_text.new.texts) c.args.ids.now c.loop-i.i c.at-id.result.now c.loop-i.names c.push.new.self named c.at-id.ensures
          c.loop-i.invariant.names (c.in_ok-id.ensures {u = tt}) (c.in_ok-text.ensures {u = tt}) (c.in_ok-add_text.ensures {u = tt}) c.in_ok-push.ensures.ok;
      had = λ text. (c.in_ok-add_text.ensures {u = tt} text ∙ ap (λ (h : Had). with_text c.in_ok-text.text h text) (λ j other. c.loop-i.invariant.had other j)
          ∙ sym (had-next c.loop-i.names named (has_text c.args.had.now) text) ∙ ap (λ (ns : List Named). had_with ns (has_text c.args.had.now) text) (sym c.in_ok-push.ensures.ok));
    }

pub returns-clause-names : goal.returns-clause-names
returns-clause-names c =
    let all : length c.args.ids.now ≡ c.loop-i.i = omega arith in
    get-all c.args.may_keep (has_text c.args.had.now) (has_text c.loop-i.had) c.args.ids.now c.loop-i.i c.loop-i.names all c.loop-i.invariant.names
