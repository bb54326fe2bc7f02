use Rattle.std.proofs.Common.{◌∙◌, sym}
use Rattle.ecma_hygiene.proofs.texts.numbered.Goals as goal

pub returns-then-not-has_text : goal.returns-then-not-has_text
returns-then-not-has_text c = record {
  number = c.loop-number.number;
  positive = c.loop-number.invariant.positive;
  is = c.in_ok-word.ensures {u = tt};
  none_has = sym c.has_text.ensures ∙ c.if-not-has_text.true;
  least = c.loop-number.invariant.least;
}
