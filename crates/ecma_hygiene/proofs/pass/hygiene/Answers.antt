use Rattle.std.proofs.Common.{List, subst}
use Rattle.ecma_hygiene.specs.declared.sight.Meeting.{Meeting}
use Rattle.ecma_hygiene.specs.declared.sight.Sight.{Sight}
use Rattle.ecma_hygiene.specs.Sights.{meetings}
use Rattle.ecma_hygiene.specs.Texts.{AreTexts}
use Rattle.ecma_hygiene.proofs.pass.hygiene.Goals as goal

pub returns : goal.returns
returns c = record {
  names = c.in_ok-names.names;
  texts = subst (λ (xs : List Sight). AreTexts xs (meetings c.args.tree.now) c.in_ok-names.names) c.in_ok-found.ensures.sights
      (subst (λ (ms : List Meeting). AreTexts c.in_ok-found.found.sights ms c.in_ok-names.names) c.in_ok-found.ensures.meetings (c.in_ok-names.ensures {u = tt}));
  is = c.in_ok-write_texts.ensures {u = tt};
}
