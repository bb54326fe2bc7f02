use Rattle.std.proofs.Common.{Bool, sym, subst}
use Rattle.ecma_hygiene.specs.Sets.{has_text}
use Rattle.ecma_hygiene.specs.Texts.{rule}
use Rattle.ecma_hygiene.proofs.texts.text_for.Goals as goal

pub returns : goal.returns
returns c = subst (λ (b : Bool). rule b (has_text c.args.had.now) c.args.text.now c.in_ok-word-2.word) (sym c.if-may_keep.false) (c.in_ok-word-2.ensures {u = tt})
