use Rattle.std.proofs.Common.{◌≡◌, ◌∙◌, Bool, sym, subst, cond}
use Rattle.ecma_hygiene.specs.Sets.{has_text}
use Rattle.ecma_hygiene.specs.Texts.{IsNumbered}
use Rattle.ecma_hygiene.proofs.texts.base_or_numbered.Goals as goal

pub returns : goal.returns
returns c =
    subst (λ (b : Bool). cond b (IsNumbered (has_text c.args.had.now) c.args.text.now c.in_ok-word.word) (c.in_ok-word.word ≡ c.args.text.now)) (sym (sym c.has_text.ensures ∙ c.if-not-has_text.false)) (c.in_ok-word.ensures {u = tt})
