use Rattle.std.proofs.Common.{rules, ◌≡◌, ◌∙◌, ◌&&◌, false, not, sym}
use Rattle.ecma_hygiene.specs.Sets.{has_id}
use Rattle.ecma_hygiene.specs.Texts.{is_in_source}
use Rattle.ecma_hygiene.proofs.Choosing.{outside-new}
use Rattle.ecma_hygiene.proofs.texts.new_ids.Goals as goal

pub returns-then-is_empty : goal.returns-then-is_empty
returns-then-is_empty c = λ id.
    let none : has_id c.in_ok-outside.outside id ≡ false = search rules in
    (λ j. none j && not (has_id c.no_ids-source.result id)) ∙ (λ j. (sym none ∙ c.in_ok-outside.ensures {u = tt} id) j && not (is_in_source c.args.seen.now id)) ∙ outside-new c.args.seen.now id

pub returns : goal.returns
returns c = λ id. ((λ j. c.in_ok-outside.ensures {u = tt} id j && not (c.in_ok-source.ensures {u = tt} id j)) ∙ outside-new c.args.seen.now id)
