use Rattle.std.proofs.Common.{◌∙◌, ◌&&◌, not, List, ap, sym}
use Rattle.ecma_hygiene.specs.Ids.{Id}
use Rattle.ecma_hygiene.specs.Sets.{has_id, has_new}
use Rattle.ecma_hygiene.specs.Texts.{declared_in, distinct, none}
use Rattle.ecma_hygiene.proofs.Choosing.{filter-distinct}
use Rattle.ecma_hygiene.proofs.texts.changing_bindings.Goals as goal

pub returns : goal.returns
returns c = c.in_ok-found.ensures {u = tt} ∙ ap (λ (ids : List Id). distinct none ids) (c.in_ok-ids.ensures {u = tt}) ∙ sym (filter-distinct (λ (id : Id). not (has_new c.args.new.now id) && has_id c.args.met.now id) none (declared_in c.args.seen.now))
