use Rattle.std.proofs.Common.{◌∙◌, List, ap, sym}
use Rattle.ecma_hygiene.specs.Ids.{Id}
use Rattle.ecma_hygiene.specs.Sets.{has_new}
use Rattle.ecma_hygiene.specs.Texts.{declared_in, distinct, none}
use Rattle.ecma_hygiene.proofs.Choosing.{filter-distinct}
use Rattle.ecma_hygiene.proofs.texts.new_bindings.Goals as goal

pub returns : goal.returns
returns c = c.in_ok-found.ensures {u = tt} ∙ ap (λ (ids : List Id). distinct none ids) (c.in_ok-ids.ensures {u = tt}) ∙ sym (filter-distinct (has_new c.args.new.now) none (declared_in c.args.seen.now))
