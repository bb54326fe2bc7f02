use Rattle.std.proofs.Common.{◌∙◌, ap, length, sym}
use Rattle.ecma_forest.proofs.Growing.{length-grown}
use Rattle.ecma_forest.proofs.forest.Forest.places.Goals as goal

pub returns : goal.returns
returns c = c.len.ensures ∙ c.self.inside.below.ok.0 ∙ sym (length-grown c.self.inside.kinds c.self.inside.below.items) ∙ ap (λ t. length t.below) c.self.view_is
