use Rattle.std.proofs.Common.{◌∙◌, ap}
use Rattle.ecma_forest.specs.Sets.{sets_of}
use Rattle.ecma_forest.specs.Summaries.{join_summaries}
use Rattle.ecma_forest.proofs.Joining.{sets_of-or}
use Rattle.ecma_forest.proofs.summary.Summary.join.Goals as goal

pub returns : goal.returns
returns c =
    sets_of-or c.self.inside.sets c.other.inside.sets
    ∙ ap (λ sets. join_summaries sets (sets_of c.other.inside.sets)) c.self.view_is
    ∙ ap (join_summaries c.args.self) c.other.view_is
