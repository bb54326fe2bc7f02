use Rattle.ecma_pipeline_plain.proofs.Unresolved.{trees_say}
use Rattle.ecma_pipeline_plain.proofs.trees_without_contexts_say_what_is_ready.Goals as goal

pub returns : goal.returns
returns c = trees_say
