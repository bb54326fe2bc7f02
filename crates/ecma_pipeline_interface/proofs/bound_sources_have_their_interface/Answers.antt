use Rattle.ecma_pipeline_interface.proofs.Sourced.{bound_sources}
use Rattle.ecma_pipeline_interface.proofs.bound_sources_have_their_interface.Goals as goal

pub returns : goal.returns
returns c = bound_sources
