use Rattle.ts_to_js.proofs.Enough.{never_spent}
use Rattle.ts_to_js.proofs.program.no_run_is_spent.Goals as goal

pub returns : goal.returns
returns c = never_spent c.needed_is_bounded_by_the_text.ensures
