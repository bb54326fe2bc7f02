use Rattle.ecma_text_runs.proofs.Bodies as law
use Rattle.ecma_text_runs.proofs.read_modules_have_usual_bodies.Goals as goal

pub returns : goal.returns
returns c = law.read_usual
