use Rattle.relayout.proofs.Again.{answered-relaid}
use Rattle.relayout.proofs.convert.relayout.Goals as goal

pub returns-clause-again : goal.returns-clause-again
returns-clause-again c = answered-relaid c.relaid_modules_are_read_again.ensures c.args.src.now c.relayout_bytes.result c.relayout_bytes.ensures
