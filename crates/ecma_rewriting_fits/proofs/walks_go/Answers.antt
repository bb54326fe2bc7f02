use Rattle.ecma_rewriting_fits.proofs.Walking.{walks_go_by_tests}
use Rattle.ecma_rewriting_fits.proofs.walks_go.Goals as goal

pub returns : goal.returns
returns g c = walks_go_by_tests _ _
