use Rattle.ecma_lower_enums_sources.proofs.ClausesKept.{written_enums_keep_clauses}
use Rattle.ecma_lower_enums_sources.proofs.written_enums_keep_clauses.Goals as goal

pub returns : goal.returns
returns c = written_enums_keep_clauses
