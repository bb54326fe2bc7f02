use Rattle.ecma_lower_names.proofs.Ready.{scopes_declare_what_runs_declare}
use Rattle.ecma_lower_names.proofs.scopes_declare_what_runs_declare.Goals as goal

pub returns : goal.returns
returns c = scopes_declare_what_runs_declare
