use Rattle.ts_to_js.proofs.Runs.{refuses-reported}
use Rattle.ts_to_js.proofs.program.refuse.Goals as goal

pub returns-clause-line : goal.returns-clause-line
returns-clause-line g c =
    rw c.reported.ensures (refuses-reported c.args.refusal _ _ c.write_fault.result c.in_default.not-NoMemory c.write_fault.ensures.ok c.write_fault.ensures.err c.write_fault.ensures.faults c.write_fault.ensures.calls)
