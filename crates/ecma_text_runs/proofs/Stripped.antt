-- A module that is read does what it does without its types.
use Rattle.ecma_text_fits.proofs.ReadRoles.{read_in_roles}
use Rattle.ecma_text_sorts.proofs.Finished.{read_sorted}
use Rattle.ecma_strip_runs.proofs.Steps.{stripping_keeps_runs}
use Rattle.ecma_strip_runs.proofs.Sorted.{only_types_go_from_modules}
use Rattle.ecma_text_runs.specs.Laws.{ReadModulesRunStripped}
use Rattle.ecma_text_runs.proofs.Bodies.{read_rules, read_usual}
use Rattle.ecma_text_runs.proofs.Receivers.{no_receivers}

pub runs_stripped : ReadModulesRunStripped
runs_stripped text mode bound tree e before behind turns options script =
    stripping_keeps_runs turns options tree script
    (only_types_go_from_modules tree (read_sorted text mode bound tree e) (read_usual text mode bound tree e)
    (no_receivers tree (read_rules text mode bound tree e) (read_in_roles text mode bound tree e))) before behind
