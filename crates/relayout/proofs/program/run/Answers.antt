use Rattle.ts_to_js.specs.Running.{expected_of}
use Rattle.ts_to_js.proofs.Runs.{ran-no_memory, ran-read_fault, src_of, src_of-first_read, expected_of-known}
use Rattle.relayout.specs.Relayout.{relaid}
use Rattle.relayout.proofs.Again.{done-relaid}
use Rattle.relayout.proofs.program.run.Goals as goal

pub returns-in-Ok-clause-run : goal.returns-in-Ok-clause-run
returns-in-Ok-clause-run g c =
    let ran = c.tell.ensures.run (relaid c.deref.result.now) c.relayout.ensures.text in
    (c.deref.result.now, rw c.deref.ensures.value c.in-Ok.ensures.bytes, ran, done-relaid c.relaid_modules_are_read_again.ensures c.deref.result.now c.tell.result ran.ends)

pub returns-in-Err-SourceFailed-clause-run : goal.returns-in-Err-SourceFailed-clause-run
returns-in-Err-SourceFailed-clause-run g c =
    let src = src_of (g.S.Source.left c.args.source.now) in
    let ran = ran-read_fault (expected_of (relaid src)) _ _ (expected_of-known (relaid src)) in
    (src, src_of-first_read (g.S.Source.left c.args.source.now), ran, done-relaid c.relaid_modules_are_read_again.ensures src 3 ran.ends)

pub returns-in-Err-NoMemory-clause-run : goal.returns-in-Err-NoMemory-clause-run
returns-in-Err-NoMemory-clause-run g c =
    let src = src_of (g.S.Source.left c.args.source.now) in
    let ran = ran-no_memory (expected_of (relaid src)) _ _ in
    (src, src_of-first_read (g.S.Source.left c.args.source.now), ran, done-relaid c.relaid_modules_are_read_again.ensures src 5 ran.ends)
