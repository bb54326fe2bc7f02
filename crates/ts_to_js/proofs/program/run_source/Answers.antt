use Rattle.std.proofs.Common.{inl, inr, refl, Err}
use Rattle.ts_to_js.specs.Running.{expected_of}
use Rattle.ts_to_js.specs.declared.error.TsError.TheVariants as error
use Rattle.ts_to_js.proofs.Runs.{ran-no_memory, ran-read_fault, src_of, src_of-first_read, expected_of-known}
use Rattle.ts_to_js.proofs.program.run_source.Goals as goal

pub returns-in-Ok-clause-run : goal.returns-in-Ok-clause-run
returns-in-Ok-clause-run g c = (c.deref.result.now, rw c.deref.ensures.value c.in-Ok.ensures.bytes, c.convert.ensures.run)

pub returns-in-Err-SourceFailed-clause-run : goal.returns-in-Err-SourceFailed-clause-run
returns-in-Err-SourceFailed-clause-run g c =
    let src = src_of (g.S.Source.left c.args.source.now) in
    (src, src_of-first_read (g.S.Source.left c.args.source.now), (Err error.NoMemory, inr (inl refl), ran-read_fault (expected_of (Err error.NoMemory)) _ _ (expected_of-known (Err error.NoMemory))))

pub returns-in-Err-NoMemory-clause-run : goal.returns-in-Err-NoMemory-clause-run
returns-in-Err-NoMemory-clause-run g c =
    let src = src_of (g.S.Source.left c.args.source.now) in
    (src, src_of-first_read (g.S.Source.left c.args.source.now), (Err error.NoMemory, inr (inr (refl, refl, refl)), ran-no_memory (expected_of (Err error.NoMemory)) _ _))
