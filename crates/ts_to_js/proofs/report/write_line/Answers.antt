use Rattle.std.proofs.Common.{◌++◌, codes}
use Rattle.std.proofs.lemmas.Result.{on_err_weaker}
use Rattle.ts_to_js.proofs.Pieces.{TakesPart-behind}
use Rattle.ts_to_js.proofs.report.write_line.Goals as goal

pub returns-clause-err : goal.returns-clause-err
returns-clause-err g c =
    on_err_weaker c.write_both.result (TakesPart-behind (g.K.Sink.taken c.args.sink.now) _ (g.K.Sink.taken c.write_both.new.sink) c.args.head.now (c.args.tail.now ++ codes "\n") c.in_ok-write_text.ensures.ok) c.write_both.ensures.err
