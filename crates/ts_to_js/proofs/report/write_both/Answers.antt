use Rattle.std.proofs.lemmas.Result.{on_err_weaker}
use Rattle.ts_to_js.proofs.Pieces.{TakesPart-behind}
use Rattle.ts_to_js.proofs.report.write_both.Goals as goal

pub returns-clause-err : goal.returns-clause-err
returns-clause-err g c =
    on_err_weaker c.write_text-2.result (TakesPart-behind (g.K.Sink.taken c.args.sink.now) _ (g.K.Sink.taken c.write_text-2.new.sink) c.args.first.now c.args.second.now c.in_ok-write_text.ensures.ok) c.write_text-2.ensures.err
