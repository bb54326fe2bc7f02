use Rattle.std.proofs.Common.{◌≡◌, length, bytes_eq, arith}
use Rattle.std.specs.HashSet.{contains}
use Rattle.ecma_exports.proofs.Among.{among-all, among-next}
use Rattle.ecma_exports.proofs.check.text_set.Goals as goal

pub loop-i-preserved : goal.loop-i-preserved
loop-i-preserved c =
    among-next (contains bytes_eq c.loop-i.set) (contains bytes_eq c.add_text.new.texts) c.args.texts.now c.loop-i.i c.at.result.now c.at.ensures
    c.loop-i.invariant (c.in_ok-add_text.ensures {u = tt})

pub returns : goal.returns
returns c =
    let all : length c.args.texts.now ≡ c.loop-i.i = omega arith in
    among-all (contains bytes_eq c.loop-i.set) c.args.texts.now c.loop-i.i all c.loop-i.invariant
