use Rattle.std.proofs.Common.{◌≡◌, length, bytes_eq, arith}
use Rattle.std.specs.HashSet.{contains}
use Rattle.ecma_elide.proofs.Knowing.{among-all, among-next}
use Rattle.ecma_elide.proofs.known.text_set.Goals as goal

pub loop-i-preserved : goal.loop-i-preserved
loop-i-preserved c =
    among-next bytes_eq (contains bytes_eq c.loop-i.set) (contains bytes_eq c.add_text.new.texts) c.args.texts.now c.loop-i.i c.at.result.now c.at.ensures
    c.loop-i.invariant (c.in_ok-add_text.ensures {u = tt})

pub returns : goal.returns
returns c =
    let all : length c.args.texts.now ≡ c.loop-i.i = omega arith in
    among-all bytes_eq (contains bytes_eq c.loop-i.set) c.args.texts.now c.loop-i.i all c.loop-i.invariant
