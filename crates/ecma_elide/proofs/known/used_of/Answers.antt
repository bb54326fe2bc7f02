use Rattle.std.proofs.Common.{◌≡◌, length, arith}
use Rattle.ecma_elide.specs.Elision.{same_id}
use Rattle.ecma_elide.specs.Sets.{is_used_by}
use Rattle.ecma_elide.proofs.Knowing.{among-all, among-next}
use Rattle.ecma_elide.proofs.known.used_of.Goals as goal

pub loop-i-preserved : goal.loop-i-preserved
loop-i-preserved c =
    among-next same_id (is_used_by c.loop-i.used) (is_used_by c.add_used.new.used) c.args.ids.now c.loop-i.i c.at.result.now c.at.ensures
    c.loop-i.invariant (c.in_ok-add_used.ensures {u = tt})

pub returns : goal.returns
returns c =
    let all : length c.args.ids.now ≡ c.loop-i.i = omega arith in
    among-all same_id (is_used_by c.loop-i.used) c.args.ids.now c.loop-i.i all c.loop-i.invariant
