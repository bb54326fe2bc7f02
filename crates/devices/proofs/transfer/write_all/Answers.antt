use Rattle.std.proofs.Common.{◌∙◌, arith, ap, length, length-drop, ℕ, ◌<◌}
use Rattle.devices.proofs.Known.{taken-more, rest_of_slice}
use Rattle.devices.proofs.transfer.write_all.Goals as goal

pub loop-done-preserved : goal.loop-done-preserved
loop-done-preserved g c =
    let write = c.in_ok-done.ensures in
    let tail = rest_of_slice c.args.bytes.now c.loop-done.done in
    let some : 0 < c.in_ok-done.field-0 = write.bytes.some (omega (arith, ap length tail, length-drop {A = ℕ})) in
    record {
      within = omega (arith, length-drop {A = ℕ}, ap length tail, write.bytes.bound);
      taken = taken-more _ c.args.bytes.now _ c.loop-done.invariant.taken write.bytes tail;
      faults = write.faults.still (λ failed. cc) ∙ c.loop-done.invariant.faults;
      calls = record {
        later = omega (arith, write.call.later);
        at_most = omega (arith, write.call.one_more);
      };
      untouched = λ none. absurd (omega (arith, ap length none));
    }
