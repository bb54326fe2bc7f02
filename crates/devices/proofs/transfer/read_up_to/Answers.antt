use Rattle.std.proofs.Common.{◌∙◌, arith, ℕ, ◌≤◌, length, length-take}
use Rattle.devices.proofs.Known.{has_read-more, has_read-end}
use Rattle.devices.proofs.transfer.read_up_to.Goals as goal

pub returns-then-branch-eq0-clause-bytes : goal.returns-then-branch-eq0-clause-bytes
returns-then-branch-eq0-clause-bytes g c =
    let read = c.in_ok-read_more.ensures in
    (has_read-end c.loop-buffer.invariant.read read.handed_out c.if-branch-eq0.true read.appended (omega arith)).given

pub returns-then-branch-eq0-clause-rest : goal.returns-then-branch-eq0-clause-rest
returns-then-branch-eq0-clause-rest g c =
    let read = c.in_ok-read_more.ensures in
    (has_read-end c.loop-buffer.invariant.read read.handed_out c.if-branch-eq0.true read.appended (omega arith)).rest

pub loop-buffer-preserved : goal.loop-buffer-preserved
loop-buffer-preserved g c =
    let read = c.in_ok-read_more.ensures in
    let room : length c.read_more.new.buffer ≤ c.min-room.result = omega (arith, c.read_more.auto.buffer, length-take {A = ℕ}) in
    record {
      within = omega (arith, read.handed_out.bound, read.len);
      read = rw read.appended (has_read-more c.loop-buffer.invariant.read read.handed_out);
      faults = read.faults.still (λ failed. cc) ∙ c.loop-buffer.invariant.faults;
      calls = record {
        later = omega (arith, read.call.later);
        at_most = omega (arith, read.call.one_more, read.len);
      };
    }
