use Rattle.std.proofs.Common.{◌-◌, ◌≤◌, ◌≡◌, vec_len}
use Rattle.devices.specs.Counts.{CountedAtMost}
use Rattle.devices.proofs.Known.{HasRead}
use Rattle.devices.proofs.transfer.read_up_to.Given as goal

abbrev pub invariant-loop-buffer : goal.invariant-loop-buffer
invariant-loop-buffer g l = record {
  within : vec_len l.bytes ≤ l.limit;
  read : HasRead (g.S.Source.left l.initial.source) (g.S.Source.left l.source) l.bytes.items;
  faults : g.S.Source.faults l.source ≡ g.S.Source.faults l.initial.source;
  calls : CountedAtMost (g.S.Source.calls l.initial.source) (g.S.Source.calls l.source) (vec_len l.bytes);
}

abbrev pub decreases-loop-buffer : goal.decreases-loop-buffer
decreases-loop-buffer g l = l.limit - vec_len l.bytes
