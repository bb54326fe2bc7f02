use Rattle.std.proofs.Common.{length, ◌-◌, ◌≡◌, ◌≤◌, [], take}
use Rattle.std.specs.Io.KnownBytes.{append_known}
use Rattle.devices.specs.Counts.{CountedAtMost}
use Rattle.devices.proofs.transfer.write_all.Given as goal

abbrev pub invariant-loop-done : goal.invariant-loop-done
invariant-loop-done g l = record {
  within : l.done ≤ length l.bytes;
  taken : g.K.Sink.taken l.sink ≡ append_known (g.K.Sink.taken l.initial.sink) (take l.done l.bytes);
  faults : g.K.Sink.faults l.sink ≡ g.K.Sink.faults l.initial.sink;
  calls : CountedAtMost (g.K.Sink.calls l.initial.sink) (g.K.Sink.calls l.sink) l.done;
  untouched : l.bytes ≡ [] → l.sink ≡ l.initial.sink;
}

abbrev pub decreases-loop-done : goal.decreases-loop-done
decreases-loop-done g l = length l.initial.bytes - l.done
