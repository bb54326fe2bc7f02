use Rattle.std.proofs.Common.{length, ◌-◌, ◌≡◌, ◌≤◌, drop, bytes_eq}
use Rattle.short_texts.proofs.is_same.Given as goal

abbrev pub invariant-loop-i : goal.invariant-loop-i
invariant-loop-i l = (bytes_eq (drop l.i l.bytes) (drop l.i l.others) ≡ bytes_eq l.bytes l.others) × (l.i ≤ length l.bytes)

abbrev pub decreases-loop-i : goal.decreases-loop-i
decreases-loop-i l = length l.bytes - l.i
