use Rattle.std.proofs.Common.{◌≡◌, ◌+◌, ◌≤◌, length}
use Rattle.trace_out.specs.LineReading.{readings_in}
use Rattle.trace_out.proofs.readings.readings_in.Given as goal
use Rattle.trace_out.proofs.Lists.{prepended}

abbrev pub decreases-loop-left : goal.decreases-loop-left
decreases-loop-left l = length l.left

abbrev pub invariant-loop-left : goal.invariant-loop-left
invariant-loop-left l = record {
  told : prepended l.readings (readings_in l.checked l.left) ≡ readings_in l.checked l.text;
  few : length l.readings + length l.left ≤ length l.text;
}
