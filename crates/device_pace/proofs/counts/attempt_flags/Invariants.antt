use Rattle.std.proofs.Common.{◌≡◌, ◌≤◌}
use Rattle.nv_memory.specs.State.{state}
use Rattle.device_pace.specs.Effort.{flag_left}
use Rattle.commit_log.specs.Left.{sum_below}
use Rattle.device_pace.proofs.counts.attempt_flags.Given as goal

abbrev pub invariant-loop-word : goal.invariant-loop-word
invariant-loop-word l =
    (l.count ≡ sum_below (flag_left (state l.image)) l.word) × (l.count ≤ l.word)
